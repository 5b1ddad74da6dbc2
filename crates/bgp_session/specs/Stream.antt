-- The octets of a peer, split into messages by their headers (RFC 4271, 4.1).
use Rattle.std.specs.Prelude.{ℕ, List, Option, option_map}
use Rattle.bgp_msg.specs.Frames.{framed}
use Rattle.bgp_session.specs.declared.why.Why.{Why}
use Rattle.bgp_session.specs.declared.why.Why.TheVariants.{Fault}
use Rattle.framed_pieces.specs.Stream as stream

abbrev pub messages : List ℕ → List (List ℕ)
messages octets = stream.messages framed octets

abbrev pub join : List (List ℕ) → List ℕ
join parts = stream.join parts

abbrev pub rest_of : List ℕ → List ℕ
rest_of octets = stream.rest_of framed octets

-- a fault in the header at the front
abbrev pub header_end : List ℕ → Option Why
header_end octets = option_map (λ fault. Fault fault) (stream.fault_at framed octets)
