-- Octets, split into messages.
use Rattle.std.proofs.Common.{◌≡◌, ◌∷◌, [], ℕ, List, take, drop, refl, ap}
use Rattle.std.specs.Prelude.{Option, Some, None, Ok, Err, option_map}
use Rattle.bgp_msg.specs.Frames.{framed}
use Rattle.bgp_msg.specs.declared.message.BgpFault.{BgpFault}
use Rattle.bgp_session.specs.Stream.{header_end, messages, rest_of}
use Rattle.bgp_session.specs.declared.why.Why.{Why}
use Rattle.bgp_session.specs.declared.why.Why.TheVariants.{Fault}
use Rattle.framed_pieces.specs.Stream.{fault_at}
use Rattle.framed_pieces.proofs.StreamLemmas as stream
use Rattle.bgp_session.proofs.FrameLemmas.{by_headers}

pub messages_next : (octets : List ℕ) (size : ℕ) → framed octets ≡ Ok (Some size) → messages octets ≡ take size octets ∷ messages (drop size octets)
messages_next = stream.messages_next framed by_headers

pub messages_none : (octets : List ℕ) → framed octets ≡ Ok None → messages octets ≡ []
messages_none = stream.messages_none framed

pub messages_bad : (octets : List ℕ) (fault : BgpFault) → framed octets ≡ Err fault → messages octets ≡ []
messages_bad = stream.messages_bad framed

pub rest_next : (octets : List ℕ) (size : ℕ) → framed octets ≡ Ok (Some size) → rest_of octets ≡ rest_of (drop size octets)
rest_next = stream.rest_next framed by_headers

pub rest_none : (octets : List ℕ) → framed octets ≡ Ok None → rest_of octets ≡ octets
rest_none = stream.rest_none framed

pub rest_bad : (octets : List ℕ) (fault : BgpFault) → framed octets ≡ Err fault → rest_of octets ≡ octets
rest_bad = stream.rest_bad framed

abbrev as_end : Option BgpFault → Option Why
as_end found = option_map (λ fault. Fault fault) found

pub end_none : (octets : List ℕ) → framed octets ≡ Ok None → header_end octets ≡ None
end_none octets is = ap as_end (stream.fault_none framed octets is)

pub end_bad : (octets : List ℕ) (fault : BgpFault) → framed octets ≡ Err fault → header_end octets ≡ Some (Fault fault)
end_bad octets fault is = ap as_end (stream.fault_bad framed octets fault is)

no_fault : (found : Option BgpFault) → as_end found ≡ None → found ≡ None
no_fault None h = refl
no_fault (Some fault) h = absurd (cc)

pub joins : (a b : List ℕ) → header_end (rest_of a) ≡ None → stream.Joins framed a b
joins a b live = stream.joins framed by_headers a b (no_fault (fault_at framed (rest_of a)) live)
