use Rattle.std.proofs.Common.{ap, ◌∙◌, sym, List, ℕ, Option, Some}
use Rattle.std.specs.Int.{w128, from_be_bytes}
use Rattle.std.specs.Option.{option_map}
use Rattle.std.specs.Net.Addr.{ipv6_bits, octets_of}
use Rattle.acct_types.proofs.ReadLemmas.{whole_ipv6, no_ipv6}
use Rattle.acct_types.proofs.reading.read_v6.Goals as goal

pub returns-in-Ok : goal.returns-in-Ok
unfolding ipv6_bits
returns-in-Ok c =
    ap (λ (n : ℕ). Some n) c.to_bits.ensures
    ∙ sym (ap (λ (read : Option (List ℕ)). option_map (λ groups. from_be_bytes w128 (octets_of groups)) read) (whole_ipv6 c.args.text.now c.in-Ok.address.segments c.in-Ok.ensures))

pub returns-in-Err : goal.returns-in-Err
returns-in-Err c =
    sym (ap (λ (read : Option (List ℕ)). option_map (λ groups. from_be_bytes w128 (octets_of groups)) read)
    (no_ipv6 c.args.text.now (λ groups spelled. c.in-Err.ensures (record { segments = groups }) spelled)))
