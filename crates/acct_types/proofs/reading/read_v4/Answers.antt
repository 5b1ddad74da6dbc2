use Rattle.std.proofs.Common.{ap, ◌∙◌, sym, List, ℕ, Option, Some}
use Rattle.std.specs.Int.{w32, from_be_bytes}
use Rattle.std.specs.Option.{option_map}
use Rattle.std.specs.Net.Addr.{ipv4_bits}
use Rattle.acct_types.proofs.ReadLemmas.{whole_ipv4, no_ipv4}
use Rattle.acct_types.proofs.reading.read_v4.Goals as goal

pub returns-in-Ok : goal.returns-in-Ok
unfolding ipv4_bits
returns-in-Ok c =
    ap (λ (n : ℕ). Some n) c.to_bits.ensures
    ∙ sym (ap (λ (read : Option (List ℕ)). option_map (λ octets. from_be_bytes w32 octets) read) (whole_ipv4 c.args.text.now c.in-Ok.address.octets c.in-Ok.ensures))

pub returns-in-Err : goal.returns-in-Err
returns-in-Err c =
    sym (ap (λ (read : Option (List ℕ)). option_map (λ octets. from_be_bytes w32 octets) read)
    (no_ipv4 c.args.text.now (λ octets spelled. c.in-Err.ensures (record { octets = octets }) spelled)))
