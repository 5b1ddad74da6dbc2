-- What follows a message.
use Rattle.std.proofs.Common.{◌≡◌, ◌∙◌, ◌+◌, ◌≤◌, ◌++◌, ℕ, Bool, List, length, drop, take, sym, ap, length-append, length-drop, arith}
use Rattle.std.specs.Prelude.{◌==◌, ◌||◌, Result, Err, if◌then◌else◌, nat_lt, not}
use Rattle.std.proofs.lemmas.Bool.{le-ltb}
use Rattle.std.proofs.lemmas.List.{drop-append-le, take-append-le}
use Rattle.byteorder.specs.Numbers.{big_from-append}
use Rattle.acct_types.specs.Numbers.{number_at}
use Rattle.acct_types.specs.declared.addr.Addr.{Addr}
use Rattle.flow_templates.specs.declared.refusal.Cause.{Cause}
use Rattle.flow_templates.specs.declared.refusal.Cause.TheVariants.{IpfixLength, Short, Version}
use Rattle.flow_templates.specs.Decoding.{Said}
use Rattle.flow_templates.specs.Known.{Known}
use Rattle.flow_sets.specs.Sets.{sets_said}
use Rattle.ipfix_in.specs.Message.{decoded_ipfix, length_of, version_of}

number_before : (octets more : List ℕ) (place width : ℕ) → place + width ≤ length octets → number_at (octets ++ more) place width ≡ number_at octets place width
unfolding number_at
number_before octets more place width h =
    rw (drop-append-le place octets more (omega arith)) (big_from-append width (drop place octets) more (rw length-drop (omega arith)))

-- a test that both pass
both_long : (octets more : List ℕ) (n : ℕ) → n ≤ length octets → nat_lt (length (octets ++ more)) n ≡ nat_lt (length octets) n
both_long octets more n h = le-ltb (length (octets ++ more)) n (omega (arith, length-append octets more, h)) ∙ sym (le-ltb (length octets) n h)

abbrev judged : Known → Addr → Bool → ℕ → Bool → ℕ → Bool → ℕ → List ℕ → Result Said Cause
judged known exporter first version header size past id sets =
    if first then Err Short
    else (if not (version == 10) then Err (Version version)
    else (if header then Err Short
    else (if nat_lt size 16 || past then Err IpfixLength
    else sets_said (record { exporter = exporter; version = 10; id = id }) known sets)))

pub ignored : (known : Known) (exporter : Addr) (octets more : List ℕ) → 16 ≤ length octets → length_of octets ≤ length octets
    → decoded_ipfix known exporter (octets ++ more) ≡ decoded_ipfix known exporter octets
unfolding decoded_ipfix
ignored known exporter octets more head whole =
    let first = both_long octets more 2 (omega (arith, head)) in
    let header = both_long octets more 16 head in
    let version : version_of (octets ++ more) ≡ version_of octets = number_before octets more 0 2 (omega (arith, head)) in
    let size : length_of (octets ++ more) ≡ length_of octets = number_before octets more 2 2 (omega (arith, head)) in
    let id : number_at (octets ++ more) 12 4 ≡ number_at octets 12 4 = number_before octets more 12 4 (omega (arith, head)) in
    let past : nat_lt (length (octets ++ more)) (length_of (octets ++ more)) ≡ nat_lt (length octets) (length_of octets) =
    ap (nat_lt (length (octets ++ more))) size ∙ both_long octets more (length_of octets) whole in
    let sets : drop 16 (take (length_of (octets ++ more)) (octets ++ more)) ≡ drop 16 (take (length_of octets) octets) =
    ap (λ (n : ℕ). drop 16 (take n (octets ++ more))) size ∙ ap (drop 16) (take-append-le (length_of octets) octets more whole) in
    λ i. judged known exporter (first i) (version i) (header i) (size i) (past i) (id i) (sets i)
