-- What is said of an accepted datagram of version 5.
use Rattle.std.proofs.Common.{◌≡◌, ◌≤◌, ◌+◌, ◌*◌, ◌++◌, ◌∙◌, ℕ, List, zero, suc, drop, length, refl, sym, ap, arith, length-drop, length-append}
use Rattle.std.specs.Prelude.{Ok}
use Rattle.std.proofs.lemmas.Bool.Decides.{nat_tests}
use Rattle.std.proofs.lemmas.Bool.{le-ltb, eq-eqb, ne_eqb}
use Rattle.std.proofs.lemmas.List.{drop-append-le}
use Rattle.std.specs.Prelude.{false, true, nat_lt, ◌==◌}
use Rattle.byteorder.specs.Numbers.{big_from-append}
use Rattle.acct_types.specs.Numbers.{number_at}
use Rattle.acct_types.specs.declared.addr.Addr.{Addr}
use Rattle.flow_templates.specs.declared.decoded.RawRecord.{RawRecord}
use Rattle.std.proofs.Math.ListN.{get_or-append}
use Rattle.netflow_in.specs.Version5.{count_of, decoded_v5, flow_of, rate_of, records_of, source_of, version_of}

-- no rule refuses the datagram
pub record IsVersion5 (exporter : Addr) (octets : List ℕ) (rows : List RawRecord) : Type 0 where
  pub header : 24 ≤ length octets
  pub version : version_of octets ≡ 5
  pub some : 1 ≤ count_of octets
  pub few : count_of octets ≤ 30
  pub whole : 24 + 48 * count_of octets ≤ length octets
  pub records : rows ≡ records_of exporter (source_of octets) (rate_of octets) (count_of octets) (drop 24 octets)

pub accepted : (exporter : Addr) (octets : List ℕ) (rows : List RawRecord) → decoded_v5 exporter octets ≡ Ok rows → IsVersion5 exporter octets rows
unfolding decoded_v5
accepted exporter octets rows is = record {
  header = grind (arith, nat_tests, is);
  version = grind (arith, nat_tests, is);
  some = grind (arith, nat_tests, is);
  few = grind (arith, nat_tests, is);
  whole = grind (arith, nat_tests, is);
  records = grind (arith, nat_tests, is);
}

length-records_of : (exporter : Addr) (source rate count : ℕ) (octets : List ℕ) → length (records_of exporter source rate count octets) ≡ count
length-records_of exporter source rate zero octets = refl
length-records_of exporter source rate (suc count) octets = let rest = length-records_of exporter source rate count (drop 48 octets) in omega (arith, rest)

pub counted : (exporter : Addr) (octets : List ℕ) (rows : List RawRecord) → decoded_v5 exporter octets ≡ Ok rows
    → (length rows ≡ count_of octets) × (1 ≤ length rows) × (length rows ≤ 30)
counted exporter octets rows is =
    let five = accepted exporter octets rows is in
    let same : length rows ≡ count_of octets = ap length five.records ∙ length-records_of exporter (source_of octets) (rate_of octets) (count_of octets) (drop 24 octets) in
    let some = five.some in
    let few = five.few in
    (same, omega arith, omega arith)

-- a number that stands in the octets is read there, whatever follows
number_at-append : (octets more : List ℕ) (place width : ℕ) → place + width ≤ length octets → number_at (octets ++ more) place width ≡ number_at octets place width
unfolding number_at
number_at-append octets more place width h =
    rw (drop-append-le place octets more (omega arith)) (big_from-append width (drop place octets) more (rw length-drop (omega arith)))

flow_of-append : (exporter : Addr) (source : ℕ) (octets more : List ℕ) → 48 ≤ length octets → flow_of exporter source (octets ++ more) ≡ flow_of exporter source octets
flow_of-append exporter source octets more h =
    rw (number_at-append octets more 0 4 (omega arith), number_at-append octets more 4 4 (omega arith), number_at-append octets more 32 2 (omega arith), number_at-append octets more 34 2 (omega arith), number_at-append octets more 12 2 (omega arith), number_at-append octets more 14 2 (omega arith), number_at-append octets more 40 2 (omega arith), number_at-append octets more 42 2 (omega arith), number_at-append octets more 20 4 (omega arith), number_at-append octets more 16 4 (omega arith), get_or-append octets more 0 38 (omega arith), get_or-append octets more 0 39 (omega arith), get_or-append octets more 0 44 (omega arith), get_or-append octets more 0 45 (omega arith)) refl

records_of-append : (exporter : Addr) (source rate count : ℕ) (octets more : List ℕ) → 48 * count ≤ length octets
    → records_of exporter source rate count (octets ++ more) ≡ records_of exporter source rate count octets
records_of-append exporter source rate zero octets more h = refl
records_of-append exporter source rate (suc count) octets more h =
    rw (flow_of-append exporter source octets more (omega arith), drop-append-le 48 octets more (omega arith), records_of-append exporter source rate count (drop 48 octets) more (rw length-drop (omega arith))) refl

-- a datagram that no rule refuses is decoded
decoded_whole : (exporter : Addr) (octets : List ℕ) → version_of octets ≡ 5 → 1 ≤ count_of octets → count_of octets ≤ 30 → 24 + 48 * count_of octets ≤ length octets
    → decoded_v5 exporter octets ≡ Ok (records_of exporter (source_of octets) (rate_of octets) (count_of octets) (drop 24 octets))
unfolding decoded_v5
decoded_whole exporter octets version some few whole =
    let two : nat_lt (length octets) 2 ≡ false = le-ltb _ _ (omega arith) in
    let five : (version_of octets == 5) ≡ true = eq-eqb _ _ version in
    let header : nat_lt (length octets) 24 ≡ false = le-ltb _ _ (omega arith) in
    let none : (count_of octets == 0) ≡ false = ne_eqb _ _ (λ e. omega (arith, e)) in
    let thirty : nat_lt 30 (count_of octets) ≡ false = le-ltb _ _ few in
    let cut : nat_lt (length octets) (24 + 48 * count_of octets) ≡ false = le-ltb _ _ whole in
    rw (two, five, header, none, thirty, cut) refl

pub ignored : (exporter : Addr) (octets more : List ℕ) (rows : List RawRecord) → decoded_v5 exporter octets ≡ Ok rows → decoded_v5 exporter (octets ++ more) ≡ Ok rows
ignored exporter octets more rows is =
    let five = accepted exporter octets rows is in
    let whole = five.whole in
    let version : version_of (octets ++ more) ≡ version_of octets = number_at-append octets more 0 2 (omega arith) in
    let count : count_of (octets ++ more) ≡ count_of octets = number_at-append octets more 2 2 (omega arith) in
    let source : source_of (octets ++ more) ≡ source_of octets = rw (get_or-append octets more 0 20 (omega arith), get_or-append octets more 0 21 (omega arith)) refl in
    let rate : rate_of (octets ++ more) ≡ rate_of octets = rw (number_at-append octets more 22 2 (omega arith)) refl in
    let body : drop 24 (octets ++ more) ≡ drop 24 octets ++ more = drop-append-le 24 octets more (omega arith) in
    let room : 48 * count_of octets ≤ length (drop 24 octets) = rw length-drop (omega arith) in
    decoded_whole exporter (octets ++ more) (version ∙ five.version) (omega (arith, count, five.some)) (omega (arith, count, five.few)) (omega (arith, count, length-append octets more))
    ∙ ap Ok (same_records (source_of (octets ++ more)) (rate_of (octets ++ more)) (count_of (octets ++ more)) source rate count body room five.records)
  where
    same_records : (from rating number : ℕ) → from ≡ source_of octets → rating ≡ rate_of octets → number ≡ count_of octets → drop 24 (octets ++ more) ≡ drop 24 octets ++ more
        → 48 * count_of octets ≤ length (drop 24 octets) → rows ≡ records_of exporter (source_of octets) (rate_of octets) (count_of octets) (drop 24 octets)
        → records_of exporter from rating number (drop 24 (octets ++ more)) ≡ rows
    same_records from rating number source rate count body room records =
        rw (source, rate, count, body, records_of-append exporter (source_of octets) (rate_of octets) (count_of octets) (drop 24 octets) more room) (sym records)
