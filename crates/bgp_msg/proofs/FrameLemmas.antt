-- Frames, whatever follows them.
use Rattle.std.proofs.Common.{◌≡◌, ◌≤◌, ◌<◌, ◌+◌, ◌∙◌, ◌++◌, ℕ, false, true, List, length, take, drop, refl, sym, ap, length-append, arith}
use Rattle.std.proofs.lemmas.Bool.{le-ltb}
use Rattle.std.proofs.lemmas.Bool.Decides.{nat_tests}
use Rattle.std.proofs.lemmas.List.{drop-take, get_or-take, length-take-le, take-append-drop, take-append-le}
use Rattle.std.specs.Prelude.{Bool, Option, Some, None, Result, Ok, Err, if◌then◌else◌, nat_lt, not, ◌||◌}
use Rattle.acct_types.specs.Numbers.{number_at}
use Rattle.byteorder.specs.Numbers.{big_from-take}
use Rattle.bgp_msg.specs.Frames.{framed, has_marker, header_error, header_fault, length_of, whole}
use Rattle.bgp_msg.specs.Laws.{FaultBefore, FoundAlone, FoundBefore, WaitsWithFew}
use Rattle.bgp_msg.specs.declared.message.BgpFault.{BgpFault}

-- a number is the same in the first octets, if it is whole there
number_in_front : (octets : List ℕ) (place width more : ℕ) → number_at (take (place + (width + more)) octets) place width ≡ number_at octets place width
unfolding number_at
number_in_front octets place width more = rw (drop-take place (width + more) octets) (big_from-take 0 width (width + more) (drop place octets) (omega arith))

-- the header is the first 19 octets
header_in_front : (octets : List ℕ) → header_fault (take 19 octets) ≡ header_fault octets
unfolding header_fault
header_in_front octets =
    let marker = number_in_front octets 0 16 3 in
    let size = number_in_front octets 16 2 1 in
    let kind = get_or-take 19 octets 18 0 (omega arith) in
    rw (marker, size, kind) refl

same_header : (octets more : List ℕ) → 19 ≤ length octets → header_fault (octets ++ more) ≡ header_fault octets
same_header octets more long = sym (header_in_front (octets ++ more)) ∙ ap header_fault (take-append-le 19 octets more long) ∙ header_in_front octets

same_length : (octets more : List ℕ) → 19 ≤ length octets → length_of (octets ++ more) ≡ length_of octets
same_length octets more long =
    sym (number_in_front (octets ++ more) 16 2 1) ∙ ap length_of (take-append-le 19 octets more long) ∙ number_in_front octets 16 2 1

if_none : (test : Bool) (one : BgpFault) (others : Option BgpFault) → (if test then Some one else others) ≡ None → (test ≡ false) × (others ≡ None)
if_none true one others h = absurd (cc)
if_none false one others h = (refl, h)

-- the length that a good header tells
bounds : (octets : List ℕ) → header_fault octets ≡ None → (19 ≤ length_of octets) × (length_of octets ≤ 4096)
unfolding header_fault
bounds octets h =
    let marker = if_none (not (has_marker octets)) (header_error 1 0) _ h in
    let size = if_none (nat_lt (length_of octets) 19 || nat_lt 4096 (length_of octets)) (header_error 2 16) _ marker.1 in
    (grind (arith, nat_tests, size.0), grind (arith, nat_tests, size.0))

abbrev answer : Option ℕ → Result (Option ℕ) BgpFault
answer size = Ok size

-- a message at the front
record Found (octets : List ℕ) (size : ℕ) : Type 0 where
  pub long : 19 ≤ length octets
  pub good : header_fault octets ≡ None
  pub is : length_of octets ≡ size
  pub there : size ≤ length octets

found : (octets : List ℕ) (size : ℕ) → framed octets ≡ Ok (Some size) → Found octets size
unfolding framed
found octets size h = by (nat_lt (length octets) 19) (header_fault octets) refl refl h
  where
    last : (short : Bool) → nat_lt (length octets) (length_of octets) ≡ short → 19 ≤ length octets → header_fault octets ≡ None
        → (if short then answer None else answer (Some (length_of octets))) ≡ answer (Some size) → Found octets size
    last true k long good h = absurd (cc)
    last false k long good h =
        let is : length_of octets ≡ size = cc in
        record { long = long; good = good; is = is; there = grind (arith, nat_tests, k, is) }

    by : (short : Bool) (fault : Option BgpFault) → nat_lt (length octets) 19 ≡ short → header_fault octets ≡ fault
        → (if short then answer None else whole octets fault) ≡ answer (Some size) → Found octets size
    by true fault k good h = absurd (cc)
    by false (Some fault) k good h = absurd (cc)
    by false None k good h = last (nat_lt (length octets) (length_of octets)) refl (grind (arith, nat_tests, k)) good h

found_again : (octets : List ℕ) (size : ℕ) → Found octets size → framed octets ≡ Ok (Some size)
unfolding framed
found_again octets size so = rw (le-ltb (length octets) 19 so.long, so.good, so.is, le-ltb (length octets) size so.there) refl

pub found_alone : FoundAlone
found_alone octets size h =
    let so = found octets size h in
    let most = bounds octets so.good in
    let is = so.is in
    let least : 19 ≤ size = omega (arith, most.0, is) in
    let size_is = length-take-le size octets so.there in
    let long : 19 ≤ length (take size octets) = omega (arith, size_is, least) in
    let all = take-append-drop size octets in
    let header = sym (same_header (take size octets) (drop size octets) long) ∙ ap header_fault all in
    let told = sym (same_length (take size octets) (drop size octets) long) ∙ ap length_of all in (
      least,
      omega (arith, most.1, is),
      so.there,
      found_again (take size octets) size (record {
        long = long;
        good = header ∙ so.good;
        is = told ∙ is;
        there = omega (arith, size_is);
      }),
    )

pub found_before : FoundBefore
found_before octets more size h =
    let so = found octets size h in
    let longer = length-append octets more in
    found_again (octets ++ more) size (record {
      long = omega (arith, longer, so.long);
      good = same_header octets more so.long ∙ so.good;
      is = same_length octets more so.long ∙ so.is;
      there = omega (arith, longer, so.there);
    })

-- a header that is refused
refused : (octets : List ℕ) (fault : BgpFault) → framed octets ≡ Err fault → (19 ≤ length octets) × (header_fault octets ≡ Some fault)
unfolding framed
refused octets fault h = by (nat_lt (length octets) 19) (header_fault octets) refl refl h
  where
    last : (short : Bool) → (if short then answer None else answer (Some (length_of octets))) ≡ Err fault → ⊥
    last true h = cc
    last false h = cc

    by : (short : Bool) (found : Option BgpFault) → nat_lt (length octets) 19 ≡ short → header_fault octets ≡ found
        → (if short then answer None else whole octets found) ≡ Err fault → (19 ≤ length octets) × (header_fault octets ≡ Some fault)
    by true found k is h = absurd (cc)
    by false None k is h = absurd (last (nat_lt (length octets) (length_of octets)) h)
    by false (Some found) k is h = (grind (arith, nat_tests, k), cc)

pub fault_before : FaultBefore
unfolding framed
fault_before octets more fault h =
    let so = refused octets fault h in
    let longer = length-append octets more in
    rw (le-ltb (length (octets ++ more)) 19 (omega (arith, longer, so.0)), same_header octets more so.0 ∙ so.1) refl

pub waits_with_few : WaitsWithFew
unfolding framed
waits_with_few octets h = by (nat_lt (length octets) 19) (header_fault octets) refl refl h
  where
    last : (short : Bool) → nat_lt (length octets) (length_of octets) ≡ short → header_fault octets ≡ None
        → (if short then answer None else answer (Some (length_of octets))) ≡ answer None → length octets < 4096
    last true k good h = let most = (bounds octets good).1 in grind (arith, nat_tests, k, most)
    last false k good h = absurd (cc)

    by : (short : Bool) (fault : Option BgpFault) → nat_lt (length octets) 19 ≡ short → header_fault octets ≡ fault
        → (if short then answer None else whole octets fault) ≡ answer None → length octets < 4096
    by true fault k good h = grind (arith, nat_tests, k)
    by false (Some fault) k good h = absurd (cc)
    by false None k good h = last (nat_lt (length octets) (length_of octets)) refl good h
