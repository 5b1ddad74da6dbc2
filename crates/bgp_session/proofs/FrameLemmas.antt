-- A header says the same whatever follows it.
use Rattle.std.proofs.Common.{◌≡◌, ◌≤◌, ◌<◌, ◌+◌, ◌∙◌, ◌++◌, [], ℕ, false, true, List, length, take, drop, refl, sym, ap, length-append, length-drop, arith}
use Rattle.std.proofs.lemmas.Bool.{le-ltb, lt-ltb, ltb-true, ltb-false}
use Rattle.std.proofs.lemmas.Bool.Decides.{nat_tests}
use Rattle.std.proofs.lemmas.List.{drop-append-le, get_or_append_left, take-append-le, take-append-drop, length-take-le}
use Rattle.std.specs.Prelude.{Bool, Option, Some, None, Result, Ok, Err, if◌then◌else◌, nat_lt, slice_index}
use Rattle.acct_types.specs.Numbers.{number_at}
use Rattle.byteorder.specs.Endian.{big_from}
use Rattle.byteorder.specs.Numbers.{big_from-take}
use Rattle.bgp_msg.specs.Frames.{framed, header_fault, length_of, whole}
use Rattle.bgp_msg.specs.declared.message.BgpFault.{BgpFault}
use Rattle.framed_pieces.specs.Framing.{IsFraming}

number_front : (a b : List ℕ) (place width : ℕ) → place + width ≤ length a → number_at (a ++ b) place width ≡ number_at a place width
unfolding number_at
number_front a b place width h =
    let within : place ≤ length a = omega (arith, h) in
    let left = length-drop place a in
    let room : width ≤ length (drop place a) = omega (arith, h, left) in
    sym (big_from-take 0 width width (drop place (a ++ b)) (omega arith))
    ∙ ap (λ (octets : List ℕ). big_from 0 width (take width octets)) (drop-append-le place a b within)
    ∙ ap (big_from 0 width) (take-append-le width (drop place a) b room)
    ∙ big_from-take 0 width width (drop place a) (omega arith)

pub length_front : (a b : List ℕ) → 19 ≤ length a → length_of (a ++ b) ≡ length_of a
length_front a b h = number_front a b 16 2 (omega (arith, h))

header_front : (a b : List ℕ) → 19 ≤ length a → header_fault (a ++ b) ≡ header_fault a
unfolding header_fault
header_front a b h =
    let kind : slice_index (a ++ b) 18 ≡ slice_index a 18 = get_or_append_left a b 0 18 (omega (arith, h)) in
    rw (number_front a b 0 16 (omega (arith, h)), number_front a b 16 2 (omega (arith, h)), kind) refl

-- a whole message of this size stands at the front
pub record IsFramed (octets : List ℕ) (size : ℕ) : Type 0 where
  pub fine : header_fault octets ≡ None
  pub same : size ≡ length_of octets
  pub least : 19 ≤ size
  pub most : size ≤ 4096
  pub here : size ≤ length octets

-- what a header without a fault says of the length
sizes : (octets : List ℕ) → header_fault octets ≡ None → (19 ≤ length_of octets) × (length_of octets ≤ 4096)
unfolding header_fault
sizes octets none = (grind (arith, nat_tests, none), grind (arith, nat_tests, none))

abbrev sized : Bool → ℕ → Result (Option ℕ) BgpFault
sized short size = if short then Ok None else Ok (Some size)

some_same : (one other : ℕ) → sized false one ≡ Ok (Some other) → one ≡ other
some_same one other h = cc

pub is_framed : (octets : List ℕ) (size : ℕ) → framed octets ≡ Ok (Some size) → IsFramed octets size
unfolding framed
is_framed octets size is = by (nat_lt (length octets) 19) (header_fault octets) refl is
  where
    inner : (short : Bool) → nat_lt (length octets) (length_of octets) ≡ short → header_fault octets ≡ None → sized short (length_of octets) ≡ Ok (Some size) → IsFramed octets size
    inner true e none h = absurd (cc)
    inner false e none h =
        let same = some_same (length_of octets) size h in
        let bounds = sizes octets none in
        let least = bounds.0 in
        let most = bounds.1 in
        let there = ltb-false (length octets) (length_of octets) e in
        record { fine = none; same = sym same; least = omega (arith, same, least); most = omega (arith, same, most); here = omega (arith, same, there) }

    by : (short : Bool) (found : Option BgpFault) → header_fault octets ≡ found → (if short then Ok None else whole octets found) ≡ Ok (Some size) → IsFramed octets size
    by true found e h = absurd (cc)
    by false (Some fault) e h = absurd (cc)
    by false None e h = inner (nat_lt (length octets) (length_of octets)) refl e h

framed_by : (octets : List ℕ) (size : ℕ) → IsFramed octets size → framed octets ≡ Ok (Some size)
unfolding framed
framed_by octets size is =
    let same = is.same in
    let here = is.here in
    let least = is.least in
    let some : nat_lt (length octets) 19 ≡ false = le-ltb (length octets) 19 (omega (arith, here, least)) in
    let all : nat_lt (length octets) (length_of octets) ≡ false = le-ltb (length octets) (length_of octets) (omega (arith, here, same)) in
    rw (some, is.fine, all) (ap (λ (n : ℕ). Ok (Some n)) (sym same))

-- a whole message stays one, whatever follows
pub framed_more : (a b : List ℕ) (size : ℕ) → framed a ≡ Ok (Some size) → framed (a ++ b) ≡ Ok (Some size)
framed_more a b size is =
    let there = is_framed a size is in
    let here = there.here in
    let least = there.least in
    let some : 19 ≤ length a = omega (arith, here, least) in
    let longer = length-append a b in
    framed_by (a ++ b) size (record {
      fine = header_front a b some ∙ there.fine;
      same = there.same ∙ sym (length_front a b some);
      least = there.least;
      most = there.most;
      here = omega (arith, here, longer);
    })

-- and is one by itself
pub framed_alone : (octets : List ℕ) (size : ℕ) → framed octets ≡ Ok (Some size) → framed (take size octets) ≡ Ok (Some (length (take size octets)))
framed_alone octets size is =
    let there = is_framed octets size is in
    let here = there.here in
    let least = there.least in
    let wide : length (take size octets) ≡ size = length-take-le size octets here in
    let some : 19 ≤ length (take size octets) = omega (arith, wide, least) in
    let fine : header_fault (take size octets) ≡ None =
    sym (header_front (take size octets) (drop size octets) some) ∙ ap header_fault (take-append-drop size octets) ∙ there.fine in
    let same : size ≡ length_of (take size octets) =
    there.same ∙ ap length_of (sym (take-append-drop size octets)) ∙ length_front (take size octets) (drop size octets) some in
    framed_by (take size octets) (length (take size octets)) (record {
      fine = fine;
      same = wide ∙ same;
      least = some;
      most = let most = there.most in omega (arith, wide, most);
      here = omega arith;
    })

-- a fault of the header stays one
pub framed_bad : (a b : List ℕ) (fault : BgpFault) → framed a ≡ Err fault → framed (a ++ b) ≡ Err fault
unfolding framed
framed_bad a b fault is = by (nat_lt (length a) 19) refl (header_fault a) refl is
  where
    by : (short : Bool) → nat_lt (length a) 19 ≡ short → (found : Option BgpFault) → header_fault a ≡ found → (if short then Ok None else whole a found) ≡ Err fault
        → (if nat_lt (length (a ++ b)) 19 then Ok None else whole (a ++ b) (header_fault (a ++ b))) ≡ Err fault
    by true s found e h = absurd (cc)
    by false s None e h = absurd (no (nat_lt (length a) (length_of a)) h)
      where
        no : (test : Bool) → sized test (length_of a) ≡ Err fault → ⊥
        no true h = cc
        no false h = cc
    by false s (Some found) e h =
        let some : 19 ≤ length a = ltb-false (length a) 19 s in
        let longer = length-append a b in
        let there : nat_lt (length (a ++ b)) 19 ≡ false = le-ltb (length (a ++ b)) 19 (omega (arith, some, longer)) in
        rw (there, header_front a b some ∙ e) h

-- what isn't whole is short, and is part of a longer message
pub record IsPartial (octets : List ℕ) : Type 0 where
  pub short : length octets ≤ 4095
  pub part : 19 ≤ length octets → length octets < length_of octets

pub is_partial : (octets : List ℕ) → framed octets ≡ Ok None → IsPartial octets
unfolding framed
is_partial octets is = by (nat_lt (length octets) 19) refl (header_fault octets) refl is
  where
    inner : (test : Bool) → nat_lt (length octets) (length_of octets) ≡ test → header_fault octets ≡ None → sized test (length_of octets) ≡ Ok None → IsPartial octets
    inner false t e h = absurd (cc)
    inner true t e h =
        let most = (sizes octets e).1 in
        let less = ltb-true (length octets) (length_of octets) t in
        record { short = omega (arith, most, less); part = λ _. less }

    by : (short : Bool) → nat_lt (length octets) 19 ≡ short → (found : Option BgpFault) → header_fault octets ≡ found → (if short then Ok None else whole octets found) ≡ Ok None → IsPartial octets
    by true s found e h =
        let few = ltb-true (length octets) 19 s in
        record { short = omega (arith, few); part = λ some. absurd (omega (arith, few, some)) }
    by false s (Some fault) e h = absurd (cc)
    by false s None e h = inner (nat_lt (length octets) (length_of octets)) refl e h

-- a message is longer than the part of it that isn't whole
pub longer_than_part : (a b : List ℕ) (size : ℕ) → framed a ≡ Ok None → framed (a ++ b) ≡ Ok (Some size) → length a < size
longer_than_part a b size part is = by (nat_lt (length a) 19) refl
  where
    by : (short : Bool) → nat_lt (length a) 19 ≡ short → length a < size
    by true s =
        let few = ltb-true (length a) 19 s in
        let least = (is_framed (a ++ b) size is).least in
        omega (arith, few, least)
    by false s =
        let some = ltb-false (length a) 19 s in
        let less = (is_partial a part).part some in
        let same = (is_framed (a ++ b) size is).same in
        let front = length_front a b some in
        omega (arith, less, same, front)

-- a header that isn't there isn't judged
pub framed_short : (octets : List ℕ) → length octets < 19 → framed octets ≡ Ok None
unfolding framed
framed_short octets few =
    let short : nat_lt (length octets) 19 ≡ true = lt-ltb (length octets) 19 few in
    rw short refl

-- messages are framed by their headers
pub by_headers : IsFraming framed
by_headers = record {
  nothing = framed_short [] (omega arith);
  some = λ octets size is. (let least = (is_framed octets size is).least in omega (arith, least), (is_framed octets size is).here);
  alone = λ octets size is. framed_alone octets size is ∙ ap (λ (n : ℕ). Ok (Some n)) (length-take-le size octets (is_framed octets size is).here);
  before = framed_more;
  bad = framed_bad;
}
