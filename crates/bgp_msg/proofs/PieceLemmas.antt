-- Pieces, one after another.
use Rattle.std.proofs.Common.{◌≡◌, ◌≤◌, ◌∙◌, ◌∷◌, [], ℕ, zero, suc, false, true, List, length, take, drop, refl, sym, ap, length-drop, arith}
use Rattle.std.proofs.lemmas.Bool.{eqb-true}
use Rattle.std.specs.Option.{option_or}
use Rattle.std.specs.Prelude.{◌==◌, ◌&&◌, Bool, Option, Some, None}
use Rattle.std.specs.List.{list_all}
use Rattle.bgp_msg.specs.Pieces.{last_of, pieces, pieces_from}

-- a size of one octet at least
abbrev pub HasSize : (List ℕ → ℕ) → Type 0
HasSize size = (octets : List ℕ) → 1 ≤ size octets

none_from : (size : List ℕ → ℕ) (most : ℕ) (octets : List ℕ) → length octets ≡ 0 → pieces_from size most octets ≡ []
none_from size zero octets h = refl
none_from size (suc most) octets h = rw h refl

-- more than enough is enough
enough : (size : List ℕ → ℕ) (most other : ℕ) (octets : List ℕ) → HasSize size → length octets ≤ most → length octets ≤ other → pieces_from size most octets ≡ pieces_from size other octets
enough size zero other octets some h k = sym (none_from size other octets (omega (arith, h)))
enough size (suc most) zero octets some h k = none_from size (suc most) octets (omega (arith, k))
enough size (suc most) (suc other) octets some h k =
    let left = length-drop (size octets) octets in
    let more = some octets in
    rw (enough size most other (drop (size octets) octets) some (omega (arith, left, more, h)) (omega (arith, left, more, k))) refl

pub some_left : (octets : List ℕ) → false ≡ (length octets == 0) → 1 ≤ length octets
some_left [] h = absurd (cc)
some_left (octet ∷ octets) h = omega arith

-- the piece at the front, and those behind it
next : (size : List ℕ → ℕ) (octets : List ℕ) → HasSize size → false ≡ (length octets == 0)
    → pieces size octets ≡ take (size octets) octets ∷ pieces size (drop (size octets) octets)
unfolding pieces
next size octets some h =
    let rest = drop (size octets) octets in
    let test : (length octets == 0) ≡ false = sym h in
    let left = length-drop (size octets) octets in
    let one : pieces_from size (suc (length octets)) octets ≡ take (size octets) octets ∷ pieces_from size (length octets) rest = rw test refl in
    enough size (length octets) (suc (length octets)) octets some (omega arith) (omega arith) ∙ one
    ∙ ap (λ (others : List (List ℕ)). take (size octets) octets ∷ others) (enough size (length octets) (length rest) rest some (omega (arith, left)) (omega arith))

pub pieces_next : (size : List ℕ → ℕ) (n : ℕ) (octets piece rest : List ℕ) → HasSize size → false ≡ (length octets == 0) → n ≡ size octets → piece ≡ take n octets → rest ≡ drop n octets
    → pieces size octets ≡ piece ∷ pieces size rest
pieces_next size n octets piece rest some h is front behind =
    let piece_is : piece ≡ take (size octets) octets = front ∙ ap (λ (n : ℕ). take n octets) is in
    let rest_is : rest ≡ drop (size octets) octets = behind ∙ ap (λ (n : ℕ). drop n octets) is in
    rw (piece_is, rest_is) (next size octets some h)

pub pieces_end : (size : List ℕ → ℕ) (octets : List ℕ) → true ≡ (length octets == 0) → pieces size octets ≡ []
unfolding pieces
pieces_end size octets h = none_from size (length octets) octets (eqb-true (length octets) 0 (sym h))

-- ---- a test of each

pub all_end : (test : List ℕ → Bool) (size : List ℕ → ℕ) (octets : List ℕ) → true ≡ (length octets == 0) → list_all test (pieces size octets) ≡ true
all_end test size octets h = rw (pieces_end size octets h) refl

pub all_next : (test : List ℕ → Bool) (size : List ℕ → ℕ) (n : ℕ) (octets piece rest : List ℕ) → HasSize size → false ≡ (length octets == 0) → n ≡ size octets → piece ≡ take n octets → rest ≡ drop n octets
    → test piece ≡ true → list_all test (pieces size octets) ≡ list_all test (pieces size rest)
all_next test size n octets piece rest some h is front behind good = rw (pieces_next size n octets piece rest some h is front behind, good) refl

pub all_fail : (test : List ℕ → Bool) (size : List ℕ → ℕ) (n : ℕ) (octets piece : List ℕ) → HasSize size → false ≡ (length octets == 0) → n ≡ size octets → piece ≡ take n octets
    → test piece ≡ false → list_all test (pieces size octets) ≡ false
all_fail test size n octets piece some h is front bad = rw (pieces_next size n octets piece (drop n octets) some h is front refl, bad) refl

pub all_first : (test : List ℕ → Bool) (size : List ℕ → ℕ) (n : ℕ) (octets piece rest : List ℕ) → HasSize size → false ≡ (length octets == 0) → n ≡ size octets → piece ≡ take n octets → rest ≡ drop n octets
    → list_all test (pieces size octets) ≡ true → (test piece ≡ true) × (list_all test (pieces size rest) ≡ true)
all_first test size n octets piece rest some h is front behind all =
    split (test piece) (list_all test (pieces size rest)) (rw (pieces_next size n octets piece rest some h is front behind) at all)
  where
    split : (a b : Bool) → (a && b) ≡ true → (a ≡ true) × (b ≡ true)
    split true b h = (refl, h)
    split false b h = absurd (cc)

-- ---- the last that says something

pub or_assoc : {A : Type 0} (a b c : Option A) → option_or a (option_or b c) ≡ option_or (option_or a b) c
or_assoc None b c = refl
or_assoc (Some a) b c = refl

pub last_end : {A : Type 0} (says : List ℕ → Option A) (size : List ℕ → ℕ) (found : Option A) (octets : List ℕ) → true ≡ (length octets == 0) → option_or (last_of says (pieces size octets)) found ≡ found
last_end says size found octets h = rw (pieces_end size octets h) refl

pub last_next : {A : Type 0} (says : List ℕ → Option A) (size : List ℕ → ℕ) (found : Option A) (n : ℕ) (octets piece rest : List ℕ) (all : Option A) → HasSize size → false ≡ (length octets == 0)
    → n ≡ size octets → piece ≡ take n octets → rest ≡ drop n octets → option_or (last_of says (pieces size octets)) found ≡ all
    → option_or (last_of says (pieces size rest)) (option_or (says piece) found) ≡ all
last_next says size found n octets piece rest all some h is front behind kept =
    rw (or_assoc (last_of says (pieces size rest)) (says piece) found) (rw (pieces_next size n octets piece rest some h is front behind) at kept)
