-- What is read of packed cells.
use Rattle.std.proofs.Common.{◌≡◌, ◌∙◌, ◌+◌, ◌<◌, ◌≤◌, ◌^◌, ℕ, zero, suc, true, List, [], ◌∷◌, ◌++◌, length, drop, take, ap, sym, refl, get_or, ne_eqb, Result, OnOk, subst, arith, append_assoc, append-nil, length-append, inl, inr}
use Rattle.std.proofs.lemmas.Bool.Decides.{nat_tests}
use Rattle.std.proofs.lemmas.Bool.{and_from, and_parts, cases_lt, lt-ltb, le-ltb}
use Rattle.std.proofs.lemmas.List.{drop_at}
use Rattle.std.proofs.lemmas.List.Concat.{flat_map-append}
use Rattle.std.proofs.Math.Seq.{take-append_seam}
use Rattle.std.specs.Int.{w16, w32, w64, w128, to_be_bytes, bytes_high_first}
use Rattle.std.specs.List.{before_first, position_or_len}
use Rattle.byteorder.specs.Numbers.{big_number-reads_back}
use Rattle.acct_types.specs.declared.addr.Addr.TheVariants.{V4, V6}
use Rattle.acct_types.specs.declared.cell.Cell.{Cell}
use Rattle.acct_types.specs.declared.cell.Cell.TheVariants as cell
use Rattle.acct_types.specs.Cells.{are_plain, has_plain_words, have_plain_words, is_plain}
use Rattle.acct_types.specs.Numbers.{number_at}
use Rattle.acct_types.specs.Packed.{CellFits, CellsFit, IsPacked, cells_in, cells_within, ends_words, first_cell, packed, packed_cell, packed_number}

-- a big-endian number at the front
number_read : (width n : ℕ) (rest : List ℕ) → n < 256 ^ width → number_at (bytes_high_first width n ++ rest) 0 width ≡ n
unfolding number_at
number_read width n rest fits = big_number-reads_back width n rest fits

-- the tag of a packed cell and the octets after it, which are read as the cell whatever follows
pub record Parts (c : Cell) : Type 0 where
  pub tag : ℕ
  pub octets : List ℕ
  pub is : packed_cell c ≡ tag ∷ octets
  pub reads : (rest : List ℕ) → first_cell tag (octets ++ rest) ≡ (c, length octets)

-- how large a number is
pub data Size (n : ℕ) : Type 0 where
  one : n < 2 ^ 8 → Size n
  two : 2 ^ 8 ≤ n → n < 2 ^ 16 → Size n
  four : 2 ^ 16 ≤ n → n < 2 ^ 32 → Size n
  eight : 2 ^ 32 ≤ n → Size n

pub size_of : (n : ℕ) → Size n
size_of n = elim (cases_lt n (2 ^ 8)) [
  | inl low ↦ one low
  | inr above ↦ elim (cases_lt n (2 ^ 16)) [
    | inl low ↦ two above low
    | inr above ↦ elim (cases_lt n (2 ^ 32)) [
      | inl low ↦ four above low
      | inr above ↦ eight above
    ]
  ]
]

pub packed_one : (n : ℕ) → n < 2 ^ 8 → packed_number n ≡ 0 ∷ n ∷ []
unfolding packed_number
packed_one n low = rw (lt-ltb n (2 ^ 8) low) refl

pub packed_two : (n : ℕ) → 2 ^ 8 ≤ n → n < 2 ^ 16 → packed_number n ≡ 1 ∷ to_be_bytes w16 n
unfolding packed_number
packed_two n above low = rw (le-ltb n (2 ^ 8) above, lt-ltb n (2 ^ 16) low) refl

pub packed_four : (n : ℕ) → 2 ^ 16 ≤ n → n < 2 ^ 32 → packed_number n ≡ 2 ∷ to_be_bytes w32 n
unfolding packed_number
packed_four n above low = rw (le-ltb n (2 ^ 8) (omega arith), le-ltb n (2 ^ 16) above, lt-ltb n (2 ^ 32) low) refl

pub packed_eight : (n : ℕ) → 2 ^ 32 ≤ n → packed_number n ≡ 3 ∷ to_be_bytes w64 n
unfolding packed_number
packed_eight n above = rw (le-ltb n (2 ^ 8) (omega arith), le-ltb n (2 ^ 16) (omega arith), le-ltb n (2 ^ 32) above) refl

-- the same value at the front of a pair
paired : {X : Type 0} (f : X → Cell) {x y : X} (width : ℕ) → x ≡ y → ◌≡◌ {A = Cell × ℕ} (f x, width) (f y, width)
paired f width e = λ i. (f (e i), width)

number_parts : (n : ℕ) → n < 2 ^ 64 → Size n → Parts (cell.Number n)
unfolding packed_cell first_cell
number_parts n fits (one low) = record { tag = 0; octets = n ∷ []; is = packed_one n low; reads = λ rest. refl }
number_parts n fits (two above low) = record {
  tag = 1;
  octets = to_be_bytes w16 n;
  is = packed_two n above low;
  reads = λ rest. paired cell.Number 2 (number_read 2 n rest low);
}
number_parts n fits (four above low) = record {
  tag = 2;
  octets = to_be_bytes w32 n;
  is = packed_four n above low;
  reads = λ rest. paired cell.Number 4 (number_read 4 n rest low);
}
number_parts n fits (eight above) = record {
  tag = 3;
  octets = to_be_bytes w64 n;
  is = packed_eight n above;
  reads = λ rest. paired cell.Number 8 (number_read 8 n rest fits);
}

-- plain words end at the first 0
words_end : (words rest : List ℕ) → are_plain words ≡ true → position_or_len ends_words (words ++ 0 ∷ rest) ≡ length words
words_end [] rest plain = refl
words_end (w ∷ words) rest plain =
    let both = and_parts (is_plain w) (are_plain words) plain in
    let above : 32 < w = grind (arith, nat_tests, both.0) in
    let later = words_end words rest both.1 in
    rw (ne_eqb w 0 (omega arith)) (omega arith)

words_read : (words rest : List ℕ) → are_plain words ≡ true → ◌≡◌ {A = Cell × ℕ} (first_cell 7 ((words ++ 0 ∷ []) ++ rest)) (cell.Words words, length (words ++ 0 ∷ []))
unfolding first_cell
words_read words rest plain =
    let joined : (words ++ 0 ∷ []) ++ rest ≡ words ++ 0 ∷ rest = append_assoc words (0 ∷ []) rest in
    let ends = words_end words rest plain in
    let front : before_first ends_words (words ++ 0 ∷ rest) ≡ words = ap (λ n. take n (words ++ 0 ∷ rest)) ends ∙ take-append_seam words (0 ∷ rest) in
    let whole : position_or_len ends_words (words ++ 0 ∷ rest) + 1 ≡ length (words ++ 0 ∷ []) = omega (arith, length-append words (0 ∷ [])) in
    ap (first_cell 7) joined ∙ (λ i. (cell.Words (front i), whole i))

pub parts : (c : Cell) → CellFits c → Parts c
unfolding packed_cell first_cell
parts (cell.Number n) fits = number_parts n fits (size_of n)
parts (cell.Address (V4 n)) fits = record {
  tag = 4;
  octets = to_be_bytes w32 n;
  is = refl;
  reads = λ rest. paired (λ m. cell.Address (V4 m)) 4 (number_read 4 n rest fits);
}
parts (cell.Address (V6 n)) fits = record {
  tag = 5;
  octets = to_be_bytes w128 n;
  is = refl;
  reads = λ rest. paired (λ m. cell.Address (V6 m)) 16 (number_read 16 n rest fits);
}
parts (cell.Mac m) fits = record {
  tag = 6;
  octets = to_be_bytes w64 m;
  is = refl;
  reads = λ rest. paired cell.Mac 8 (number_read 8 m rest fits);
}
parts (cell.Words words) fits = record { tag = 7; octets = words ++ 0 ∷ []; is = refl; reads = λ rest. words_read words rest fits }

-- a packed cell is read, and what follows it
front_read : (most : ℕ) (c : Cell) (rest : List ℕ) → CellFits c → cells_within (suc most) (packed_cell c ++ rest) ≡ c ∷ cells_within most rest
unfolding cells_within
front_read most c rest fits =
    let p = parts c fits in
    ap (λ octets. cells_within (suc most) (octets ++ rest)) p.is
    ∙ (λ i. (p.reads rest i).0 ∷ cells_within most (drop (p.reads rest i).1 (p.octets ++ rest)))
    ∙ ap (λ octets. c ∷ cells_within most octets) (drop_at p.octets rest (length p.octets) refl)

all_read : (cells : List Cell) (most : ℕ) → CellsFit cells → length (packed cells) ≤ most → cells_within most (packed cells) ≡ cells
unfolding cells_within
all_read [] zero fit enough = refl
all_read [] (suc most) fit enough = refl
all_read (c ∷ cells) zero fit enough =
    let p = parts c fit.0 in
    absurd (omega (arith, ap length p.is, length-append (packed_cell c) (packed cells)))
all_read (c ∷ cells) (suc most) fit enough =
    let p = parts c fit.0 in
    let fewer : length (packed cells) ≤ most = omega (arith, ap length p.is, length-append (packed_cell c) (packed cells)) in
    front_read most c (packed cells) fit.0 ∙ ap (λ rest. c ∷ rest) (all_read cells most fit.1 fewer)

-- packed cells are read whole
pub round_trip : (cells : List Cell) → CellsFit cells → cells_in (packed cells) ≡ cells
unfolding cells_in
round_trip cells fit = all_read cells (length (packed cells)) fit (omega arith)

pub packed_IsPacked : (cells : List Cell) → CellsFit cells → IsPacked (packed cells)
packed_IsPacked cells fit =
    let read = round_trip cells fit in
    record { whole = ap packed read; fit = subst CellsFit (sym read) fit }

CellsFit-append : (a b : List Cell) → CellsFit a → CellsFit b → CellsFit (a ++ b)
CellsFit-append [] b fit more = more
CellsFit-append (c ∷ a) b fit more = (fit.0, CellsFit-append a b fit.1 more)

-- packed octets behind packed octets
append_packed : (a b : List ℕ) → IsPacked a → IsPacked b → packed (cells_in a ++ cells_in b) ≡ a ++ b
append_packed a b p q = flat_map-append packed_cell (cells_in a) (cells_in b) ∙ (λ i. p.whole i ++ q.whole i)

pub cells_in-append : (a b : List ℕ) → IsPacked a → IsPacked b → cells_in (a ++ b) ≡ cells_in a ++ cells_in b
cells_in-append a b p q = ap cells_in (sym (append_packed a b p q)) ∙ round_trip (cells_in a ++ cells_in b) (CellsFit-append _ _ p.fit q.fit)

pub IsPacked-append : (a b : List ℕ) → IsPacked a → IsPacked b → IsPacked (a ++ b)
IsPacked-append a b p q =
    subst IsPacked (append_packed a b p q) (packed_IsPacked (cells_in a ++ cells_in b) (CellsFit-append _ _ p.fit q.fit))

-- one cell
pub one_IsPacked : (c : Cell) → CellFits c → IsPacked (packed_cell c)
one_IsPacked c fits = subst IsPacked (append-nil (packed_cell c)) (packed_IsPacked (c ∷ []) (fits, tt))

pub one_read : (c : Cell) → CellFits c → cells_in (packed_cell c) ≡ c ∷ []
one_read c fits = ap cells_in (sym (append-nil (packed_cell c))) ∙ round_trip (c ∷ []) (fits, tt)

-- what stands at the front of packed octets
record Front (tag : ℕ) (octets : List ℕ) : Type 0 where
  pub within : (first_cell tag octets).1 ≤ length octets
  pub fits : CellFits (first_cell tag octets).0
  pub rest : IsPacked (drop (first_cell tag octets).1 octets)
  pub cells : cells_in (tag ∷ octets) ≡ (first_cell tag octets).0 ∷ cells_in (drop (first_cell tag octets).1 octets)

-- the same, where the first cell and the others are known
front_of : (tag : ℕ) (octets : List ℕ) (c : Cell) (cells : List Cell) → CellFits c → CellsFit cells
    → packed_cell c ++ packed cells ≡ tag ∷ octets → cells_in (tag ∷ octets) ≡ c ∷ cells → Front tag octets
front_of tag octets c cells fits fit is all =
    let p = parts c fits in
    let split : p.tag ∷ (p.octets ++ packed cells) ≡ tag ∷ octets = ap (λ front. front ++ packed cells) (sym p.is) ∙ is in
    let same_tag : p.tag ≡ tag = cc in
    let same_octets : p.octets ++ packed cells ≡ octets = cc in
    let read : first_cell tag octets ≡ (c, length p.octets) = sym (λ i. first_cell (same_tag i) (same_octets i)) ∙ p.reads (packed cells) in
    let after : drop (first_cell tag octets).1 octets ≡ packed cells =
    ap (λ r. drop r.1 octets) read ∙ ap (λ o. drop (length p.octets) o) (sym same_octets) ∙ drop_at p.octets (packed cells) (length p.octets) refl in
    let first : (first_cell tag octets).0 ≡ c = ap (λ r. r.0) read in
    let size : (first_cell tag octets).1 ≡ length p.octets = ap (λ r. r.1) read in
    record {
      within = omega (arith, length-append p.octets (packed cells), ap length same_octets);
      fits = subst CellFits (sym first) fits;
      rest = subst IsPacked (sym after) (packed_IsPacked cells fit);
      cells = all ∙ ap (λ rest. c ∷ rest) (sym (round_trip cells fit)) ∙ sym (λ i. first i ∷ cells_in (after i));
    }

front : (tag : ℕ) (octets : List ℕ) → IsPacked (tag ∷ octets) → Front tag octets
unfolding cells_in cells_within
front tag octets p =
    front_of tag octets (first_cell tag octets).0 (cells_within (length octets) (drop (first_cell tag octets).1 octets)) p.fit.0 p.fit.1 p.whole refl

-- the first cell of packed octets, and the octets after it
pub record FirstOf (octets : List ℕ) : Type 0 where
  pub within : (first_cell (get_or octets 0 0) (drop 1 octets)).1 ≤ length (drop 1 octets)
  pub fits : CellFits (first_cell (get_or octets 0 0) (drop 1 octets)).0
  pub rest : IsPacked (drop (first_cell (get_or octets 0 0) (drop 1 octets)).1 (drop 1 octets))
  pub cells : cells_in octets ≡ (first_cell (get_or octets 0 0) (drop 1 octets)).0 ∷ cells_in (drop (first_cell (get_or octets 0 0) (drop 1 octets)).1 (drop 1 octets))

pub first_of : (octets : List ℕ) → IsPacked octets → 0 < length octets → FirstOf octets
first_of [] p some = absurd (omega arith)
first_of (tag ∷ octets) p some = let f = front tag octets p in record { within = f.within; fits = f.fits; rest = f.rest; cells = f.cells }

-- octets that are one packed cell
pub record IsOne (c : Cell) (octets : List ℕ) : Type 0 where
  pub packed : IsPacked octets
  pub read : cells_in octets ≡ c ∷ []

pub is_one : (c : Cell) (octets : List ℕ) → CellFits c → packed_cell c ≡ octets → IsOne c octets
is_one c octets fits is = subst (IsOne c) is (record { packed = one_IsPacked c fits; read = one_read c fits })

-- what is pushed as one cell
pub IsOne_pushed : {X E : Type 0} (c : Cell) (octets : List ℕ) (old new : List Cell) (result : Result X E) → IsOne c octets
    → OnOk result (new ≡ old ++ cells_in octets) → OnOk result (new ≡ old ++ c ∷ [])
IsOne_pushed c octets old new result is pushed = rw is.read at pushed

-- no octets are no cells
pub none_IsPacked : IsPacked []
none_IsPacked = packed_IsPacked [] tt

pub none_read : cells_in [] ≡ []
none_read = round_trip [] tt

-- what fits has plain words
pub CellFits-plain : (c : Cell) → CellFits c → has_plain_words c ≡ true
CellFits-plain (cell.Number n) fits = refl
CellFits-plain (cell.Address address) fits = refl
CellFits-plain (cell.Mac m) fits = refl
CellFits-plain (cell.Words words) fits = fits

pub CellsFit-plain : (cells : List Cell) → CellsFit cells → have_plain_words cells ≡ true
CellsFit-plain [] fit = refl
CellsFit-plain (c ∷ cells) fit = and_from _ _ (CellFits-plain c fit.0) (CellsFit-plain cells fit.1)
