-- Packed cells are in the order of the cells.
use Rattle.std.proofs.Common.{◌≡◌, ◌∙◌, ◌+◌, ◌*◌, ◌<◌, ◌≤◌, ◌^◌, ◌/◌, ◌%◌, ℕ, zero, suc, true, List, [], ◌∷◌, ◌++◌, ap, sym, refl, arith, inl, inr}
use Rattle.std.proofs.Math.Nat.{div-one, mod-eq_of_lt, mod-lt, mul-le-mul_right, one-le-pow, pow-suc, suc-mul}
use Rattle.std.proofs.lemmas.Bool.{and_parts, cases_lt}
use Rattle.std.proofs.lemmas.Bool.Decides.{nat_tests}
use Rattle.std.specs.Cmp.{nat_cmp_is}
use Rattle.std.specs.Cmp.Lexicographic.{slice_cmp}
use Rattle.std.specs.Int.{byte_at, bytes_high_first, w32, w64, w128, to_be_bytes}
use Rattle.std.specs.Ordering.{nat_cmp, ordering_then}
use Rattle.std.specs.declared.cmp.Ordering.{Ordering}
use Rattle.std.specs.declared.cmp.Ordering.TheVariants.{Less, Equal, Greater}
use Rattle.std.proofs.lemmas.Nat.{mod-pow-add, pow-add}
use Rattle.acct_types.specs.declared.addr.Addr.TheVariants.{V4, V6}
use Rattle.acct_types.specs.declared.cell.Cell.{Cell}
use Rattle.acct_types.specs.declared.cell.Cell.TheVariants.{Number, Address, Mac, Words}
use Rattle.acct_types.specs.Cells.{are_plain, cell_cmp, is_plain, key_cmp}
use Rattle.acct_types.specs.Packed.{CellFits, CellsFit, IsPacked, cells_in, packed, packed_cell, packed_number}
use Rattle.acct_types.proofs.PackedLemmas.{Size, packed_eight, packed_four, packed_one, packed_two, parts, size_of}
use Rattle.acct_types.proofs.PackedLemmas.Size.{one, two, four, eight}

-- octets in order, the first that differ deciding
abbrev octets_cmp : List ℕ → List ℕ → Ordering
octets_cmp a b = slice_cmp nat_cmp a b

then_assoc : (a b c : Ordering) → ordering_then a (ordering_then b c) ≡ ordering_then (ordering_then a b) c
then_assoc Less b c = refl
then_assoc Equal b c = refl
then_assoc Greater b c = refl

less : (a b : ℕ) → a < b → nat_cmp a b ≡ Less
less a b h = sym (nat_cmp_is a b Less h)

same : (a b : ℕ) → a ≡ b → nat_cmp a b ≡ Equal
same a b h = sym (nat_cmp_is a b Equal h)

greater : (a b : ℕ) → b < a → nat_cmp a b ≡ Greater
greater a b h = sym (nat_cmp_is a b Greater h)

added : (n x y : ℕ) → nat_cmp (n + x) (n + y) ≡ nat_cmp x y
added n x y = elim (cases_lt x y) [
  | inl below ↦ less (n + x) (n + y) (omega arith) ∙ sym (less x y below)
  | inr not_below ↦ elim (cases_lt y x) [
    | inl above ↦ greater (n + x) (n + y) (omega arith) ∙ sym (greater x y above)
    | inr not_above ↦ same (n + x) (n + y) (omega arith) ∙ sym (same x y (omega arith))
  ]
]

-- the higher digits decide, and else the lower ones
digits_ordered : (a b x y base : ℕ) → x < base → y < base → nat_cmp (a * base + x) (b * base + y) ≡ ordering_then (nat_cmp a b) (nat_cmp x y)
digits_ordered a b x y base low high = elim (cases_lt a b) [
  | inl below ↦
      let top : suc a * base ≤ b * base = mul-le-mul_right base below in
      let next : suc a * base ≡ a * base + base = suc-mul a base in
      less (a * base + x) (b * base + y) (omega arith) ∙ ap (λ o. ordering_then o (nat_cmp x y)) (sym (less a b below))
  | inr not_below ↦ elim (cases_lt b a) [
    | inl above ↦
        let top : suc b * base ≤ a * base = mul-le-mul_right base above in
        let next : suc b * base ≡ b * base + base = suc-mul b base in
        greater (a * base + x) (b * base + y) (omega arith) ∙ ap (λ o. ordering_then o (nat_cmp x y)) (sym (greater a b above))
    | inr not_above ↦
        let e : a ≡ b = omega arith in
        ap (λ n. nat_cmp (n * base + x) (b * base + y)) e ∙ added (b * base) x y ∙ ap (λ o. ordering_then o (nat_cmp x y)) (sym (same a b e))
  ]
]

-- one octet more
power : (width : ℕ) → 256 ^ width ≡ 2 ^ (8 * width)
power zero = refl
power (suc width) =
    let more : 8 * width + 8 ≡ 8 * suc width = omega arith in
    pow-suc 256 width ∙ ap (λ b. b * 256) (power width) ∙ sym (pow-add 2 (8 * width) 8) ∙ ap (λ e. 2 ^ e) more

base_above : (width : ℕ) → 0 < 256 ^ width
base_above width = one-le-pow width 256 (omega arith)

octet_at : (k n : ℕ) → byte_at k n ≡ n / 256 ^ k % 256
octet_at zero n = ap (λ (m : ℕ). m % 256) (sym (div-one n))
octet_at (suc k) n = refl

split : (width n : ℕ) → n % 256 ^ suc width ≡ byte_at width n * 256 ^ width + n % 256 ^ width
split width n =
    let more : 8 * suc width ≡ 8 + 8 * width = omega arith in
    ap (λ b. n % b) (power (suc width) ∙ ap (λ e. 2 ^ e) more)
    ∙ mod-pow-add n 8 (8 * width)
    ∙ sym (λ i. n / power width i % 256 * power width i + n % power width i)
    ∙ ap (λ o. o * 256 ^ width + n % 256 ^ width) (sym (octet_at width n))

bytes_ordered : (width n m : ℕ) (r s : List ℕ)
    → octets_cmp (bytes_high_first width n ++ r) (bytes_high_first width m ++ s)
    ≡ ordering_then (nat_cmp (n % 256 ^ width) (m % 256 ^ width)) (octets_cmp r s)
bytes_ordered zero n m r s = ap (λ o. ordering_then o (octets_cmp r s)) (sym (same (n % 1) (m % 1) (omega arith)))
bytes_ordered (suc width) n m r s =
    let low : n % 256 ^ width < 256 ^ width = mod-lt n (base_above width) in
    let high : m % 256 ^ width < 256 ^ width = mod-lt m (base_above width) in
    ap (ordering_then (nat_cmp (byte_at width n) (byte_at width m))) (bytes_ordered width n m r s)
    ∙ then_assoc (nat_cmp (byte_at width n) (byte_at width m)) (nat_cmp (n % 256 ^ width) (m % 256 ^ width)) (octets_cmp r s)
    ∙ ap (λ o. ordering_then o (octets_cmp r s)) (sym (digits_ordered (byte_at width n) (byte_at width m) _ _ (256 ^ width) low high))
    ∙ sym (λ i. ordering_then (nat_cmp (split width n i) (split width m i)) (octets_cmp r s))

numbers_ordered : (width n m : ℕ) (r s : List ℕ) → n < 256 ^ width → m < 256 ^ width
    → octets_cmp (bytes_high_first width n ++ r) (bytes_high_first width m ++ s) ≡ ordering_then (nat_cmp n m) (octets_cmp r s)
numbers_ordered width n m r s low high =
    bytes_ordered width n m r s ∙ (λ i. ordering_then (nat_cmp (mod-eq_of_lt low i) (mod-eq_of_lt high i)) (octets_cmp r s))

-- the first octet decides
first_less : (x y p q r s : List ℕ) (t u : ℕ) → x ≡ t ∷ p → y ≡ u ∷ q → t < u → octets_cmp (x ++ r) (y ++ s) ≡ Less
first_less x y p q r s t u first second below =
    (λ i. octets_cmp (first i ++ r) (second i ++ s)) ∙ ap (λ o. ordering_then o (octets_cmp (p ++ r) (q ++ s))) (less t u below)

first_greater : (x y p q r s : List ℕ) (t u : ℕ) → x ≡ t ∷ p → y ≡ u ∷ q → u < t → octets_cmp (x ++ r) (y ++ s) ≡ Greater
first_greater x y p q r s t u first second above =
    (λ i. octets_cmp (first i ++ r) (second i ++ s)) ∙ ap (λ o. ordering_then o (octets_cmp (p ++ r) (q ++ s))) (greater t u above)

-- where the first octets differ, as the numbers do
differ_less : (n m : ℕ) (p q r s : List ℕ) (t u : ℕ) → packed_number n ≡ t ∷ p → packed_number m ≡ u ∷ q → t < u → n < m
    → octets_cmp (packed_number n ++ r) (packed_number m ++ s) ≡ ordering_then (nat_cmp n m) (octets_cmp r s)
differ_less n m p q r s t u first second below numbers =
    first_less _ _ p q r s t u first second below ∙ ap (λ o. ordering_then o (octets_cmp r s)) (sym (less n m numbers))

differ_greater : (n m : ℕ) (p q r s : List ℕ) (t u : ℕ) → packed_number n ≡ t ∷ p → packed_number m ≡ u ∷ q → u < t → m < n
    → octets_cmp (packed_number n ++ r) (packed_number m ++ s) ≡ ordering_then (nat_cmp n m) (octets_cmp r s)
differ_greater n m p q r s t u first second above numbers =
    first_greater _ _ p q r s t u first second above ∙ ap (λ o. ordering_then o (octets_cmp r s)) (sym (greater n m numbers))

number_ordered : (n m : ℕ) (r s : List ℕ) → n < 2 ^ 64 → m < 2 ^ 64 → Size n → Size m
    → octets_cmp (packed_number n ++ r) (packed_number m ++ s) ≡ ordering_then (nat_cmp n m) (octets_cmp r s)
number_ordered n m r s fits also (one a) (one b) = λ i. octets_cmp (packed_one n a i ++ r) (packed_one m b i ++ s)
number_ordered n m r s fits also (one a) (two b c) =
    differ_less n m _ _ r s 0 1 (packed_one n a) (packed_two m b c) (omega arith) (omega arith)
number_ordered n m r s fits also (one a) (four b c) =
    differ_less n m _ _ r s 0 2 (packed_one n a) (packed_four m b c) (omega arith) (omega arith)
number_ordered n m r s fits also (one a) (eight b) =
    differ_less n m _ _ r s 0 3 (packed_one n a) (packed_eight m b) (omega arith) (omega arith)
number_ordered n m r s fits also (two a b) (one c) =
    differ_greater n m _ _ r s 1 0 (packed_two n a b) (packed_one m c) (omega arith) (omega arith)
number_ordered n m r s fits also (two a b) (two c d) =
    (λ i. octets_cmp (packed_two n a b i ++ r) (packed_two m c d i ++ s)) ∙ numbers_ordered 2 n m r s b d
number_ordered n m r s fits also (two a b) (four c d) =
    differ_less n m _ _ r s 1 2 (packed_two n a b) (packed_four m c d) (omega arith) (omega arith)
number_ordered n m r s fits also (two a b) (eight c) =
    differ_less n m _ _ r s 1 3 (packed_two n a b) (packed_eight m c) (omega arith) (omega arith)
number_ordered n m r s fits also (four a b) (one c) =
    differ_greater n m _ _ r s 2 0 (packed_four n a b) (packed_one m c) (omega arith) (omega arith)
number_ordered n m r s fits also (four a b) (two c d) =
    differ_greater n m _ _ r s 2 1 (packed_four n a b) (packed_two m c d) (omega arith) (omega arith)
number_ordered n m r s fits also (four a b) (four c d) =
    (λ i. octets_cmp (packed_four n a b i ++ r) (packed_four m c d i ++ s)) ∙ numbers_ordered 4 n m r s b d
number_ordered n m r s fits also (four a b) (eight c) =
    differ_less n m _ _ r s 2 3 (packed_four n a b) (packed_eight m c) (omega arith) (omega arith)
number_ordered n m r s fits also (eight a) (one b) =
    differ_greater n m _ _ r s 3 0 (packed_eight n a) (packed_one m b) (omega arith) (omega arith)
number_ordered n m r s fits also (eight a) (two b c) =
    differ_greater n m _ _ r s 3 1 (packed_eight n a) (packed_two m b c) (omega arith) (omega arith)
number_ordered n m r s fits also (eight a) (four b c) =
    differ_greater n m _ _ r s 3 2 (packed_eight n a) (packed_four m b c) (omega arith) (omega arith)
number_ordered n m r s fits also (eight a) (eight b) =
    (λ i. octets_cmp (packed_eight n a i ++ r) (packed_eight m b i ++ s)) ∙ numbers_ordered 8 n m r s fits also

-- the tag of a number is below those of other cells
record Low (n : ℕ) : Type 0 where
  tag : ℕ
  octets : List ℕ
  is : packed_number n ≡ tag ∷ octets
  low : tag < 4

low_tag : (n : ℕ) → Size n → Low n
low_tag n (one a) = record { tag = 0; octets = _; is = packed_one n a; low = omega arith }
low_tag n (two a b) = record { tag = 1; octets = _; is = packed_two n a b; low = omega arith }
low_tag n (four a b) = record { tag = 2; octets = _; is = packed_four n a b; low = omega arith }
low_tag n (eight a) = record { tag = 3; octets = _; is = packed_eight n a; low = omega arith }

number_below : (n t : ℕ) (q r s : List ℕ) → 4 ≤ t → octets_cmp (packed_number n ++ r) (t ∷ (q ++ s)) ≡ Less
number_below n t q r s above = let l = low_tag n (size_of n) in first_less _ (t ∷ q) _ q r s l.tag t l.is refl (omega (arith, l.low))

number_above : (n t : ℕ) (q r s : List ℕ) → 4 ≤ t → octets_cmp (t ∷ (q ++ s)) (packed_number n ++ r) ≡ Greater
number_above n t q r s above = let l = low_tag n (size_of n) in first_greater (t ∷ q) _ q _ s r t l.tag refl l.is (omega (arith, l.low))

words_ordered : (a b r s : List ℕ) → are_plain a ≡ true → are_plain b ≡ true
    → octets_cmp ((a ++ 0 ∷ []) ++ r) ((b ++ 0 ∷ []) ++ s) ≡ ordering_then (octets_cmp a b) (octets_cmp r s)
words_ordered [] [] r s plain also = refl
words_ordered [] (y ∷ b) r s plain also =
    let both = and_parts (is_plain y) (are_plain b) also in
    let above : 32 < y = grind (arith, nat_tests, both.0) in
    ap (λ o. ordering_then o (octets_cmp r ((b ++ 0 ∷ []) ++ s))) (less 0 y (omega arith))
words_ordered (x ∷ a) [] r s plain also =
    let both = and_parts (is_plain x) (are_plain a) plain in
    let above : 32 < x = grind (arith, nat_tests, both.0) in
    ap (λ o. ordering_then o (octets_cmp ((a ++ 0 ∷ []) ++ r) s)) (greater x 0 (omega arith))
words_ordered (x ∷ a) (y ∷ b) r s plain also =
    ap (ordering_then (nat_cmp x y))
    (words_ordered a b r s (and_parts (is_plain x) (are_plain a) plain).1 (and_parts (is_plain y) (are_plain b) also).1)
    ∙ then_assoc (nat_cmp x y) (octets_cmp a b) (octets_cmp r s)

cell_ordered : (c d : Cell) (r s : List ℕ) → CellFits c → CellFits d
    → octets_cmp (packed_cell c ++ r) (packed_cell d ++ s) ≡ ordering_then (cell_cmp c d) (octets_cmp r s)
unfolding packed_cell
cell_ordered (Number n) (Number m) r s fits also = number_ordered n m r s fits also (size_of n) (size_of m)
cell_ordered (Number n) (Address (V4 b)) r s fits also = number_below n 4 (to_be_bytes w32 b) r s (omega arith)
cell_ordered (Number n) (Address (V6 b)) r s fits also = number_below n 5 (to_be_bytes w128 b) r s (omega arith)
cell_ordered (Number n) (Mac b) r s fits also = number_below n 6 (to_be_bytes w64 b) r s (omega arith)
cell_ordered (Number n) (Words b) r s fits also = number_below n 7 (b ++ 0 ∷ []) r s (omega arith)
cell_ordered (Address (V4 a)) (Number m) r s fits also = number_above m 4 (to_be_bytes w32 a) s r (omega arith)
cell_ordered (Address (V6 a)) (Number m) r s fits also = number_above m 5 (to_be_bytes w128 a) s r (omega arith)
cell_ordered (Mac a) (Number m) r s fits also = number_above m 6 (to_be_bytes w64 a) s r (omega arith)
cell_ordered (Words a) (Number m) r s fits also = number_above m 7 (a ++ 0 ∷ []) s r (omega arith)
cell_ordered (Address (V4 a)) (Address (V4 b)) r s fits also = numbers_ordered 4 a b r s fits also
cell_ordered (Address (V4 a)) (Address (V6 b)) r s fits also = refl
cell_ordered (Address (V6 a)) (Address (V4 b)) r s fits also = refl
cell_ordered (Address (V6 a)) (Address (V6 b)) r s fits also = numbers_ordered 16 a b r s fits also
cell_ordered (Address (V4 a)) (Mac b) r s fits also = refl
cell_ordered (Address (V6 a)) (Mac b) r s fits also = refl
cell_ordered (Address (V4 a)) (Words b) r s fits also = refl
cell_ordered (Address (V6 a)) (Words b) r s fits also = refl
cell_ordered (Mac a) (Address (V4 b)) r s fits also = refl
cell_ordered (Mac a) (Address (V6 b)) r s fits also = refl
cell_ordered (Mac a) (Mac b) r s fits also = numbers_ordered 8 a b r s fits also
cell_ordered (Mac a) (Words b) r s fits also = refl
cell_ordered (Words a) (Address (V4 b)) r s fits also = refl
cell_ordered (Words a) (Address (V6 b)) r s fits also = refl
cell_ordered (Words a) (Mac b) r s fits also = refl
cell_ordered (Words a) (Words b) r s fits also = words_ordered a b r s fits also

packed_ordered : (a b : List Cell) → CellsFit a → CellsFit b → octets_cmp (packed a) (packed b) ≡ key_cmp a b
packed_ordered [] [] fit also = refl
packed_ordered [] (d ∷ b) fit also = ap (λ octets. octets_cmp [] (octets ++ packed b)) (parts d also.0).is
packed_ordered (c ∷ a) [] fit also = ap (λ octets. octets_cmp (octets ++ packed a) []) (parts c fit.0).is
packed_ordered (c ∷ a) (d ∷ b) fit also =
    cell_ordered c d (packed a) (packed b) fit.0 also.0 ∙ ap (ordering_then (cell_cmp c d)) (packed_ordered a b fit.1 also.1)

-- packed octets are in the order of their cells
pub octets_ordered : (a b x y : List ℕ) → a ≡ x → b ≡ y → IsPacked x → IsPacked y → octets_cmp a b ≡ key_cmp (cells_in x) (cells_in y)
octets_ordered a b x y is also p q =
    (λ i. octets_cmp (is i) (also i)) ∙ sym (λ i. octets_cmp (p.whole i) (q.whole i)) ∙ packed_ordered (cells_in x) (cells_in y) p.fit q.fit
