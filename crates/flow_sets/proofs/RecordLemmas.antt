-- Elements and the widths that they may have.
use Rattle.std.proofs.Common.{◌≡◌, ◌≤◌, ℕ, Bool, true, false, Option, Some, None, refl, ap, arith}
use Rattle.std.specs.Prelude.{◌==◌, ◌||◌, nat_le, not, if◌then◌else◌}
use Rattle.std.specs.Option.{option_eq}
use Rattle.std.proofs.lemmas.Bool.{and_parts, eqb-true, leb-true}
use Rattle.flow_templates.specs.Elements.{addresses_v4, addresses_v6, ipfix_numbers, is_among, is_number_width, is_width, macs, numbers}
use Rattle.flow_sets.specs.Fields.{is_read}
use Rattle.flow_sets.specs.Layout.{is_short}
use Rattle.flow_sets.proofs.LayoutLemmas.{among}

pub number_width : (width : ℕ) → is_number_width width ≡ true → (1 ≤ width) × (width ≤ 8)
number_width width h = let parts = and_parts (nat_le 1 width) (nat_le width 8) h in (leb-true 1 width parts.0, leb-true width 8 parts.1)

short_cases : (n i m : Bool) (P : Type 0) → (n ≡ true → P) → (i ≡ true → P) → (m ≡ true → P) → (n || i || m) ≡ true → P
short_cases true i m P p q r h = p refl
short_cases false true m P p q r h = q refl
short_cases false false true P p q r h = r refl
short_cases false false false P p q r h = cc h

pub short_read : (element : ℕ) → is_short element ≡ true → is_read 10 element ≡ true
short_read element h =
    short_cases (is_among numbers element) (is_among ipfix_numbers element) (is_among macs element) (is_read 10 element ≡ true)
    (among (is_read 10) numbers element refl) (among (is_read 10) ipfix_numbers element refl) (among (is_read 10) macs element refl) h

pub read_v4 : (element : ℕ) → is_among addresses_v4 element ≡ true → is_read 10 element ≡ true
read_v4 element h = among (is_read 10) addresses_v4 element refl h

pub read_v6 : (element : ℕ) → is_among addresses_v6 element ≡ true → is_read 10 element ≡ true
read_v6 element h = among (is_read 10) addresses_v6 element refl h

-- ---- widths

as_number : (width four : ℕ) → 1 ≤ four → four ≤ 8 → (width == four) ≡ true → (1 ≤ width) × (width ≤ 8)
as_number width four low high h = let same = eqb-true width four h in (omega (arith, same, low), omega (arith, same, high))

pub short_width : (element width : ℕ) → is_short element ≡ true → is_width 10 element width ≡ true → (1 ≤ width) × (width ≤ 8)
short_width element width h is =
    by (is_among numbers element) (is_among ipfix_numbers element) (is_among addresses_v4 element) (is_among addresses_v6 element) (is_among macs element)
    (among (λ (y : ℕ). not (is_among addresses_v6 y)) macs element refl) h is
  where
    by : (n i a b m : Bool) → (m ≡ true → not b ≡ true) → (n || i || m) ≡ true
        → (if n then is_number_width width else (if i then is_number_width width else (if a then width == 4 else (if b then width == 16 else (if m then width == 6 else true))))) ≡ true
        → (1 ≤ width) × (width ≤ 8)
    by true i a b m apart h is = number_width width is
    by false true a b m apart h is = number_width width is
    by false false true b m apart h is = as_number width 4 (omega arith) (omega arith) is
    by false false false true m apart h is = cc (apart h)
    by false false false false true apart h is = as_number width 6 (omega arith) (omega arith) is
    by false false false false false apart h is = cc h

pub width_v4 : (element width : ℕ) → is_among addresses_v4 element ≡ true → is_width 10 element width ≡ true → width ≡ 4
width_v4 element width h is =
    by (is_among numbers element) (is_among ipfix_numbers element) (is_among addresses_v4 element)
    (among (λ (y : ℕ). not (is_among numbers y)) addresses_v4 element refl) (among (λ (y : ℕ). not (is_among ipfix_numbers y)) addresses_v4 element refl) h is
  where
    by : (n i a : Bool) → (a ≡ true → not n ≡ true) → (a ≡ true → not i ≡ true) → a ≡ true
        → (if n then is_number_width width else (if i then is_number_width width else (if a then width == 4
        else (if is_among addresses_v6 element then width == 16 else (if is_among macs element then width == 6 else true))))) ≡ true
        → width ≡ 4
    by true i a p q h is = cc (p h)
    by false true a p q h is = cc (q h)
    by false false true p q h is = eqb-true width 4 is
    by false false false p q h is = cc h

pub width_v6 : (element width : ℕ) → is_among addresses_v6 element ≡ true → is_width 10 element width ≡ true → width ≡ 16
width_v6 element width h is =
    by (is_among numbers element) (is_among ipfix_numbers element) (is_among addresses_v4 element) (is_among addresses_v6 element)
    (among (λ (y : ℕ). not (is_among numbers y)) addresses_v6 element refl) (among (λ (y : ℕ). not (is_among ipfix_numbers y)) addresses_v6 element refl)
    (among (λ (y : ℕ). not (is_among addresses_v4 y)) addresses_v6 element refl) h is
  where
    by : (n i a b : Bool) → (b ≡ true → not n ≡ true) → (b ≡ true → not i ≡ true) → (b ≡ true → not a ≡ true) → b ≡ true
        → (if n then is_number_width width else (if i then is_number_width width else (if a then width == 4
        else (if b then width == 16 else (if is_among macs element then width == 6 else true))))) ≡ true
        → width ≡ 16
    by true i a b p q r h is = cc (p h)
    by false true a b p q r h is = cc (q h)
    by false false true b p q r h is = cc (r h)
    by false false false true p q r h is = eqb-true width 16 is
    by false false false false p q r h is = cc h

-- ---- samplers

pub same_sampler : (a b : Option ℕ) → option_eq (λ (x y : ℕ). x == y) a b ≡ true → a ≡ b
same_sampler None None h = refl
same_sampler None (Some b) h = cc h
same_sampler (Some a) None h = cc h
same_sampler (Some a) (Some b) h = ap Some (eqb-true a b h)
