-- Numbers in texts.
use Rattle.std.proofs.Common.{◌≡◌, ◌==◌, ◌&&◌, ◌||◌, ◌<◌, ◌≤◌, ◌^◌, ℕ, Bool, true, false, nat_lt, [], ◌∷◌, length, refl, sym, subst, arith, Some, None, ◌⊎◌, inl, inr}
use Rattle.std.specs.Prelude.{if◌then◌else◌, nat_le}
use borrow.Author.Tests.{eqb-true, leb-true, ltb-true}
use Rattle.std.specs.List.{list_all}
use Rattle.std.specs.Str.Parse.{AllDigits, IsNumeral, digits_value, without_leading_plus}
use Rattle.std.specs.Str.{IsUtf8}
use Rattle.std.proofs.lemmas.Fmt.{IsAscii-from_digits}
use Rattle.std.proofs.lemmas.Str.{IsUtf8-from_ascii}
use Rattle.std.proofs.lemmas.Str.Parse.{tells_digits, without_leading_plus_none}
use Rattle.config_keys.specs.Lines.{Text}
use Rattle.config_keys.specs.Ranges.{IsHold, IsWithin}
use Rattle.config_keys.specs.Table.{fits, from_to, hold_range}
use Rattle.config_keys.specs.declared.table.Range.{Range}
use Rattle.config_keys.specs.Values.{is_digit, is_numeral}

pub both : (a b : Bool) → (a && b) ≡ true → (a ≡ true) × (b ≡ true)
both true b h = (refl, h)
both false b h = cc h

all_digits : (text : Text) → list_all is_digit text ≡ true → AllDigits 10 text
all_digits [] h = tells_digits.empty
all_digits (octet ∷ octets) h =
    let parts = both (is_digit octet) (list_all is_digit octets) h in
    let ends = both (nat_le 48 octet) (nat_le octet 57) parts.0 in
    tells_digits.more octet octets (leb-true 48 octet ends.0, leb-true octet 57 ends.1) (all_digits octets parts.1)

pub numeral_digits : (text : Text) → is_numeral text ≡ true → AllDigits 10 text
numeral_digits text h = all_digits text (both _ _ (both (nat_le 1 (length text) && list_all is_digit text) _ h).0).1

pub numeral_is_utf8 : (text : Text) → is_numeral text ≡ true → IsUtf8 text
numeral_is_utf8 text h = IsUtf8-from_ascii text (IsAscii-from_digits text (numeral_digits text h))

no_plus : (text : Text) → AllDigits 10 text → without_leading_plus text ≡ text
no_plus [] digits = refl
no_plus (octet ∷ octets) digits =
    let range = (tells_digits.parts octet octets digits).0 in
    without_leading_plus_none (octet ∷ octets) (λ e. let plus : octet ≡ 43 = e in absurd (omega (arith, range.0, plus)))

-- a numeral is what `parse` takes
pub numeral_parses : (text : Text) → is_numeral text ≡ true → digits_value 10 text < 2 ^ 64
    → IsNumeral 10 (without_leading_plus text) × (digits_value 10 (without_leading_plus text) < 2 ^ 64)
numeral_parses text h small =
    let digits = numeral_digits text h in
    let some : 1 ≤ length text = leb-true 1 (length text) (both _ _ (both (nat_le 1 (length text) && list_all is_digit text) _ h).0).0 in
    subst (λ (t : Text). (IsNumeral 10 t) × (digits_value 10 t < 2 ^ 64)) (sym (no_plus text digits)) ((omega (arith, some), digits), small)

-- a number that `parse` doesn't take is too large
pub too_large : (text read : Text) → read ≡ text → is_numeral text ≡ true
    → ¬ (IsNumeral 10 (without_leading_plus read) × (digits_value 10 (without_leading_plus read) < 2 ^ 64))
    → None ≡ (if nat_lt (digits_value 10 text) (2 ^ 64) then Some (digits_value 10 text) else None)
too_large text read same h refused = by (nat_lt (digits_value 10 text) (2 ^ 64)) refl
  where
    by : (small : Bool) → nat_lt (digits_value 10 text) (2 ^ 64) ≡ small → None ≡ (if small then Some (digits_value 10 text) else None)
    by true e =
        let parsed = numeral_parses text h (ltb-true (digits_value 10 text) (2 ^ 64) e) in
        absurd (refused (subst (λ (t : Text). (IsNumeral 10 (without_leading_plus t)) × (digits_value 10 (without_leading_plus t) < 2 ^ 64)) (sym same) parsed))
    by false e = refl

either : (a b : Bool) → (a || b) ≡ true → (a ≡ true) ⊎ (b ≡ true)
either true b h = inl refl
either false b h = inr h

-- a number in a range is at most its greatest
pub at_most : (range : Range) (n : ℕ) → fits range n ≡ true → n ≤ range.most
at_most range n h = elim (either (nat_le range.least n && nat_le n range.most) (range.zero && n == 0) h) [
  | inl within ↦ leb-true n range.most (both (nat_le range.least n) (nat_le n range.most) within).1
  | inr zero ↦ let is : n ≡ 0 = eqb-true n 0 (both range.zero (n == 0) zero).1 in omega (arith, is)
]

-- a number from the least to the most
pub is_within : (least most n : ℕ) → fits (from_to least most) n ≡ true → IsWithin least most n
is_within least most n h = elim (either (nat_le least n && nat_le n most) (false && n == 0) h) [
  | inl within ↦ let ends = both (nat_le least n) (nat_le n most) within in (leb-true least n ends.0, leb-true n most ends.1)
  | inr zero ↦ cc zero
]

-- 0, or 3 or more
pub is_hold : (n : ℕ) → fits hold_range n ≡ true → IsHold n
is_hold n h = elim (either (nat_le 3 n && nat_le n 65535) (true && n == 0) h) [
  | inl within ↦
      let ends = both (nat_le 3 n) (nat_le n 65535) within in
      let least = leb-true 3 n ends.0 in
      record { most = leb-true n 65535 ends.1; not_one = λ e. absurd (omega (arith, e, least)); not_two = λ e. absurd (omega (arith, e, least)) }
  | inr zero ↦ let is : n ≡ 0 = eqb-true n 0 zero in record { most = omega (arith, is); not_one = λ e. absurd (omega (arith, e, is)); not_two = λ e. absurd (omega (arith, e, is)) }
]
