-- Ends of lines.
use Rattle.std.proofs.Common.{◌≡◌, ◌∙◌, ◌==◌, ℕ, List, [], ◌∷◌, ◌++◌, true, false, refl, sym, ap, reverse, length, ◌<◌, ◌≤◌, ◌+◌, Bool, arith}
use Rattle.std.proofs.lemmas.List.{reverse-append, reverse-reverse}
use Rattle.std.proofs.lemmas.List.Splits.{length-slice_split}
use Rattle.std.proofs.lemmas.List.Sums.{count_by-le-length}
use Rattle.std.specs.List.{slice_split}
use Rattle.std.specs.Borrow.{Bor}
use Rattle.std.specs.Prelude.{if◌then◌else◌, map}
use Rattle.std.proofs.lemmas.List.{length-map}
use Rattle.config_keys.specs.Lines.{Text, after_blanks, before_blanks, is_blank, lines_in, lines_of, without_return}

return_at_end : (front : Text) (last : ℕ) → (last == 13) ≡ true → without_return (front ++ last ∷ []) ≡ front
return_at_end [] last is = rw is refl
return_at_end (octet ∷ []) last is = ap (λ (t : Text). octet ∷ t) (return_at_end [] last is)
return_at_end (octet ∷ next ∷ front) last is = ap (λ (t : Text). octet ∷ t) (return_at_end (next ∷ front) last is)

other_at_end : (front : Text) (last : ℕ) → (last == 13) ≡ false → without_return (front ++ last ∷ []) ≡ front ++ last ∷ []
other_at_end [] last is = rw is refl
other_at_end (octet ∷ []) last is = ap (λ (t : Text). octet ∷ t) (other_at_end [] last is)
other_at_end (octet ∷ next ∷ front) last is = ap (λ (t : Text). octet ∷ t) (other_at_end (next ∷ front) last is)

pub without_its_return : (text front : Text) (last : ℕ) → text ≡ front ++ last ∷ [] → (last == 13) ≡ true → front ≡ without_return text
without_its_return text front last split is = sym (ap without_return split ∙ return_at_end front last is)

pub without_no_return : (text front : Text) (last : ℕ) → text ≡ front ++ last ∷ [] → (last == 13) ≡ false → text ≡ without_return text
without_no_return text front last split is = split ∙ sym (ap without_return split ∙ other_at_end front last is)

turned : (text front : Text) (last : ℕ) → text ≡ front ++ last ∷ [] → reverse text ≡ last ∷ reverse front
turned text front last split = ap reverse split ∙ reverse-append front (last ∷ [])

blank_first : (octet : ℕ) (octets : Text) → is_blank octet ≡ true → after_blanks (octet ∷ octets) ≡ after_blanks octets
blank_first octet octets is = rw is refl

no_blank_first : (octet : ℕ) (octets : Text) → is_blank octet ≡ false → after_blanks (octet ∷ octets) ≡ octet ∷ octets
no_blank_first octet octets is = rw is refl

-- a blank at the end falls away
pub without_blank : (text front : Text) (last : ℕ) → text ≡ front ++ last ∷ [] → is_blank last ≡ true → before_blanks front ≡ before_blanks text
without_blank text front last split is = ap reverse (sym (ap after_blanks (turned text front last split) ∙ blank_first last (reverse front) is))

-- another end stays
pub without_no_blank : (text front : Text) (last : ℕ) → text ≡ front ++ last ∷ [] → is_blank last ≡ false → text ≡ before_blanks text
without_no_blank text front last split is =
    let shown : after_blanks (reverse text) ≡ last ∷ reverse front = ap after_blanks (turned text front last split) ∙ no_blank_first last (reverse front) is in
    sym (ap reverse (shown ∙ sym (turned text front last split)) ∙ reverse-reverse text)

-- the last piece, and one before others
pub last_line : (piece : Text) (pieces : List Text) → length pieces ≡ 0 → lines_in (piece ∷ pieces) ≡ (if length piece == 0 then [] else piece ∷ [])
last_line piece [] none = refl
last_line piece (next ∷ pieces) none = absurd (omega (arith, none))

pub line_before : (piece : Text) (pieces : List Text) → 0 < length pieces → lines_in (piece ∷ pieces) ≡ without_return piece ∷ lines_in pieces
line_before piece [] some = absurd (omega (arith, some))
line_before piece (next ∷ pieces) some = refl

-- as many lines as pieces, at most
no_more_lines : (pieces : List Text) → length (lines_in pieces) ≤ length pieces
no_more_lines [] = omega arith
no_more_lines (piece ∷ []) = by (length piece == 0)
  where
    by : (b : Bool) → length (if b then [] else piece ∷ []) ≤ 1
    by true = omega arith
    by false = omega arith
no_more_lines (piece ∷ next ∷ pieces) = let less = no_more_lines (next ∷ pieces) in omega (arith, less)

-- a text has few lines
pub few_lines : (text : Text) → length (lines_of text) ≤ length text + 1
few_lines text =
    let less = no_more_lines (slice_split (λ octet. octet == 10) text) in
    let ends = count_by-le-length (λ octet. octet == 10) text in
    omega (arith, less, ends, length-slice_split (λ octet. octet == 10) text)

pub few_read : (text : Text) (lines : List (Bor Text)) → map (λ l. l.now) lines ≡ lines_of text → length lines ≤ length text + 1
few_read text lines read =
    let few = few_lines text in
    omega (arith, few, ap length read, length-map lines (λ (l : Bor Text). l.now))
