-- The lines of a configuration, and what stands on a line.
use Rattle.std.specs.Prelude.{ℕ, ◌+◌, ◌==◌, ◌&&◌, ◌||◌, Bool, true, nat_le, List, [], ◌∷◌, length, take, drop, reverse, map, position, Option, Some, None, option_map, if◌then◌else◌}
use Rattle.std.specs.List.{list_all, list_any, slice_split}
use Rattle.std.specs.Str.{bytes_eq}

abbrev pub Text : Type 0
Text = List ℕ

-- a carriage return at the end of a text falls away
abbrev pub without_return : Text → Text
without_return [] = []
without_return (octet ∷ []) = if octet == 13 then [] else octet ∷ []
without_return (octet ∷ next ∷ octets) = octet ∷ without_return (next ∷ octets)

-- Each piece but the last was ended by a line feed, before which a carriage return is dropped. The last one is a line
-- where it isn't empty.
abbrev pub lines_in : List Text → List Text
lines_in [] = []
lines_in (piece ∷ []) = if length piece == 0 then [] else piece ∷ []
lines_in (piece ∷ next ∷ pieces) = without_return piece ∷ lines_in (next ∷ pieces)

-- the lines of a text
abbrev pub lines_of : Text → List Text
lines_of text = lines_in (slice_split (λ octet. octet == 10) text)

-- a space or a tab
abbrev pub is_blank : ℕ → Bool
is_blank octet = octet == 32 || octet == 9

abbrev pub after_blanks : Text → Text
after_blanks [] = []
after_blanks (octet ∷ octets) = if is_blank octet then after_blanks octets else octet ∷ octets

abbrev pub before_blanks : Text → Text
before_blanks text = reverse (after_blanks (reverse text))

-- a text without the spaces and tabs at its ends
abbrev pub trimmed : Text → Text
trimmed text = before_blanks (after_blanks text)

-- a line of spaces and tabs, or one whose first other character is `!` or `#`
abbrev pub begins_nothing : Text → Bool
begins_nothing [] = true
begins_nothing (octet ∷ octets) = octet == 33 || octet == 35

abbrev pub is_passed_over : Text → Bool
is_passed_over line = begins_nothing (after_blanks line)

-- no octet is above 126, and none below 32 but a tab
abbrev pub is_text_octet : ℕ → Bool
is_text_octet octet = nat_le octet 126 && (nat_le 32 octet || octet == 9)

abbrev pub is_text : Text → Bool
is_text line = list_all is_text_octet line

-- a letter, a digit, `_` or `-`
abbrev pub is_name_octet : ℕ → Bool
is_name_octet octet = nat_le 97 octet && nat_le octet 122 || nat_le 65 octet && nat_le octet 90 || nat_le 48 octet && nat_le octet 57 || octet == 95 || octet == 45

-- 1 to 32 of them
abbrev pub is_name : Text → Bool
is_name text = nat_le 1 (length text) && nat_le (length text) 32 && list_all is_name_octet text

-- a word, and the name behind it in brackets
pub record Label : Type 0 where
  pub word : Text
  pub name : Option Text

-- the name that ends with the text's first `]`, which is its last octet
abbrev pub name_at : Text → Option ℕ → Option Text
name_at text None = None
name_at text (Some place) = if place + 1 == length text && is_name (take place text) then Some (take place text) else None

abbrev pub name_before_bracket : Text → Option Text
name_before_bracket text = name_at text (position (λ octet. octet == 93) text)

abbrev pub label_at : Text → Option ℕ → Option Label
label_at text None = Some (record { word = text; name = None })
label_at text (Some place) = option_map (λ name. record { word = take place text; name = Some name }) (name_before_bracket (drop (place + 1) text))

-- a word alone, or a word with a name in brackets; None where the name is malformed
abbrev pub label_of : Text → Option Label
label_of text = label_at text (position (λ octet. octet == 91) text)

-- a key with its name, as they stand and in their parts, and its value
pub record Setting : Type 0 where
  pub left : Text
  pub key : Text
  pub name : Option Text
  pub value : Text

-- what a line says
pub data Statement : Type 0 where
  Nothing : Statement
  NoColon : Statement
  NoLabel : Statement
  Says : Setting → Statement

abbrev pub labelled : Text → Text → Option Label → Statement
labelled left value None = NoLabel
labelled left value (Some label) = Says (record { left = left; key = label.word; name = label.name; value = value })

abbrev pub split_at : Text → Option ℕ → Statement
split_at line None = NoColon
split_at line (Some place) = labelled (trimmed (take place line)) (trimmed (drop (place + 1) line)) (label_of (trimmed (take place line)))

-- A line that is neither empty nor a comment is split at its first `:`, and both sides are trimmed.
abbrev pub statement_of : Text → Statement
statement_of line = if is_passed_over line then Nothing else split_at line (position (λ octet. octet == 58) line)

-- the members of a list, between commas
abbrev pub members_of : Text → List Text
members_of value = map trimmed (slice_split (λ octet. octet == 44) value)

abbrev pub is_among : List Text → Text → Bool
is_among texts text = list_any (λ other. bytes_eq other text) texts
