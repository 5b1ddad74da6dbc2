-- The text of a cell, and lines of the formatted layout and of csv.
use Rattle.std.specs.Prelude.{ℕ, ◌-◌, ◌/◌, ◌%◌, List, [], ◌∷◌, ◌++◌, codes, decimal, drop, flat_map, length, map, replicate}
use Rattle.std.specs.Char.{digit_char}
use Rattle.std.specs.Int.{w64, to_be_bytes}
use Rattle.acct_types.specs.AddrText.{address_text}
use Rattle.acct_types.specs.declared.cell.Cell.{Cell}
use Rattle.acct_types.specs.declared.cell.Cell.TheVariants as cell
use Rattle.out_text.specs.declared.field.Field.{Field}
use Rattle.out_text.specs.Headings.{width_of}

-- texts with a separator between them
abbrev pub joined : List ℕ → List (List ℕ) → List ℕ
joined separator [] = []
joined separator (first ∷ others) = first ++ flat_map (λ other. separator ++ other) others

-- an octet as two digits in lower-case hexadecimal
abbrev pub hex_pair : ℕ → List ℕ
hex_pair octet = digit_char (octet / 16) ∷ digit_char (octet % 16) ∷ []

-- the low 48 bits as six pairs of digits with colons between them
unfoldable pub mac_text : ℕ → List ℕ
mac_text mac = joined (codes ":") (map hex_pair (drop 2 (to_be_bytes w64 mac)))

-- Numbers are decimal, and words are as they are.
unfoldable pub cell_text : Cell → List ℕ
cell_text (cell.Number n) = decimal n
cell_text (cell.Address address) = address_text address
cell_text (cell.Mac mac) = mac_text mac
cell_text (cell.Words words) = words

-- With spaces on its right up to the width. A longer text stays whole.
abbrev pub padded : ℕ → List ℕ → List ℕ
padded width text = text ++ replicate (width - length text) 32

-- an entry at the width of its field
abbrev pub formatted_text : Field × Cell → List ℕ
formatted_text entry = padded (width_of entry.0) (cell_text entry.1)

-- entries at their widths with two spaces between them, and a line feed
unfoldable pub formatted_line : List (Field × Cell) → List ℕ
formatted_line entries = joined (codes "  ") (map formatted_text entries) ++ codes "\n"

-- entries with commas between them, and a line feed
unfoldable pub csv_line : List (Field × Cell) → List ℕ
csv_line entries = joined (codes ",") (map (λ e. cell_text e.1) entries) ++ codes "\n"
