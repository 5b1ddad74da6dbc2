-- Labels of records.
use Rattle.std.specs.Prelude.{ℕ, ◌==◌, ◌&&◌, Bool, List, length, nat_lt, not}
use Rattle.std.specs.List.{list_all}
use Rattle.acct_types.specs.Cells.{is_plain}

-- a printable character but space, comma, quote, backslash and `=`
abbrev pub is_label_character : ℕ → Bool
is_label_character c = is_plain c && not (c == 61)

-- 1 to 64 such characters
unfoldable pub is_label : List ℕ → Bool
is_label words = nat_lt 0 (length words) && (nat_lt (length words) 65 && list_all is_label_character words)
