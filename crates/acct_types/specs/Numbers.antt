-- Big-endian numbers.
use Rattle.std.specs.Prelude.{ℕ, List, drop}
use Rattle.byteorder.specs.Endian.{big_number}

-- the number in `width` octets from this place on
unfoldable pub number_at : List ℕ → ℕ → ℕ → ℕ
number_at octets place width = big_number width (drop place octets)
