-- Parameters and capabilities (RFC 4271, 4.2, and RFC 5492, 4) alike: kind (1 octet), length of the value (1), value.
use Rattle.std.specs.Prelude.{ℕ, ◌+◌, Bool, nat_lt, List, length, drop, slice_index}
use Rattle.bgp_msg.specs.Pieces.{pieces}

unfoldable pub item_size : List ℕ → ℕ
item_size octets = 2 + slice_index octets 1

abbrev pub item_kind : List ℕ → ℕ
item_kind item = slice_index item 0

abbrev pub item_value : List ℕ → List ℕ
item_value item = drop 2 item

abbrev pub is_item_cut : List ℕ → Bool
is_item_cut item = nat_lt (length item) (item_size item)

abbrev pub items : List ℕ → List (List ℕ)
items octets = pieces item_size octets
