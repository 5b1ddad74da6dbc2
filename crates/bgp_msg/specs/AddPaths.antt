-- The ADD-PATH capability (RFC 7911, 4): code 69, whose value is tuples of family (2 octets), subfamily (1), and what the speaker does with
-- several paths to a prefix (1): it receives them (1), sends them (2), or both (3).
use Rattle.std.specs.Prelude.{ℕ, ◌==◌, ◌&&◌, Bool, nat_le, List, length, slice_index, Option, Some, None, if◌then◌else◌}
use Rattle.std.specs.List.{list_all}
use Rattle.acct_types.specs.Numbers.{number_at}
use Rattle.bgp_msg.specs.Items.{item_kind, item_value, items}
use Rattle.bgp_msg.specs.Pieces.{last_of, pieces}
use Rattle.bgp_msg.specs.declared.families.Family.{Family}
use Rattle.bgp_msg.specs.declared.families.Family.TheVariants.{V4, V6}
use Rattle.bgp_msg.specs.declared.message.AddPath.{AddPath}
use Rattle.bgp_msg.specs.declared.message.AddPath.TheVariants.{Receive, Send, Both}

abbrev pub family_number : Family → ℕ
family_number V4 = 1
family_number V6 = 2

abbrev pub tuple_size : List ℕ → ℕ
tuple_size octets = 4

abbrev pub does : ℕ → AddPath
does value = if value == 1 then Receive else (if value == 2 then Send else Both)

-- it isn't cut, and its value is known
unfoldable pub is_tuple : List ℕ → Bool
is_tuple tuple = length tuple == 4 && nat_le 1 (slice_index tuple 3) && nat_le (slice_index tuple 3) 3

-- what a tuple says of the unicast routes of a family
unfoldable pub said_by : Family → List ℕ → Option AddPath
said_by family tuple =
    if is_tuple tuple && number_at tuple 0 2 == family_number family && slice_index tuple 2 == 1 then Some (does (slice_index tuple 3))
    else None

abbrev pub tuples : List ℕ → List (List ℕ)
tuples capability = pieces tuple_size (item_value capability)

-- A capability with a tuple that is cut, or whose value isn't known, is passed over whole.
unfoldable pub said_of : Family → List ℕ → Option AddPath
said_of family capability =
    if item_kind capability == 69 && list_all is_tuple (tuples capability) then last_of (said_by family) (tuples capability)
    else None

-- what the last tuple of a family says that isn't passed over, of all capabilities of parameters
abbrev pub add_path_in : Family → List (List ℕ) → Option AddPath
add_path_in family parameters = last_of (λ parameter. last_of (said_of family) (items (item_value parameter))) parameters
