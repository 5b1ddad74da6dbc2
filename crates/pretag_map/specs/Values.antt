-- The values that members give.
use Rattle.std.specs.Prelude.{ℕ, Bool, List, Option, Some, None, option_map, option_and_then, is_some, find, if◌then◌else◌}
use Rattle.std.specs.Str.{bytes_eq}
use Rattle.acct_types.specs.AddrText.{address_of}
use Rattle.acct_types.specs.declared.addr.Addr.{Addr}
use Rattle.config_keys.specs.Lines.{Text}
use Rattle.config_keys.specs.Values.{number_within}
use Rattle.config_keys.specs.declared.table.Range.{Range}
use Rattle.pretag_map.specs.Labels.{is_label}
use Rattle.pretag_map.specs.Members.{Member}
use Rattle.pretag_map.specs.Networks.{Network, network_in}
use Rattle.pretag_map.specs.declared.keys.Kind.{Kind}
use Rattle.pretag_map.specs.declared.keys.Kind.TheVariants as kind

abbrev pub label_in : Text → Option Text
label_in text = if is_label text then Some text else None

-- whether a key of this kind takes the value
abbrev pub takes : Kind → Text → Bool
takes (kind.Number range) value = is_some (number_within range value)
takes kind.Network value = is_some (network_in value)
takes kind.Address value = is_some (address_of value)
takes kind.Label value = is_some (label_in value)

-- the value of a key, where it is there
abbrev pub value_of : List Member → Text → Option Text
value_of members key = option_map (λ member. member.value) (find (λ member. bytes_eq member.key key) members)

abbrev pub number_given : Range → List Member → Text → Option ℕ
number_given range members key = option_and_then (number_within range) (value_of members key)

abbrev pub network_given : List Member → Text → Option Network
network_given members key = option_and_then network_in (value_of members key)

abbrev pub address_given : List Member → Text → Option Addr
address_given members key = option_and_then address_of (value_of members key)

abbrev pub label_given : List Member → Text → Option Text
label_given members key = option_and_then label_in (value_of members key)
