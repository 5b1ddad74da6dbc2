-- UPDATE (RFC 4271, 4.3): length of the withdrawn prefixes (2 octets), withdrawn prefixes, length of the attributes (2), attributes, announced
-- prefixes up to the end.
use Rattle.std.specs.Prelude.{ℕ, ◌≡◌, ◌+◌, ◌/◌, ◌==◌, ◌||◌, ◌&&◌, Bool, true, false, nat_lt, List, [], ◌++◌, length, take, drop, slice_index, Option, Some, None, is_some, if◌then◌else◌, not}
use Rattle.std.specs.Option.{option_or}
use Rattle.acct_types.specs.Updates.{Named, Route, Said}
use Rattle.acct_types.specs.Numbers.{number_at}
use Rattle.acct_types.specs.declared.addr.Addr.TheVariants as address
use Rattle.acct_types.specs.declared.route.Hop.{Hop}
use Rattle.acct_types.specs.declared.route.RouteAttrs.{RouteAttrs}
use Rattle.bgp_msg.specs.Attributes.{attribute_size, attributes_fault, rule_of, value_in}
use Rattle.bgp_msg.specs.Families.{reach_hop, reached, unreached}
use Rattle.bgp_msg.specs.Frames.{fault}
use Rattle.bgp_msg.specs.Paths.{is_path, numbers_of, path_of, replaced}
use Rattle.bgp_msg.specs.Pieces.{pieces}
use Rattle.bgp_msg.specs.Prefixes.{bad_prefix, prefixes_in}
use Rattle.bgp_msg.specs.Routes.{routes}
use Rattle.bgp_msg.specs.declared.attributes.Form.TheVariants.{Exactly}
use Rattle.bgp_msg.specs.declared.attributes.Rule.{Rule}
use Rattle.bgp_msg.specs.declared.families.Family.TheVariants.{V4}
use Rattle.bgp_msg.specs.declared.message.Agreed.{Agreed}
use Rattle.bgp_msg.specs.declared.message.BgpFault.{BgpFault}

abbrev pub withdrawn_length : List ℕ → ℕ
withdrawn_length octets = number_at octets 19 2

abbrev pub withdrawn_octets : List ℕ → List ℕ
withdrawn_octets octets = take (withdrawn_length octets) (drop 21 octets)

-- the place of the attributes' length
abbrev pub length_place : List ℕ → ℕ
length_place octets = 21 + withdrawn_length octets

abbrev pub attributes_length : List ℕ → ℕ
attributes_length octets = number_at octets (length_place octets) 2

abbrev pub attributes_place : List ℕ → ℕ
attributes_place octets = 23 + withdrawn_length octets

abbrev pub attribute_octets : List ℕ → List ℕ
attribute_octets octets = take (attributes_length octets) (drop (attributes_place octets) octets)

abbrev pub attributes_of : List ℕ → List (List ℕ)
attributes_of octets = pieces attribute_size (attribute_octets octets)

abbrev pub announced_place : List ℕ → ℕ
announced_place octets = attributes_place octets + attributes_length octets

abbrev pub announced_octets : List ℕ → List ℕ
announced_octets octets = drop (announced_place octets) octets

abbrev pub prefix_fault : Option ℕ → Option BgpFault
prefix_fault None = None
prefix_fault (Some place) = Some (fault 3 10 place)

-- the prefixes that an attribute MP_REACH_NLRI announces
abbrev pub reached_by : Option (List ℕ) → List Named
reached_by None = []
reached_by (Some value) = reached value

-- Announced prefixes need ORIGIN and AS_PATH, and those outside MP_REACH_NLRI need NEXT_HOP besides.
unfoldable pub lacks : List (List ℕ) → Bool → Bool
lacks attributes behind =
    (behind || not (length (reached_by (value_in 14 attributes)) == 0)) && (not (is_some (value_in 1 attributes)) || not (is_some (value_in 2 attributes)))
    || behind && not (is_some (value_in 3 attributes))

abbrev pub lack_fault : Bool → Option BgpFault
lack_fault true = Some (fault 3 3 19)
lack_fault false = None

-- what is wrong with whole parts, first: withdrawn prefixes, one attribute after another, announced prefixes, and what those lack
unfoldable pub parts_fault : Agreed → List ℕ → ℕ → List ℕ → ℕ → List ℕ → Option BgpFault
parts_fault agreed withdrawn attributes_place attributes announced_place announced =
    option_or (prefix_fault (bad_prefix V4 21 withdrawn))
    (option_or (attributes_fault agreed [] attributes_place (pieces attribute_size attributes))
    (option_or (prefix_fault (bad_prefix V4 announced_place announced))
    (lack_fault (lacks (pieces attribute_size attributes) (not (length announced == 0))))))

-- a length that passes the end
unfoldable pub lengths_fault : List ℕ → Option BgpFault
lengths_fault octets =
    if nat_lt (length octets) (length_place octets) then Some (fault 3 1 19)
    else (if nat_lt (length octets) (attributes_place octets) || nat_lt (length octets) (announced_place octets) then Some (fault 3 1 (length_place octets))
    else None)

-- What is wrong with an UPDATE, first (RFC 4271, 6.3). Its two lengths are judged before its parts.
abbrev pub update_fault : Agreed → List ℕ → Option BgpFault
update_fault agreed octets =
    option_or (lengths_fault octets)
    (parts_fault agreed (withdrawn_octets octets) (attributes_place octets) (attribute_octets octets) (announced_place octets) (announced_octets octets))

-- ---- what it says

abbrev pub origin_in : Option (List ℕ) → ℕ
origin_in None = 0
origin_in (Some value) = slice_index value 0

abbrev pub number_in : Option (List ℕ) → Option ℕ
number_in None = None
number_in (Some value) = Some (number_at value 0 4)

-- attributes that are a number of four octets: NEXT_HOP, MULTI_EXIT_DISC and LOCAL_PREF
abbrev pub IsNumber : ℕ → Type 0
IsNumber type = (rule : Rule) × (rule_of type ≡ Some rule) × (rule.form ≡ Exactly 4)

abbrev pub communities_in : Option (List ℕ) → List ℕ
communities_in None = []
communities_in (Some value) = numbers_of 4 (length value / 4) value

abbrev pub path_in : Bool → Option (List ℕ) → List Hop
path_in wide None = []
path_in wide (Some value) = path_of wide value

-- A session without four-octet numbers has them in AS4_PATH (RFC 6793, 4.2.3). A malformed one is passed over (6).
abbrev pub merged : List Hop → Option (List ℕ) → List Hop
merged path None = path
merged path (Some value) = if is_path true value then replaced path (path_of true value) else path

abbrev pub whole_path : Agreed → List (List ℕ) → List Hop
whole_path agreed attributes = if agreed.four_octets then path_in true (value_in 2 attributes) else merged (path_in false (value_in 2 attributes)) (value_in 17 attributes)

unfoldable pub attrs_of : Agreed → List (List ℕ) → RouteAttrs
attrs_of agreed attributes = record {
  origin = origin_in (value_in 1 attributes);
  path = whole_path agreed attributes;
  med = number_in (value_in 4 attributes);
  local_pref = number_in (value_in 5 attributes);
  communities = communities_in (value_in 8 attributes);
}

-- the routes of the prefixes behind the attributes
abbrev pub routes_by : Option ℕ → List ℕ → List Route
routes_by None octets = []
routes_by (Some hop) octets = routes (address.V4 hop) (prefixes_in V4 octets)

abbrev pub routes_behind : Option (List ℕ) → List ℕ → List Route
routes_behind hop octets = routes_by (number_in hop) octets

abbrev pub routes_reached : Option (List ℕ) → List Route
routes_reached None = []
routes_reached (Some value) = routes (reach_hop value) (reached value)

abbrev pub names_unreached : Option (List ℕ) → List Named
names_unreached None = []
names_unreached (Some value) = unreached value

-- what an UPDATE says
unfoldable pub said : Agreed → List ℕ → Said
said agreed octets = record {
  withdrawn = prefixes_in V4 (withdrawn_octets octets) ++ names_unreached (value_in 15 (attributes_of octets));
  announced = routes_behind (value_in 3 (attributes_of octets)) (announced_octets octets) ++ routes_reached (value_in 14 (attributes_of octets));
  attrs = attrs_of agreed (attributes_of octets);
}
