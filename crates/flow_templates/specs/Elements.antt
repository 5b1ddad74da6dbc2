-- The elements that are read, with the versions in which they are and the widths that they may have. Any other element is skipped, so
-- any width will do.
use Rattle.std.specs.Prelude.{ℕ, ◌==◌, ◌&&◌, ◌||◌, Bool, true, nat_le, List, [], ◌∷◌, if◌then◌else◌, not, is_some}
use Rattle.std.specs.List.{list_any}
use Rattle.flow_templates.specs.declared.template.FieldSpec.{FieldSpec}

abbrev pub is_among : List ℕ → ℕ → Bool
is_among xs x = list_any (λ y. x == y) xs

-- numbers of one to eight octets: bytes (1, 23), packets (2, 24), protocol (4), type of service (5), ports (7, 11), masks (9, 13,
-- 29, 30), interfaces (10, 14), systems (16, 17), sampling (34, 48, 50) and VLAN (58)
abbrev pub numbers : List ℕ
numbers = 1 ∷ 2 ∷ 4 ∷ 5 ∷ 7 ∷ 9 ∷ 10 ∷ 11 ∷ 13 ∷ 14 ∷ 16 ∷ 17 ∷ 23 ∷ 24 ∷ 29 ∷ 30 ∷ 34 ∷ 48 ∷ 50 ∷ 58 ∷ []

-- numbers of one to eight octets in IPFIX alone: totals (85, 86) and selectors (302, 305, 306)
abbrev pub ipfix_numbers : List ℕ
ipfix_numbers = 85 ∷ 86 ∷ 302 ∷ 305 ∷ 306 ∷ []

-- IPv4 addresses: source, destination, BGP next hop
abbrev pub addresses_v4 : List ℕ
addresses_v4 = 8 ∷ 12 ∷ 18 ∷ []

-- IPv6 addresses: source, destination, BGP next hop
abbrev pub addresses_v6 : List ℕ
addresses_v6 = 27 ∷ 28 ∷ 63 ∷ []

-- source and destination MAC addresses
abbrev pub macs : List ℕ
macs = 56 ∷ 80 ∷ []

abbrev pub is_number_width : ℕ → Bool
is_number_width width = nat_le 1 width && nat_le width 8

-- an element may have this width
abbrev pub is_width : ℕ → ℕ → ℕ → Bool
is_width version element width =
    if is_among numbers element then is_number_width width
    else (if is_among ipfix_numbers element then not (version == 10) || is_number_width width
    else (if is_among addresses_v4 element then width == 4
    else (if is_among addresses_v6 element then width == 16
    else (if is_among macs element then width == 6
    else true))))

-- the element of an enterprise is skipped
abbrev pub is_allowed : ℕ → FieldSpec → Bool
is_allowed version field = is_some field.enterprise || is_width version field.element field.width
