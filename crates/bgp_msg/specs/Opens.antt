-- OPEN (RFC 4271, 4.2): version (1 octet), autonomous system (2), hold time (2), identifier (4), length of the parameters (1), parameters. A
-- parameter is type (1), length (1), value; those of type 2 are lists of capabilities (RFC 5492, 4), each of code (1), length (1), value.
use Rattle.std.specs.Prelude.{ℕ, ◌+◌, ◌==◌, ◌||◌, ◌&&◌, Bool, false, List, [], ◌∷◌, length, drop, slice_index, Option, Some, None, is_some, if◌then◌else◌, not}
use Rattle.std.specs.List.{list_all}
use Rattle.std.specs.Option.{option_or}
use Rattle.acct_types.specs.Numbers.{number_at}
use Rattle.bgp_msg.specs.AddPaths.{add_path_in}
use Rattle.bgp_msg.specs.Frames.{fault}
use Rattle.bgp_msg.specs.Items.{is_item_cut, item_kind, item_value, items}
use Rattle.bgp_msg.specs.Pieces.{last_of}
use Rattle.bgp_msg.specs.declared.families.Family.TheVariants.{V4, V6}
use Rattle.bgp_msg.specs.declared.message.BgpFault.{BgpFault}
use Rattle.bgp_msg.specs.declared.message.Hello.{Hello}

-- the capability of four-octet numbers (RFC 6793, 3), whose value is the autonomous system
abbrev pub is_wide : List ℕ → Bool
is_wide capability = item_kind capability == 65

abbrev pub number_of : List ℕ → ℕ
number_of capability = number_at capability 2 4

unfoldable pub is_capability : List ℕ → Bool
is_capability capability = not (is_item_cut capability) && (not (is_wide capability) || length capability == 6)

abbrev pub are_capabilities : List (List ℕ) → Bool
are_capabilities capabilities = list_all is_capability capabilities

unfoldable pub tells_some : List ℕ → Bool
tells_some capability = not (is_wide capability) || not (number_of capability == 0)

-- none has the autonomous system 0
abbrev pub tell_some : List (List ℕ) → Bool
tell_some capabilities = list_all tells_some capabilities

-- what is wrong with the parameter at this place
unfoldable pub parameter_fault : ℕ → List ℕ → Option BgpFault
parameter_fault place parameter =
    if is_item_cut parameter then Some (fault 2 0 place)
    else (if not (item_kind parameter == 2) then Some (fault 2 4 place)
    else (if not (are_capabilities (items (item_value parameter))) then Some (fault 2 0 place)
    else (if not (tell_some (items (item_value parameter))) then Some (fault 2 2 place)
    else None)))

-- what is wrong first with parameters, of which the first stands at this place
abbrev pub parameters_fault : ℕ → List (List ℕ) → Option BgpFault
parameters_fault place [] = None
parameters_fault place (parameter ∷ others) = option_or (parameter_fault place parameter) (parameters_fault (place + length parameter) others)

abbrev pub version_of : List ℕ → ℕ
version_of octets = slice_index octets 19

abbrev pub field_asn : List ℕ → ℕ
field_asn octets = number_at octets 20 2

abbrev pub hold_of : List ℕ → ℕ
hold_of octets = number_at octets 22 2

abbrev pub id_of : List ℕ → ℕ
id_of octets = number_at octets 24 4

abbrev pub parameters_of : List ℕ → List ℕ
parameters_of octets = drop 29 octets

-- what is wrong with an OPEN, first (RFC 4271, 6.2)
unfoldable pub open_fault : List ℕ → Option BgpFault
open_fault octets =
    if not (version_of octets == 4) then Some (fault 2 1 19)
    else (if field_asn octets == 0 then Some (fault 2 2 20)
    else (if hold_of octets == 1 || hold_of octets == 2 then Some (fault 2 6 22)
    else (if id_of octets == 0 then Some (fault 2 3 24)
    else (if not (length octets == 29 + slice_index octets 28) then Some (fault 2 0 28)
    else parameters_fault 29 (items (parameters_of octets))))))

-- the autonomous system of the last capability of four-octet numbers
abbrev pub told_by : List ℕ → Option ℕ
told_by capability = if is_wide capability then Some (number_of capability) else None

abbrev pub last_told : List (List ℕ) → Option ℕ
last_told capabilities = last_of told_by capabilities

abbrev pub told_in : List (List ℕ) → Option ℕ
told_in parameters = last_of (λ parameter. last_told (items (item_value parameter))) parameters

abbrev pub told : List ℕ → Option ℕ
told octets = told_in (items (parameters_of octets))

abbrev pub or_field : ℕ → Option ℕ → ℕ
or_field field None = field
or_field field (Some number) = number

-- what an OPEN says
unfoldable pub hello_of : List ℕ → Hello
hello_of octets = record {
  asn = or_field (field_asn octets) (told octets);
  hold = hold_of octets;
  id = id_of octets;
  four_octets = is_some (told octets);
  path_ids_v4 = false;
  path_ids_v6 = false;
  add_path_v4 = add_path_in V4 (items (parameters_of octets));
  add_path_v6 = add_path_in V6 (items (parameters_of octets));
}
