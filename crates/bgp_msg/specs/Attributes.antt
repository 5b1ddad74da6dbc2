-- Path attributes (RFC 4271, 4.3): flags (1 octet), type (1), length (1, or 2 where the flags say so), value.
use Rattle.std.specs.Prelude.{ℕ, ◌≡◌, ◌+◌, ◌/◌, ◌%◌, ◌==◌, ◌||◌, Bool, false, nat_lt, nat_le, List, [], ◌∷◌, length, drop, slice_index, Option, Some, None, if◌then◌else◌, not}
use Rattle.acct_types.specs.Numbers.{number_at}
use Rattle.bgp_msg.specs.Families.{is_reach, is_unreach}
use Rattle.bgp_msg.specs.Frames.{fault}
use Rattle.bgp_msg.specs.Paths.{is_path}
use Rattle.bgp_msg.specs.declared.attributes.Form.{Form}
use Rattle.bgp_msg.specs.declared.attributes.Form.TheVariants as form
use Rattle.bgp_msg.specs.declared.attributes.Rule.{Rule}
use Rattle.bgp_msg.specs.declared.message.Agreed.{Agreed}
use Rattle.bgp_msg.specs.declared.message.BgpFault.{BgpFault}

-- The flags, from the highest bit: optional, transitive, partial, extended length. The first two together make 1 where an attribute is
-- well-known (and transitive), 2 where it is optional, and 3 where it is optional and transitive.
abbrev pub class_of : List ℕ → ℕ
class_of octets = slice_index octets 0 / 64

abbrev pub is_extended : List ℕ → Bool
is_extended octets = nat_le 16 (slice_index octets 0 % 32)

abbrev pub attribute_type : List ℕ → ℕ
attribute_type octets = slice_index octets 1

unfoldable pub head_size : List ℕ → ℕ
head_size octets = if is_extended octets then 4 else 3

abbrev pub value_size : List ℕ → ℕ
value_size octets = if is_extended octets then number_at octets 2 2 else slice_index octets 2

unfoldable pub attribute_size : List ℕ → ℕ
attribute_size octets = if nat_lt (length octets) (head_size octets) then head_size octets else head_size octets + value_size octets

abbrev pub is_cut : List ℕ → Bool
is_cut attribute = nat_lt (length attribute) (attribute_size attribute)

unfoldable pub value_of : List ℕ → List ℕ
value_of attribute = drop (head_size attribute) attribute

abbrev pub rule : ℕ → Form → Option Rule
rule class form = Some (record { class = class; form = form })

-- The attributes that are known: ORIGIN, AS_PATH, NEXT_HOP, MULTI_EXIT_DISC, LOCAL_PREF, ATOMIC_AGGREGATE (RFC 4271, 5.1), COMMUNITIES (RFC
-- 1997), MP_REACH_NLRI, MP_UNREACH_NLRI (RFC 4760) and AS4_PATH (RFC 6793), each with its class and the form of its value.
unfoldable pub rule_of : ℕ → Option Rule
rule_of type =
    if type == 1 then rule 1 form.Origin
    else (if type == 2 then rule 1 form.Path
    else (if type == 3 then rule 1 (form.Exactly 4)
    else (if type == 4 then rule 2 (form.Exactly 4)
    else (if type == 5 then rule 1 (form.Exactly 4)
    else (if type == 6 then rule 1 (form.Exactly 0)
    else (if type == 8 then rule 3 form.Numbers
    else (if type == 14 then rule 2 form.Reach
    else (if type == 15 then rule 2 form.Unreach
    else (if type == 17 then rule 3 form.Free
    else None)))))))))

abbrev pub unless : Bool → ℕ → Option ℕ
unless test subcode = if test then None else Some subcode

-- The subcode that refuses a value for its form (RFC 4271, 6.3). The origin is 0 to 2. AS4_PATH may have any form: a malformed one is passed
-- over.
unfoldable pub form_fault : Agreed → Form → List ℕ → Option ℕ
form_fault agreed form.Origin value = if not (length value == 1) then Some 5 else unless (nat_le (slice_index value 0) 2) 6
form_fault agreed form.Path value = unless (is_path agreed.four_octets value) 11
form_fault agreed (form.Exactly size) value = unless (length value == size) 5
form_fault agreed form.Numbers value = unless (length value % 4 == 0) 5
form_fault agreed form.Reach value = unless (is_reach value) 9
form_fault agreed form.Unreach value = unless (is_unreach value) 9
form_fault agreed form.Free value = None

-- one whose type isn't known must be optional, and is passed over
abbrev pub rule_fault : Agreed → List ℕ → Option Rule → Option ℕ
rule_fault agreed attribute None = unless (nat_le 2 (class_of attribute)) 2
rule_fault agreed attribute (Some rule) = if not (class_of attribute == rule.class) then Some 4 else form_fault agreed rule.form (value_of attribute)

abbrev pub is_among : ℕ → List ℕ → Bool
is_among type [] = false
is_among type (other ∷ others) = type == other || is_among type others

-- The subcode that refuses an attribute, which stands behind those of these types.
unfoldable pub attribute_fault : Agreed → List ℕ → List ℕ → Option ℕ
attribute_fault agreed before attribute =
    if is_cut attribute || is_among (attribute_type attribute) before then Some 1
    else rule_fault agreed attribute (rule_of (attribute_type attribute))

abbrev pub or_else : ℕ → Option ℕ → Option BgpFault → Option BgpFault
or_else place None others = others
or_else place (Some subcode) others = Some (fault 3 subcode place)

-- what is wrong first with attributes, of which the first stands at this place
abbrev pub attributes_fault : Agreed → List ℕ → ℕ → List (List ℕ) → Option BgpFault
attributes_fault agreed before place [] = None
attributes_fault agreed before place (attribute ∷ others) =
    or_else place (attribute_fault agreed before attribute)
    (attributes_fault agreed (attribute_type attribute ∷ before) (place + length attribute) others)

-- the value of the attribute of this type
abbrev pub value_in : ℕ → List (List ℕ) → Option (List ℕ)
value_in type [] = None
value_in type (attribute ∷ others) = if attribute_type attribute == type then Some (value_of attribute) else value_in type others

-- each attribute has the form of its type
abbrev pub AreFormed : Agreed → List (List ℕ) → Type 0
AreFormed agreed attributes = (type : ℕ) (value : List ℕ) (rule : Rule) → value_in type attributes ≡ Some value → rule_of type ≡ Some rule → form_fault agreed rule.form value ≡ None
