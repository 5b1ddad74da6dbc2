-- Fields of records: which of them are read, where each one stands, and the number in it.
use Rattle.std.specs.Prelude.{ℕ, ◌+◌, ◌==◌, ◌&&◌, ◌||◌, Bool, List, [], ◌∷◌, Option, Some, None, option_map, if◌then◌else◌, not, is_some, take, drop, slice_index}
use Rattle.acct_types.specs.Numbers.{number_at}
use Rattle.flow_templates.specs.declared.template.FieldSpec.{FieldSpec}
use Rattle.flow_templates.specs.declared.template.Template.{Template}
use Rattle.flow_templates.specs.Elements.{addresses_v4, addresses_v6, ipfix_numbers, is_among, macs, numbers}
use Rattle.flow_sets.specs.declared.fields.Span.{Span}

-- the elements that mean something in a version
abbrev pub is_read : ℕ → ℕ → Bool
is_read version element =
    if is_among ipfix_numbers element then version == 10
    else is_among numbers element || is_among addresses_v4 element || is_among addresses_v6 element || is_among macs element

-- A field means something: its element is one that is read, and isn't an enterprise's.
abbrev pub is_known : ℕ → FieldSpec → Bool
is_known version field = not (is_some field.enterprise) && is_read version field.element

abbrev pub has_element : ℕ → ℕ → FieldSpec → Bool
has_element version element field = is_known version field && field.element == element

-- the width 65535 of IPFIX says that each record tells the field's own
abbrev pub is_variable : ℕ → FieldSpec → Bool
is_variable version field = version == 10 && field.width == 65535

-- A field of variable width begins with its length: one octet below 255, or 255 and two octets (RFC 7011, 7).
abbrev pub length_octets : ℕ → FieldSpec → List ℕ → ℕ → ℕ
length_octets version field octets place =
    if is_variable version field then (if slice_index octets place == 255 then 3 else 1) else 0

abbrev pub width_at : ℕ → FieldSpec → List ℕ → ℕ → ℕ
width_at version field octets place =
    if is_variable version field then (if slice_index octets place == 255 then number_at octets (place + 1) 2 else slice_index octets place)
    else field.width

-- the octets of a field's content
abbrev pub span_of : ℕ → FieldSpec → List ℕ → ℕ → Span
span_of version field octets place = record {
  place = place + length_octets version field octets place;
  width = width_at version field octets place;
}

-- where a field ends that begins at this place
abbrev pub end_of : ℕ → FieldSpec → List ℕ → ℕ → ℕ
end_of version field octets place = place + length_octets version field octets place + width_at version field octets place

-- where fields end, one behind another, of which the first begins at this place
abbrev pub end_of_all : ℕ → List FieldSpec → List ℕ → ℕ → ℕ
end_of_all version [] octets place = place
end_of_all version (field ∷ fields) octets place = end_of_all version fields octets (end_of version field octets place)

-- how many octets the record at the front has
abbrev pub record_length : ℕ → Template → List ℕ → ℕ
record_length version template octets = end_of_all version template.fields octets 0

-- the first field with an element among fields of which the first begins at this place
abbrev pub span_in : ℕ → ℕ → List FieldSpec → List ℕ → ℕ → Option Span
span_in version element [] octets place = None
span_in version element (field ∷ fields) octets place =
    if has_element version element field then Some (span_of version field octets place)
    else span_in version element fields octets (end_of version field octets place)

-- in version 9 the fields of the scope are skipped by their place, whatever their elements
abbrev pub skipped : ℕ → Template → ℕ
skipped version template = if version == 9 then template.scope_fields else 0

-- where an element stands in the record at the front
abbrev pub span_at : ℕ → Template → List ℕ → ℕ → Option Span
span_at version template octets element =
    span_in version element (drop (skipped version template) template.fields) octets
    (end_of_all version (take (skipped version template) template.fields) octets 0)

-- the number that the record at the front has under an element
abbrev pub number_in : ℕ → Template → List ℕ → ℕ → Option ℕ
number_in version template octets element =
    option_map (λ span. number_at octets span.place span.width) (span_at version template octets element)
