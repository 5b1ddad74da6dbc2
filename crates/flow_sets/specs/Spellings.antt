-- Data records as an exporter writes them: a number in each field of the template, one behind another, in the field's width (RFC 3954, 5.3
-- and 6.2, and RFC 7011, 3.4.3). No width is variable.
use Rattle.std.specs.Prelude.{ℕ, ◌≡◌, ◌<◌, ◌^◌, false, List, [], ◌∷◌, ◌++◌, length, drop, map, flat_map, Option, Some, None, Ok, if◌then◌else◌}
use Rattle.std.specs.List.{AllByRecursion}
use Rattle.byteorder.specs.Endian.{big_bytes}
use Rattle.flow_templates.specs.declared.template.Domain.{Domain}
use Rattle.flow_templates.specs.declared.template.FieldSpec.{FieldSpec}
use Rattle.flow_templates.specs.declared.template.Template.{Template}
use Rattle.flow_templates.specs.Decoding.{Said}
use Rattle.flow_templates.specs.Known.{Known}
use Rattle.flow_templates.specs.Templates.{least_length}
use Rattle.flow_sets.specs.Fields.{has_element, is_variable, number_in, record_length, skipped}
use Rattle.flow_sets.specs.Records.{data_said, record_said}
use Rattle.flow_sets.specs.Saying.{both, nothing_said}

-- a field, and the number that is written in it
pub record Value : Type 0 where
  pub field : FieldSpec
  pub number : ℕ

abbrev pub field_of : Value → FieldSpec
field_of value = value.field

abbrev pub value_spelling : Value → List ℕ
value_spelling value = big_bytes value.field.width value.number

abbrev pub record_spelling : List Value → List ℕ
record_spelling values = flat_map value_spelling values

-- the number has its field's width, which isn't variable
pub record FitsValue (version : ℕ) (value : Value) : Type 0 where
  pub fits : value.number < 256 ^ value.field.width
  pub fixed : is_variable version value.field ≡ false

-- the values of a record of this template
pub record FitsRecord (version : ℕ) (template : Template) (values : List Value) : Type 0 where
  pub fields : map field_of values ≡ template.fields
  pub each : AllByRecursion (FitsValue version) values

-- the number in the first field that has the element
abbrev pub first_under : ℕ → ℕ → List Value → Option ℕ
first_under version element [] = None
first_under version element (value ∷ values) = if has_element version element value.field then Some value.number else first_under version element values

-- the number that is written under an element: in version 9 not one of the scope
abbrev pub number_under : ℕ → Template → List Value → ℕ → Option ℕ
number_under version template values element = first_under version element (drop (skipped version template) values)

-- A written record, whatever follows, has its own octets.
abbrev pub ReadsLengths : Type 0
ReadsLengths = (version : ℕ) (template : Template) (values : List Value) (more : List ℕ) → FitsRecord version template values
    → record_length version template (record_spelling values ++ more) ≡ length (record_spelling values)

-- It has under each element the number that was written there.
abbrev pub ReadsNumbers : Type 0
ReadsNumbers = (version : ℕ) (template : Template) (values : List Value) (more : List ℕ) → FitsRecord version template values
    → (element : ℕ) → number_in version template (record_spelling values ++ more) element ≡ number_under version template values element

-- what records say of whose numbers are known, one behind another
abbrev pub records_said : Domain → Known → Template → List (List Value) → Said
records_said domain known template [] = nothing_said
records_said domain known template (values ∷ records) =
    both (record_said domain known template (number_under domain.version template values)) (records_said domain known template records)

-- Written records, and behind them fewer octets than a record has, say what their numbers say, in their order.
abbrev pub ReadsRecords : Type 0
ReadsRecords = (domain : Domain) (known : Known) (template : Template) (records : List (List Value)) (padding : List ℕ)
    → AllByRecursion (FitsRecord domain.version template) records → length padding < least_length domain.version template.fields
    → data_said domain known template (flat_map record_spelling records ++ padding) ≡ Ok (records_said domain known template records)
