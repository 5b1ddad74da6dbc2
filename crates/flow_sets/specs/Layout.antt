-- The table of a record's layout, which has under each element where it stands.
use Rattle.std.specs.Prelude.{ℕ, ◌≡◌, ◌<◌, ◌+◌, ◌≤◌, ◌%◌, ◌||◌, Bool, true, List, Option, None, length, get_or, IfSome, not, option_map, if◌then◌else◌}
use Rattle.flow_templates.specs.declared.template.Template.{Template}
use Rattle.flow_templates.specs.Templates.{least_length}
use Rattle.flow_templates.specs.Elements.{ipfix_numbers, is_among, is_width, macs, numbers}
use Rattle.acct_types.specs.Numbers.{number_at}
use Rattle.std.specs.List.{list_all}
use Rattle.flow_sets.specs.declared.fields.Span.{Span}
use Rattle.flow_sets.specs.declared.layout.Layout.{Layout}
use Rattle.flow_sets.specs.Fields.{is_read, is_variable, record_length, span_at}

-- elements that are read have slots of their own
abbrev pub slot : ℕ → ℕ
slot element = element % 65

abbrev pub listed : List (Option Span) → ℕ → Option Span
listed spans element = if is_read 10 element then get_or spans (slot element) None else None

-- the table is that of the record at the front
abbrev pub LaysOut : ℕ → Template → List ℕ → List (Option Span) → Type 0
LaysOut version template octets spans = (element : ℕ) → listed spans element ≡ span_at version template octets element

-- what the table has lies within so many octets, and has widths that are allowed
abbrev pub FitsWithin : ℕ → List (Option Span) → Type 0
FitsWithin octets spans = (element : ℕ)
    → IfSome (listed spans element) (λ span. (span.place + span.width ≤ octets) × (is_width 10 element span.width ≡ true))

-- the numbers at these places of a record
abbrev pub numbers_by : List (Option Span) → List ℕ → ℕ → Option ℕ
numbers_by spans octets element = option_map (λ span. number_at octets span.place span.width) (listed spans element)

-- elements of one to eight octets
abbrev pub is_short : ℕ → Bool
is_short element = is_among numbers element || is_among ipfix_numbers element || is_among macs element

-- the layout is that of the record at the front, which is whole
pub record IsLayout (version : ℕ) (template : Template) (octets : List ℕ) (layout : Layout) : Type 0 where
  pub spans : LaysOut version template octets layout.spans
  pub used : layout.used ≡ record_length version template octets
  pub within : layout.used ≤ length octets
  pub some : 1 ≤ layout.used
  pub fits : FitsWithin (length octets) layout.spans

-- all records of the template have one layout
abbrev pub is_fixed : ℕ → Template → Bool
is_fixed version template = list_all (λ field. not (is_variable version field)) template.fields

-- a layout that was made serves for each record, if all have the same
abbrev pub Serves : ℕ → Template → Bool → Layout → Type 0
Serves version template fixed layout = fixed ≡ true → 0 < layout.used
    → (octets : List ℕ) → least_length version template.fields ≤ length octets → IsLayout version template octets layout
