-- How long records are, and what their fields have.
use Rattle.std.proofs.Common.{◌≡◌, ◌≤◌, ◌+◌, ◌∙◌, ℕ, zero, suc, Bool, true, false, List, [], ◌∷◌, Option, Some, length, take, drop, refl, sym, ap, subst, arith}
use Rattle.std.specs.Prelude.{◌==◌, ◌||◌, ◌&&◌, nat_le, not, is_some, if◌then◌else◌, IfSome, slice_index}
use Rattle.std.specs.List.{list_all}
use Rattle.std.proofs.lemmas.Bool.{and_parts, eqb-true, leb-true}
use Rattle.std.proofs.lemmas.List.Sums.{sum_by-cons}
use Rattle.acct_types.specs.Numbers.{number_at}
use Rattle.flow_templates.specs.declared.template.FieldSpec.{FieldSpec}
use Rattle.flow_templates.specs.declared.template.Template.{Template}
use Rattle.flow_templates.specs.Elements.{addresses_v4, addresses_v6, ipfix_numbers, is_allowed, is_among, is_number_width, is_width, macs, numbers}
use Rattle.flow_templates.specs.Templates.{is_accepted, judged_fields, least_length, least_width}
use Rattle.flow_sets.specs.declared.fields.Span.{Span}
use Rattle.flow_sets.specs.declared.layout.Layout.{Layout}
use Rattle.flow_sets.specs.Fields.{end_of, end_of_all, has_element, is_known, is_read, is_variable, record_length, skipped, span_at, span_in, span_of, width_at}
use Rattle.flow_sets.specs.Layout.{IsLayout, LaysOut, Serves, is_fixed}
use Rattle.flow_sets.proofs.FieldLemmas.{ends_behind}
use Rattle.flow_sets.proofs.LayoutLemmas.{ends_in_parts}
use Rattle.flow_sets.proofs.RecordLemmas.{number_width}

-- ---- a field has its fewest octets at least

least_field : (version : ℕ) (field : FieldSpec) (octets : List ℕ) (place : ℕ) → place + least_width version field ≤ end_of version field octets place
least_field version field octets place = by (is_variable version field) (slice_index octets place == 255)
  where
    by : (v l : Bool) → place + (if v then 1 else field.width) ≤ place + (if v then (if l then 3 else 1) else 0)
        + (if v then (if l then number_at octets (place + 1) 2 else slice_index octets place) else field.width)
    by true true = omega arith
    by true false = omega arith
    by false l = omega arith

pub least_record : (version : ℕ) (fields : List FieldSpec) (octets : List ℕ) (place : ℕ) → place + least_length version fields ≤ end_of_all version fields octets place
least_record version [] octets place = omega arith
least_record version (field ∷ fields) octets place =
    let one = least_field version field octets place in
    let rest = least_record version fields octets (end_of version field octets place) in
    let sum : least_length version (field ∷ fields) ≡ least_width version field + least_length version fields = sum_by-cons (least_width version) field fields in
    let end : end_of_all version (field ∷ fields) octets place ≡ end_of_all version fields octets (end_of version field octets place) = refl in
    omega (arith, one, rest, sum, end)

-- ---- where no width is variable

abbrev pub AllFixed : ℕ → List FieldSpec → Type 0
AllFixed version fields = list_all (λ (field : FieldSpec). not (is_variable version field)) fields ≡ true

pub fixed_end : (version : ℕ) (field : FieldSpec) (octets : List ℕ) (place : ℕ) → not (is_variable version field) ≡ true → end_of version field octets place ≡ place + least_width version field
fixed_end version field octets place h = by (is_variable version field) (slice_index octets place == 255) h
  where
    by : (v l : Bool) → not v ≡ true → place + (if v then (if l then 3 else 1) else 0)
        + (if v then (if l then number_at octets (place + 1) 2 else slice_index octets place) else field.width) ≡ place + (if v then 1 else field.width)
    by true l h = cc h
    by false l h = omega arith

abbrev pub plain_span : ℕ → ℕ → Span
plain_span place width = record { place = place; width = width }

pub fixed_span : (version : ℕ) (field : FieldSpec) (octets : List ℕ) (place : ℕ) → not (is_variable version field) ≡ true → span_of version field octets place ≡ plain_span place field.width
fixed_span version field octets place h = by (is_variable version field) (slice_index octets place == 255) h
  where
    by : (v l : Bool) → not v ≡ true
        → ◌≡◌ {A = Span} (plain_span (place + (if v then (if l then 3 else 1) else 0)) (if v then (if l then number_at octets (place + 1) 2 else slice_index octets place) else field.width))
        (plain_span place field.width)
    by true l h = cc h
    by false l h = let at : place + 0 ≡ place = omega arith in ap (λ (n : ℕ). plain_span n field.width) at

pub fixed_ends : (version : ℕ) (fields : List FieldSpec) (octets : List ℕ) (place : ℕ) → AllFixed version fields → end_of_all version fields octets place ≡ place + least_length version fields
fixed_ends version [] octets place h = omega arith
fixed_ends version (field ∷ fields) octets place h =
    let parts = and_parts (not (is_variable version field)) (list_all (λ (field : FieldSpec). not (is_variable version field)) fields) h in
    let one = fixed_end version field octets place parts.0 in
    let rest = fixed_ends version fields octets (end_of version field octets place) parts.1 in
    let sum : least_length version (field ∷ fields) ≡ least_width version field + least_length version fields = sum_by-cons (least_width version) field fields in
    let end : end_of_all version (field ∷ fields) octets place ≡ end_of_all version fields octets (end_of version field octets place) = refl in
    omega (arith, one, rest, sum, end)

pub fixed_spans : (version element : ℕ) (fields : List FieldSpec) (one two : List ℕ) (place : ℕ) → AllFixed version fields
    → span_in version element fields one place ≡ span_in version element fields two place
fixed_spans version element [] one two place h = refl
fixed_spans version element (field ∷ fields) one two place h =
    let parts = and_parts (not (is_variable version field)) (list_all (λ (field : FieldSpec). not (is_variable version field)) fields) h in
    let rest = fixed_spans version element fields one two (end_of version field two place) parts.1 in
    rw (fixed_span version field one place parts.0, fixed_span version field two place parts.0)
    (rw (fixed_end version field one place parts.0, sym (fixed_end version field two place parts.0), rest) refl)

taken_fixed : (version count : ℕ) (fields : List FieldSpec) → AllFixed version fields → AllFixed version (take count fields)
taken_fixed version zero fields h = refl
taken_fixed version (suc count) [] h = refl
taken_fixed version (suc count) (field ∷ fields) h =
    let parts = and_parts (not (is_variable version field)) (list_all (λ (field : FieldSpec). not (is_variable version field)) fields) h in
    rw (parts.0, taken_fixed version count fields parts.1) refl

left_fixed : (version count : ℕ) (fields : List FieldSpec) → AllFixed version fields → AllFixed version (drop count fields)
left_fixed version zero fields h = h
left_fixed version (suc count) [] h = refl
left_fixed version (suc count) (field ∷ fields) h =
    left_fixed version count fields (and_parts (not (is_variable version field)) (list_all (λ (field : FieldSpec). not (is_variable version field)) fields) h).1

pub fixed_layout : (version element : ℕ) (template : Template) (one two : List ℕ) → is_fixed version template ≡ true → span_at version template one element ≡ span_at version template two element
fixed_layout version element template one two h =
    let n = skipped version template in
    let scope = taken_fixed version n template.fields h in
    let begins = fixed_ends version (take n template.fields) one 0 scope ∙ sym (fixed_ends version (take n template.fields) two 0 scope) in
    ap (span_in version element (drop n template.fields) one) begins
    ∙ fixed_spans version element (drop n template.fields) one two (end_of_all version (take n template.fields) two 0) (left_fixed version n template.fields h)

-- ---- what fields with elements that are read have

read_width : (version element width : ℕ) → is_read version element ≡ true → is_width version element width ≡ true → (is_width 10 element width ≡ true) × (width ≤ 16)
read_width version element width read is =
    by (is_among numbers element) (is_among ipfix_numbers element) (is_among addresses_v4 element) (is_among addresses_v6 element) (is_among macs element) (version == 10) read is
  where
    at_most : (wide : ℕ) → wide ≤ 16 → (width == wide) ≡ true → width ≤ 16
    at_most wide most h = let same = eqb-true width wide h in omega (arith, same, most)

    by : (n i a b m v : Bool) → (if i then v else n || a || b || m) ≡ true
        → (if n then is_number_width width else (if i then not v || is_number_width width else (if a then width == 4 else (if b then width == 16 else (if m then width == 6 else true))))) ≡ true
        → ((if n then is_number_width width else (if i then is_number_width width else (if a then width == 4 else (if b then width == 16 else (if m then width == 6 else true))))) ≡ true)
        × (width ≤ 16)
    by true i a b m v read is = let eight = (number_width width is).1 in (is, omega (arith, eight))
    by false true a b m true read is = let eight = (number_width width is).1 in (is, omega (arith, eight))
    by false true a b m false read is = cc read
    by false false true b m v read is = (is, at_most 4 (omega arith) is)
    by false false false true m v read is = (is, at_most 16 (omega arith) is)
    by false false false false true v read is = (is, at_most 6 (omega arith) is)
    by false false false false false v read is = cc read

allowed_width : (enterprise read width : Bool) → (not enterprise && read) ≡ true → (enterprise || width) ≡ true → (read ≡ true) × (width ≡ true)
allowed_width true read width known allowed = cc known
allowed_width false read width known allowed = (known, allowed)

-- a field that is read has no variable width
known_width : (version : ℕ) (field : FieldSpec) (octets : List ℕ) (place : ℕ) → is_known version field ≡ true → is_allowed version field ≡ true
    → is_width 10 field.element (width_at version field octets place) ≡ true
known_width version field octets place known allowed =
    let parts = allowed_width (is_some field.enterprise) (is_read version field.element) (is_width version field.element field.width) known allowed in
    let width = read_width version field.element field.width parts.0 parts.1 in
    by (version == 10) (field.width == 65535) refl width
  where
    by : (ten wide : Bool) → (field.width == 65535) ≡ wide → (is_width 10 field.element field.width ≡ true) × (field.width ≤ 16)
        → is_width 10 field.element (if ten && wide then (if slice_index octets place == 255 then number_at octets (place + 1) 2 else slice_index octets place) else field.width) ≡ true
    by true true e width = let same = eqb-true field.width 65535 e in absurd (omega (arith, same, width.1))
    by true false e width = width.0
    by false wide e width = width.0

-- what a record has under an element lies within it
pub span_fits : (version element total : ℕ) (fields : List FieldSpec) (octets : List ℕ) (place : ℕ) → list_all (is_allowed version) fields ≡ true
    → end_of_all version fields octets place ≤ total
    → IfSome (span_in version element fields octets place) (λ span. (span.place + span.width ≤ total) × (is_width 10 element span.width ≡ true))
span_fits version element total [] octets place allowed within = tt
span_fits version element total (field ∷ fields) octets place allowed within =
    let parts = and_parts (is_allowed version field) (list_all (is_allowed version) fields) allowed in
    let more = ends_behind version fields octets (end_of version field octets place) in
    by (has_element version element field) refl parts.0 (omega (arith, more, within)) (span_fits version element total fields octets (end_of version field octets place) parts.1 within)
  where
    by : (b : Bool) → has_element version element field ≡ b → is_allowed version field ≡ true → end_of version field octets place ≤ total
        → IfSome (span_in version element fields octets (end_of version field octets place)) (λ span. (span.place + span.width ≤ total) × (is_width 10 element span.width ≡ true))
        → IfSome (if b then Some (span_of version field octets place) else span_in version element fields octets (end_of version field octets place))
        (λ span. (span.place + span.width ≤ total) × (is_width 10 element span.width ≡ true))
    by true e allowed within rest =
        let has = and_parts (is_known version field) (field.element == element) e in
        (within, subst (λ (other : ℕ). is_width 10 other (width_at version field octets place) ≡ true) (eqb-true field.element element has.1) (known_width version field octets place has.0 allowed))
    by false e allowed within rest = rest

-- ---- an accepted template

pub record IsAccepted (version : ℕ) (template : Template) : Type 0 where
  pub allowed : list_all (is_allowed version) (drop (skipped version template) template.fields) ≡ true
  pub some : 1 ≤ least_length version template.fields

pub accepted : (version : ℕ) (template : Template) → is_accepted version template ≡ true → IsAccepted version template
accepted version template h =
    let some = and_parts _ (nat_le 1 (least_length version template.fields)) h in
    let allowed = and_parts _ (list_all (is_allowed version) (judged_fields version template.scope_fields template.fields)) some.0 in
    record {
      allowed = by (version == 9) allowed.1;
      some = leb-true 1 (least_length version template.fields) some.1;
    }
  where
    by : (b : Bool) → list_all (is_allowed version) (if b then drop template.scope_fields template.fields else template.fields) ≡ true
        → list_all (is_allowed version) (drop (if b then template.scope_fields else 0) template.fields) ≡ true
    by true h = h
    by false h = h

-- ---- the layout of the record at the front

pub is_layout : (version : ℕ) (template : Template) (octets : List ℕ) (layout : Layout) → is_accepted version template ≡ true
    → layout.used ≡ record_length version template octets → layout.used ≤ length octets → LaysOut version template octets layout.spans
    → IsLayout version template octets layout
is_layout version template octets layout ok used within spans =
    let good = accepted version template ok in
    let least = least_record version template.fields octets 0 in
    let whole = ends_in_parts version (skipped version template) template.fields octets 0 in
    record {
      spans = spans;
      used = used;
      within = within;
      some = omega (arith, least, used, good.some);
      fits = λ element.
          subst (λ (span : Option Span). IfSome span (λ span. (span.place + span.width ≤ length octets) × (is_width 10 element span.width ≡ true))) (sym (spans element))
          (span_fits version element (length octets) (drop (skipped version template) template.fields) octets
          (end_of_all version (take (skipped version template) template.fields) octets 0) good.allowed (omega (arith, whole, used, within)));
    }

-- where all records have one layout, it serves for each
pub serves : (version : ℕ) (template : Template) (fixed : Bool) (octets : List ℕ) (layout : Layout) → is_accepted version template ≡ true
    → fixed ≡ is_fixed version template → layout.used ≡ record_length version template octets → LaysOut version template octets layout.spans
    → Serves version template fixed layout
serves version template fixed octets layout ok same used spans one some other least =
    let all = sym same ∙ one in
    let here = fixed_ends version template.fields octets 0 all in
    let there = fixed_ends version template.fields other 0 all in
    is_layout version template other layout ok (used ∙ here ∙ sym there) (omega (arith, used, here, least))
    (λ element. spans element ∙ fixed_layout version element template octets other all)
