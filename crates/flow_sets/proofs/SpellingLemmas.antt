-- Written records are read back.
use Rattle.std.proofs.Common.{◌≡◌, ◌∙◌, ◌≤◌, ◌<◌, ◌+◌, ◌++◌, ◌∷◌, [], ℕ, zero, suc, Bool, true, false, cond, Option, Some, List, length, take, drop, refl, sym, ap, append_assoc, length-append, arith}
use Rattle.std.specs.Prelude.{flat_map, map, option_map, not, Ok}
use Rattle.std.specs.List.{AllByRecursion, list_all}
use Rattle.std.proofs.Math.Seq.{drop-append_seam}
use Rattle.std.proofs.lemmas.Bool.{and_from, not_from_false}
use Rattle.std.proofs.lemmas.List.Sums.{sum_by-cons}
use Rattle.byteorder.specs.Numbers.{length-bytes_high_first}
use Rattle.acct_types.specs.Numbers.{number_at}
use Rattle.flow_templates.specs.declared.template.Domain.{Domain}
use Rattle.flow_templates.specs.declared.template.FieldSpec.{FieldSpec}
use Rattle.flow_templates.specs.declared.template.Template.{Template}
use Rattle.flow_templates.specs.Known.{Known}
use Rattle.flow_templates.specs.Templates.{least_length, least_width}
use Rattle.flow_templates.proofs.SpellingLemmas.{number_written}
use Rattle.flow_sets.specs.declared.fields.Span.{Span}
use Rattle.flow_sets.specs.Fields.{end_of, end_of_all, has_element, is_variable, number_in, record_length, skipped, span_in, span_of}
use Rattle.flow_sets.specs.Records.{record_said, records_from}
use Rattle.flow_sets.specs.Saying.{behind}
use Rattle.flow_sets.specs.Spellings.{FitsRecord, FitsValue, ReadsLengths, ReadsNumbers, ReadsRecords, Value, field_of, first_under, number_under, record_spelling, records_said, value_spelling}
use Rattle.flow_sets.proofs.DataLemmas.{one_more, stops}
use Rattle.flow_sets.proofs.WidthLemmas.{AllFixed, fixed_end, fixed_ends, fixed_span}

-- ---- lengths

all_fixed : (version : ℕ) (values : List Value) → AllByRecursion (FitsValue version) values → AllFixed version (map field_of values)
all_fixed version [] each = refl
all_fixed version (value ∷ values) each =
    and_from (not (is_variable version value.field)) (list_all (λ (field : FieldSpec). not (is_variable version field)) (map field_of values))
    (not_from_false (is_variable version value.field) each.0.fixed) (all_fixed version values each.1)

own_width : (version : ℕ) (value : Value) → FitsValue version value → least_width version value.field ≡ length (value_spelling value)
own_width version value fits = ap (λ (b : Bool). cond b 1 value.field.width) fits.fixed ∙ sym (length-bytes_high_first value.field.width value.number)

own_length : (version : ℕ) (values : List Value) → AllByRecursion (FitsValue version) values → least_length version (map field_of values) ≡ length (record_spelling values)
own_length version [] each = refl
own_length version (value ∷ values) each =
    sum_by-cons (least_width version) value.field (map field_of values)
    ∙ (λ i. own_width version value each.0 i + own_length version values each.1 i)
    ∙ sym (length-append (value_spelling value) (record_spelling values))

least_is : (version : ℕ) (template : Template) (values : List Value) → FitsRecord version template values → least_length version template.fields ≡ length (record_spelling values)
least_is version template values fits = ap (least_length version) (sym fits.fields) ∙ own_length version values fits.each

pub reads_lengths : ReadsLengths
reads_lengths version template values more fits =
    let octets = record_spelling values ++ more in
    let end = ap (λ (fields : List FieldSpec). end_of_all version fields octets 0) (sym fits.fields) in
    let at = fixed_ends version (map field_of values) octets 0 (all_fixed version values fits.each) in
    omega (arith, end, at, own_length version values fits.each)

-- ---- numbers

abbrev number_of : List ℕ → Option Span → Option ℕ
number_of octets span = option_map (λ (span : Span). number_at octets span.place span.width) span

-- octets with the spelling of these values behind those before them
abbrev Holds : List ℕ → List ℕ → List Value → List ℕ → Type 0
Holds octets before values more = octets ≡ before ++ (record_spelling values ++ more)

front_value : (octets before : List ℕ) (value : Value) (values : List Value) (more : List ℕ) → Holds octets before (value ∷ values) more
    → octets ≡ before ++ (value_spelling value ++ (record_spelling values ++ more))
front_value octets before value values more is = is ∙ ap (λ (rest : List ℕ). before ++ rest) (append_assoc (value_spelling value) (record_spelling values) more)

past_value : (octets before : List ℕ) (value : Value) (values : List Value) (more : List ℕ) → Holds octets before (value ∷ values) more
    → Holds octets (before ++ value_spelling value) values more
past_value octets before value values more is =
    front_value octets before value values more is ∙ sym (append_assoc before (value_spelling value) (record_spelling values ++ more))

past_place : (version : ℕ) (octets before : List ℕ) (value : Value) (place : ℕ) → FitsValue version value → length before ≡ place
    → length (before ++ value_spelling value) ≡ end_of version value.field octets place
past_place version octets before value place fits at =
    let end = fixed_end version value.field octets place (not_from_false (is_variable version value.field) fits.fixed) in
    omega (arith, end, own_width version value fits, length-append before (value_spelling value), at)

number_there : (version : ℕ) (octets before : List ℕ) (value : Value) (values : List Value) (more : List ℕ) (place : ℕ) → FitsValue version value
    → Holds octets before (value ∷ values) more → length before ≡ place → number_of octets (Some (span_of version value.field octets place)) ≡ Some value.number
number_there version octets before value values more place fits is at =
    ap (λ (span : Span). number_of octets (Some span)) (fixed_span version value.field octets place (not_from_false (is_variable version value.field) fits.fixed))
    ∙ ap (λ (octets : List ℕ). Some (number_at octets place value.field.width)) (front_value octets before value values more is)
    ∙ ap Some (number_written before (record_spelling values ++ more) place value.field.width value.number at fits.fits)

first_found : (version element : ℕ) (values : List Value) (octets before more : List ℕ) (place : ℕ) → AllByRecursion (FitsValue version) values → Holds octets before values more
    → length before ≡ place → number_of octets (span_in version element (map field_of values) octets place) ≡ first_under version element values
first_found version element [] octets before more place each is at = refl
first_found version element (value ∷ values) octets before more place each is at =
    by (has_element version element value.field) (Some (span_of version value.field octets place)) (span_in version element (map field_of values) octets (end_of version value.field octets place))
    (Some value.number) (first_under version element values) (number_there version octets before value values more place each.0 is at)
    (first_found version element values octets (before ++ value_spelling value) more (end_of version value.field octets place) each.1
    (past_value octets before value values more is) (past_place version octets before value place each.0 at))
  where
    by : (b : Bool) (here behind : Option Span) (own others : Option ℕ) → number_of octets here ≡ own → number_of octets behind ≡ others
        → number_of octets (cond b here behind) ≡ cond b own others
    by true here behind own others is rest = is
    by false here behind own others is rest = rest

found_behind : (version element count : ℕ) (values : List Value) (octets before more : List ℕ) (place : ℕ) → AllByRecursion (FitsValue version) values → Holds octets before values more
    → length before ≡ place
    → number_of octets (span_in version element (drop count (map field_of values)) octets (end_of_all version (take count (map field_of values)) octets place))
    ≡ first_under version element (drop count values)
found_behind version element zero values octets before more place each is at = first_found version element values octets before more place each is at
found_behind version element (suc count) [] octets before more place each is at = refl
found_behind version element (suc count) (value ∷ values) octets before more place each is at =
    found_behind version element count values octets (before ++ value_spelling value) more (end_of version value.field octets place) each.1
    (past_value octets before value values more is) (past_place version octets before value place each.0 at)

pub reads_numbers : ReadsNumbers
reads_numbers version template values more fits element =
    let octets = record_spelling values ++ more in
    let count = skipped version template in
    ap (λ (fields : List FieldSpec). number_of octets (span_in version element (drop count fields) octets (end_of_all version (take count fields) octets 0))) (sym fits.fields)
    ∙ found_behind version element count values octets [] more 0 fits.each refl refl

-- ---- records

records_back : (most : ℕ) (domain : Domain) (known : Known) (template : Template) (records : List (List Value)) (padding : List ℕ)
    → AllByRecursion (FitsRecord domain.version template) records → length padding < least_length domain.version template.fields
    → length (flat_map record_spelling records ++ padding) ≤ most
    → records_from most domain known template (flat_map record_spelling records ++ padding) ≡ Ok (records_said domain known template records)
records_back most domain known template [] padding each few enough = stops most domain known template padding few
records_back zero domain known template (values ∷ records) padding each few enough =
    let long = length-append (record_spelling values ++ flat_map record_spelling records) padding in
    let own = length-append (record_spelling values) (flat_map record_spelling records) in
    absurd (omega (arith, few, enough, long, own, least_is domain.version template values each.0))
records_back (suc most) domain known template (values ∷ records) padding each few enough =
    let version = domain.version in
    let one = record_spelling values in
    let rest = flat_map record_spelling records ++ padding in
    let octets = one ++ rest in
    let parts : (one ++ flat_map record_spelling records) ++ padding ≡ octets = append_assoc one (flat_map record_spelling records) padding in
    let least = least_is version template values each.0 in
    let used : record_length version template octets ≡ length one = reads_lengths version template values rest each.0 in
    let long = length-append one rest in
    let all : length ((one ++ flat_map record_spelling records) ++ padding) ≡ length octets = ap length parts in
    let left : drop (record_length version template octets) octets ≡ rest = ap (λ (n : ℕ). drop n octets) used ∙ drop-append_seam one rest in
    let numbers : number_in version template octets ≡ number_under version template values = λ i element. reads_numbers version template values rest each.0 element i in
    ap (records_from (suc most) domain known template) parts
    ∙ one_more most domain known template octets (omega (arith, least, long)) (omega (arith, used, long))
    ∙ (λ i. behind (record_said domain known template (numbers i)) (records_from most domain known template (left i)))
    ∙ ap (behind (record_said domain known template (number_under version template values)))
    (records_back most domain known template records padding each.1 few (omega (arith, enough, all, long, least, few)))

pub reads_records : ReadsRecords
reads_records domain known template records padding each few =
    records_back (length (flat_map record_spelling records ++ padding)) domain known template records padding each few (omega arith)
