-- What the records so far and those of the rest say.
use Rattle.std.proofs.Common.{◌≡◌, ◌<◌, ◌≤◌, ◌∙◌, ◌+◌, ◌++◌, ◌∷◌, [], ℕ, zero, suc, Bool, false, true, List, length, drop, refl, sym, ap, subst, length-drop, append_assoc, drop_of_length-le, arith}
use Rattle.std.specs.Prelude.{option_map, if◌then◌else◌, Ok, Err}
use Rattle.std.proofs.lemmas.Bool.{le-ltb, lt-ltb}
use Rattle.std.proofs.Math.ListN.{get_or}
use Rattle.std.proofs.lemmas.List.{append-nil, drop_more}
use Rattle.flow_templates.specs.declared.change.TemplateChange.{TemplateChange}
use Rattle.flow_templates.specs.declared.rate.LearnedRate.{LearnedRate}
use Rattle.acct_types.specs.Numbers.{number_at}
use Rattle.flow_templates.specs.declared.decoded.RawDecoded.{RawDecoded}
use Rattle.flow_templates.specs.declared.decoded.RawRecord.{RawRecord}
use Rattle.flow_templates.specs.declared.refusal.Cause.TheVariants.{VarCut}
use Rattle.flow_templates.specs.declared.template.Domain.{Domain}
use Rattle.flow_templates.specs.declared.template.Template.{Template}
use Rattle.flow_templates.specs.Changes.{StagedChanges, and_rate}
use Rattle.flow_templates.specs.Decoding.{Said}
use Rattle.flow_templates.specs.Known.{Known}
use Rattle.flow_templates.specs.Templates.{least_length}
use Rattle.flow_sets.specs.declared.fields.Span.{Span}
use Rattle.flow_sets.specs.declared.layout.Layout.{Layout}
use Rattle.flow_sets.specs.Fields.{number_in, record_length}
use Rattle.flow_sets.specs.Layout.{IsLayout, numbers_by}
use Rattle.flow_sets.specs.Rates.{Numbers, taught}
use Rattle.flow_sets.specs.Records.{data_said, record_said, records_from, row_of}
use Rattle.flow_sets.specs.Saying.{and_rates, behind, both, nothing_said, one_row, so_far, taught_alone}
use Rattle.flow_sets.proofs.SayingLemmas.{behind_behind, behind_err, both_nothing, same_said}

-- What the records of the rest say leads from what was said so far to what all of them say.
pub record Leads (domain : Domain) (known : Known) (template : Template) (octets : List ℕ) (old : Said) (rest : List ℕ) (now : Said) : Type 0 where
  pub left : ℕ
  pub enough : length rest ≤ left
  pub leads : behind now (records_from left domain known template rest) ≡ behind old (data_said domain known template octets)

pub begins : (domain : Domain) (known : Known) (template : Template) (octets : List ℕ) (old : Said) → Leads domain known template octets old octets old
begins domain known template octets old = record { left = length octets; enough = omega arith; leads = refl }

pub stops : (left : ℕ) (domain : Domain) (known : Known) (template : Template) (rest : List ℕ) → length rest < least_length domain.version template.fields
    → records_from left domain known template rest ≡ Ok nothing_said
stops zero domain known template rest h = refl
stops (suc left) domain known template rest h = rw (lt-ltb (length rest) (least_length domain.version template.fields) h) refl

pub ends : (domain : Domain) (known : Known) (template : Template) (octets : List ℕ) (old : Said) (rest : List ℕ) (now : Said) → Leads domain known template octets old rest now
    → length rest < least_length domain.version template.fields → behind old (data_said domain known template octets) ≡ Ok now
ends domain known template octets old rest now so h =
    sym so.leads ∙ ap (behind now) (stops so.left domain known template rest h) ∙ ap Ok (both_nothing now)

cut : (left : ℕ) (domain : Domain) (known : Known) (template : Template) (rest : List ℕ) → length rest ≤ left → 1 ≤ least_length domain.version template.fields
    → least_length domain.version template.fields ≤ length rest → length rest < record_length domain.version template rest
    → records_from left domain known template rest ≡ Err VarCut
cut zero domain known template rest enough some least h = absurd (omega (arith, enough, some, least))
cut (suc left) domain known template rest enough some least h =
    rw (le-ltb (length rest) (least_length domain.version template.fields) least, lt-ltb (length rest) (record_length domain.version template rest) h) refl

pub is_cut : (domain : Domain) (known : Known) (template : Template) (octets : List ℕ) (old : Said) (rest : List ℕ) (now : Said) → Leads domain known template octets old rest now
    → 1 ≤ least_length domain.version template.fields → least_length domain.version template.fields ≤ length rest → length rest < record_length domain.version template rest
    → data_said domain known template octets ≡ Err VarCut
is_cut domain known template octets old rest now so some least h =
    behind_err old (data_said domain known template octets) VarCut (sym so.leads ∙ ap (behind now) (cut so.left domain known template rest so.enough some least h))

-- one more record
pub one_more : (left : ℕ) (domain : Domain) (known : Known) (template : Template) (rest : List ℕ) → least_length domain.version template.fields ≤ length rest
    → record_length domain.version template rest ≤ length rest
    → records_from (suc left) domain known template rest
    ≡ behind (record_said domain known template (number_in domain.version template rest)) (records_from left domain known template (drop (record_length domain.version template rest) rest))
one_more left domain known template rest least whole =
    rw (le-ltb (length rest) (least_length domain.version template.fields) least, le-ltb (length rest) (record_length domain.version template rest) whole) refl

pub goes_on : (domain : Domain) (known : Known) (template : Template) (octets : List ℕ) (old : Said) (rest : List ℕ) (now : Said) → Leads domain known template octets old rest now
    → 1 ≤ least_length domain.version template.fields → least_length domain.version template.fields ≤ length rest → record_length domain.version template rest ≤ length rest
    → 1 ≤ record_length domain.version template rest
    → Leads domain known template octets old (drop (record_length domain.version template rest) rest)
    (both now (record_said domain known template (number_in domain.version template rest)))
goes_on domain known template octets old rest now so some least whole long = by so.left so.enough so.leads
  where
    by : (left : ℕ) → length rest ≤ left → behind now (records_from left domain known template rest) ≡ behind old (data_said domain known template octets)
        → Leads domain known template octets old (drop (record_length domain.version template rest) rest)
        (both now (record_said domain known template (number_in domain.version template rest)))
    by zero enough leads = absurd (omega (arith, enough, some, least))
    by (suc left) enough leads =
        let one = record_said domain known template (number_in domain.version template rest) in
        let next = records_from left domain known template (drop (record_length domain.version template rest) rest) in
        let here : records_from (suc left) domain known template rest ≡ behind one next = one_more left domain known template rest least whole in
        record {
          left = left;
          enough = rw (length-drop (record_length domain.version template rest) rest) (omega (arith, enough, long));
          leads = sym (behind_behind now one next) ∙ ap (behind now) (sym here) ∙ leads;
        }

-- a record that is judged alone
pub judged_on : (domain : Domain) (known : Known) (template : Template) (octets rest next : List ℕ) (now : Said) (used : ℕ) → Leads domain known template octets nothing_said rest now
    → 1 ≤ least_length domain.version template.fields → least_length domain.version template.fields ≤ length rest → used ≡ record_length domain.version template rest → used ≤ length rest
    → 1 ≤ used → next ≡ drop used rest → (new : Said) × Leads domain known template octets nothing_said next new
judged_on domain known template octets rest next now used so some least is within long on =
    let new = both now (record_said domain known template (number_in domain.version template rest)) in (
      new,
      subst (λ (next : List ℕ). Leads domain known template octets nothing_said next new) (sym (on ∙ ap (λ (n : ℕ). drop n rest) is))
          (goes_on domain known template octets nothing_said rest now so some least (omega (arith, is, within)) (omega (arith, is, long))),
    )

-- ---- flows

-- the numbers at the places of a layout are those of its record
pub same_numbers : (version : ℕ) (template : Template) (octets : List ℕ) (layout : Layout) → IsLayout version template octets layout
    → numbers_by layout.spans octets ≡ number_in version template octets
same_numbers version template octets layout is = λ i element. option_map (λ (span : Span). number_at octets span.place span.width) (is.spans element i)

and_row : (decoded : RawDecoded) (staged : StagedChanges) (row : RawRecord) (rows : List RawRecord) → rows ≡ decoded.rows ++ row ∷ []
    → both (so_far decoded staged) (one_row row) ≡ so_far (record { rows = rows; notices = decoded.notices }) staged
and_row decoded staged row rows is =
    same_said (both (so_far decoded staged) (one_row row)) (so_far (record { rows = rows; notices = decoded.notices }) staged) (sym is)
    (append-nil decoded.notices) (append-nil staged.templates) (append-nil staged.rates)

pub one_flow : (domain : Domain) (known : Known) (template : Template) (octets : List ℕ) (old : Said) (rest next : List ℕ) (decoded : RawDecoded) (staged : StagedChanges)
    (layout : Layout) (row : RawRecord) (rows : List RawRecord) → Leads domain known template octets old rest (so_far decoded staged)
    → 1 ≤ least_length domain.version template.fields → least_length domain.version template.fields ≤ length rest → IsLayout domain.version template rest layout
    → template.options ≡ false → row ≡ row_of domain known (numbers_by layout.spans rest) → rows ≡ decoded.rows ++ row ∷ [] → next ≡ drop layout.used rest
    → Leads domain known template octets old next (so_far (record { rows = rows; notices = decoded.notices }) staged)
one_flow domain known template octets old rest next decoded staged layout row rows so some least is flows one all on =
    let numbers = same_numbers domain.version template rest layout is in
    let number = number_in domain.version template rest in
    let said : record_said domain known template number ≡ one_row row =
    ap (λ (options : Bool). if options then taught_alone (taught domain number) else one_row (row_of domain known number)) flows
    ∙ ap one_row (sym (one ∙ ap (row_of domain known) numbers)) in
    let whole = is.used in
    let more = goes_on domain known template octets old rest (so_far decoded staged) so some least (omega (arith, whole, is.within)) (omega (arith, whole, is.some)) in
    subst (λ (next : List ℕ). Leads domain known template octets old next (so_far (record { rows = rows; notices = decoded.notices }) staged))
    (sym (on ∙ ap (λ (n : ℕ). drop n rest) whole))
    (subst (Leads domain known template octets old (drop (record_length domain.version template rest) rest))
    (ap (both (so_far decoded staged)) said ∙ and_row decoded staged row rows all) more)

-- ---- sampling rates

and_lessons : (lessons more : List LearnedRate) → both (taught_alone lessons) (taught_alone more) ≡ taught_alone (lessons ++ more)
and_lessons lessons more = refl

pub one_lesson : (domain : Domain) (known : Known) (template : Template) (octets : List ℕ) (old : Said) (rest next : List ℕ) (lessons new : List LearnedRate) (layout : Layout)
    → Leads domain known template octets old rest (taught_alone lessons) → 1 ≤ least_length domain.version template.fields
    → least_length domain.version template.fields ≤ length rest → IsLayout domain.version template rest layout → template.options ≡ true
    → new ≡ lessons ++ taught domain (numbers_by layout.spans rest) → next ≡ drop layout.used rest
    → Leads domain known template octets old next (taught_alone new)
one_lesson domain known template octets old rest next lessons new layout so some least is options all on =
    let numbers = same_numbers domain.version template rest layout is in
    let number = number_in domain.version template rest in
    let said : record_said domain known template number ≡ taught_alone (taught domain number) =
    ap (λ (options : Bool). if options then taught_alone (taught domain number) else one_row (row_of domain known number)) options in
    let whole = is.used in
    let more = goes_on domain known template octets old rest (taught_alone lessons) so some least (omega (arith, whole, is.within)) (omega (arith, whole, is.some)) in
    subst (λ (next : List ℕ). Leads domain known template octets old next (taught_alone new)) (sym (on ∙ ap (λ (n : ℕ). drop n rest) whole))
    (subst (Leads domain known template octets old (drop (record_length domain.version template rest) rest))
    (ap (both (taught_alone lessons)) said
    ∙ ap (λ (number : Numbers). taught_alone (lessons ++ taught domain number)) (sym numbers) ∙ ap taught_alone (sym all)) more)

-- rates that are staged one behind another
pub one_learned : (staged new : StagedChanges) (lessons : List LearnedRate) (i : ℕ) (d : LearnedRate) → i < length lessons → new ≡ and_rate staged (get_or lessons i d)
    → and_rates new (drop (i + 1) lessons) ≡ and_rates staged (drop i lessons)
one_learned staged new lessons i d h is =
    ap (λ (staged : StagedChanges). and_rates staged (drop (i + 1) lessons)) is
    ∙ ap (λ (rates : List LearnedRate). rates_of staged.templates rates) (append_assoc staged.rates (get_or lessons i d ∷ []) (drop (i + 1) lessons))
    ∙ ap (and_rates staged) (sym (drop_more lessons i d h))
  where
    rates_of : List TemplateChange → List LearnedRate → StagedChanges
    rates_of templates rates = record { templates = templates; rates = rates }

pub all_learned : (staged : StagedChanges) (lessons : List LearnedRate) (i : ℕ) → length lessons ≤ i → staged ≡ and_rates staged (drop i lessons)
all_learned staged lessons i h = λ j. record {
  templates = staged.templates;
  rates = (sym (append-nil staged.rates) ∙ ap (λ (left : List LearnedRate). staged.rates ++ left) (sym (drop_of_length-le lessons h))) j;
}
