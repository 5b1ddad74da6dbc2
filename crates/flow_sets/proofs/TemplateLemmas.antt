-- What the template records so far and those of the rest say.
use Rattle.std.proofs.Common.{◌≡◌, ◌<◌, ◌≤◌, ◌∙◌, ℕ, zero, suc, Bool, List, length, drop, refl, sym, ap, subst, length-drop, arith}
use Rattle.std.specs.Prelude.{Result, Ok, Err}
use Rattle.std.proofs.lemmas.Bool.{le-ltb, lt-ltb}
use Rattle.std.proofs.lemmas.List.{append-nil}
use Rattle.flow_templates.specs.declared.change.TemplateChange.{TemplateChange}
use Rattle.flow_templates.specs.declared.decoded.RawDecoded.{RawDecoded}
use Rattle.flow_templates.specs.declared.refusal.Undecodable.{Undecodable}
use Rattle.flow_templates.specs.declared.refusal.Undecodable.TheVariants.{Refused, NoMemory}
use Rattle.flow_templates.specs.declared.template.Domain.{Domain}
use Rattle.flow_templates.specs.declared.template.TemplateFault.{TemplateFault}
use Rattle.flow_templates.specs.declared.template.TemplateFault.TheVariants as fault
use Rattle.flow_templates.specs.declared.template.TemplateTurn.{TemplateTurn}
use Rattle.flow_templates.specs.Changes.{StagedChanges, and_change}
use Rattle.flow_templates.specs.Decoding.{FailsAs, Said}
use Rattle.flow_templates.specs.Templates.{length_or_fault, template_record}
use Rattle.flow_sets.specs.Saying.{behind, both, nothing_said, one_change, so_far}
use Rattle.flow_sets.specs.Sets.{Refuses, cause_of, change_of, if_judged, templates_from, templates_said}
use Rattle.flow_sets.proofs.SayingLemmas.{behind_behind, behind_err, both_nothing, same_said}

-- What the records of the rest say leads from what was said so far to what all of them say.
pub record Leads (domain : Domain) (options : Bool) (octets : List ℕ) (old : Said) (rest : List ℕ) (now : Said) : Type 0 where
  pub left : ℕ
  pub enough : length rest ≤ left
  pub leads : behind now (templates_from left domain options rest) ≡ behind old (templates_said domain options octets)

pub begins : (domain : Domain) (options : Bool) (octets : List ℕ) (old : Said) → Leads domain options octets old octets old
begins domain options octets old = record { left = length octets; enough = omega arith; leads = refl }

stops : (left : ℕ) (domain : Domain) (options : Bool) (rest : List ℕ) → length rest < 4 → templates_from left domain options rest ≡ Ok nothing_said
stops zero domain options rest h = refl
stops (suc left) domain options rest h = rw (lt-ltb (length rest) 4 h) refl

pub ends : (domain : Domain) (options : Bool) (octets : List ℕ) (old : Said) (rest : List ℕ) (now : Said) → Leads domain options octets old rest now
    → length rest < 4 → behind old (templates_said domain options octets) ≡ Ok now
ends domain options octets old rest now so h =
    sym so.leads ∙ ap (behind now) (stops so.left domain options rest h) ∙ ap Ok (both_nothing now)

judges : (left : ℕ) (domain : Domain) (options : Bool) (rest : List ℕ) (judged : Result TemplateTurn TemplateFault) → 4 ≤ length rest
    → template_record domain.version options rest ≡ judged
    → templates_from (suc left) domain options rest
    ≡ if_judged judged (λ turn. behind (one_change (change_of domain options turn)) (templates_from left domain options (drop turn.used rest)))
judges left domain options rest judged h is =
    rw (le-ltb (length rest) 4 h)
    (ap (λ (judged : Result TemplateTurn TemplateFault). if_judged judged
    (λ turn. behind (one_change (change_of domain options turn)) (templates_from left domain options (drop turn.used rest)))) is)

pub is_refused : (domain : Domain) (options : Bool) (octets : List ℕ) (old : Said) (rest : List ℕ) (now : Said) (one : TemplateFault) → Leads domain options octets old rest now
    → 4 ≤ length rest → template_record domain.version options rest ≡ Err one → templates_said domain options octets ≡ Err (cause_of one)
is_refused domain options octets old rest now one so h is = by so.left so.enough so.leads
  where
    by : (left : ℕ) → length rest ≤ left → behind now (templates_from left domain options rest) ≡ behind old (templates_said domain options octets)
        → templates_said domain options octets ≡ Err (cause_of one)
    by zero enough leads = absurd (omega (arith, enough, h))
    by (suc left) enough leads =
        behind_err old (templates_said domain options octets) (cause_of one) (sym leads ∙ ap (behind now) (judges left domain options rest (Err one) h is))

pub goes_on : (domain : Domain) (options : Bool) (octets : List ℕ) (old : Said) (rest : List ℕ) (now : Said) (turn : TemplateTurn) → Leads domain options octets old rest now
    → 4 ≤ length rest → template_record domain.version options rest ≡ Ok turn → 4 ≤ turn.used
    → Leads domain options octets old (drop turn.used rest) (both now (one_change (change_of domain options turn)))
goes_on domain options octets old rest now turn so h is long = by so.left so.enough so.leads
  where
    by : (left : ℕ) → length rest ≤ left → behind now (templates_from left domain options rest) ≡ behind old (templates_said domain options octets)
        → Leads domain options octets old (drop turn.used rest) (both now (one_change (change_of domain options turn)))
    by zero enough leads = absurd (omega (arith, enough, h))
    by (suc left) enough leads = record {
      left = left;
      enough = rw (length-drop turn.used rest) (omega (arith, enough, long));
      leads = sym (behind_behind now (one_change (change_of domain options turn)) (templates_from left domain options (drop turn.used rest)))
          ∙ ap (behind now) (sym (judges left domain options rest (Ok turn) h is)) ∙ leads;
    }

and_one : (decoded : RawDecoded) (staged : StagedChanges) (change : TemplateChange) → both (so_far decoded staged) (one_change change) ≡ so_far decoded (and_change staged change)
and_one decoded staged change =
    same_said (both (so_far decoded staged) (one_change change)) (so_far decoded (and_change staged change)) (append-nil decoded.rows) (append-nil decoded.notices) refl (append-nil staged.rates)

pub one_turn : (domain : Domain) (options : Bool) (octets : List ℕ) (old : Said) (rest next : List ℕ) (decoded : RawDecoded) (staged new : StagedChanges) (turn : TemplateTurn)
    → Leads domain options octets old rest (so_far decoded staged) → 4 ≤ length rest → template_record domain.version options rest ≡ Ok turn → 4 ≤ turn.used
    → new ≡ and_change staged (change_of domain options turn) → next ≡ drop turn.used rest → Leads domain options octets old next (so_far decoded new)
one_turn domain options octets old rest next decoded staged new turn so h is long changed on =
    subst (λ (next : List ℕ). Leads domain options octets old next (so_far decoded new)) (sym on)
    (subst (Leads domain options octets old (drop turn.used rest)) (and_one decoded staged (change_of domain options turn) ∙ ap (so_far decoded) (sym changed))
    (goes_on domain options octets old rest (so_far decoded staged) turn so h is long))

-- ---- records that are judged alone

pub judged_refused : (domain : Domain) (options : Bool) (octets rest : List ℕ) (now : Said) (undecodable : Undecodable) (one : TemplateFault)
    → Leads domain options octets nothing_said rest now → 4 ≤ length rest → Err one ≡ length_or_fault (template_record domain.version options rest)
    → (◌≡◌ {A = Result ℕ TemplateFault} (Err one) (Err fault.NoMemory) → ⊥) → Refuses undecodable one → FailsAs undecodable (templates_said domain options octets)
judged_refused domain options octets rest now NoMemory one so h judged other refuses = absurd (other (ap Err refuses))
judged_refused domain options octets rest now (Refused cause) one so h judged other refuses =
    is_refused domain options octets nothing_said rest now one so h (by (template_record domain.version options rest) judged) ∙ ap Err (sym refuses.1)
  where
    by : (answer : Result TemplateTurn TemplateFault) → Err one ≡ length_or_fault answer → answer ≡ Err one
    by (Ok turn) h = cc h
    by (Err other) h = let same : one ≡ other = cc h in ap Err (sym same)

pub judged_on : (domain : Domain) (options : Bool) (octets rest next : List ℕ) (now : Said) (used : ℕ) → Leads domain options octets nothing_said rest now → 4 ≤ length rest
    → Ok used ≡ length_or_fault (template_record domain.version options rest) → 4 ≤ used → next ≡ drop used rest → (new : Said) × Leads domain options octets nothing_said next new
judged_on domain options octets rest next now used so h judged long on = by (template_record domain.version options rest) refl judged
  where
    by : (answer : Result TemplateTurn TemplateFault) → template_record domain.version options rest ≡ answer → Ok used ≡ length_or_fault answer
        → (new : Said) × Leads domain options octets nothing_said next new
    by (Ok turn) is judged =
        let same : used ≡ turn.used = cc judged in (
          both now (one_change (change_of domain options turn)),
          subst (λ (next : List ℕ). Leads domain options octets nothing_said next (both now (one_change (change_of domain options turn)))) (sym (on ∙ ap (λ (n : ℕ). drop n rest) same))
              (goes_on domain options octets nothing_said rest now turn so h is (omega (arith, long, same))),
        )
    by (Err fault) is judged = cc judged
