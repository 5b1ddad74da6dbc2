-- What the sets so far and those of the rest say.
use Rattle.std.proofs.Common.{◌≡◌, ◌≤◌, ◌+◌, ◌-◌, ◌∙◌, ◌++◌, ◌∷◌, [], ℕ, zero, suc, false, true, List, Option, length, take, drop, refl, sym, ap, subst, length-drop, arith}
use Rattle.std.specs.Prelude.{◌==◌, IsOk, Result, Ok, Err}
use Rattle.std.proofs.lemmas.Bool.{le-ltb, ne_eqb}
use Rattle.flow_templates.specs.declared.change.TemplateChange.{TemplateChange}
use Rattle.flow_templates.specs.declared.decoded.RawDecoded.{RawDecoded}
use Rattle.flow_templates.specs.declared.rate.LearnedRate.{LearnedRate}
use Rattle.flow_templates.specs.declared.rate.RateKey.{RateKey}
use Rattle.flow_templates.specs.declared.refusal.Cause.{Cause}
use Rattle.flow_templates.specs.declared.refusal.Cause.TheVariants.{SetLength}
use Rattle.flow_templates.specs.declared.refusal.Undecodable.{Undecodable}
use Rattle.flow_templates.specs.declared.refusal.Undecodable.TheVariants.{Refused, NoMemory}
use Rattle.flow_templates.specs.declared.template.Domain.{Domain}
use Rattle.flow_templates.specs.declared.template.Template.{Template}
use Rattle.flow_templates.specs.declared.template.TemplateKey.{TemplateKey}
use Rattle.flow_templates.specs.Changes.{StagedChanges, after, after_all, nothing_staged}
use Rattle.flow_templates.specs.Decoding.{FailsAs, RefusedAs, Said}
use Rattle.flow_templates.specs.Known.{Known, known_after, rate_after, rate_learned}
use Rattle.flow_sets.specs.Saying.{behind, both, both_staged, nothing_said, so_far}
use Rattle.flow_sets.specs.Sets.{front_said, if_said, is_set_cut, set_id, set_length, set_said, sets_from, sets_said}
use Rattle.flow_sets.proofs.SayingLemmas.{behind_behind, behind_nothing, both_nothing, same_said}

-- ---- what is known

templates_after : (one two : List TemplateChange) (key : TemplateKey) (before : Option Template) → after_all two key (after_all one key before) ≡ after_all (one ++ two) key before
templates_after [] two key before = refl
templates_after (change ∷ one) two key before = templates_after one two key (after change key before)

rates_after : (one two : List LearnedRate) (key : RateKey) (before : Option ℕ) → rate_after two key (rate_after one key before) ≡ rate_after (one ++ two) key before
rates_after [] two key before = refl
rates_after (learned ∷ one) two key before = rates_after one two key (rate_learned learned key before)

pub known_twice : (known : Known) (one two : StagedChanges) → known_after (known_after known one) two ≡ known_after known (both_staged one two)
known_twice known one two = λ i. record {
  template = λ key. templates_after one.templates two.templates key (known.template key) i;
  rate = λ key. rates_after one.rates two.rates key (known.rate key) i;
}

-- ---- sets

-- What the sets of the rest say leads from what was said so far to what all of them say.
pub record Leads (domain : Domain) (known : Known) (octets : List ℕ) (number : ℕ) (rest : List ℕ) (now : Said) : Type 0 where
  pub left : ℕ
  pub enough : length rest ≤ left
  pub leads : behind now (sets_from left domain (known_after known now.changes) number rest) ≡ sets_said domain known octets

from_nothing : (domain : Domain) (known : Known) (octets : List ℕ) → Leads domain known octets 1 octets nothing_said
unfolding sets_said
from_nothing domain known octets = record { left = length octets; enough = omega arith; leads = behind_nothing (sets_from (length octets) domain known 1 octets) }

pub begins : (domain : Domain) (known : Known) (octets : List ℕ) (decoded : RawDecoded) (staged : StagedChanges) → decoded.rows ≡ [] → decoded.notices ≡ [] → staged ≡ nothing_staged
    → Leads domain known octets 1 octets (so_far decoded staged)
begins domain known octets decoded staged rows notices none =
    subst (Leads domain known octets 1 octets)
    (sym (same_said (so_far decoded staged) nothing_said rows notices (ap (λ (staged : StagedChanges). staged.templates) none) (ap (λ (staged : StagedChanges). staged.rates) none)))
    (from_nothing domain known octets)

pub begins_empty : (decoded : RawDecoded) (staged : StagedChanges) → decoded.rows ≡ [] → decoded.notices ≡ [] → staged ≡ nothing_staged → nothing_said ≡ so_far decoded staged
begins_empty decoded staged rows notices none =
    sym (same_said (so_far decoded staged) nothing_said rows notices (ap (λ (staged : StagedChanges). staged.templates) none) (ap (λ (staged : StagedChanges). staged.rates) none))

pub wanted_ok : (undecodable : Undecodable) (said : Result Said Cause) → ◌≡◌ {A = Result RawDecoded Undecodable} (Err undecodable) (Err NoMemory) → FailsAs undecodable said → IsOk said
wanted_ok NoMemory said h fails = fails
wanted_ok (Refused cause) said h fails = cc h

-- the set at the front, as it is read
pub same_front : (domain : Domain) (known : Known) (number id size : ℕ) (rest content : List ℕ) → id ≡ set_id rest → size ≡ set_length rest → content ≡ take (size - 4) (drop 4 rest)
    → set_said domain known number id content ≡ front_said domain known number rest
same_front domain known number id size rest content first second third =
    ap (λ (id : ℕ). set_said domain known number id content) first
    ∙ ap (set_said domain known number (set_id rest)) (third ∙ ap (λ (n : ℕ). take (n - 4) (drop 4 rest)) second)

pub stops : (left : ℕ) (domain : Domain) (known : Known) (number : ℕ) (rest : List ℕ) → length rest ≡ 0 → sets_from left domain known number rest ≡ Ok nothing_said
stops zero domain known number rest h = refl
stops (suc left) domain known number rest h = rw h refl

pub ends : (domain : Domain) (known : Known) (octets : List ℕ) (number : ℕ) (rest : List ℕ) (now : Said) → Leads domain known octets number rest now → length rest ≡ 0
    → sets_said domain known octets ≡ Ok now
ends domain known octets number rest now so h =
    sym so.leads ∙ ap (behind now) (stops so.left domain (known_after known now.changes) number rest h) ∙ ap Ok (both_nothing now)

pub is_cut : (domain : Domain) (known : Known) (octets : List ℕ) (number : ℕ) (rest : List ℕ) (now : Said) → Leads domain known octets number rest now → 1 ≤ length rest
    → is_set_cut rest ≡ true → sets_said domain known octets ≡ Err SetLength
is_cut domain known octets number rest now so h cut = by so.left so.enough so.leads
  where
    by : (left : ℕ) → length rest ≤ left → behind now (sets_from left domain (known_after known now.changes) number rest) ≡ sets_said domain known octets
        → sets_said domain known octets ≡ Err SetLength
    by zero enough leads = absurd (omega (arith, enough, h))
    by (suc left) enough leads =
        let some : (length rest == 0) ≡ false = ne_eqb (length rest) 0 (λ e. omega (arith, e, h)) in
        let here : sets_from (suc left) domain (known_after known now.changes) number rest ≡ Err SetLength = rw (some, cut) refl in
        sym leads ∙ ap (behind now) here

whole : (rest : List ℕ) → 4 ≤ length rest → 4 ≤ set_length rest → set_length rest ≤ length rest → is_set_cut rest ≡ false
whole rest a b c = rw (le-ltb (length rest) 4 a, le-ltb (set_length rest) 4 b, le-ltb (length rest) (set_length rest) c) refl

pub reads : (left : ℕ) (domain : Domain) (known : Known) (number : ℕ) (rest : List ℕ) (said : Result Said Cause) → 4 ≤ length rest → 4 ≤ set_length rest → set_length rest ≤ length rest
    → front_said domain known number rest ≡ said
    → sets_from (suc left) domain known number rest
    ≡ if_said said (λ said. behind said (sets_from left domain (known_after known said.changes) (number + 1) (drop (set_length rest) rest)))
reads left domain known number rest said a b c is =
    let some : (length rest == 0) ≡ false = ne_eqb (length rest) 0 (λ e. omega (arith, e, a)) in
    rw (some, whole rest a b c)
    (ap (λ (said : Result Said Cause). if_said said (λ said. behind said (sets_from left domain (known_after known said.changes) (number + 1) (drop (set_length rest) rest)))) is)

pub is_refused : (domain : Domain) (known : Known) (octets : List ℕ) (number : ℕ) (rest : List ℕ) (now : Said) (undecodable : Undecodable) → Leads domain known octets number rest now
    → 4 ≤ length rest → 4 ≤ set_length rest → set_length rest ≤ length rest
    → FailsAs undecodable (front_said domain (known_after known now.changes) number rest) → RefusedAs undecodable (sets_said domain known octets)
is_refused domain known octets number rest now NoMemory so a b c fails = tt
is_refused domain known octets number rest now (Refused cause) so a b c fails = by so.left so.enough so.leads
  where
    by : (left : ℕ) → length rest ≤ left → behind now (sets_from left domain (known_after known now.changes) number rest) ≡ sets_said domain known octets
        → sets_said domain known octets ≡ Err cause
    by zero enough leads = absurd (omega (arith, enough, a))
    by (suc left) enough leads = sym leads ∙ ap (behind now) (reads left domain (known_after known now.changes) number rest (Err cause) a b c fails)

or_nothing : Result Said Cause → Said
or_nothing (Ok said) = said
or_nothing (Err cause) = nothing_said

same_ok : (a b : Said) → ◌≡◌ {A = Result Said Cause} (Ok a) (Ok b) → a ≡ b
unfolding or_nothing
same_ok a b h = ap or_nothing h

pub goes_on : (domain : Domain) (known : Known) (octets : List ℕ) (number : ℕ) (rest next : List ℕ) (now new : Said) → Leads domain known octets number rest now
    → 4 ≤ length rest → 4 ≤ set_length rest → set_length rest ≤ length rest
    → behind now (front_said domain (known_after known now.changes) number rest) ≡ Ok new → next ≡ drop (set_length rest) rest
    → Leads domain known octets (number + 1) next new
goes_on domain known octets number rest next now new so a b c adds on =
    subst (λ (next : List ℕ). Leads domain known octets (number + 1) next new) (sym on)
    (by (front_said domain (known_after known now.changes) number rest) refl adds so.left so.enough so.leads)
  where
    by : (said : Result Said Cause) → front_said domain (known_after known now.changes) number rest ≡ said → behind now said ≡ Ok new
        → (left : ℕ) → length rest ≤ left → behind now (sets_from left domain (known_after known now.changes) number rest) ≡ sets_said domain known octets
        → Leads domain known octets (number + 1) (drop (set_length rest) rest) new
    by (Err cause) is adds left enough leads = cc adds
    by (Ok said) is adds zero enough leads = absurd (omega (arith, enough, a))
    by (Ok said) is adds (suc left) enough leads =
        let same : both now said ≡ new = same_ok (both now said) new adds in
        let tail = drop (set_length rest) rest in
        let here = reads left domain (known_after known now.changes) number rest (Ok said) a b c is in
        subst (Leads domain known octets (number + 1) tail) same
        (record {
          left = left;
          enough = rw (length-drop (set_length rest) rest) (omega (arith, enough, b));
          leads =
              ap (λ (known : Known). behind (both now said) (sets_from left domain known (number + 1) tail)) (sym (known_twice known now.changes said.changes))
              ∙ sym (behind_behind now said (sets_from left domain (known_after (known_after known now.changes) said.changes) (number + 1) tail))
              ∙ ap (behind now) (sym here) ∙ leads;
        })
