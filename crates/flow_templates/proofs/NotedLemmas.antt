-- What the places of the last changes tell once one more change is noted, and what the last rates tell.
use Rattle.std.proofs.Common.{Bor, ◌≡◌, ◌∙◌, ◌<◌, ◌+◌, ◌∷◌, ◌++◌, [], ℕ, List, Bool, true, false, cond, zero, suc, Option, Some, None, length, length-append, arith, refl, sym, ap, subst}
use Rattle.std.proofs.lemmas.Bool.{lt-ltb}
use Rattle.std.specs.Prelude.{◌&&◌, if◌then◌else◌, not, slice_get, IfSome}
use Rattle.std.specs.Bool.{beq, then_some}
use Rattle.std.specs.Map.{lookup}
use Rattle.std.specs.Option.{option_copied, option_or}
use Rattle.flow_templates.specs.declared.change.TemplateChange.{TemplateChange}
use Rattle.flow_templates.specs.declared.change.TemplateChange.TheVariants.{Put, Withdraw, WithdrawAll}
use Rattle.flow_templates.specs.declared.noted.Subject.{Subject}
use Rattle.flow_templates.specs.declared.noted.Subject.TheVariants.{One, Kind}
use Rattle.flow_templates.specs.declared.rate.LearnedRate.{LearnedRate}
use Rattle.flow_templates.specs.declared.rate.RateKey.{RateKey}
use Rattle.flow_templates.specs.declared.template.Template.{Template}
use Rattle.flow_templates.specs.declared.template.TemplateKey.{TemplateKey}
use Rattle.flow_templates.specs.contracts.noted.SubjectPartialEq.TheImpl as subject_equality
use Rattle.flow_templates.specs.Changes.{after, same_domain, same_key, without_kind}
use Rattle.flow_templates.specs.Known.{rate_found, rate_learned, same_rate_key}
use Rattle.flow_templates.specs.Noted.{ArePlaces, AreLastRates, found_by_places, is_later, place_of, put_by, put_or, same_subject, subject_of, unless_withdrawn}
use Rattle.flow_templates.proofs.ChangeLemmas.{add_up, domains_same, keys_same}
use Rattle.flow_templates.proofs.RateLemmas.{rates_up}

subjects_same : (a b : Subject) → (subject_equality.eq-value).it a b ≡ same_subject a b
subjects_same (One a) (One b) = keys_same a b
subjects_same (One a) (Kind b options) = refl
subjects_same (Kind a options) (One b) = refl
subjects_same (Kind a options) (Kind b other) = ap (λ (first : Bool). first && beq options other) (domains_same a b)

-- the derived test whole
pub subject_tests_same : (subject_equality.eq-value).it ≡ same_subject
subject_tests_same = λ i a b. subjects_same a b i

pub place_by : (last : List (Subject × ℕ)) (subject : Subject) → lookup ((subject_equality.eq-value).it subject) last ≡ place_of last subject
place_by last subject = ap (λ (eq : Subject → Subject → Bool). lookup (eq subject) last) subject_tests_same

-- what is said by the derived test of subjects
abbrev pub UpdatedPlace : (Subject → Subject → Bool) → List (Subject × ℕ) → List (Subject × ℕ) → Subject → ℕ → Type 0
UpdatedPlace eq old new subject place = (other : Subject) → lookup (eq other) new ≡ cond (eq subject other) (Some place) (lookup (eq other) old)

pub updated_place : (old new : List (Subject × ℕ)) (subject : Subject) (place : ℕ) → UpdatedPlace (subject_equality.eq-value).it old new subject place → UpdatedPlace same_subject old new subject place
updated_place old new subject place h = subst (λ (eq : Subject → Subject → Bool). UpdatedPlace eq old new subject place) subject_tests_same h

-- ---- places

abbrev Within : Option ℕ → ℕ → Type 0
Within place count = IfSome place (λ one. one < count)

within_more : (place : Option ℕ) (count : ℕ) (hit : Bool) → Within place count → Within (cond hit (Some count) place) (count + 1)
within_more place count true h = omega arith
within_more None count false h = tt
within_more (Some one) count false h = omega (arith, h)

same_item : (changes : List TemplateChange) (change : TemplateChange) (place : ℕ) → place < length changes → slice_get (changes ++ change ∷ []) place ≡ slice_get changes place
same_item [] change place h = absurd (omega (arith, h))
same_item (one ∷ changes) change zero h = refl
same_item (one ∷ changes) change (suc place) h = same_item changes change place (omega (arith, h))

last_item : (changes : List TemplateChange) (change : TemplateChange) → slice_get (changes ++ change ∷ []) (length changes) ≡ Some change
last_item [] change = refl
last_item (one ∷ changes) change = last_item changes change

put_before : (changes : List TemplateChange) (change : TemplateChange) (place : Option ℕ) (before : Option Template) → Within place (length changes)
    → put_or (changes ++ change ∷ []) place before ≡ put_or changes place before
put_before changes change None before h = refl
put_before changes change (Some place) before h = rw (same_item changes change place h) refl

put_last : (changes : List TemplateChange) (change : TemplateChange) (before : Option Template) → put_or (changes ++ change ∷ []) (Some (length changes)) before ≡ put_by change
put_last changes change before = rw (last_item changes change) refl

not_later : (withdrawn : Option ℕ) (count : ℕ) → Within withdrawn count → is_later withdrawn (Some count) ≡ false
not_later None count h = refl
not_later (Some one) count h = grind (arith, h)

later_than_all : (place : Option ℕ) (count : ℕ) → Within place count → is_later (Some count) place ≡ true
later_than_all None count h = refl
later_than_all (Some one) count h = lt-ltb one count h

-- a change of the template itself
nothing_later : (withdrawn : Bool → Option ℕ) (count : ℕ) (put : Option Template) → ((options : Bool) → Within (withdrawn options) count)
    → put ≡ unless_withdrawn withdrawn (Some count) put
nothing_later withdrawn count None h = refl
nothing_later withdrawn count (Some template) h = rw (not_later (withdrawn template.options) count (h template.options)) refl

one_changed : (changes : List TemplateChange) (change : TemplateChange) (withdrawn : Bool → Option ℕ) (place : Option ℕ) (before : Option Template) (hit : Bool)
    → ((options : Bool) → Within (withdrawn options) (length changes)) → Within place (length changes)
    → (if hit then put_by change else unless_withdrawn withdrawn place (put_or changes place before))
    ≡ unless_withdrawn withdrawn (cond hit (Some (length changes)) place) (put_or (changes ++ change ∷ []) (cond hit (Some (length changes)) place) before)
one_changed changes change withdrawn place before true none within =
    nothing_later withdrawn (length changes) (put_by change) none
    ∙ sym (ap (unless_withdrawn withdrawn (Some (length changes))) (put_last changes change before))
one_changed changes change withdrawn place before false none within = sym (ap (unless_withdrawn withdrawn place) (put_before changes change place before within))

-- a change of all of a kind
later_of_kind : (count : ℕ) (kind : Bool) (withdrawn place : Option ℕ) → Within place count
    → is_later (cond kind (Some count) withdrawn) place ≡ cond kind true (is_later withdrawn place)
later_of_kind count true withdrawn place h = later_than_all place count h
later_of_kind count false withdrawn place h = refl

turned : (a b : Bool) → beq a b ≡ beq b a
turned true true = refl
turned true false = refl
turned false true = refl
turned false false = refl

without : (options : Bool) (template : Template) (kind later : Bool) → beq template.options options ≡ kind
    → without_kind options (if later then None else Some template) ≡ (if cond kind true later then None else Some template)
without options template true true h = refl
without options template false true h = refl
without options template true false h = rw h refl
without options template false false h = rw h refl

kind_changed : (count : ℕ) (options : Bool) (withdrawn : Bool → Option ℕ) (place : Option ℕ) (found : Option Template) (same : Bool) → Within place count
    → (if same then without_kind options (unless_withdrawn withdrawn place found) else unless_withdrawn withdrawn place found)
    ≡ unless_withdrawn (λ other. cond (same && beq options other) (Some count) (withdrawn other)) place found
kind_changed count options withdrawn place None true h = refl
kind_changed count options withdrawn place None false h = refl
kind_changed count options withdrawn place (Some template) false h = refl
kind_changed count options withdrawn place (Some template) true h =
    without options template (beq options template.options) (is_later (withdrawn template.options) place) (turned template.options options)
    ∙ sym (ap (λ (later : Bool). if later then None else Some template) (later_of_kind count (beq options template.options) (withdrawn template.options) place h))

-- ---- one more change

abbrev by_places : List TemplateChange → (Bool → Option ℕ) → Option ℕ → Option Template → Option Template
by_places changes withdrawn place before = unless_withdrawn withdrawn place (put_or changes place before)

told : (changes : List TemplateChange) (change : TemplateChange) (old new : List (Subject × ℕ)) (key : TemplateKey) (before : Option Template) → UpdatedPlace same_subject old new (subject_of change) (length changes)
    → ((subject : Subject) → Within (place_of old subject) (length changes))
    → after change key (found_by_places changes old key before) ≡ found_by_places (changes ++ change ∷ []) new key before
told changes (Put put template) old new key before moved within =
    one_changed changes (Put put template) _ (place_of old (One key)) before (same_key put key) (λ options. within (Kind key.domain options)) (within (One key))
    ∙ (λ i. by_places (changes ++ Put put template ∷ []) (λ options. sym (moved (Kind key.domain options)) i) (sym (moved (One key)) i) before)
told changes (Withdraw withdrawn) old new key before moved within =
    one_changed changes (Withdraw withdrawn) _ (place_of old (One key)) before (same_key withdrawn key) (λ options. within (Kind key.domain options)) (within (One key))
    ∙ (λ i. by_places (changes ++ Withdraw withdrawn ∷ []) (λ options. sym (moved (Kind key.domain options)) i) (sym (moved (One key)) i) before)
told changes (WithdrawAll domain options) old new key before moved within =
    kind_changed (length changes) options (λ other. place_of old (Kind key.domain other)) (place_of old (One key)) (put_or changes (place_of old (One key)) before) (same_domain domain key.domain) (within (One key))
    ∙ sym (ap (unless_withdrawn _ (place_of old (One key))) (put_before changes (WithdrawAll domain options) (place_of old (One key)) before (within (One key))))
    ∙ (λ i. by_places (changes ++ WithdrawAll domain options ∷ []) (λ other. sym (moved (Kind key.domain other)) i) (sym (moved (One key)) i) before)

pub one_more_place : (changes : List TemplateChange) (change : TemplateChange) (old new : List (Subject × ℕ)) → ArePlaces changes old → UpdatedPlace same_subject old new (subject_of change) (length changes)
    → ArePlaces (changes ++ change ∷ []) new
one_more_place changes change old new places moved = record {
  within = λ subject.
      subst (λ (place : Option ℕ). Within place (length (changes ++ change ∷ []))) (sym (moved subject))
      (subst (Within (cond (same_subject (subject_of change) subject) (Some (length changes)) (place_of old subject))) (sym (length-append changes (change ∷ [])))
      (within_more (place_of old subject) (length changes) (same_subject (subject_of change) subject) (places.within subject)));
  tell = λ key before.
      add_up changes change key before ∙ ap (after change key) (places.tell key before) ∙ told changes change old new key before moved places.within;
}

pub no_places : ArePlaces [] []
no_places = record { within = λ subject. tt; tell = λ key before. by before }
  where
    by : (before : Option Template) → before ≡ unless_withdrawn (λ options. None) None before
    by None = refl
    by (Some template) = refl

-- ---- what the places tell

pub nothing_put : (changes : List TemplateChange) (last : List (Subject × ℕ)) (key : TemplateKey) (before : Option Template) (place : Option ℕ) → place ≡ place_of last (One key)
    → None ≡ put_or changes place before → None ≡ found_by_places changes last key before
nothing_put changes last key before place at none =
    ap (unless_withdrawn (λ options. place_of last (Kind key.domain options)) (place_of last (One key))) (none ∙ ap (λ (one : Option ℕ). put_or changes one before) at)

unless : (later : Bool) (template : Bor Template) → option_copied (then_some (not later) template) ≡ (if later then None else Some template.now)
unless true template = refl
unless false template = refl

pub template_put : (changes : List TemplateChange) (last : List (Subject × ℕ)) (key : TemplateKey) (before : Option Template) (place withdrawn : Option ℕ) (later : Bool) (template : Bor Template)
    → place ≡ place_of last (One key) → Some template.now ≡ put_or changes place before → withdrawn ≡ place_of last (Kind key.domain template.now.options) → later ≡ is_later withdrawn place
    → option_copied (then_some (not later) template) ≡ found_by_places changes last key before
template_put changes last key before place withdrawn later template at put kind is =
    unless later template
    ∙ ap (λ (hit : Bool). if hit then None else Some template.now) is
    ∙ (λ i. if is_later (kind i) (at i) then None else Some template.now)
    ∙ ap (unless_withdrawn (λ options. place_of last (Kind key.domain options)) (place_of last (One key))) (put ∙ ap (λ (one : Option ℕ). put_or changes one before) at)

-- ---- rates

over : (hit : Bool) (rate : ℕ) (last before : Option ℕ) → (if hit then Some rate else option_or last before) ≡ option_or (cond hit (Some rate) last) before
over true rate last before = refl
over false rate last before = refl

pub one_more_rate : (rates : List LearnedRate) (learned : LearnedRate) (old new : List (RateKey × ℕ)) → AreLastRates rates old
    → ((key : RateKey) → rate_found new key ≡ cond (same_rate_key learned.key key) (Some learned.rate) (rate_found old key)) → AreLastRates (rates ++ learned ∷ []) new
one_more_rate rates learned old new last updated key before =
    rates_up rates learned key before
    ∙ ap (rate_learned learned key) (last key before)
    ∙ over (same_rate_key learned.key key) learned.rate (rate_found old key) before
    ∙ sym (ap (λ (one : Option ℕ). option_or one before) (updated key))
