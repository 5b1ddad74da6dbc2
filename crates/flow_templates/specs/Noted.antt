-- What is enough to know of changes that were noted one behind another: of each subject the place of its last change, and of each key
-- the rate that was learned last.
use Rattle.std.specs.Prelude.{ℕ, ◌≡◌, ◌<◌, ◌&&◌, Bool, true, false, List, length, Option, Some, None, if◌then◌else◌, nat_lt, IfSome, slice_get}
use Rattle.std.specs.Bool.{beq}
use Rattle.std.specs.Map.{lookup}
use Rattle.std.specs.Option.{option_and_then, option_or}
use Rattle.flow_templates.specs.declared.change.TemplateChange.{TemplateChange}
use Rattle.flow_templates.specs.declared.change.TemplateChange.TheVariants.{Put, Withdraw, WithdrawAll}
use Rattle.flow_templates.specs.declared.noted.Subject.{Subject}
use Rattle.flow_templates.specs.declared.noted.Subject.TheVariants.{One, Kind}
use Rattle.flow_templates.specs.declared.rate.LearnedRate.{LearnedRate}
use Rattle.flow_templates.specs.declared.rate.RateKey.{RateKey}
use Rattle.flow_templates.specs.declared.template.Template.{Template}
use Rattle.flow_templates.specs.declared.template.TemplateKey.{TemplateKey}
use Rattle.flow_templates.specs.Changes.{after_all, same_domain, same_key}
use Rattle.flow_templates.specs.Known.{rate_after, rate_found}

abbrev pub same_subject : Subject → Subject → Bool
same_subject (One a) (One b) = same_key a b
same_subject (One a) (Kind domain options) = false
same_subject (Kind domain options) (One b) = false
same_subject (Kind a options) (Kind b other) = same_domain a b && beq options other

-- the template that a change is about, or the templates of a domain and kind
abbrev pub subject_of : TemplateChange → Subject
subject_of (Put key template) = One key
subject_of (Withdraw key) = One key
subject_of (WithdrawAll domain options) = Kind domain options

-- the place of the last change of a subject
abbrev pub place_of : List (Subject × ℕ) → Subject → Option ℕ
place_of last subject = lookup (same_subject subject) last

-- the template that a change puts
abbrev pub put_by : TemplateChange → Option Template
put_by (Put key template) = Some template
put_by (Withdraw key) = None
put_by (WithdrawAll domain options) = None

-- the template that is put at a place, or where there is no place the one before
abbrev pub put_or : List TemplateChange → Option ℕ → Option Template → Option Template
put_or changes None before = before
put_or changes (Some place) before = option_and_then put_by (slice_get changes place)

-- a withdrawal of a kind comes behind the last change of a template
abbrev pub is_later : Option ℕ → Option ℕ → Bool
is_later None place = false
is_later (Some withdrawn) None = true
is_later (Some withdrawn) (Some place) = nat_lt place withdrawn

-- a template, unless its kind was withdrawn behind its place
abbrev pub unless_withdrawn : (Bool → Option ℕ) → Option ℕ → Option Template → Option Template
unless_withdrawn withdrawn place None = None
unless_withdrawn withdrawn place (Some template) = if is_later (withdrawn template.options) place then None else Some template

-- what is found by a key after the changes, as the places tell it
abbrev pub found_by_places : List TemplateChange → List (Subject × ℕ) → TemplateKey → Option Template → Option Template
found_by_places changes last key before =
    unless_withdrawn (λ options. place_of last (Kind key.domain options)) (place_of last (One key)) (put_or changes (place_of last (One key)) before)

-- the places lie in the list, and tell what the changes leave
pub record ArePlaces (changes : List TemplateChange) (last : List (Subject × ℕ)) : Type 0 where
  pub within : (subject : Subject) → IfSome (place_of last subject) (λ place. place < length changes)
  pub tell : (key : TemplateKey) (before : Option Template) → after_all changes key before ≡ found_by_places changes last key before

-- the rate under each key is the one that was learned last
abbrev pub AreLastRates : List LearnedRate → List (RateKey × ℕ) → Type 0
AreLastRates rates last = (key : RateKey) (before : Option ℕ) → rate_after rates key before ≡ option_or (rate_found last key) before
