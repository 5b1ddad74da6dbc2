-- What exporters told: the template in force under each key, and the rate that was learned last under each.
use Rattle.std.specs.Prelude.{ℕ, ◌≡◌, ◌==◌, ◌&&◌, Bool, true, false, List, [], ◌∷◌, ◌++◌, Option, Some, None, if◌then◌else◌}
use Rattle.std.specs.List.{IsDistinct}
use Rattle.std.specs.Map.{keys_of, lookup}
use Rattle.flow_templates.specs.declared.rate.LearnedRate.{LearnedRate}
use Rattle.flow_templates.specs.declared.rate.RateKey.{RateKey}
use Rattle.flow_templates.specs.declared.staged.Stores.{Stores}
use Rattle.flow_templates.specs.declared.template.Domain.{Domain}
use Rattle.flow_templates.specs.declared.template.Template.{Template}
use Rattle.flow_templates.specs.declared.template.TemplateKey.{TemplateKey}
use Rattle.flow_templates.specs.Changes.{StagedChanges, after_all, found, same_domain}
pub use Rattle.flow_templates.specs.Keys.{rate_key_of}

abbrev pub same_sampler : Option ℕ → Option ℕ → Bool
same_sampler None None = true
same_sampler None (Some b) = false
same_sampler (Some a) None = false
same_sampler (Some a) (Some b) = a == b

abbrev pub same_rate_key : RateKey → RateKey → Bool
same_rate_key a b = same_domain a.domain b.domain && same_sampler a.sampler b.sampler

-- the rate that is kept under a key
abbrev pub rate_found : List (RateKey × ℕ) → RateKey → Option ℕ
rate_found entries key = lookup (same_rate_key key) entries

-- each key has one rate
abbrev pub HasOneRateEach : List (RateKey × ℕ) → Type 0
HasOneRateEach entries = IsDistinct same_rate_key (keys_of entries)

abbrev pub learned_of : Domain → Option ℕ → ℕ → LearnedRate
learned_of domain sampler rate = record { key = rate_key_of domain sampler; rate = rate }

-- the rate under a key after one was learned, where this one was learned before it
abbrev pub rate_learned : LearnedRate → RateKey → Option ℕ → Option ℕ
rate_learned learned key before = if same_rate_key learned.key key then Some learned.rate else before

-- after rates that were learned one behind another
abbrev pub rate_after : List LearnedRate → RateKey → Option ℕ → Option ℕ
rate_after [] key before = before
rate_after (learned ∷ later) key before = rate_after later key (rate_learned learned key before)

-- the last rate counts over what the earlier ones leave
abbrev pub RatesAddUp : Type 0
RatesAddUp = (learned : List LearnedRate) (last : LearnedRate) (key : RateKey) (before : Option ℕ)
    → rate_after (learned ++ last ∷ []) key before ≡ rate_learned last key (rate_after learned key before)

-- the entries are those before, but for these rates
abbrev pub LearnsAll : List (RateKey × ℕ) → List (RateKey × ℕ) → List LearnedRate → Type 0
LearnsAll old new learned = (key : RateKey) → rate_found new key ≡ rate_after learned key (rate_found old key)

pub record Known : Type 0 where
  pub template : TemplateKey → Option Template
  pub rate : RateKey → Option ℕ

abbrev pub nothing_known : Known
nothing_known = record { template = λ key. None; rate = λ key. None }

-- what is known after changes, one behind another
abbrev pub known_after : Known → StagedChanges → Known
known_after known changes = record {
  template = λ key. after_all changes.templates key (known.template key);
  rate = λ key. rate_after changes.rates key (known.rate key);
}

-- what stores know
abbrev pub known_in : Stores → Known
known_in stores = record {
  template = found stores.templates;
  rate = rate_found stores.options;
}
