-- The templates that are kept, as a map from keys to templates, and what changes it.
use Rattle.std.specs.Prelude.{◌≡◌, ◌==◌, ◌&&◌, ◌++◌, Bool, false, List, [], ◌∷◌, Option, Some, None, if◌then◌else◌, IfSome}
use Rattle.std.specs.Bool.{beq}
use Rattle.std.specs.List.{AllByRecursion, IsDistinct}
use Rattle.std.specs.Map.{keys_of, lookup}
use Rattle.acct_types.specs.declared.addr.Addr.{Addr}
use Rattle.acct_types.specs.declared.addr.Addr.TheVariants.{V4, V6}
use Rattle.flow_templates.specs.declared.template.Domain.{Domain}
use Rattle.flow_templates.specs.declared.template.Template.{Template}
use Rattle.flow_templates.specs.declared.rate.LearnedRate.{LearnedRate}
use Rattle.flow_templates.specs.declared.template.TemplateKey.{TemplateKey}
use Rattle.flow_templates.specs.declared.change.TemplateChange.{TemplateChange}
use Rattle.flow_templates.specs.declared.change.TemplateChange.TheVariants.{Put, Withdraw, WithdrawAll}
pub use Rattle.flow_templates.specs.Keys.{key_of}
use Rattle.flow_templates.specs.Templates.{IsDefined}

abbrev pub Entries : Type 0
Entries = List (TemplateKey × Template)

abbrev pub same_address : Addr → Addr → Bool
same_address (V4 a) (V4 b) = a == b
same_address (V4 a) (V6 b) = false
same_address (V6 a) (V4 b) = false
same_address (V6 a) (V6 b) = a == b

-- the same exporter, version and source
abbrev pub same_domain : Domain → Domain → Bool
same_domain a b = same_address a.exporter b.exporter && (a.version == b.version && a.id == b.id)

abbrev pub same_key : TemplateKey → TemplateKey → Bool
same_key a b = same_domain a.domain b.domain && a.id == b.id

-- the template that is kept under a key
abbrev pub found : Entries → TemplateKey → Option Template
found entries key = lookup (same_key key) entries

-- each key has one template
abbrev pub HasOneEach : Entries → Type 0
HasOneEach entries = IsDistinct same_key (keys_of entries)

-- what was found, but for a template of this kind
abbrev pub without_kind : Bool → Option Template → Option Template
without_kind options None = None
without_kind options (Some template) = if beq template.options options then None else Some template

-- What is found by a key after a change, from what was found before. A template of another exporter, version, source or id stays.
abbrev pub after : TemplateChange → TemplateKey → Option Template → Option Template
after (Put put template) key before = if same_key put key then Some template else before
after (Withdraw withdrawn) key before = if same_key withdrawn key then None else before
after (WithdrawAll domain options) key before = if same_domain domain key.domain then without_kind options before else before

-- after a list of changes, one behind another
abbrev pub after_all : List TemplateChange → TemplateKey → Option Template → Option Template
after_all [] key before = before
after_all (change ∷ changes) key before = after_all changes key (after change key before)

-- the entries are those before, but for this change
abbrev pub Changes : Entries → Entries → TemplateChange → Type 0
Changes old new change = (key : TemplateKey) → found new key ≡ after change key (found old key)

-- the entries are those before, but for these changes
abbrev pub ChangesAll : Entries → Entries → List TemplateChange → Type 0
ChangesAll old new changes = (key : TemplateKey) → found new key ≡ after_all changes key (found old key)

-- what a change puts is a template that an accepted record defines
abbrev pub PutsDefined : TemplateChange → Type 0
PutsDefined (Put key template) = IsDefined key.domain.version template
PutsDefined (Withdraw key) = Unit {0}
PutsDefined (WithdrawAll domain options) = Unit {0}

abbrev pub PutDefined : List TemplateChange → Type 0
PutDefined changes = AllByRecursion PutsDefined changes

-- each template that is kept is one that an accepted record defines
abbrev pub AreDefined : Entries → Type 0
AreDefined entries = (key : TemplateKey) → IfSome (found entries key) (λ template. IsDefined key.domain.version template)

-- the last change counts over what the earlier ones leave
abbrev pub ChangesAddUp : Type 0
ChangesAddUp = (changes : List TemplateChange) (last : TemplateChange) (key : TemplateKey) (before : Option Template)
    → after_all (changes ++ last ∷ []) key before ≡ after last key (after_all changes key before)

-- the changes that a datagram makes, in their order
pub record StagedChanges : Type 0 where
  pub templates : List TemplateChange
  pub rates : List LearnedRate

abbrev pub nothing_staged : StagedChanges
nothing_staged = record { templates = []; rates = [] }

-- and behind them one more
abbrev pub and_change : StagedChanges → TemplateChange → StagedChanges
and_change staged change = record { templates = staged.templates ++ change ∷ []; rates = staged.rates }

abbrev pub and_rate : StagedChanges → LearnedRate → StagedChanges
and_rate staged learned = record { templates = staged.templates; rates = staged.rates ++ learned ∷ [] }
