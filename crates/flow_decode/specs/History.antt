-- What is known behind a list of datagrams: going backwards through what they told.
use Rattle.std.specs.Prelude.{◌≡◌, ◌&&◌, ℕ, Bool, false, List, [], ◌∷◌, ◌++◌, Option, Some, None, Result, Ok, Err, if◌then◌else◌, reverse}
use Rattle.std.specs.Bool.{beq}
use Rattle.std.specs.List.{AllByRecursion}
use Rattle.acct_types.specs.declared.datagram.Datagram.{Datagram}
use Rattle.config_keys.specs.declared.tool.Tool.{Tool}
use Rattle.flow_templates.specs.declared.change.TemplateChange.{TemplateChange}
use Rattle.flow_templates.specs.declared.change.TemplateChange.TheVariants.{Put, Withdraw, WithdrawAll}
use Rattle.flow_templates.specs.declared.rate.LearnedRate.{LearnedRate}
use Rattle.flow_templates.specs.declared.rate.RateKey.{RateKey}
use Rattle.flow_templates.specs.declared.refusal.Cause.{Cause}
use Rattle.flow_templates.specs.declared.staged.Stores.{Stores}
use Rattle.flow_templates.specs.declared.template.Template.{Template}
use Rattle.flow_templates.specs.declared.template.TemplateKey.{TemplateKey}
use Rattle.flow_templates.specs.Changes.{after, same_domain, same_key}
use Rattle.flow_templates.specs.Decoding.{Said}
use Rattle.flow_templates.specs.Known.{Known, known_in, rate_learned, same_rate_key}
use Rattle.flow_decode.specs.Datagrams.{decoded}

-- The template in force: going backwards, the newest change first, the first one decides that defines this id, or withdraws it, or
-- withdraws all of its kind.
abbrev pub in_force : List TemplateChange → TemplateKey → Option Template
in_force [] key = None
in_force (change ∷ earlier) key = after change key (in_force earlier key)

-- a change puts or withdraws the template of this id, or withdraws all templates of this kind in its domain
abbrev pub decides : TemplateKey → Bool → TemplateChange → Bool
decides key options (Put put template) = same_key put key
decides key options (Withdraw withdrawn) = same_key withdrawn key
decides key options (WithdrawAll domain kind) = same_domain domain key.domain && beq options kind

abbrev pub puts : TemplateKey → TemplateChange → Bool
puts key (Put put template) = same_key put key
puts key (Withdraw withdrawn) = false
puts key (WithdrawAll domain kind) = false

abbrev pub teaches : RateKey → LearnedRate → Bool
teaches key learned = same_rate_key learned.key key

-- none of them
abbrev pub none_of : {X : Type 0} → (X → Bool) → List X → Type 0
none_of test xs = AllByRecursion (λ x. test x ≡ false) xs

-- The first change that decides, going backwards, puts this template.
pub record IsPutLast (changes : List TemplateChange) (key : TemplateKey) (template : Template) : Type 0 where
  pub newer : List TemplateChange
  pub earlier : List TemplateChange
  pub are : changes ≡ newer ++ Put key template ∷ earlier
  pub first : none_of (decides key template.options) newer

-- The first rate that was learned under this key, going backwards.
pub record IsLearnedLast (rates : List LearnedRate) (key : RateKey) (rate : ℕ) : Type 0 where
  pub newer : List LearnedRate
  pub earlier : List LearnedRate
  pub are : rates ≡ newer ++ record { key = key; rate = rate } ∷ earlier
  pub first : none_of (teaches key) newer

-- the rate that was learned last: going backwards, the first one for this domain and sampler
abbrev pub learned_last : List LearnedRate → RateKey → Option ℕ
learned_last [] key = None
learned_last (learned ∷ earlier) key = rate_learned learned key (learned_last earlier key)

-- what was told, the newest first
pub record Told : Type 0 where
  pub templates : List TemplateChange
  pub rates : List LearnedRate

abbrev pub known_by : Told → Known
known_by told = record { template = in_force told.templates; rate = learned_last told.rates }

-- A datagram that is accepted tells what it says, behind what was told before; one that is refused tells nothing.
abbrev pub told_more : Told → Result Said Cause → Told
told_more told (Ok said) = record { templates = reverse said.changes.templates ++ told.templates; rates = reverse said.changes.rates ++ told.rates }
told_more told (Err cause) = told

-- what datagrams told, the newest datagram first
abbrev pub told_by : Tool → List Datagram → Told
told_by tool [] = record { templates = []; rates = [] }
told_by tool (d ∷ earlier) = told_more (told_by tool earlier) (decoded tool (known_by (told_by tool earlier)) d)

-- what a datagram says behind those before it, the newest first
abbrev pub decoded_behind : Tool → List Datagram → Datagram → Result Said Cause
decoded_behind tool earlier d = decoded tool (known_by (told_by tool earlier)) d

-- what a decoder keeps
pub record DecoderState : Type 0 where
  pub tool : Tool
  pub renormalise : Bool
  pub stores : Stores

-- the decoder knows what these datagrams told, the newest first
abbrev pub Knows : DecoderState → List Datagram → Type 0
Knows decoder earlier = known_in decoder.stores ≡ known_by (told_by decoder.tool earlier)
