-- Sets, as RFC 3954 lays them out in 5.1 to 5.3 and RFC 7011 in 3.3 and 3.4: id (2 octets), length (2), which counts these four octets,
-- and the content.
use Rattle.std.specs.Prelude.{ℕ, zero, suc, ◌≡◌, ◌≢◌, ◌+◌, ◌-◌, ◌==◌, ◌||◌, nat_lt, Bool, true, false, List, length, take, drop, Option, Some, None, Result, Ok, Err, if◌then◌else◌, IsOk, ◌≤◌, ◌++◌}
use Rattle.acct_types.specs.Numbers.{number_at}
use Rattle.flow_templates.specs.declared.change.TemplateChange.{TemplateChange}
use Rattle.flow_templates.specs.declared.change.TemplateChange.TheVariants.{Put, Withdraw, WithdrawAll}
use Rattle.flow_templates.specs.declared.decoded.NoticeCause.TheVariants.{NoTemplate, ReservedSet}
use Rattle.flow_templates.specs.declared.refusal.Cause.{Cause}
use Rattle.flow_templates.specs.declared.refusal.Cause.TheVariants as cause
use Rattle.flow_templates.specs.declared.refusal.Undecodable.{Undecodable}
use Rattle.flow_templates.specs.declared.refusal.Undecodable.TheVariants as answer
use Rattle.flow_templates.specs.declared.template.Domain.{Domain}
use Rattle.flow_templates.specs.declared.template.Template.{Template}
use Rattle.flow_templates.specs.declared.template.TemplateFault.{TemplateFault}
use Rattle.flow_templates.specs.declared.template.TemplateFault.TheVariants as fault
use Rattle.flow_templates.specs.declared.template.TemplateTurn.{TemplateTurn}
use Rattle.flow_templates.specs.declared.template.TemplateWhat.{TemplateWhat}
use Rattle.flow_templates.specs.declared.template.TemplateWhat.TheVariants.{Defined, Withdrawn, AllWithdrawn}
use Rattle.flow_templates.specs.Decoding.{Said}
use Rattle.flow_templates.specs.Keys.{key_of}
use Rattle.flow_templates.specs.Known.{Known, known_after}
use Rattle.flow_templates.specs.Templates.{template_record}
use Rattle.flow_sets.specs.Records.{data_said}
use Rattle.flow_sets.specs.Saying.{behind, noticed, nothing_said, one_change}

-- ---- template sets

-- a datagram is refused for the fault of its template record (want of memory is none of the record's)
abbrev pub cause_of : TemplateFault → Cause
cause_of fault.TemplateId = cause.TemplateId
cause_of fault.TemplateCut = cause.TemplateCut
cause_of fault.TemplateEmpty = cause.TemplateEmpty
cause_of fault.FieldWidth = cause.FieldWidth
cause_of fault.ScopeCount = cause.ScopeCount
cause_of fault.NoMemory = cause.TemplateCut

-- the answer to a fault
abbrev pub Refuses : Undecodable → TemplateFault → Type 0
Refuses answer.NoMemory one = one ≡ fault.NoMemory
Refuses (answer.Refused why) one = (one ≢ fault.NoMemory) × (why ≡ cause_of one)

abbrev pub change_by : Domain → Bool → ℕ → TemplateWhat → TemplateChange
change_by domain options id (Defined template) = Put (key_of domain id) template
change_by domain options id Withdrawn = Withdraw (key_of domain id)
change_by domain options id AllWithdrawn = WithdrawAll domain options

-- what a template record changes
abbrev pub change_of : Domain → Bool → TemplateTurn → TemplateChange
change_of domain options turn = change_by domain options turn.id turn.what

-- what follows from a record, or the cause of its fault
abbrev pub if_judged : Result TemplateTurn TemplateFault → (TemplateTurn → Result Said Cause) → Result Said Cause
if_judged (Ok turn) next = next turn
if_judged (Err fault) next = Err (cause_of fault)

-- The records of a template set, one behind another, until fewer than four octets are left. There are at most as many as `most`.
abbrev pub templates_from : ℕ → Domain → Bool → List ℕ → Result Said Cause
templates_from zero domain options octets = Ok nothing_said
templates_from (suc most) domain options octets =
    if nat_lt (length octets) 4 then Ok nothing_said
    else if_judged (template_record domain.version options octets)
    (λ turn. behind (one_change (change_of domain options turn)) (templates_from most domain options (drop turn.used octets)))

-- each record has four octets at least
abbrev pub templates_said : Domain → Bool → List ℕ → Result Said Cause
templates_said domain options octets = templates_from (length octets) domain options octets

-- ---- one set

-- the id of a set of templates, and of one of options templates
abbrev pub template_set : ℕ → ℕ
template_set version = if version == 9 then 0 else 2

abbrev pub options_set : ℕ → ℕ
options_set version = if version == 9 then 1 else 3

-- a data set under the template that is known for it
abbrev pub data_by : Domain → Known → ℕ → ℕ → List ℕ → Option Template → Result Said Cause
data_by domain known number id octets None = Ok (noticed number (NoTemplate id))
data_by domain known number id octets (Some template) = data_said domain known template octets

-- what a set says with this number, id and content
unfoldable pub set_said : Domain → Known → ℕ → ℕ → List ℕ → Result Said Cause
set_said domain known number id octets =
    if id == template_set domain.version then templates_said domain false octets
    else (if id == options_set domain.version then templates_said domain true octets
    else (if nat_lt id 256 then Ok (noticed number (ReservedSet id))
    else data_by domain known number id octets (known.template (key_of domain id))))

-- ---- all sets

abbrev pub set_id : List ℕ → ℕ
set_id octets = number_at octets 0 2

abbrev pub set_length : List ℕ → ℕ
set_length octets = number_at octets 2 2

-- the set at the front isn't whole, or its length isn't that of a set
abbrev pub is_set_cut : List ℕ → Bool
is_set_cut octets = nat_lt (length octets) 4 || nat_lt (set_length octets) 4 || nat_lt (length octets) (set_length octets)

-- what the set at the front says
abbrev pub front_said : Domain → Known → ℕ → List ℕ → Result Said Cause
front_said domain known number octets = set_said domain known number (set_id octets) (take (set_length octets - 4) (drop 4 octets))

-- what follows from what was said, unless it was refused
abbrev pub if_said : Result Said Cause → (Said → Result Said Cause) → Result Said Cause
if_said (Ok said) next = next said
if_said (Err cause) next = Err cause

-- The sets from the one with this number on. What a set says is known to those behind it. There are at most as many as `most`.
abbrev pub sets_from : ℕ → Domain → Known → ℕ → List ℕ → Result Said Cause
sets_from zero domain known number octets = Ok nothing_said
sets_from (suc most) domain known number octets =
    if length octets == 0 then Ok nothing_said
    else (if is_set_cut octets then Err cause.SetLength
    else if_said (front_said domain known number octets)
    (λ said. behind said (sets_from most domain (known_after known said.changes) (number + 1) (drop (set_length octets) octets))))

-- how many sets stand one behind another, of which there are at most as many as `most`
abbrev pub sets_in : ℕ → List ℕ → ℕ
sets_in zero octets = 0
sets_in (suc most) octets = if length octets == 0 then 0 else suc (sets_in most (drop (set_length octets) octets))

abbrev pub set_count : List ℕ → ℕ
set_count octets = sets_in (length octets) octets

-- What the sets of a datagram say, up to its end, or the first cause to refuse it. They are numbered from 1. Each has four octets at
-- least.
unfoldable pub sets_said : Domain → Known → List ℕ → Result Said Cause
sets_said domain known octets = sets_from (length octets) domain known 1 octets

-- Some sets, the first ones, are accepted: one or more.
pub record AcceptsSome (domain : Domain) (known : Known) (octets : List ℕ) : Type 0 where
  pub front : List ℕ
  pub rest : List ℕ
  pub are : octets ≡ front ++ rest
  pub some : 1 ≤ length front
  pub accepted : IsOk (sets_said domain known front)
