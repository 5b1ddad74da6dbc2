-- Events of the audit as lines of words.
use Rattle.std.specs.Prelude.{◌≡◌, ◌<◌, ◌^◌, ◌==◌, ◌&&◌, ◌||◌, ℕ, Bool, true, List, [], ◌∷◌, ◌++◌, Option, Some, None, codes, decimal, flat_map, length, map, nat_le}
use Rattle.std.specs.List.{AllByRecursion, list_all}
use Rattle.flow_templates.specs.declared.decoded.NoticeCause.{NoticeCause}
use Rattle.flow_templates.specs.declared.decoded.NoticeCause.TheVariants as notice
use Rattle.flow_templates.specs.declared.refusal.Cause.{Cause}
use Rattle.flow_templates.specs.declared.refusal.Cause.TheVariants as cause
use Rattle.out_text.specs.declared.event.Event.{Event}
use Rattle.out_text.specs.declared.event.Event.TheVariants.{Cut, Refused, Notice, Drop, End}
use Rattle.out_text.specs.declared.event.Totals.{Totals}
use Rattle.out_text.specs.Lines.{joined}

-- ---- lines

-- the word of a cause
unfoldable pub cause_word : Cause → List ℕ
cause_word cause.Short = codes "short"
cause_word (cause.Version _) = codes "version"
cause_word cause.V5Count = codes "v5-count"
cause_word cause.V5Cut = codes "v5-cut"
cause_word cause.SetLength = codes "set-length"
cause_word cause.TemplateId = codes "template-id"
cause_word cause.TemplateCut = codes "template-cut"
cause_word cause.TemplateEmpty = codes "template-empty"
cause_word cause.FieldWidth = codes "field-width"
cause_word cause.ScopeCount = codes "scope-count"
cause_word cause.IpfixLength = codes "ipfix-length"
cause_word cause.VarCut = codes "var-cut"
cause_word cause.SflowAddress = codes "sflow-address"
cause_word cause.SampleCut = codes "sample-cut"
cause_word cause.RecordCut = codes "record-cut"

-- the number that a cause has
abbrev pub cause_number : Cause → Option ℕ
cause_number (cause.Version number) = Some number
cause_number _ = None

-- the word of a notice
unfoldable pub notice_word : NoticeCause → List ℕ
notice_word (notice.NoTemplate _) = codes "no-template"
notice_word (notice.ReservedSet _) = codes "reserved-set"
notice_word notice.HeaderCut = codes "header-cut"
notice_word notice.NotIp = codes "not-ip"
notice_word (notice.Skipped _) = codes "skipped"

-- the number that a notice has
abbrev pub notice_number : NoticeCause → Option ℕ
notice_number (notice.NoTemplate id) = Some id
notice_number (notice.ReservedSet id) = Some id
notice_number (notice.Skipped format) = Some format
notice_number _ = None

-- a word, and a number behind it where there is one
abbrev pub with_number : List ℕ → Option ℕ → List (List ℕ)
with_number word None = word ∷ []
with_number word (Some number) = word ∷ decimal number ∷ []

-- the counts of a run in their order
abbrev pub counts_of : Totals → List ℕ
counts_of totals = totals.datagrams ∷ totals.refused ∷ totals.records ∷ totals.dropped ∷ totals.messages ∷ totals.closed ∷ []

-- the words of an event
abbrev pub event_words : Event → List (List ℕ)
event_words (Cut datagram messages) = codes "cut" ∷ decimal datagram ∷ decimal messages ∷ []
event_words (Refused datagram c) = codes "refused" ∷ decimal datagram ∷ with_number (cause_word c) (cause_number c)
event_words (Notice datagram n) = codes "notice" ∷ decimal datagram ∷ decimal n.set ∷ with_number (notice_word n.cause) (notice_number n.cause)
event_words (Drop plugin datagram row) = codes "drop" ∷ plugin ∷ decimal datagram ∷ decimal row ∷ []
event_words (End totals) = codes "end" ∷ map decimal (counts_of totals)

-- words with a space between them, and a line feed
abbrev pub line_of : List (List ℕ) → List ℕ
line_of words = joined (codes " ") words ++ codes "\n"

-- the line of an event
unfoldable pub event_line : Event → List ℕ
event_line event = line_of (event_words event)

-- the lines of events
abbrev pub events_text : List Event → List ℕ
events_text events = flat_map event_line events

-- ---- what an event may have

-- a letter, a digit, `_` or `-`
abbrev pub is_name_octet : ℕ → Bool
is_name_octet octet = nat_le 97 octet && nat_le octet 122 || nat_le 65 octet && nat_le octet 90 || nat_le 48 octet && nat_le octet 57 || octet == 95 || octet == 45

-- 1 to 32 of them
abbrev pub is_name : List ℕ → Bool
is_name text = nat_le 1 (length text) && nat_le (length text) 32 && list_all is_name_octet text

-- the plugin of a drop has a name
abbrev pub IsNamed : Event → Type 0
IsNamed (Drop plugin datagram row) = is_name plugin ≡ true
IsNamed _ = Unit {0}

-- a number is below the bound, where there is one
abbrev pub IsBelow : ℕ → Option ℕ → Type 0
IsBelow bound None = Unit {0}
IsBelow bound (Some number) = number < bound

-- an id of a set has 16 bits, any other number 32
abbrev pub notice_bound : NoticeCause → ℕ
notice_bound (notice.NoTemplate _) = 2 ^ 16
notice_bound (notice.ReservedSet _) = 2 ^ 16
notice_bound _ = 2 ^ 32

abbrev pub CauseFits : Cause → Type 0
CauseFits c = IsBelow (2 ^ 32) (cause_number c)

abbrev pub NoticeFits : NoticeCause → Type 0
NoticeFits n = IsBelow (notice_bound n) (notice_number n)

-- each number fits its type
abbrev pub NumbersFit : Event → Type 0
NumbersFit (Cut datagram messages) = (datagram < 2 ^ 64) × (messages < 2 ^ 64)
NumbersFit (Refused datagram c) = (datagram < 2 ^ 64) × CauseFits c
NumbersFit (Notice datagram n) = (datagram < 2 ^ 64) × (n.set < 2 ^ 32) × NoticeFits n.cause
NumbersFit (Drop plugin datagram row) = (datagram < 2 ^ 64) × (row < 2 ^ 32)
NumbersFit (End totals) = AllByRecursion (λ count. count < 2 ^ 64) (counts_of totals)

-- an event that has a line: its plugin is named and its numbers fit
abbrev pub EventFits : Event → Type 0
EventFits event = IsNamed event × NumbersFit event

abbrev pub AllFit : List Event → Type 0
AllFit events = AllByRecursion EventFits events

-- ---- laws

-- a line has one event
abbrev pub HasOneEvent : Type 0
HasOneEvent = (e f : Event) → EventFits e → EventFits f → event_line e ≡ event_line f → e ≡ f

-- a text has one list of events
abbrev pub HasOneList : Type 0
HasOneList = (es fs : List Event) → AllFit es → AllFit fs → events_text es ≡ events_text fs → es ≡ fs
