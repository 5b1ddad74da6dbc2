-- What the reader of a line tries, before it prints it and compares.
use Rattle.std.specs.Prelude.{◌≡◌, ℕ, ◌%◌, ◌^◌, List, [], ◌∷◌, Option, Some, None, Result, Ok, Err}
use Rattle.std.specs.Borrow.{Bor}
use Rattle.flow_templates.specs.declared.decoded.NoticeCause.{NoticeCause}
use Rattle.flow_templates.specs.declared.decoded.NoticeCause.TheVariants as notice
use Rattle.flow_templates.specs.declared.refusal.Cause.{Cause}
use Rattle.flow_templates.specs.declared.refusal.Cause.TheVariants as cause
use Rattle.out_text.specs.declared.event.Event.{Event}
use Rattle.out_text.specs.declared.event_reading.LineFault.{LineFault}
use Rattle.out_text.specs.declared.event_reading.LineFault.TheVariants.{NotALine, NoMemory}
use Rattle.out_text.specs.Events.{EventFits, event_words}

-- all causes, of which one has this number
unfoldable pub causes_with : ℕ → List Cause
causes_with number =
    cause.Short ∷ cause.Version number ∷ cause.V5Count ∷ cause.V5Cut ∷ cause.SetLength ∷ cause.TemplateId ∷ cause.TemplateCut
    ∷ cause.TemplateEmpty ∷ cause.FieldWidth ∷ cause.ScopeCount ∷ cause.IpfixLength ∷ cause.VarCut ∷ cause.SflowAddress
    ∷ cause.SampleCut ∷ cause.RecordCut ∷ []

-- all notices, of which three have this number, or its low 16 bits
unfoldable pub notices_with : ℕ → List NoticeCause
notices_with number =
    notice.NoTemplate (number % 2 ^ 16) ∷ notice.ReservedSet (number % 2 ^ 16) ∷ notice.HeaderCut ∷ notice.NotIp ∷ notice.Skipped number ∷ []

-- a number, or 0 where there is none
abbrev pub or_zero : Option ℕ → ℕ
or_zero None = 0
or_zero (Some number) = number

-- the answer is this event, unless memory ran out
abbrev pub Guesses : Result Event LineFault → Event → Type 0
Guesses (Ok guess) event = guess ≡ event
Guesses (Err NotALine) event = ⊥
Guesses (Err NoMemory) event = Unit {0}

-- Where the words are those of an event, the answer is that event, unless memory ran out.
abbrev pub Reads : List (List ℕ) → Result Event LineFault → Type 0
Reads words answer = (event : Event) → EventFits event → words ≡ event_words event → Guesses answer event

-- the answer is this word and number
abbrev pub IsAnswer : Result (Bor (List ℕ) × ℕ) LineFault → List ℕ × ℕ → Type 0
IsAnswer (Ok answer) wanted = (answer.0.now, answer.1) ≡ wanted
IsAnswer (Err fault) wanted = ⊥
