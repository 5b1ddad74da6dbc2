-- What parts of a datagram say, one behind another.
use Rattle.std.specs.Prelude.{ℕ, ◌≡◌, ◌++◌, List, [], ◌∷◌, Result, Ok, Err}
use Rattle.flow_templates.specs.declared.change.TemplateChange.{TemplateChange}
use Rattle.flow_templates.specs.declared.decoded.NoticeCause.{NoticeCause}
use Rattle.flow_templates.specs.declared.decoded.RawDecoded.{RawDecoded}
use Rattle.flow_templates.specs.declared.decoded.RawRecord.{RawRecord}
use Rattle.flow_templates.specs.declared.rate.LearnedRate.{LearnedRate}
use Rattle.flow_templates.specs.declared.refusal.Cause.{Cause}
use Rattle.flow_templates.specs.declared.refusal.Undecodable.{Undecodable}
use Rattle.flow_templates.specs.Changes.{StagedChanges, nothing_staged}
use Rattle.flow_templates.specs.Decoding.{FailsAs, Said}

abbrev pub nothing_said : Said
nothing_said = record { rows = []; notices = []; changes = nothing_staged }

abbrev pub one_row : RawRecord → Said
one_row row = record { rows = row ∷ []; notices = []; changes = nothing_staged }

-- a notice with the number of its set
abbrev pub noticed : ℕ → NoticeCause → Said
noticed number cause = record { rows = []; notices = record { set = number; cause = cause } ∷ []; changes = nothing_staged }

abbrev pub one_change : TemplateChange → Said
one_change change = record { rows = []; notices = []; changes = record { templates = change ∷ []; rates = [] } }

abbrev pub rates_alone : List LearnedRate → StagedChanges
rates_alone rates = record { templates = []; rates = rates }

abbrev pub taught_alone : List LearnedRate → Said
taught_alone rates = record { rows = []; notices = []; changes = rates_alone rates }

-- and behind them rates
abbrev pub and_rates : StagedChanges → List LearnedRate → StagedChanges
and_rates staged rates = record { templates = staged.templates; rates = staged.rates ++ rates }

abbrev pub both_staged : StagedChanges → StagedChanges → StagedChanges
both_staged a b = record { templates = a.templates ++ b.templates; rates = a.rates ++ b.rates }

abbrev pub both : Said → Said → Said
both a b = record { rows = a.rows ++ b.rows; notices = a.notices ++ b.notices; changes = both_staged a.changes b.changes }

-- something, and behind it what the rest says, unless the rest is refused
abbrev pub behind : Said → Result Said Cause → Result Said Cause
behind said (Ok rest) = Ok (both said rest)
behind said (Err cause) = Err cause

-- what was read so far
abbrev pub so_far : RawDecoded → StagedChanges → Said
so_far decoded staged = record { rows = decoded.rows; notices = decoded.notices; changes = staged }

-- What was read grows by what a part says, or the part is refused for its cause.
abbrev pub Adds : {A : Type 0} → Result A Undecodable → Said → Said → Result Said Cause → Type 0
Adds (Ok done) old new wanted = behind old wanted ≡ Ok new
Adds (Err undecodable) old new wanted = FailsAs undecodable wanted

-- These are the rates that a part teaches, which says nothing else, or it is refused for its cause.
abbrev pub Teaches : Result (List LearnedRate) Undecodable → Result Said Cause → Type 0
Teaches (Ok lessons) wanted = wanted ≡ Ok (taught_alone lessons)
Teaches (Err undecodable) wanted = FailsAs undecodable wanted
