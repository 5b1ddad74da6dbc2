-- The audit of a run: what is said of each datagram, and what was counted.
use Rattle.std.specs.Prelude.{ℕ, ◌+◌, ◌-◌, ◌==◌, List, [], ◌∷◌, ◌++◌, filter, min, Result, Ok, Err, length, map, reverse, take, if◌then◌else◌}
use Rattle.acct_types.specs.declared.flow.FlowRecord.{FlowRecord}
use Rattle.acct_types.specs.declared.datagram.Datagram.{Datagram}
use Rattle.flow_decode.specs.declared.decoder.Decoded.{Decoded}
use Rattle.flow_templates.specs.declared.refusal.Cause.{Cause}
use Rattle.out_text.specs.declared.event.Event.{Event}
use Rattle.out_text.specs.declared.event.Event.TheVariants.{Cut, Drop, End, Notice, Refused}
use Rattle.out_text.specs.declared.event.Totals.{Totals}
use Rattle.out_text.specs.Events.{events_text}
use Rattle.collect_core.specs.declared.job.Job.{Job}
use Rattle.collect_core.specs.Most.{Most}
use Rattle.collect_core.specs.Course.{Course}
use Rattle.collect_core.specs.Due.{decoded_in, over_all, records_in, records_of}

-- its refusal alone, or its notices
abbrev pub told : ℕ → Result Decoded Cause → List Event
told number (Ok decoded) = map (Notice number) decoded.notices
told number (Err cause) = Refused number cause ∷ []

-- what is told of decoding a datagram; the first has the number 1
abbrev pub told_in : Job → List Datagram → Datagram → List Event
told_in job earlier d = told (length earlier + 1) (decoded_in job earlier d)

-- by how many routing messages the records of a datagram are routed, where that isn't the number of the datagram before, 0 at first
abbrev pub cuts_at : Course → ℕ → List Event
cuts_at course datagram = if course.cut datagram == course.cut (datagram - 1) then [] else Cut datagram (course.cut datagram) ∷ []

-- the plugins whose rings refused a record's entry, in order
abbrev pub drops_at : Job → Course → ℕ → ℕ → List Event
drops_at job course datagram row =
    map (λ plugin. Drop plugin.name datagram row) (filter (λ plugin. course.is_dropped plugin.name datagram row) job.config.plugins)

-- the same of records from this place on
abbrev pub drops_from : Job → Course → ℕ → ℕ → List FlowRecord → List Event
drops_from job course datagram row [] = []
drops_from job course datagram row (flow ∷ flows) = drops_at job course datagram row ++ drops_from job course datagram (row + 1) flows

-- the records of a datagram that are within the limit
abbrev pub records_within : Job → Most → List Datagram → Datagram → List FlowRecord
records_within job most earlier d = take (most.records - length (records_of job (reverse earlier))) (records_in job earlier d)

abbrev pub drops_in : Job → Most → Course → List Datagram → Datagram → List Event
drops_in job most course earlier d = drops_from job course (length earlier + 1) 1 (records_within job most earlier d)

-- The events of a datagram: what is told of decoding it, then its cut, then its drops by record and plugin.
abbrev pub events_in : Job → Most → Course → List Datagram → Datagram → List Event
events_in job most course earlier d = told_in job earlier d ++ (cuts_at course (length earlier + 1) ++ drops_in job most course earlier d)

abbrev pub causes_in : Result Decoded Cause → List Cause
causes_in (Ok decoded) = []
causes_in (Err cause) = cause ∷ []

-- the cause of a datagram that is refused
abbrev pub refusals_in : Job → List Datagram → Datagram → List Cause
refusals_in job earlier d = causes_in (decoded_in job earlier d)

-- what was counted, of records within the limit
abbrev pub totals_of : Job → Most → Course → List Datagram → Totals
totals_of job most course flows = record {
  datagrams = length flows;
  refused = length (over_all (refusals_in job) flows);
  records = min most.records (length (records_of job flows));
  dropped = length (over_all (drops_in job most course) flows);
  messages = length course.messages;
  closed = course.closed;
}

-- the events of a run
abbrev pub audit_of : Job → Most → Course → List Datagram → List Event
audit_of job most course flows = over_all (events_in job most course) flows ++ End (totals_of job most course flows) ∷ []

-- the audit of a run
abbrev pub audit_text : Job → Most → Course → List Datagram → List ℕ
audit_text job most course flows = events_text (audit_of job most course flows)
