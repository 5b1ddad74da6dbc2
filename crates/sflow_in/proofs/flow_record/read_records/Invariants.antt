use Rattle.std.proofs.Common.{◌≡◌, ◌-◌}
use Rattle.sflow_in.specs.FlowRecords.{records_of, told_in}
use Rattle.sflow_in.proofs.RecordLemmas.{with_told}
use Rattle.sflow_in.proofs.flow_record.read_records.Given as goal

-- what is told so far and by the records that are left is what all of them tell
abbrev pub invariant-loop : goal.invariant-loop
invariant-loop l = with_told l.told (records_of (l.count - l.counter) l.rest) ≡ told_in (records_of l.count l.octets)
