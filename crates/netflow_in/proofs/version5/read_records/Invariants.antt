use Rattle.std.proofs.Common.{◌≡◌, ◌≤◌, ◌*◌, ◌-◌, ◌++◌, ◌^◌, length, All}
use Rattle.acct_types.specs.Counts.{IsBelow}
use Rattle.netflow_in.specs.Version5.{records_of}
use Rattle.netflow_in.proofs.version5.read_records.Given as goal

-- the records so far and those of the rest are all of them
abbrev pub invariant-loop : goal.invariant-loop
invariant-loop l = record {
  all : l.rows.items ++ records_of l.exporter l.source_id l.header_rate (l.count - l.counter) l.rest ≡ records_of l.exporter l.source_id l.header_rate l.count l.octets;
  count : length l.rows.items ≡ l.counter;
  counts : All (λ row. IsBelow (2 ^ 64) row.flow.counts) l.rows.items;
  room : 48 * (l.count - l.counter) ≤ length l.rest;
}
