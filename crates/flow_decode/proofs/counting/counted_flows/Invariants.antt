use Rattle.std.proofs.Common.{◌≡◌, ◌^◌, All, map, take}
use Rattle.acct_types.specs.Counts.{IsBelow}
use Rattle.flow_decode.specs.Counting.{counted}
use Rattle.flow_decode.proofs.counting.counted_flows.Given as goal

-- the flows of the records so far
abbrev pub invariant-loop-raw : goal.invariant-loop-raw
invariant-loop-raw l = record {
  flows : l.flows.items ≡ map (counted l.renormalise l.lines) (take l.raw-index l.rows);
  below : All (λ flow. IsBelow (2 ^ 96) flow.counts) l.flows.items;
}
