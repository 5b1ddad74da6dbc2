use Rattle.std.proofs.Common.{◌≡◌, ◌-◌}
use Rattle.flow_templates.specs.Decoding.{Said}
use Rattle.sflow_in.specs.Samples.{said_in, samples_of}
use Rattle.sflow_in.proofs.SampleLemmas.{with_said}
use Rattle.sflow_in.proofs.datagram.failure_of.Given as goal

-- the samples so far say something, with which those that are left say what all do
abbrev pub invariant-loop : goal.invariant-loop
invariant-loop l = (now : Said) × (with_said now.rows now.notices l.counter (samples_of l.exporter l.source_id (l.count - l.counter) l.rest) ≡ said_in (samples_of l.exporter l.source_id l.count l.octets))
