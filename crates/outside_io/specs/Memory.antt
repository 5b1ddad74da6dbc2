-- What a source or sink in memory holds, how much it moves a call, and which calls fail.
use Rattle.std.specs.Prelude.{ℕ, List, Some, drop}
use Rattle.outside_io.specs.States.{SourceState, SinkState}
use Rattle.outside_io.specs.declared.call_plan.CallPlan.{CallPlan}
use Rattle.outside_io.specs.declared.memory.MemorySource.{MemorySource}
use Rattle.outside_io.specs.declared.memory.MemorySink.{MemorySink}

abbrev pub source_left : MemorySource → List ℕ
source_left source = drop source.at source.octets

abbrev pub source_most : MemorySource → ℕ
source_most source = source.most

abbrev pub source_plan : MemorySource → CallPlan
source_plan source = source.plan

abbrev pub source_faults : MemorySource → ℕ
source_faults source = source.faults

abbrev pub source_state : MemorySource → SourceState
source_state source = record { left = Some (source_left source); faults = source_faults source }

abbrev pub sink_held : MemorySink → List ℕ
sink_held sink = sink.held

abbrev pub sink_most : MemorySink → ℕ
sink_most sink = sink.most

abbrev pub sink_plan : MemorySink → CallPlan
sink_plan sink = sink.plan

abbrev pub sink_faults : MemorySink → ℕ
sink_faults sink = sink.faults

abbrev pub sink_state : MemorySink → SinkState
sink_state sink = record { held = Some (sink_held sink); faults = sink_faults sink }
