-- What a queue of events holds, and which calls fail.
use Rattle.std.specs.Prelude.{ℕ, Bool, false, List, Some, None, reverse}
use Rattle.outside_io.specs.States.{InputState}
use Rattle.outside_io.specs.declared.call_plan.CallPlan.{CallPlan}
use Rattle.outside_io.specs.declared.event_queue.EventQueue.{EventQueue}

-- the events left, the next one first
abbrev pub queue_left : {T : Type 0} → EventQueue T → List T
queue_left queue = reverse queue.backwards

-- the moment of the event handed out last, 0 at first
abbrev pub queue_moment : {T : Type 0} → EventQueue T → ℕ
queue_moment queue = queue.moment

-- it said that none is left
abbrev pub queue_ended : {T : Type 0} → EventQueue T → Bool
queue_ended queue = queue.ended

abbrev pub queue_plan : {T : Type 0} → EventQueue T → CallPlan
queue_plan queue = queue.plan

abbrev pub queue_faults : {T : Type 0} → EventQueue T → ℕ
queue_faults queue = queue.faults

-- the state of a queue of events, which tells what is left, and simply ends
abbrev pub queue_state : {T : Type 0} → EventQueue T → InputState T
queue_state queue = record {
  left = Some (queue_left queue);
  ending = None;
  handed = None;
  ended = queue_ended queue;
  moment = queue_moment queue;
  faults = queue_faults queue;
  captured = false;
}
