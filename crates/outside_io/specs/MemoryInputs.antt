-- What the inputs in memory have left, which calls fail, and the replies that are kept.
use Rattle.std.specs.Prelude.{ℕ, Bool, List, Some}
use Rattle.acct_types.specs.declared.datagram.Datagram.{Datagram}
use Rattle.outside_io.specs.EventQueue.{queue_left, queue_moment, queue_ended, queue_plan, queue_faults, queue_state}
use Rattle.outside_io.specs.States.{InputState, RepliesState}
use Rattle.outside_io.specs.declared.call_plan.CallPlan.{CallPlan}
use Rattle.outside_io.specs.declared.memory_inputs.MemoryFlows.{MemoryFlows}
use Rattle.outside_io.specs.declared.memory_inputs.MemorySessions.{MemorySessions}
use Rattle.acct_types.specs.declared.route_event.RouteEvent.{RouteEvent}
use Rattle.acct_types.specs.declared.route_event.Reply.{Reply}

abbrev pub flows_left : MemoryFlows → List Datagram
flows_left flows = queue_left flows.datagrams

abbrev pub flows_moment : MemoryFlows → ℕ
flows_moment flows = queue_moment flows.datagrams

abbrev pub flows_ended : MemoryFlows → Bool
flows_ended flows = queue_ended flows.datagrams

abbrev pub flows_plan : MemoryFlows → CallPlan
flows_plan flows = queue_plan flows.datagrams

abbrev pub flows_faults : MemoryFlows → ℕ
flows_faults flows = queue_faults flows.datagrams

abbrev pub flows_state : MemoryFlows → InputState Datagram
flows_state flows = queue_state flows.datagrams

abbrev pub sessions_left : MemorySessions → List RouteEvent
sessions_left sessions = queue_left sessions.events

abbrev pub sessions_moment : MemorySessions → ℕ
sessions_moment sessions = queue_moment sessions.events

abbrev pub sessions_ended : MemorySessions → Bool
sessions_ended sessions = queue_ended sessions.events

-- which of the calls of `next` are to fail
abbrev pub sessions_plan : MemorySessions → CallPlan
sessions_plan sessions = queue_plan sessions.events

abbrev pub sessions_faults : MemorySessions → ℕ
sessions_faults sessions = queue_faults sessions.events

abbrev pub sessions_state : MemorySessions → InputState RouteEvent
sessions_state sessions = queue_state sessions.events

abbrev pub sessions_sent : MemorySessions → List Reply
sessions_sent sessions = sessions.sent

-- which of the calls of `reply` are to fail
abbrev pub sessions_reply_plan : MemorySessions → CallPlan
sessions_reply_plan sessions = sessions.reply_plan

abbrev pub sessions_reply_faults : MemorySessions → ℕ
sessions_reply_faults sessions = sessions.reply_faults

abbrev pub sessions_replies : MemorySessions → RepliesState
sessions_replies sessions = record { sent = Some (sessions_sent sessions); faults = sessions_reply_faults sessions }
