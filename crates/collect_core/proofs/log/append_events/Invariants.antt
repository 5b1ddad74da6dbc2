use Rattle.std.proofs.Common.{◌≡◌, ◌++◌, take}
use Rattle.out_text.specs.Events.{events_text}
use Rattle.collect_core.proofs.log.append_events.Given as goal

-- the lines of the events so far
abbrev pub invariant-loop-event : goal.invariant-loop-event
invariant-loop-event l = l.text ≡ l.fn.text ++ events_text (take l.event-index l.events)
