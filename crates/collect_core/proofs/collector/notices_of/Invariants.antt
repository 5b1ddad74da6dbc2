use Rattle.std.proofs.Common.{◌≡◌, map, take}
use Rattle.out_text.specs.declared.event.Event.TheVariants as event
use Rattle.collect_core.proofs.collector.notices_of.Given as goal

-- the notices so far
abbrev pub invariant-loop-notice : goal.invariant-loop-notice
invariant-loop-notice l = l.events ≡ map (event.Notice l.number) (take l.notice-index l.notices)
