use Rattle.std.proofs.Common.{◌≡◌, get_or, rules}
use Rattle.collect_core.proofs.SeenLemmas.{line_added}
use Rattle.collect_core.proofs.log.append_events.Goals as goal

pub loop-event-preserved : goal.loop-event-preserved
loop-event-preserved c =
    let there : c.event-item.result ≡ get_or c.args.events.now c.loop-event.event-index c.event-item.result = search rules in
    line_added _ _ _ c.args.events.now c.loop-event.event-index c.event-item.result c.loop-event-test.true there c.loop-event.invariant c.in_ok-event_text.ensures.ok
