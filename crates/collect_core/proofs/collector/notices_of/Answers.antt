use Rattle.collect_core.proofs.SeenLemmas.{notice_added}
use Rattle.collect_core.proofs.collector.notices_of.Goals as goal

pub loop-notice-preserved : goal.loop-notice-preserved
loop-notice-preserved c = notice_added c.args.number _ _ c.args.notices.now c.loop-notice.notice-index _ c.loop-notice-test.true c.loop-notice.invariant c.in_ok-push.ensures.ok
