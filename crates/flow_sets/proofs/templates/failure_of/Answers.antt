use Rattle.std.proofs.Common.{arith}
use Rattle.flow_sets.specs.Saying.{nothing_said}
use Rattle.flow_sets.specs.Sets.{templates_said}
use Rattle.flow_sets.proofs.SayingLemmas.{said_ok}
use Rattle.flow_sets.proofs.TemplateLemmas.{begins, ends, judged_on, judged_refused}
use Rattle.flow_sets.proofs.templates.failure_of.Goals as goal

pub loop-rest-init : goal.loop-rest-init
loop-rest-init c = (nothing_said, begins c.args.domain.now c.args.options c.args.octets.now nothing_said)

pub returns-in-Err : goal.returns-in-Err
returns-in-Err c =
    judged_refused c.args.domain.now c.args.options c.args.octets.now c.loop-rest.rest.now (c.loop-rest.invariant).0 c.refused.result c.in-Err.fault (c.loop-rest.invariant).1
    c.loop-rest-test.true c.in-Err.ensures.judged c.in-Err.ensures.no_memory c.refused.ensures

pub loop-rest-preserved : goal.loop-rest-preserved
loop-rest-preserved c =
    judged_on c.args.domain.now c.args.options c.args.octets.now c.loop-rest.rest.now c.after-rest.result.now (c.loop-rest.invariant).0 c.in-Ok.used (c.loop-rest.invariant).1
    c.loop-rest-test.true c.in-Ok.ensures.judged c.in-Ok.ensures.least c.after-rest.ensures

pub returns : goal.returns
returns c =
    said_ok (templates_said c.args.domain.now c.args.options c.args.octets.now) _
    (ends c.args.domain.now c.args.options c.args.octets.now nothing_said c.loop-rest.rest.now (c.loop-rest.invariant).0 (c.loop-rest.invariant).1 (omega (arith, c.loop-rest-test.false)))
