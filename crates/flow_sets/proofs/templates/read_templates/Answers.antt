use Rattle.std.proofs.Common.{arith}
use Rattle.flow_sets.specs.Saying.{so_far}
use Rattle.flow_sets.proofs.TemplateLemmas.{ends, one_turn}
use Rattle.flow_sets.proofs.templates.read_templates.Goals as goal

pub loop-rest-preserved : goal.loop-rest-preserved
loop-rest-preserved c decoded =
    one_turn c.args.domain.now c.args.options c.args.octets.now (so_far decoded c.args.staged.now) c.loop-rest.rest.now c.after-rest.result.now decoded c.loop-rest.staged c.stage.new.staged
    c.in-Ok.turn (c.loop-rest.invariant decoded) c.loop-rest-test.true c.in-Ok.ensures.answer c.in-Ok.ensures.least c.in-Ok-stage.ensures c.after-rest.ensures

pub returns : goal.returns
returns c decoded =
    ends c.args.domain.now c.args.options c.args.octets.now (so_far decoded c.args.staged.now) c.loop-rest.rest.now (so_far decoded c.loop-rest.staged) (c.loop-rest.invariant decoded)
    (omega (arith, c.loop-rest-test.false))
