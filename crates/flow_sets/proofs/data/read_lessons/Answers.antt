use Rattle.std.proofs.Common.{◌∙◌, length, length-drop, sym, ap, arith}
use Rattle.flow_sets.specs.Records.{data_said}
use Rattle.flow_sets.specs.Saying.{nothing_said, taught_alone}
use Rattle.flow_sets.proofs.DataLemmas.{ends, is_cut, one_lesson}
use Rattle.flow_sets.proofs.SayingLemmas.{behind_nothing}
use Rattle.flow_sets.proofs.WidthLemmas.{accepted}
use Rattle.flow_sets.proofs.data.read_lessons.Goals as goal

pub returns-in_default : goal.returns-in_default
returns-in_default c known =
    let some = (accepted c.args.domain.now.version c.args.template.now c.requires.accepted).some in
    is_cut c.args.domain.now known c.args.template.now c.args.octets.now nothing_said c.loop-rest.rest.now (taught_alone c.loop-rest.lessons) (c.loop-rest.invariant.leads known) some
    (omega (arith, c.least_length-least.ensures, c.loop-rest-test.true)) c.in_default.ensures.answer

pub loop-rest-preserved : goal.loop-rest-preserved
loop-rest-preserved c =
    let kept = c.loop-rest.invariant in
    let some = (accepted c.args.domain.now.version c.args.template.now c.requires.accepted).some in
    let left = ap length c.after-rest.ensures in
    let dropped = length-drop c.renew.new.self.used c.loop-rest.rest.now in
    record {
      leads = λ known.
          one_lesson c.args.domain.now known c.args.template.now c.args.octets.now nothing_said c.loop-rest.rest.now c.after-rest.result.now c.loop-rest.lessons c.append_lesson.new.lessons
          c.renew.new.self (kept.leads known) some (omega (arith, c.least_length-least.ensures, c.loop-rest-test.true)) c.in-Some.ensures.answer c.requires.options
          c.in-Ok.ensures c.after-rest.ensures;
      fits = omega (arith, left, dropped, kept.fits);
      serves = c.in-Some.ensures.serves;
    }

pub returns : goal.returns
returns c known =
    sym (behind_nothing (data_said c.args.domain.now known c.args.template.now c.args.octets.now))
    ∙ ends c.args.domain.now known c.args.template.now c.args.octets.now nothing_said c.loop-rest.rest.now (taught_alone c.loop-rest.lessons) (c.loop-rest.invariant.leads known)
    (omega (arith, c.least_length-least.ensures, c.loop-rest-test.false))
