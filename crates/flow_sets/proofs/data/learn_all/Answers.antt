use Rattle.std.proofs.Common.{◌∙◌}
use Rattle.flow_sets.proofs.DataLemmas.{all_learned, one_learned}
use Rattle.flow_sets.proofs.data.learn_all.Goals as goal

pub loop-lesson-preserved : goal.loop-lesson-preserved
loop-lesson-preserved c =
    one_learned c.loop-lesson.staged c.learn.new.self c.args.lessons.now c.loop-lesson.lesson-index _ c.loop-lesson-test.true c.in_ok-learn.ensures.ok ∙ c.loop-lesson.invariant

pub returns : goal.returns
returns c = all_learned c.loop-lesson.staged c.args.lessons.now c.loop-lesson.lesson-index c.loop-lesson-test.false ∙ c.loop-lesson.invariant
