use Rattle.std.proofs.Common.{◌≡◌, drop}
use Rattle.flow_sets.specs.Saying.{and_rates}
use Rattle.flow_sets.proofs.data.learn_all.Given as goal

-- with those that are left, all are learned
abbrev pub invariant-loop-lesson : goal.invariant-loop-lesson
invariant-loop-lesson l = and_rates l.staged (drop l.lesson-index l.lessons) ≡ and_rates l.fn.staged l.lessons
