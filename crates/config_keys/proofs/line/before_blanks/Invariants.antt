use Rattle.std.proofs.Common.{◌≡◌, length}
use Rattle.config_keys.specs.Lines.{before_blanks}
use Rattle.config_keys.proofs.line.before_blanks.Given as goal

abbrev pub invariant-loop-last : goal.invariant-loop-last
invariant-loop-last l = before_blanks l.rest ≡ before_blanks l.fn.text

abbrev pub decreases-loop-last : goal.decreases-loop-last
decreases-loop-last l = length l.rest
