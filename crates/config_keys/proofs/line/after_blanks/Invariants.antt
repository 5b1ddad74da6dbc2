use Rattle.std.proofs.Common.{◌≡◌, length}
use Rattle.config_keys.specs.Lines.{after_blanks}
use Rattle.config_keys.proofs.line.after_blanks.Given as goal

abbrev pub invariant-loop-first : goal.invariant-loop-first
invariant-loop-first l = after_blanks l.rest ≡ after_blanks l.fn.text

abbrev pub decreases-loop-first : goal.decreases-loop-first
decreases-loop-first l = length l.rest
