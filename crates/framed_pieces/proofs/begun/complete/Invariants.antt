use Rattle.std.proofs.Common.{◌≡◌, ◌++◌, ℕ, length}
use Rattle.std.specs.Prelude.{Ok, Some}
use Rattle.framed_pieces.proofs.begun.complete.Given as goal

-- The octets are the same. A message that is whole has none behind it.
abbrev pub invariant-loop-begun : goal.invariant-loop-begun
invariant-loop-begun g l = record {
  same : l.begun ++ l.rest ≡ l.fn.begun ++ l.piece;
  one : (size : ℕ) → g.F.Framing.framed l.begun ≡ Ok (Some size) → size ≡ length l.begun;
}

abbrev pub decreases-loop-begun : goal.decreases-loop-begun
decreases-loop-begun g l = length l.rest
