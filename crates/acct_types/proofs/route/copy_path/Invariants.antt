use Rattle.std.proofs.Common.{◌≡◌, take}
use Rattle.acct_types.proofs.route.copy_path.Given as goal

abbrev pub invariant-loop-hop : goal.invariant-loop-hop
invariant-loop-hop l = l.copy ≡ take l.hop-index l.path
