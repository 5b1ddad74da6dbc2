use Rattle.std.proofs.Common.{length}
use Rattle.acct_top.proofs.open.+open_outputs.Given as goal

abbrev pub decreases-open_outputs : goal.decreases-open_outputs
decreases-open_outputs g l = length l.plugins.now
