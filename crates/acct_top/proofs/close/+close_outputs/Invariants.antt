use Rattle.std.proofs.Common.{length}
use Rattle.acct_top.proofs.close.+close_outputs.Given as goal

abbrev pub decreases-close_outputs : goal.decreases-close_outputs
decreases-close_outputs g l = length l.plugins.now
