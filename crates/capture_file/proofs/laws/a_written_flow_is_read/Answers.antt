use Rattle.capture_file.proofs.Spelling.{flow_again}
use Rattle.capture_file.proofs.laws.a_written_flow_is_read.Goals as goal

pub returns : goal.returns
returns c = flow_again
