use Rattle.capture_file.proofs.Spelling.{flows_read_back}
use Rattle.capture_file.proofs.laws.what_is_written_is_read.Goals as goal

pub returns : goal.returns
returns c = flows_read_back
