use Rattle.capture_file.proofs.Spelling.{routes_read_back}
use Rattle.capture_file.proofs.laws.what_is_written_of_routes_is_read.Goals as goal

pub returns : goal.returns
returns c = routes_read_back
