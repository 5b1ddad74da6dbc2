use Rattle.capture_file.proofs.Spelling.{route_again}
use Rattle.capture_file.proofs.laws.a_written_route_is_read.Goals as goal

pub returns : goal.returns
returns c = route_again
