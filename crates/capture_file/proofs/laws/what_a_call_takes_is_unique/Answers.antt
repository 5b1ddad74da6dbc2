use Rattle.capture_file.proofs.Looking.{taken_is_unique}
use Rattle.capture_file.proofs.laws.what_a_call_takes_is_unique.Goals as goal

pub returns : goal.returns
returns c = taken_is_unique
