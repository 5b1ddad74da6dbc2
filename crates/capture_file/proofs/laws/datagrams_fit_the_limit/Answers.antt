use Rattle.capture_file.proofs.Bounds.{fits}
use Rattle.capture_file.proofs.laws.datagrams_fit_the_limit.Goals as goal

pub returns : goal.returns
returns c = λ most octets. fits most octets
