use Rattle.capture_file.proofs.Bounds.{spelled_fits}
use Rattle.capture_file.proofs.laws.written_datagrams_fit_the_limit.Goals as goal

pub returns : goal.returns
returns c = spelled_fits
