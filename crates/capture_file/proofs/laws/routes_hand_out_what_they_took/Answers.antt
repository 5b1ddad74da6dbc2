use Rattle.capture_file.proofs.TakenLemmas.{routes_hand_out}
use Rattle.capture_file.proofs.laws.routes_hand_out_what_they_took.Goals as goal

pub returns : goal.returns
returns g c = routes_hand_out g.S.Source.state
