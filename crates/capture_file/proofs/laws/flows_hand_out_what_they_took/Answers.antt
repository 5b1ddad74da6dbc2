use Rattle.capture_file.proofs.TakenLemmas.{flows_hand_out}
use Rattle.capture_file.proofs.laws.flows_hand_out_what_they_took.Goals as goal

pub returns : goal.returns
returns g c = flows_hand_out g.S.Source.state
