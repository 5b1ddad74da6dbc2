use Rattle.flow_decode.specs.History.{Told}
use Rattle.flow_decode.proofs.HistoryLemmas.{parts_come_first}
use Rattle.flow_decode.proofs.laws.parts_of_a_datagram_come_first.Goals as goal

pub returns : goal.returns
returns c = parts_come_first
