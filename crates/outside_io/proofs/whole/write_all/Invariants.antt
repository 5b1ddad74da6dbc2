use Rattle.std.proofs.Common.{◌≡◌, length}
use Rattle.outside_io.proofs.Octets.{IsWritten}
use Rattle.outside_io.proofs.whole.write_all.Given as goal

abbrev pub invariant-loop-rest : goal.invariant-loop-rest
invariant-loop-rest g l = record {
  written : IsWritten (g.K.Sink.state l.fn.sink).held (g.K.Sink.state l.sink).held l.octets l.rest;
  still : (g.K.Sink.state l.sink).faults ≡ (g.K.Sink.state l.fn.sink).faults;
}

abbrev pub decreases-loop-rest : goal.decreases-loop-rest
decreases-loop-rest g l = length l.rest
