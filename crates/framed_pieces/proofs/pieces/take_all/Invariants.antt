use Rattle.std.proofs.Common.{◌≡◌, [], false, length}
use Rattle.framed_pieces.specs.Listening.{taken}
use Rattle.framed_pieces.specs.Stream.{rest_of}
use Rattle.framed_pieces.proofs.pieces.take_all.Given as goal

-- What is made of the rest is made of all, and the same is left.
abbrev pub invariant-loop-fault : goal.invariant-loop-fault
invariant-loop-fault g l = record {
  takes : taken g.F.Framing.framed g.L.Listener.listening (g.L.Listener.state l.listener) l.rest ≡ taken g.F.Framing.framed g.L.Listener.listening (g.L.Listener.state l.fn.listener) l.octets;
  left : rest_of g.F.Framing.framed l.rest ≡ rest_of g.F.Framing.framed l.octets;
  empty : l.begun ≡ [];
  live : g.L.Listener.listening.is_over (g.L.Listener.state l.listener) ≡ false;
}

abbrev pub decreases-loop-fault : goal.decreases-loop-fault
decreases-loop-fault g l = length l.rest
