use Rattle.std.proofs.Common.{◌≤◌, ◌-◌, length}
use Rattle.std.specs.Prelude.{if◌then◌else◌}
use Rattle.capture_file.proofs.Looking.{IsReaching}
use Rattle.capture_file.proofs.reading.Reading.look.Given as goal

abbrev pub invariant-loop-judged : goal.invariant-loop-judged
invariant-loop-judged g l = record {
  reaching : IsReaching l.fn.self l.self l.fn.source l.source (g.S.Source.state l.fn.source).left (g.S.Source.state l.source).left;
  later : (g.S.Source.state l.fn.source).faults ≤ (g.S.Source.state l.source).faults;
}

-- the octets that may still be taken; those of the magic leave
abbrev pub decreases-loop-judged : goal.decreases-loop-judged
decreases-loop-judged g l = (if l.self.begun then 65566 else 65575) - length l.self.ahead
