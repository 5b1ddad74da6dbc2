use Rattle.std.proofs.Common.{◌≡◌, ◌+◌, drop}
use Rattle.outside_io.specs.Named.{place_of}
use Rattle.outside_io.proofs.named.NamedValues.place.Given as goal

abbrev pub invariant-loop-i : goal.invariant-loop-i
invariant-loop-i g l = place_of l.self l.name ≡ l.i + place_of (drop l.i l.self) l.name
