use Rattle.std.proofs.Common.{◌≡◌, drop}
use Rattle.outside_io.specs.Named.{value_of}
use Rattle.outside_io.proofs.named.NamedValues.find.Given as goal

abbrev pub invariant-loop-item : goal.invariant-loop-item
invariant-loop-item g l = value_of (drop l.item-index l.self) l.name ≡ value_of l.self l.name
