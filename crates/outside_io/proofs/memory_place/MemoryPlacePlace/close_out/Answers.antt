use Rattle.std.proofs.Common.{refl, []}
use Rattle.outside_io.proofs.NamedLemmas.{Puts-start}
use Rattle.outside_io.proofs.memory_place.MemoryPlacePlace.close_out.Goals as goal

pub returns-then-fails-clause-failed : goal.returns-then-fails-clause-failed
returns-then-fails-clause-failed c =
    λ failed. ([], _, refl, Puts-start _ c.in_ok-octets.ensures c.in_ok-put.ensures.ok)
