use Rattle.std.proofs.Common.{◌≡◌, arith, take, length, ◌-◌, refl}
use Rattle.std.proofs.lemmas.Grind.{common_steps}
use Rattle.outside_io.specs.Memory.{source_left}
use Rattle.outside_io.proofs.NamedLemmas.{taken_front, Puts-push}
use Rattle.outside_io.proofs.memory_place.MemoryPlacePlace.close_in.Goals as goal

pub returns-clause-taken : goal.returns-clause-taken
returns-clause-taken c =
    let count : c.len.result - c.left_len.result ≡ length c.in-Some.octets.now - length (source_left c.args.input) = grind (arith, common_steps) in
    let value : c.in_ok-taken.taken ≡ take (c.len.result - c.left_len.result) c.in-Some.octets.now = grind (arith, common_steps) in
    λ before taken. Puts-push _ _ _ c.args.name.now _ before c.in_ok-name.ensures
    (taken_front c.in-Some.octets.now before (source_left c.args.input) _ _ _ c.in-Some.ensures taken count value) c.in_ok-push.ensures.ok

pub returns-clause-others : goal.returns-clause-others
returns-clause-others c = (Puts-push _ _ _ c.args.name.now _ _ c.in_ok-name.ensures refl c.in_ok-push.ensures.ok).others
