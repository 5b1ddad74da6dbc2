use Rattle.std.proofs.lemmas.Result.{err_from_is_err_and}
use Rattle.outside_io.proofs.Octets.{Takes-append}
use Rattle.outside_io.proofs.whole.read_all.Goals as goal

pub returns-in_err-extend-clause-err : goal.returns-in_err-extend-clause-err
returns-in_err-extend-clause-err g c =
    let p = err_from_is_err_and c.from_residual.result c.from_residual.ensures.1 in
    rw (p.1) (_, Takes-append _ _ _ _ _ c.loop-buf.invariant.taken c.in-Ok.ensures.octets)
