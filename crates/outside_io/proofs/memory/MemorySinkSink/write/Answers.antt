use Rattle.std.proofs.lemmas.Result.{err_from_is_err_and}
use Rattle.outside_io.proofs.Octets.{WritesFront-nil}
use Rattle.outside_io.proofs.memory.MemorySinkSink.write.Goals as goal

pub returns-in_err-extend-clause-octets : goal.returns-in_err-extend-clause-octets
returns-in_err-extend-clause-octets c =
    let p = err_from_is_err_and c.from_residual.result c.from_residual.ensures.1 in
    rw (p.1, c.in_err-extend.ensures.err) (WritesFront-nil _ _)
