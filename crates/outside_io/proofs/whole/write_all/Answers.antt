use Rattle.std.proofs.Common.{◌≡◌, ◌∙◌, Err, ap}
use Rattle.std.proofs.lemmas.Result.{err_from_is_err_and}
use Rattle.outside_io.specs.declared.fault.IoFault.TheVariants.{Failed}
use Rattle.outside_io.proofs.Octets.{IsWritten-more, WritesFront-more}
use Rattle.outside_io.proofs.whole.write_all.Goals as goal

pub returns-in_err-count-clause-err : goal.returns-in_err-count-clause-err
returns-in_err-count-clause-err g c =
    let p = err_from_is_err_and c.from_residual.result c.from_residual.ensures.1 in
    rw (p.1) (WritesFront-more _ _ _ _ _ c.loop-rest.invariant.written c.in_err-count.ensures.octets)

pub loop-rest-preserved : goal.loop-rest-preserved
loop-rest-preserved g c = record {
  written = rw c.split_at.ensures.back (IsWritten-more _ _ _ _ _ _ c.loop-rest.invariant.written c.in_ok-count.ensures.octets);
  still = c.in_ok-count.ensures.still (λ failed. cc failed) ∙ c.loop-rest.invariant.still;
}

pub returns-in_err-count-clause-still : goal.returns-in_err-count-clause-still
returns-in_err-count-clause-still g c = λ other.
    let p = err_from_is_err_and c.from_residual.result c.from_residual.ensures.1 in
    c.in_err-count.ensures.still (λ failed. let same : c.in_err-count.field-0.0 ≡ Failed = cc failed in other (p.1 ∙ ap Err (p.2 ∙ same))) ∙ c.loop-rest.invariant.still
