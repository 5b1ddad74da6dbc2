use Rattle.std.proofs.Common.{Bool, Err, ap, subst, sym}
use Rattle.std.proofs.lemmas.Result.{IfOk-weaker}
use Rattle.outside_io.specs.Causes.{Rose}
use Rattle.outside_io.specs.Names.{begun}
use Rattle.acct_top.specs.Run.{IsClosed}
use Rattle.acct_top.proofs.CloseLemmas.{closed_front}
use Rattle.acct_top.proofs.close.close_output.Goals as goal

pub returns-in-Err-clause-closed : goal.returns-in-Err-clause-closed
returns-in-Err-clause-closed g c = λ told text start empty written.
    let name = c.args.name.now in
    let old = g.P.Place.state c.args.place.now in
    let new = g.P.Place.state c.close_out.new.self in
    IfOk-weaker c.unclosed.result _ _
    (λ whole is.
    subst (λ (w : Bool). IsClosed (Rose (old.writes name) (new.writes name)) (begun c.args.begin old.names name) text w (new.names name)) (sym is.0)
    (closed_front _ text _ _ start _ _ _ _ empty written (c.in-Err.ensures.failed told (ap Err is.1)) (c.in-Err.ensures.cause.failed (ap Err is.1))))
    c.unclosed.ensures.ok

pub returns-in-Err-clause-cause : goal.returns-in-Err-clause-cause
returns-in-Err-clause-cause g c = IfOk-weaker c.unclosed.result _ _ (λ whole is _. c.in-Err.ensures.cause.failed (ap Err is.1)) c.unclosed.ensures.ok
