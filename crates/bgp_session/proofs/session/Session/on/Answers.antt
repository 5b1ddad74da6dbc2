use Rattle.std.proofs.Common.{◌≡◌, ◌∙◌, ◌++◌, ap, arith, subst, sym}
use Rattle.std.specs.Prelude.{Bool, List, ℕ, ◌||◌, map, is_none, not, true, ◌==◌}
use Rattle.acct_types.specs.Updates.{Said, update_view}
use Rattle.acct_types.specs.declared.update.Update.{Update}
use Rattle.bgp_session.specs.Lives.{replies_to, updates_in}
use Rattle.bgp_session.specs.Moments.{Piece, joined}
use Rattle.bgp_session.specs.Sessions.{HasHeard, SessionState, is_live, is_over}
use Rattle.bgp_session.specs.Steps.{Outcome, outcome}
use Rattle.bgp_session.specs.declared.progress.Progress.{Progress}
use Rattle.bgp_session.proofs.FrameLemmas.{by_headers, framed_short, is_partial}
use Rattle.bgp_session.proofs.SessionLemmas.{goes_on, has_heard, kept_partial, outcome_live}
use Rattle.bgp_session.proofs.StepLemmas.{gives_from}
use Rattle.bgp_session.proofs.session.Session.on.Goals as goal

pub invariant_of-self : goal.invariant_of-self
invariant_of-self c = rw c.truncate.ensures (framed_short _ (omega arith), omega arith)

pub invariant_of-self-in-Ok : goal.invariant_of-self-in-Ok
invariant_of-self-in-Ok c =
    let octets = c.self.inside.begun ++ c.args.piece.now in
    let all = gives_from c.new-hearing.result c.take_piece.new.listener c.take_piece.new.begun octets c.self.inside.local c.self.inside.progress c.new-hearing.ensures.local c.new-hearing.ensures.progress
    c.new-hearing.ensures.closed c.in-Ok.ensures.takes c.in-Ok.ensures.keeps in
    let partial = kept_partial c.self.inside.local c.self.inside.progress (c.self.inside.begun ++ c.args.piece.now) in
    rw all.kept (partial, (is_partial _ partial).short)

pub returns-in-Ok-clause-hears : goal.returns-in-Ok-clause-hears
unfolding HasHeard
returns-in-Ok-clause-hears c = λ earlier h.
    let octets = c.self.inside.begun ++ c.args.piece.now in
    let all = gives_from c.new-hearing.result c.take_piece.new.listener c.take_piece.new.begun octets c.self.inside.local c.self.inside.progress c.new-hearing.ensures.local c.new-hearing.ensures.progress
    c.new-hearing.ensures.closed c.in-Ok.ensures.takes c.in-Ok.ensures.keeps in
    let given = outcome c.self.inside.local c.self.inside.progress (c.self.inside.begun ++ c.args.piece.now) in
    let live = subst (λ (s : SessionState). is_live s ≡ true) (sym c.self.view_is) c.requires.live in
    let heard = subst (λ (s : SessionState). HasHeard s earlier) (sym c.self.view_is) h in
    let some = all.some ∙ ap (λ (b : Bool). b || not (given.spoken == 0)) c.new-hearing.ensures.some in
    let piece : Piece = record { moment = c.args.moment; octets = c.args.piece.now } in
    rw c.last_moment-self-inside.ensures (has_heard _ earlier piece c.take_piece.new.listener.progress c.take_piece.new.listener.some c.take_piece.new.begun live heard all.progress some all.kept)

pub returns-in-Ok-clause-replies : goal.returns-in-Ok-clause-replies
unfolding HasHeard
returns-in-Ok-clause-replies c = λ earlier h.
    let octets = c.self.inside.begun ++ c.args.piece.now in
    let all = gives_from c.new-hearing.result c.take_piece.new.listener c.take_piece.new.begun octets c.self.inside.local c.self.inside.progress c.new-hearing.ensures.local c.new-hearing.ensures.progress
    c.new-hearing.ensures.closed c.in-Ok.ensures.takes c.in-Ok.ensures.keeps in
    let given = outcome c.self.inside.local c.self.inside.progress (c.self.inside.begun ++ c.args.piece.now) in
    let live = subst (λ (s : SessionState). is_live s ≡ true) (sym c.self.view_is) c.requires.live in
    let heard = subst (λ (s : SessionState). HasHeard s earlier) (sym c.self.view_is) h in
    let same : c.into_turn.result.replies ≡ given.replies =
    c.into_turn.ensures.replies ∙ all.replies ∙ ap (λ (replies : List ℕ). replies ++ given.replies) c.new-hearing.ensures.replies in
    subst (λ (s : SessionState). replies_to s.local (joined earlier) ++ c.into_turn.result.replies ≡ replies_to s.local (joined earlier ++ c.args.piece.now)) c.self.view_is
    (ap (λ (replies : List ℕ). replies_to c.self.inside.local (joined earlier) ++ replies) same ∙ sym (ap (λ (o : Outcome). o.replies) (goes_on _ earlier c.args.piece.now live heard).all))

pub returns-in-Ok-clause-updates : goal.returns-in-Ok-clause-updates
unfolding HasHeard
returns-in-Ok-clause-updates c = λ earlier h.
    let octets = c.self.inside.begun ++ c.args.piece.now in
    let all = gives_from c.new-hearing.result c.take_piece.new.listener c.take_piece.new.begun octets c.self.inside.local c.self.inside.progress c.new-hearing.ensures.local c.new-hearing.ensures.progress
    c.new-hearing.ensures.closed c.in-Ok.ensures.takes c.in-Ok.ensures.keeps in
    let given = outcome c.self.inside.local c.self.inside.progress (c.self.inside.begun ++ c.args.piece.now) in
    let live = subst (λ (s : SessionState). is_live s ≡ true) (sym c.self.view_is) c.requires.live in
    let heard = subst (λ (s : SessionState). HasHeard s earlier) (sym c.self.view_is) h in
    let on = goes_on _ earlier c.args.piece.now live heard in
    let same : map update_view c.into_turn.result.updates ≡ given.updates =
    ap (λ (updates : List Update). map update_view updates) c.into_turn.ensures.updates ∙ all.updates
    ∙ ap (λ (updates : List Update). map update_view updates ++ given.updates) c.new-hearing.ensures.updates in
    ap (λ (updates : List Said). updates_in (joined earlier) ++ updates) same ∙ sym (ap (λ (o : Outcome). o.updates) on.all)

pub returns-in-Ok-clause-closed : goal.returns-in-Ok-clause-closed
unfolding HasHeard
returns-in-Ok-clause-closed c = λ earlier h.
    let octets = c.self.inside.begun ++ c.args.piece.now in
    let all = gives_from c.new-hearing.result c.take_piece.new.listener c.take_piece.new.begun octets c.self.inside.local c.self.inside.progress c.new-hearing.ensures.local c.new-hearing.ensures.progress
    c.new-hearing.ensures.closed c.in-Ok.ensures.takes c.in-Ok.ensures.keeps in
    let live = subst (λ (s : SessionState). is_live s ≡ true) (sym c.self.view_is) c.requires.live in
    let heard = subst (λ (s : SessionState). HasHeard s earlier) (sym c.self.view_is) h in
    c.into_turn.ensures.closed ∙ all.closed ∙ sym (ap (λ (o : Outcome). o.closed) (goes_on _ earlier c.args.piece.now live heard).all)

pub returns-in-Ok-clause-ends : goal.returns-in-Ok-clause-ends
unfolding is_live
returns-in-Ok-clause-ends c =
    let octets = c.self.inside.begun ++ c.args.piece.now in
    let all = gives_from c.new-hearing.result c.take_piece.new.listener c.take_piece.new.begun octets c.self.inside.local c.self.inside.progress c.new-hearing.ensures.local c.new-hearing.ensures.progress
    c.new-hearing.ensures.closed c.in-Ok.ensures.takes c.in-Ok.ensures.keeps in
    let live = subst (λ (s : SessionState). is_live s ≡ true) (sym c.self.view_is) c.requires.live in
    ap (λ (progress : Progress). not (is_over progress.stage)) all.progress ∙ outcome_live c.self.inside.local c.self.inside.progress (c.self.inside.begun ++ c.args.piece.now) live
    ∙ ap is_none (sym (c.into_turn.ensures.closed ∙ all.closed))

pub take_piece-requires-clause-lawful : goal.take_piece-requires-clause-lawful
take_piece-requires-clause-lawful c = by_headers
