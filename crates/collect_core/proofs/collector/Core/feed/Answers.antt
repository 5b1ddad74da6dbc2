use Rattle.std.proofs.Common.{Ok, Err, refl, reverse, subst, sym}
use Rattle.std.specs.Prelude.{All}
use Rattle.out_text.specs.Events.{IsNamed}
use Rattle.collect_core.proofs.SeenLemmas.{decoded_so, fed_decoded, fed_refused, notices_named, refusal_named}
use Rattle.collect_core.proofs.collector.Core.feed.Goals as goal

pub returns-in_ok-events-in-Ok-clause-fed : goal.returns-in_ok-events-in-Ok-clause-fed
returns-in_ok-events-in-Ok-clause-fed c = λ flows seen.
    fed_decoded c.args.job.now flows c.args.datagram.now c.args.self.now _ c.in-Ok.decoded _ _ seen
    (decoded_so c.args.job.now flows c.args.self.now c.args.datagram.now (Ok c.in-Ok.decoded) seen (c.in-Ok.ensures.behind (reverse flows) seen.knows))
    c.feed.ensures.tool c.feed.ensures.renormalises (c.in-Ok.ensures.knows (reverse flows) seen.knows (λ e. cc e)) refl refl refl
    (rw c.as_slice.ensures at c.in_ok-events-in-Ok.ensures)

pub returns-in_ok-events-in-Ok-clause-named : goal.returns-in_ok-events-in-Ok-clause-named
returns-in_ok-events-in-Ok-clause-named c = subst (All IsNamed) (sym c.in_ok-events-in-Ok.ensures) (notices_named _ _)

pub returns-in_ok-push-in-Err-Refused-clause-fed : goal.returns-in_ok-push-in-Err-Refused-clause-fed
returns-in_ok-push-in-Err-Refused-clause-fed c = λ flows seen.
    let behind = c.in-Err-Refused.ensures.behind (reverse flows) seen.knows in
    fed_refused c.args.job.now flows c.args.datagram.now c.args.self.now _ c.in-Err-Refused.cause _ _ seen
    (decoded_so c.args.job.now flows c.args.self.now c.args.datagram.now (Err c.in-Err-Refused.cause) seen (rw c.in-Err-Refused.field-0-is at behind))
    c.feed.ensures.tool c.feed.ensures.renormalises (c.in-Err-Refused.ensures.knows (reverse flows) seen.knows (λ e. cc (e, c.in-Err-Refused.field-0-is))) refl refl c.new.ensures
    (rw c.new-events.ensures at c.in_ok-push-in-Err-Refused.ensures.ok)

pub returns-in_ok-push-in-Err-Refused-clause-named : goal.returns-in_ok-push-in-Err-Refused-clause-named
returns-in_ok-push-in-Err-Refused-clause-named c =
    subst (All IsNamed) (sym (rw c.new-events.ensures at c.in_ok-push-in-Err-Refused.ensures.ok)) (refusal_named _ _)
