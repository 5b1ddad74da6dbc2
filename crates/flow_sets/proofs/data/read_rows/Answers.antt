use Rattle.std.proofs.Common.{◌^◌, ◌∷◌, [], length, length-append, length-drop, ap, arith}
use Rattle.std.proofs.lemmas.List.Elements.{All-push}
use Rattle.acct_types.specs.Counts.{IsBelow}
use Rattle.flow_templates.specs.Known.{known_after, known_in}
use Rattle.flow_sets.specs.Saying.{so_far}
use Rattle.flow_sets.proofs.DataLemmas.{ends, is_cut, one_flow}
use Rattle.flow_sets.proofs.WidthLemmas.{accepted}
use Rattle.flow_sets.proofs.data.read_rows.Goals as goal

pub returns-in_default-clause-answer : goal.returns-in_default-clause-answer
returns-in_default-clause-answer c =
    let some = (accepted c.args.domain.now.version c.args.template.now c.requires.accepted).some in
    is_cut c.args.domain.now (known_after (known_in c.args.stores.now) c.args.staged.now) c.args.template.now c.args.octets.now (so_far c.args.decoded.now c.args.staged.now)
    c.loop-rest.rest.now (so_far c.loop-rest.decoded c.args.staged.now) c.loop-rest.invariant.leads some
    (omega (arith, c.least_length-least.ensures, c.loop-rest-test.true)) c.in_default.ensures.answer

pub loop-rest-preserved : goal.loop-rest-preserved
loop-rest-preserved c =
    let kept = c.loop-rest.invariant in
    let some = (accepted c.args.domain.now.version c.args.template.now c.requires.accepted).some in
    let is = c.in-Some.ensures.answer in
    let rows = c.in-Ok.ensures.ok in
    let more = ap length rows in
    let count = length-append c.loop-rest.decoded.rows (c.row_of-row.result ∷ []) in
    let left = ap length c.after-rest.ensures in
    let dropped = length-drop c.renew.new.self.used c.loop-rest.rest.now in
    record {
      leads = one_flow c.args.domain.now (known_after (known_in c.args.stores.now) c.args.staged.now) c.args.template.now c.args.octets.now (so_far c.args.decoded.now c.args.staged.now)
          c.loop-rest.rest.now c.after-rest.result.now c.loop-rest.decoded c.args.staged.now c.renew.new.self c.row_of-row.result c.push.new.self kept.leads some
          (omega (arith, c.least_length-least.ensures, c.loop-rest-test.true)) is c.requires.flows c.row_of-row.ensures.row rows c.after-rest.ensures;
      few = omega (arith, more, count, left, dropped, is.within, is.some, kept.few);
      counts = rw rows (All-push (λ row. IsBelow (2 ^ 64) row.flow.counts) _ _ kept.counts c.row_of-row.ensures.counts);
      last = c.row_of-row.ensures.last;
      fits = omega (arith, left, dropped, kept.fits);
      serves = c.in-Some.ensures.serves;
    }

pub returns-clause-answer : goal.returns-clause-answer
returns-clause-answer c =
    ends c.args.domain.now (known_after (known_in c.args.stores.now) c.args.staged.now) c.args.template.now c.args.octets.now (so_far c.args.decoded.now c.args.staged.now)
    c.loop-rest.rest.now (so_far c.loop-rest.decoded c.args.staged.now) c.loop-rest.invariant.leads
    (omega (arith, c.least_length-least.ensures, c.loop-rest-test.false))
