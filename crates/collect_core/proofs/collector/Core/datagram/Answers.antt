use Rattle.std.proofs.Common.{◌≡◌, ◌∙◌, List, ap, arith, length, refl, take}
use Rattle.std.specs.Prelude.{min}
use Rattle.std.proofs.lemmas.Bool.{lt-ltb, ltb-true}
use Rattle.std.proofs.lemmas.List.{length-take}
use Rattle.acct_types.specs.declared.flow.FlowRecord.{FlowRecord}
use Rattle.collect_core.specs.Course.{unrouted}
use Rattle.collect_core.specs.Loads.{loads_from}
use Rattle.collect_core.proofs.LoadLemmas.{are_few, are_numbered}
use Rattle.collect_core.proofs.SeenLemmas.{stepped}
use Rattle.collect_core.proofs.collector.Core.datagram.Goals as goal

pub returns-clause-step : goal.returns-clause-step
returns-clause-step c = λ flows seen.
    let count : c.min-count.result ≡ min (length c.in_ok-rows.rows) c.args.most = omega (arith, c.min-count.ensures, c.len.ensures) in
    stepped c.args.job.now flows c.args.datagram.now c.args.most c.min-count.result c.args.self.now c.feed.new.self _ c.in_ok-rows.rows _ seen
    (c.in_ok-rows.ensures.fed flows seen) c.in_ok-rows.ensures.records c.in_ok-rows.ensures.datagrams count refl refl
    (c.in_ok-loads.ensures ∙ ap (λ (rs : List FlowRecord). loads_from c.args.job.now unrouted c.feed.new.self.totals.datagrams c.args.datagram.now.moment 1 (take c.min-count.result rs)) c.as_slice.ensures)
    (λ yes. omega (arith, ltb-true c.min-count.result c.len-2.result yes, c.len-2.ensures), λ more. lt-ltb c.min-count.result c.len-2.result (omega (arith, more, c.len-2.ensures)))

pub returns-clause-numbered : goal.returns-clause-numbered
returns-clause-numbered c = are_numbered c.args.job.now unrouted _ _ _ _ c.in_ok-loads.ensures

pub returns-clause-few : goal.returns-clause-few
returns-clause-few c = λ number. omega (arith, are_few c.args.job.now unrouted _ _ _ _ number c.in_ok-loads.ensures, length-take c.min-count.result c.as_slice.result.now, c.min-count.ensures)
