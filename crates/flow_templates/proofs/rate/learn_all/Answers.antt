use Rattle.std.proofs.Common.{◌∙◌, ◌+◌, List, drop, arith, sym, ap}
use Rattle.std.proofs.lemmas.List.{at_drop_more}
use Rattle.flow_templates.specs.declared.rate.LearnedRate.{LearnedRate}
use Rattle.flow_templates.specs.Known.{rate_after, rate_found}
use Rattle.flow_templates.proofs.RateLemmas.{updated_rate}
use Rattle.flow_templates.proofs.StoreLemmas.{on_ok}
use Rattle.flow_templates.proofs.rate.learn_all.Goals as goal

pub loop-one-preserved : goal.loop-one-preserved
loop-one-preserved c =
    let at = c.loop-one.one-index in
    let room = c.insert.ensures.succeeds (omega (arith, c.loop-one.invariant.room, c.loop-one-test.true)) in
    let learned = updated_rate _ _ _ _ (on_ok c.insert.result _ room c.insert.ensures.updates).0 in
    record {
      left = λ key.
          ap (rate_after (drop (at + 1) c.args.learned.now) key) (learned key)
          ∙ sym (at_drop_more (λ (rest : List LearnedRate). rate_after rest key (rate_found c.loop-one.rates.entries key)) c.args.learned.now at _ c.loop-one-test.true)
          ∙ c.loop-one.invariant.left key;
      room = omega (arith, c.loop-one.invariant.room, c.insert.ensures.spare);
    }
