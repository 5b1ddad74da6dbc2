use Rattle.std.proofs.Common.{ℕ, List, sym, subst}
use Rattle.flow_templates.specs.declared.rate.LearnedRate.{LearnedRate}
use Rattle.flow_templates.specs.declared.rate.RateKey.{RateKey}
use Rattle.flow_templates.specs.Known.{same_rate_key}
use Rattle.flow_templates.specs.Noted.{AreLastRates}
use Rattle.flow_templates.proofs.NotedLemmas.{one_more_rate}
use Rattle.flow_templates.proofs.RateLemmas.{UpdatedRate, updated_rate}
use Rattle.flow_templates.proofs.StoreLemmas.{on_ok}
use Rattle.flow_templates.proofs.noted.NotedRates.push.Goals as goal

pub invariant_of-self-2 : goal.invariant_of-self-2
invariant_of-self-2 c =
    let new = c.insert.new.self.entries in
    let room = c.insert.ensures.succeeds c.in_ok-reserve.ensures.ok in
    let updated = updated_rate _ _ c.args.learned.key c.args.learned.rate (on_ok c.insert.result _ room c.insert.ensures.updates).0 in
    subst (λ (all : List LearnedRate). AreLastRates all new) (sym c.in_ok-push.ensures.ok)
    (one_more_rate c.self.inside.rates c.args.learned c.self.inside.last.entries new c.self.invariant
    (subst (λ (entries : List (RateKey × ℕ)). UpdatedRate same_rate_key entries new c.args.learned.key c.args.learned.rate) c.reserve.ensures.entries updated))
