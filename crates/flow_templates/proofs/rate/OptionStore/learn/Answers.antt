use Rattle.std.proofs.Common.{◌∷◌, [], List, ℕ, subst}
use Rattle.flow_templates.specs.declared.rate.RateKey.{RateKey}
use Rattle.flow_templates.specs.Known.{LearnsAll}
use Rattle.flow_templates.proofs.RateLemmas.{updated_rate}
use Rattle.flow_templates.proofs.rate.OptionStore.learn.Goals as goal

pub returns-clause-ok : goal.returns-clause-ok
returns-clause-ok c =
    subst (λ (key : RateKey). LearnsAll c.args.self.now c.insert.new.self.entries (record { key = key; rate = c.args.rate } ∷ [])) c.new-key.ensures
    (subst (λ (old : List (RateKey × ℕ)). LearnsAll old c.insert.new.self.entries (record { key = c.new-key.result; rate = c.args.rate } ∷ [])) c.self.view_is
    (updated_rate _ _ c.new-key.result c.args.rate c.in_ok-insert.ensures.updates.0))
