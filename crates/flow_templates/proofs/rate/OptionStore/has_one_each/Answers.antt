use Rattle.std.proofs.Common.{Bool, List, ℕ, subst}
use Rattle.std.specs.List.{IsDistinct}
use Rattle.std.specs.Map.{keys_of}
use Rattle.flow_templates.specs.declared.rate.RateKey.{RateKey}
use Rattle.flow_templates.specs.Known.{HasOneRateEach}
use Rattle.flow_templates.proofs.RateLemmas.{rate_tests_same}
use Rattle.flow_templates.proofs.rate.OptionStore.has_one_each.Goals as goal

pub returns : goal.returns
returns c =
    subst (λ (entries : List (RateKey × ℕ)). HasOneRateEach entries) c.self.view_is
    (subst (λ (eq : RateKey → RateKey → Bool). IsDistinct eq (keys_of c.self.inside.rates.entries)) rate_tests_same c.len-count.ensures.unique)
