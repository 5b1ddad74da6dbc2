use Rattle.std.proofs.Common.{◌≡◌, ◌≤◌, ◌+◌, drop, length}
use Rattle.indexmap.specs.IndexMap.{spare}
use Rattle.flow_templates.specs.declared.rate.RateKey.{RateKey}
use Rattle.flow_templates.specs.Known.{rate_after, rate_found}
use Rattle.flow_templates.proofs.rate.learn_all.Given as goal

-- the rates that are left lead from here to where all of them lead
abbrev pub invariant-loop-one : goal.invariant-loop-one
invariant-loop-one l = record {
  left : (key : RateKey) → rate_after (drop l.one-index l.learned) key (rate_found l.rates.entries key) ≡ rate_after l.learned key (rate_found l.initial.rates.entries key);
  room : length l.learned ≤ spare l.rates + l.one-index;
}
