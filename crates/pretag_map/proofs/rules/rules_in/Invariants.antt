use Rattle.std.proofs.Common.{◌≡◌, ◌≤◌, ◌+◌, [], length, map, drop}
use Rattle.pretag_map.specs.Rules.{rules_from}
use Rattle.pretag_map.proofs.rules.rules_in.Given as goal

-- the rules so far and the lines that are left give what all lines give
abbrev pub invariant-loop-index : goal.invariant-loop-index
invariant-loop-index g l = record {
  rest : rules_from g.R.Rule.said (l.index + 1) l.rules (map (λ t. t.now) (drop l.index l.lines)) ≡ rules_from g.R.Rule.said 1 [] (map (λ t. t.now) l.lines);
  few : length l.rules ≤ 4096;
}
