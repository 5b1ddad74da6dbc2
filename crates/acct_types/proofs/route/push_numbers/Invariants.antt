use Rattle.std.proofs.Common.{◌≡◌, ◌∷◌, ◌++◌, decimal, flat_map, take}
use Rattle.acct_types.specs.Routes.{BeginsWith}
use Rattle.acct_types.proofs.route.push_numbers.Given as goal

-- each so far behind a separator
abbrev pub invariant-loop-number : goal.invariant-loop-number
invariant-loop-number l = record {
  kept : BeginsWith l.fn.out l.out;
  text : l.out ≡ l.initial.out ++ flat_map (λ x. 95 ∷ decimal x) (take l.number-index l.rest);
}
