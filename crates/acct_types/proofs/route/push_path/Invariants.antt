use Rattle.std.proofs.Common.{◌≡◌, ◌∷◌, ◌++◌, flat_map, take}
use Rattle.acct_types.specs.Routes.{BeginsWith, hop_text}
use Rattle.acct_types.proofs.route.push_path.Given as goal

-- each so far behind a separator
abbrev pub invariant-loop-hop : goal.invariant-loop-hop
invariant-loop-hop l = record {
  kept : BeginsWith l.fn.out l.out;
  text : l.out ≡ l.initial.out ++ flat_map (λ x. 95 ∷ hop_text x) (take l.hop-index l.rest);
}
