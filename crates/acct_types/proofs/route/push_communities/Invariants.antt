use Rattle.std.proofs.Common.{◌≡◌, ◌∷◌, ◌++◌, flat_map, take}
use Rattle.acct_types.specs.Routes.{BeginsWith, community_text}
use Rattle.acct_types.proofs.route.push_communities.Given as goal

-- each so far behind a separator
abbrev pub invariant-loop-community : goal.invariant-loop-community
invariant-loop-community l = record {
  kept : BeginsWith l.fn.out l.out;
  text : l.out ≡ l.initial.out ++ flat_map (λ x. 95 ∷ community_text x) (take l.community-index l.rest);
}
