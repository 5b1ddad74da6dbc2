use Rattle.std.proofs.Common.{get_or, refl}
use Rattle.acct_types.specs.Routes.{community_text, communities_text}
use Rattle.acct_types.proofs.RouteLemmas.{all_joined, further_on, nothing_joined}
use Rattle.acct_types.proofs.route.push_communities.Goals as goal

pub returns-in_default-clause-ok : goal.returns-in_default-clause-ok
unfolding communities_text
returns-in_default-clause-ok c = nothing_joined community_text c.args.communities.now c.args.out.now c.in_default.len_below

pub returns-in_err-push_community-2-clause-kept : goal.returns-in_err-push_community-2-clause-kept
returns-in_err-push_community-2-clause-kept c =
    further_on c.args.out.now c.loop-community.out c.push.new.self c.push_community-in-loop-community.new.out _ c.loop-community.invariant.kept c.in_ok-push.ensures.ok
    c.push_community-in-loop-community.ensures.kept

pub returns-clause-ok : goal.returns-clause-ok
unfolding communities_text
returns-clause-ok c =
    all_joined community_text c.args.communities.now (get_or c.args.communities.now 0 0) 0 c.args.out.now c.push_community.new.out c.loop-community.out c.loop-community.community-index
    c.in-len1-up.len_at_least refl c.in_ok-push_community.ensures.ok c.loop-community.invariant.text c.loop-community-test.false
