use Rattle.acct_types.specs.Routes.{hop_text, path_text}
use Rattle.acct_types.proofs.RouteLemmas.{all_joined, further_on, nothing_joined}
use Rattle.acct_types.proofs.route.push_path.Goals as goal

pub returns-in_default-clause-ok : goal.returns-in_default-clause-ok
unfolding path_text
returns-in_default-clause-ok c = nothing_joined hop_text c.args.path.now c.args.out.now c.in_default.len_below

pub returns-in_err-push_hop-2-clause-kept : goal.returns-in_err-push_hop-2-clause-kept
returns-in_err-push_hop-2-clause-kept c =
    further_on c.args.out.now c.loop-hop.out c.push.new.self c.push_hop-in-loop-hop.new.out _ c.loop-hop.invariant.kept c.in_ok-push.ensures.ok
    c.push_hop-in-loop-hop.ensures.kept

pub returns-clause-ok : goal.returns-clause-ok
unfolding path_text
returns-clause-ok c =
    all_joined hop_text c.args.path.now c.first-item.result c.first-item.result c.args.out.now c.push_hop.new.out c.loop-hop.out c.loop-hop.hop-index
    c.in-len1-up.len_at_least c.first-item.is c.in_ok-push_hop.ensures.ok c.loop-hop.invariant.text c.loop-hop-test.false
