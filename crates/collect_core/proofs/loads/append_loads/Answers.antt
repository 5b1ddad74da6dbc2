use Rattle.std.proofs.Common.{◌≡◌, get_or, rules}
use Rattle.collect_core.specs.Course.{unrouted}
use Rattle.collect_core.proofs.LoadLemmas.{plugin_loaded}
use Rattle.collect_core.proofs.loads.append_loads.Goals as goal

pub item_of-requires-clause-tags : goal.item_of-requires-clause-tags
item_of-requires-clause-tags c = c.tags_in-tags.ensures c.args.standing.datagram

pub loop-index-preserved : goal.loop-index-preserved
loop-index-preserved c =
    let slice = c.as_slice-plugin-items.result.now in
    let there : c.plugin-item.result ≡ get_or c.as_slice-plugin-items.result.now c.loop-index.index c.plugin-item.result = search rules in
    plugin_loaded c.args.job.now unrouted slice c.args.job.now.config.plugins c.loop-index.index c.plugin-item.result c.args.standing.datagram c.args.standing.moment c.args.standing.row c.args.flow.now _ _ _ _
    c.as_slice-plugin-items.ensures c.loop-index.invariant c.in_ok-push.ensures.ok c.loop-index-test.true there c.in_ok-item.ensures
