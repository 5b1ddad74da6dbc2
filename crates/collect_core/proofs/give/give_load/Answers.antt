use Rattle.std.proofs.Common.{◌<◌, ◌≤◌, length, rules}
use Rattle.collect_core.proofs.GivenLemmas.{take_beyond, take_one}
use Rattle.collect_core.proofs.give.give_load.Goals as goal

pub returns-then-index-plugins : goal.returns-then-index-plugins
returns-then-index-plugins g c =
    let here : c.args.number < length c.args.plugins.now = search rules in
    take_one c.args.plugins.now c.args.number c.args.item c.take_item.new.self c.index-plugins-index.result here c.take_item.ensures.taken
    (λ config start items had. c.take_item.ensures.takes config start items had)

pub returns-else-index-plugins : goal.returns-else-index-plugins
returns-else-index-plugins g c =
    let beyond : length c.args.plugins.now ≤ c.args.number = search rules in
    take_beyond c.args.plugins.now c.args.number c.args.item beyond
