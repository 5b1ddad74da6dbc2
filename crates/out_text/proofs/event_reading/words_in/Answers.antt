use Rattle.std.proofs.Common.{rules, ◌==◌}
use Rattle.std.proofs.lemmas.Result.{IfOk-at_ok}
use Rattle.std.proofs.lemmas.Iterator.Consumers.{map_from_collect}
use Rattle.std.proofs.lemmas.Iterator.Splits.{YieldsList-from_slice_split}
use Rattle.out_text.proofs.event_reading.words_in.Goals as goal

pub returns : goal.returns
returns c =
    let e = c.split.ensures in
    IfOk-at_ok _ c.in_ok-collect.was (map_from_collect _ c.collect.ensures.ran (YieldsList-from_slice_split _ (λ octet. octet == 32) c.args.text.now e.rest e.done e.closure (λ x r q k. search rules)))
