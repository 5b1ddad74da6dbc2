use Rattle.std.proofs.Common.{◌≡◌, ◌≢◌, ◌<◌, map, subst, ap}
use Rattle.std.proofs.lemmas.List.Elements.{All-rest}
use Rattle.collect_core.specs.Ends.{PluginEnding, ending_of}
use Rattle.outside_io.specs.declared.ends.OutEnd.TheVariants as out
use Rattle.plugin_work.specs.declared.plugin.PluginEnd.{PluginEnd}
use Rattle.acct_top.specs.Run.{HaveOwnFiles}
use Rattle.acct_top.proofs.CloseLemmas.{all_closed, first_unwritten, names_kept}
use Rattle.acct_top.proofs.OpenLemmas.{first_item}
use Rattle.acct_top.proofs.close.+close_outputs.Goals as goal

pub close_outputs-others-requires-clause-counted : goal.close_outputs-others-requires-clause-counted
close_outputs-others-requires-clause-counted g t c κs within =
    All-rest (λ (end : PluginEnd g.row.P-Out.Denot). end.end ≡ out.Failed → 0 < (g.P.Out.Sink.state end.out).faults) c.in-Some.end _ _ c.in-Some.ensures.items c.requires.counted

pub close_outputs-others-requires-clause-in_memory : goal.close_outputs-others-requires-clause-in_memory
close_outputs-others-requires-clause-in_memory g t c κs within =
    All-rest (λ (end : PluginEnd g.row.P-Out.Denot). end.end ≢ out.Memory) c.in-Some.end _ _ c.in-Some.ensures.items c.requires.in_memory

pub returns-in_err-whole-clause-others : goal.returns-in_err-whole-clause-others
returns-in_err-whole-clause-others g t c = λ told.
    names_kept c.args.plugins.now c.plugin-item.result _ _ _ _ (first_item c.args.plugins.now c.plugin-item.result c.in-len1-up.len_at_least c.plugin-item.is)
    (c.close_output-first.ensures.others told) (c.close_outputs-others.ensures.others told)

pub returns-in_err-unwritten-clause-others : goal.returns-in_err-unwritten-clause-others
returns-in_err-unwritten-clause-others g t c = λ told.
    names_kept c.args.plugins.now c.plugin-item.result _ _ _ _ (first_item c.args.plugins.now c.plugin-item.result c.in-len1-up.len_at_least c.plugin-item.is)
    (c.close_output-first.ensures.others told) (c.close_outputs-others.ensures.others told)

pub returns-then-whole-clause-closed : goal.returns-then-whole-clause-closed
returns-then-whole-clause-closed g t c = λ told job course flows before starts w.
    let at = λ (p : g.row.P.Denot). g.P.Place.state p in
    let ending : PluginEnd g.row.P-Out.Denot → PluginEnding = ending_of g.P.Out.Sink.state in
    let plugin = c.plugin-item.result in
    let splits = first_item c.args.plugins.now plugin c.in-len1-up.len_at_least c.plugin-item.is in
    all_closed job course flows before (at c.args.place.now) (at c.close_output-first.new.place) (at c.close_outputs-others.new.place) c.begin_of.result c.args.plugins.now plugin _ starts _ (ending c.in-Some.end) _
    c.in_ok-whole.whole _ splits (ap (map ending) c.in-Some.ensures.items)
    (record {
      conserve = c.drops_conserve.ensures;
      is_begin = c.begin_of.ensures;
      apart = (subst HaveOwnFiles splits c.requires.apart).0;
      others = c.close_output-first.ensures.others told;
      kept = c.close_outputs-others.ensures.others told plugin.file (subst HaveOwnFiles splits c.requires.apart).0;
      mid_later = c.close_output-first.ensures.none_fell.writes;
      after_later = c.close_outputs-others.ensures.none_fell.writes;
      failed = c.in_ok-whole.ensures.cause;
      closed = c.in_ok-whole.ensures.closed told;
      rest = c.in_ok-unwritten.ensures.closed told job course flows before;
    }) w c.if-whole.true

pub returns-then-whole-clause-others : goal.returns-then-whole-clause-others
returns-then-whole-clause-others g t c = λ told.
    names_kept c.args.plugins.now c.plugin-item.result _ _ _ _ (first_item c.args.plugins.now c.plugin-item.result c.in-len1-up.len_at_least c.plugin-item.is)
    (c.close_output-first.ensures.others told) (c.close_outputs-others.ensures.others told)

pub returns-else-whole-clause-closed : goal.returns-else-whole-clause-closed
returns-else-whole-clause-closed g t c = λ told job course flows before starts w.
    let at = λ (p : g.row.P.Denot). g.P.Place.state p in
    let ending : PluginEnd g.row.P-Out.Denot → PluginEnding = ending_of g.P.Out.Sink.state in
    let plugin = c.plugin-item.result in
    let splits = first_item c.args.plugins.now plugin c.in-len1-up.len_at_least c.plugin-item.is in
    first_unwritten job course flows before (at c.args.place.now) (at c.close_output-first.new.place) (at c.close_outputs-others.new.place) c.begin_of.result c.args.plugins.now plugin _ starts _ (ending c.in-Some.end) _
    c.in_ok-whole.whole _ splits (ap (map ending) c.in-Some.ensures.items)
    (record {
      conserve = c.drops_conserve.ensures;
      is_begin = c.begin_of.ensures;
      apart = (subst HaveOwnFiles splits c.requires.apart).0;
      others = c.close_output-first.ensures.others told;
      kept = c.close_outputs-others.ensures.others told plugin.file (subst HaveOwnFiles splits c.requires.apart).0;
      mid_later = c.close_output-first.ensures.none_fell.writes;
      after_later = c.close_outputs-others.ensures.none_fell.writes;
      failed = c.in_ok-whole.ensures.cause;
      closed = c.in_ok-whole.ensures.closed told;
      rest = c.in_ok-unwritten.ensures.closed told job course flows before;
    }) w c.if-whole.false

pub returns-else-whole-clause-others : goal.returns-else-whole-clause-others
returns-else-whole-clause-others g t c = λ told.
    names_kept c.args.plugins.now c.plugin-item.result _ _ _ _ (first_item c.args.plugins.now c.plugin-item.result c.in-len1-up.len_at_least c.plugin-item.is)
    (c.close_output-first.ensures.others told) (c.close_outputs-others.ensures.others told)
