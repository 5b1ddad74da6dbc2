use Rattle.std.proofs.Common.{◌≡◌, ◌∙◌, List, ap, length, refl, subst, sym}
use Rattle.out_text.specs.Events.{events_text}
use Rattle.plugin_work.specs.Plugins.{PluginState}
use Rattle.collect_core.specs.Audit.{told_in}
use Rattle.collect_core.specs.Due.{over_all}
use Rattle.collect_core.specs.Given.{Take}
use Rattle.collect_core.specs.Loads.{given_to}
use Rattle.collect_core.specs.Most.{most_in}
use Rattle.collect_core.proofs.RunLemmas.{passes_if_full, run_more, same_plugins}
use Rattle.collect_core.proofs.running.take_datagram.Goals as goal

pub returns-clause-run : goal.returns-clause-run
returns-clause-run g c = λ starts start flows run.
    let old : List PluginState = c.args.running.now.plugins.items in
    let taken : Take old c.give_loads.new.plugins (λ place. given_to place c.in_ok-events.field-0.loads) =
    subst (λ (states : List PluginState). Take states c.give_loads.new.plugins (λ place. given_to place c.in_ok-events.field-0.loads)) c.deref_mut.ensures.value c.give_loads.ensures in
    let all : c.args.running.now.plugins.len ≡ length old = sym c.deref_mut.ensures.len ∙ ap (λ (states : List PluginState). length states) c.deref_mut.ensures.value in
    rw (same_plugins c.args.running.now.plugins.len old c.give_loads.new.plugins all taken.many)
    (run_more c.args.job.now (most_in c.args.limits.now) starts start flows c.args.datagram.now c.args.running.now.collector c.datagram.new.self _ _ old c.give_loads.new.plugins
    c.args.running.now.log c.write.new.self _ _ _ run (c.in_ok-events.ensures.step flows run.seen) refl c.in_ok-events.ensures.others (rw c.as_slice.ensures at c.in_ok-append_events.ensures)
    (c.write.ensures.written start (events_text (over_all (told_in c.args.job.now) flows)) run.written) c.write.ensures.text taken)

pub returns-clause-passes : goal.returns-clause-passes
returns-clause-passes g c = λ starts start flows run few.
    passes_if_full c.args.job.now (most_in c.args.limits.now) flows c.args.datagram.now c.args.running.now.collector c.datagram.new.self _ _ run.totals (c.in_ok-events.ensures.step flows run.seen) refl few
