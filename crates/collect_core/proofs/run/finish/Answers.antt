use Rattle.std.proofs.Common.{◌≡◌, ◌≢◌, ◌⊎◌, ◌∙◌, ◌++◌, List, ℕ, ap, subst}
use Rattle.std.specs.Prelude.{All, Any}
use Rattle.plugin_work.specs.declared.plugin.PluginEnd.{PluginEnd}
use Rattle.std.proofs.lemmas.List.Elements.{All-map}
use Rattle.outside_io.specs.declared.ends.OutEnd.TheVariants as out
use Rattle.plugin_work.specs.Sinks.{IsWritten}
use Rattle.out_text.specs.declared.event.Event.TheVariants.{End}
use Rattle.out_text.specs.Events.{event_line, events_text}
use Rattle.collect_core.specs.Course.{unrouted}
use Rattle.collect_core.specs.Audit.{told_in}
use Rattle.collect_core.specs.Due.{due, over_all}
use Rattle.collect_core.specs.Ends.{PluginEnding}
use Rattle.collect_core.proofs.CallLemmas.{on_no, on_yes}
use Rattle.collect_core.proofs.RunLemmas.{audit_is}
use Rattle.collect_core.proofs.run.finish.Goals as goal

pub returns-clause-outputs : goal.returns-clause-outputs
returns-clause-outputs g c = λ job most starts start flows run calm.
    let none = on_no
    ((c.write.new.self.end ≡ out.Memory) ⊎ Any (λ (e : PluginEnd g.row.W.Denot). e.end ≡ out.Memory) c.as_slice.result.now)
    ((c.write.new.self.end ≢ out.Memory) × All (λ (e : PluginEnd g.row.W.Denot). e.end ≢ out.Memory) c.as_slice.result.now)
    c.ran_out-memory.result calm c.ran_out-memory.ensures in
    let text = c.in_ok-event_text.ensures.ok ∙ ap (λ (t : List ℕ). t ++ event_line (End c.args.running.collector.totals)) run.no_lines in
    let written = c.write.ensures.written start (events_text (over_all (told_in job) flows)) run.written in
    record {
      plugins_end = c.in_ok-ends.ensures job.config.plugins starts (λ plugin. due job most unrouted plugin flows) run.given;
      plugins_in_memory = All-map (λ (ending : PluginEnding). ending.end ≢ out.Memory) _ c.in_ok-ends.ends (rw c.as_slice.ensures at none.1);
      audit_written = subst (λ (t : List ℕ). IsWritten t c.write.new.self.end start (g.A.Sink.state c.write.new.audit))
          (audit_is job most flows c.args.running.collector.totals c.event_text.new.out text run.totals) written;
      audit_in_memory = none.0;
      totals_are = run.totals;
    }

pub returns-clause-memory : goal.returns-clause-memory
returns-clause-memory g c = λ yes. rw c.as_slice.ensures at (on_yes
    ((c.write.new.self.end ≡ out.Memory) ⊎ Any (λ (e : PluginEnd g.row.W.Denot). e.end ≡ out.Memory) c.as_slice.result.now)
    ((c.write.new.self.end ≢ out.Memory) × All (λ (e : PluginEnd g.row.W.Denot). e.end ≢ out.Memory) c.as_slice.result.now)
    c.ran_out-memory.result yes c.ran_out-memory.ensures)
