use Rattle.std.proofs.Common.{◌≡◌, ◌≢◌, ◌∙◌, ℕ, List, Option, map, sym, subst, Bor, arith}
use Rattle.std.specs.Prelude.{IsSome}
use Rattle.std.proofs.lemmas.List.Elements.{All-map, All-weaker}
use Rattle.collect_core.specs.Course.{unrouted}
use Rattle.collect_core.specs.Ends.{PluginEnding, ending_of}
use Rattle.outside_io.specs.Causes.{Rose}
use Rattle.outside_io.specs.declared.ends.OutEnd.TheVariants as out
use Rattle.plugin_work.specs.declared.plugin.PluginEnd.{PluginEnd}
use Rattle.outside_io.specs.States.{SinkState}
use Rattle.acct_top.specs.Conservation.{IsNoOutput}
use Rattle.acct_top.specs.Job.{capture_of}
use Rattle.acct_top.specs.Run.{IsNewSink}
use Rattle.acct_top.proofs.CloseLemmas.{Counts, all_before_map, all_counted, rose_within}
use Rattle.acct_top.proofs.JobLemmas.{job_names}
use Rattle.acct_top.proofs.RunLemmas.{job_holds, job_reason, lent_name, named, run_facts, run_failed}
use Rattle.acct_top.proofs.run.run_job.Goals as goal

pub run_over-requires-clause-left : goal.run_over-requires-clause-left
run_over-requires-clause-left g c κs within = λ told.
    let job = c.args.job.now in
    let capture = c.unwrap-capture.result.now in
    let is : capture ≡ capture_of job = lent_name (λ (n : Bor (List ℕ)). n.now) c.as_ref.result job.config.acct_flow_capture c.unwrap-capture.result c.as_ref.ensures.value c.unwrap-capture.ensures in
    let none : IsNoOutput job capture = subst (λ (name : List ℕ). IsNoOutput job name) (sym is) (job_names job c.requires.replay).capture in
    let same : (g.P.Place.state c.open_all.new.place).names capture ≡ (g.P.Place.state c.args.place.now).names capture = c.open_all.ensures.others told capture none in
    let input = c.in-Ok.ensures.input told in
    (subst (λ (o : Option (List ℕ)). IsSome o) (sym same) input.0, input.1 ∙ sym same)

pub close_all-requires-clause-apart : goal.close_all-requires-clause-apart
close_all-requires-clause-apart g c κs within = (job_names c.args.job.now c.requires.replay).outputs.own

pub close_all-requires-clause-audit_apart : goal.close_all-requires-clause-audit_apart
close_all-requires-clause-audit_apart g c κs within = (job_names c.args.job.now c.requires.replay).outputs.not_audit

pub close_all-requires-clause-counted : goal.close_all-requires-clause-counted
close_all-requires-clause-counted g c κs within =
    let ending : PluginEnd g.row.P-Out.Denot → PluginEnding = ending_of g.P.Out.Sink.state in
    let sink = λ (o : g.row.P-Out.Denot). g.P.Out.Sink.state o in
    let run = c.in-Ok-run_over.ensures.run in
    all_before_map Counts ending c.in-Ok-run_over.end.plugins
    (all_counted c.args.job.now unrouted _ c.args.job.now.config.plugins _ _ run.plugins
    (All-map (λ (s : SinkState). s.faults ≡ 0) sink c.in-Ok.opened.outs
    (All-weaker (λ (o : g.row.P-Out.Denot). IsNewSink g.P.Place.tells (sink o)) (λ (o : g.row.P-Out.Denot). (sink o).faults ≡ 0) (λ o new. new.no_fault) c.in-Ok.opened.outs c.in-Ok.ensures.outputs)))

pub close_all-requires-clause-in_memory : goal.close_all-requires-clause-in_memory
close_all-requires-clause-in_memory g c κs within =
    let ending : PluginEnd g.row.P-Out.Denot → PluginEnding = ending_of g.P.Out.Sink.state in
    all_before_map (λ (e : PluginEnding). e.end ≢ out.Memory) ending c.in-Ok-run_over.end.plugins c.in-Ok-run_over.ensures.run.plugins_in_memory

pub returns-clause-holds : goal.returns-clause-holds
returns-clause-holds g c = λ told.
    let at = λ (p : g.row.P.Denot). g.P.Place.state p in
    let sink = λ (o : g.row.P-Out.Denot). g.P.Out.Sink.state o in
    let job = c.args.job.now in
    let before = at c.args.place.now in
    let opened = at c.open_all.new.place in
    let over = at c.run_over.new.place in
    let after = at c.close_all.new.place in
    let capture = c.unwrap-capture.result.now in
    let is : capture ≡ capture_of job = lent_name (λ (n : Bor (List ℕ)). n.now) c.as_ref.result job.config.acct_flow_capture c.unwrap-capture.result c.as_ref.ensures.value c.unwrap-capture.ensures in
    let flow = c.in-Ok-run_over.end.flow in
    job_holds c.runs_without_routes_are_lawful.ensures job before after c.answer_of.result flow _ c.answer_of.ensures
    (run_facts job g.P.Place.tells before opened over after capture (map sink c.in-Ok.opened.outs) (sink c.in-Ok.opened.audit) (sink c.run_over.new.audit) flow _ c.in-Ok-run_over.end.audit _ told (record {
      is_capture = is;
      apart = (job_names job c.requires.replay).capture;
      begun = c.in-Ok.ensures.begun told;
      before_opened = c.open_all.ensures.none_fell;
      opened_over = c.run_over.ensures.none_fell;
      over_after = c.close_all.ensures.none_fell;
      names_over = c.run_over.ensures.names told;
      new = All-map (IsNewSink g.P.Place.tells) sink c.in-Ok.opened.outs c.in-Ok.ensures.outputs;
      audit_new = c.in-Ok.ensures.audit;
      run = c.in-Ok-run_over.ensures.run;
      failed = c.in-Ok-run_over.ensures.failed;
      taken_opened = c.in-Ok.ensures.taken told;
      taken_after = c.close_all.ensures.taken told;
      others_after = c.close_all.ensures.others told;
      closed = λ flows written. c.in-Ok-close_all.ensures.closed told unrouted flows before _ _ written;
    }))

pub returns-clause-reason : goal.returns-clause-reason
returns-clause-reason g c =
    let at = λ (p : g.row.P.Denot). g.P.Place.state p in
    let job = c.args.job.now in
    let before = at c.args.place.now in
    let opened = at c.open_all.new.place in
    let over = at c.run_over.new.place in
    let after = at c.close_all.new.place in
    let capture = c.unwrap-capture.result.now in
    let is : capture ≡ capture_of job = lent_name (λ (n : Bor (List ℕ)). n.now) c.as_ref.result job.config.acct_flow_capture c.unwrap-capture.result c.as_ref.ensures.value c.unwrap-capture.ensures in
    let flow = c.in-Ok-run_over.end.flow in
    job_reason c.runs_without_routes_are_lawful.ensures job before after c.answer_of.result flow _ c.answer_of.ensures
    (run_failed job before opened over after capture flow is c.open_all.ensures.none_fell c.close_all.ensures.none_fell c.in-Ok-run_over.ensures.failed)
    (λ other is_name.
    let rose = named (λ (n : Bor (List ℕ)). n.now) (λ (name : List ℕ). Rose (over.writes name) (after.writes name)) c.in-Ok-close_all.unwritten c.in-Ok-close_all.ensures.cause other is_name in
    let first = c.open_all.ensures.none_fell.writes other in
    let last = c.run_over.ensures.none_fell.writes other in
    rose_within (before.writes other) (over.writes other) (after.writes other) (after.writes other) (omega arith) rose (omega arith))
