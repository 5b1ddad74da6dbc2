use Rattle.std.proofs.Common.{◌≡◌, ◌∙◌, [], ℕ, List, ap, sym, subst}
use Rattle.std.specs.Prelude.{IsSome}
use Rattle.acct_top.specs.Job.{capture_of}
use Rattle.config_keys.specs.declared.plugin.PluginConfig.{PluginConfig}
use Rattle.outside_io.specs.Names.{Names}
use Rattle.acct_top.specs.Conservation.{IsNoOutput}
use Rattle.acct_top.specs.Run.{AreApart, IsOutputFault, KeepsAllBut}
use Rattle.acct_top.proofs.JobLemmas.{job_names}
use Rattle.acct_top.proofs.OpenLemmas.{keeps_others, nothing_taken, output_unopened}
use Rattle.acct_top.proofs.open.open_all.Goals as goal

pub open_outputs-requires-clause-apart : goal.open_outputs-requires-clause-apart
open_outputs-requires-clause-apart g c κs within =
    subst (λ (ps : List PluginConfig). AreApart c.args.job.now.config.acct_audit_file ps) (sym c.as_slice.ensures) (job_names c.args.job.now c.requires.replay).outputs

pub close_in-requires : goal.close_in-requires
close_in-requires g c = λ told.
    let job = c.args.job.now in
    let capture = c.args.capture.now in
    let keeps = subst (λ (ps : List PluginConfig). KeepsAllBut job ps (g.P.Place.state c.open_in.new.self).names (g.P.Place.state c.open_outputs.new.place).names) c.as_slice.ensures (c.open_outputs.ensures.others told) in
    let none = subst (λ (name : List _). IsNoOutput job name) (sym c.requires.capture) (job_names job c.requires.replay).capture in
    let same : (g.P.Place.state c.open_outputs.new.place).names capture ≡ (g.P.Place.state c.args.place.now).names capture = keeps_others job _ _ keeps capture none ∙ ap (λ (n : Names). n capture) (c.open_in.ensures.names told) in
    ([], nothing_taken (g.P.In.Source.state c.in-Ok.input).left ∙ (c.in-Ok.ensures.opened told).1 ∙ sym same)

pub returns-in-Ok-close_in-clause-unopened : goal.returns-in-Ok-close_in-clause-unopened
returns-in-Ok-close_in-clause-unopened g c = λ told.
    let job = c.args.job.now in
    let answer = c.in-Err-open_outputs.answer in
    let fault = subst (λ (ps : List PluginConfig). IsOutputFault job ps answer (g.P.Place.state c.open_in.new.self).names (g.P.Place.state c.open_outputs.new.place).names) c.as_slice.ensures (c.in-Err-open_outputs.ensures.unopened told) in
    let there : IsSome ((g.P.Place.state c.args.place.now).names (capture_of job)) =
    subst (λ (name : List ℕ). IsSome ((g.P.Place.state c.args.place.now).names name)) c.requires.capture (c.in-Ok.ensures.opened told).0 in
    output_unopened job answer _ (g.P.Place.state c.open_outputs.new.place).names _ there (c.close_in.ensures.names told)
    (subst (λ (n : Names). IsOutputFault job job.config.plugins answer n (g.P.Place.state c.open_outputs.new.place).names) (c.open_in.ensures.names told) fault)
