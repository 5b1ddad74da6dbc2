use Rattle.std.proofs.Common.{◌∙◌, ℕ, List, Option, None, map, ap, subst, Bor, arith}
use Rattle.std.specs.Prelude.{option_map}
use Rattle.collect_core.specs.Audit.{audit_text}
use Rattle.collect_core.specs.Ends.{PluginEnding, ending_of}
use Rattle.collect_core.specs.Most.{FULL}
use Rattle.plugin_work.specs.declared.plugin.PluginEnd.{PluginEnd}
use Rattle.acct_top.specs.Run.{AreClosed}
use Rattle.acct_top.proofs.CloseLemmas.{audit_unwritten, plugins_closed, run_closed}
use Rattle.acct_top.proofs.close.close_all.Goals as goal

pub returns-in-Some-clause-closed : goal.returns-in-Some-clause-closed
returns-in-Some-clause-closed g c = λ told course flows before starts audit_start w.
    let at = λ (p : g.row.P.Denot). g.P.Place.state p in
    let ending : PluginEnd g.row.P-Out.Denot → PluginEnding = ending_of g.P.Out.Sink.state in
    let job = c.args.job.now in
    let mid = at c.close_outputs-first.new.place in
    run_closed job course flows before mid (at c.close_output-last.new.place) c.in_ok-whole.whole _ (record {
      plugins = plugins_closed job course flows before (at c.args.place.now) mid c.as_slice.result.now starts _ (map ending c.args.plugins) _ c.as_slice.ensures (ap (map ending) (c.into_iter-ends.ensures.rest ∙ c.into_vec.ensures))
          (λ (v : _). subst (λ (u : Option (Bor (List ℕ))). AreClosed job course flows before mid c.as_slice.result.now (option_map (λ (n : Bor (List ℕ)). n.now) u)) c.in-Some.is (c.in_ok-unwritten.ensures.closed told job course flows before starts v)) w.plugins;
      apart = c.requires.audit_apart;
      others = c.close_output-last.ensures.others told;
      before_mid = λ name. let first = w.plugins.writes name in let last = c.close_outputs-first.ensures.none_fell.writes name in omega arith;
      after_later = c.close_output-last.ensures.none_fell.writes;
      failed = c.in_ok-whole.ensures.cause;
      closed = c.in_ok-whole.ensures.closed told (audit_text job FULL course flows) audit_start w.audit_empty w.audit;
    }) (λ none. cc none)

pub returns-then-whole-clause-closed : goal.returns-then-whole-clause-closed
returns-then-whole-clause-closed g c = λ told course flows before starts audit_start w.
    let at = λ (p : g.row.P.Denot). g.P.Place.state p in
    let ending : PluginEnd g.row.P-Out.Denot → PluginEnding = ending_of g.P.Out.Sink.state in
    let job = c.args.job.now in
    let mid = at c.close_outputs-first.new.place in
    run_closed job course flows before mid (at c.close_output-last.new.place) c.in_ok-whole.whole None (record {
      plugins = plugins_closed job course flows before (at c.args.place.now) mid c.as_slice.result.now starts _ (map ending c.args.plugins) _ c.as_slice.ensures (ap (map ending) (c.into_iter-ends.ensures.rest ∙ c.into_vec.ensures))
          (λ (v : _). subst (λ (u : Option (Bor (List ℕ))). AreClosed job course flows before mid c.as_slice.result.now (option_map (λ (n : Bor (List ℕ)). n.now) u)) c.in-None.is (c.in_ok-unwritten.ensures.closed told job course flows before starts v)) w.plugins;
      apart = c.requires.audit_apart;
      others = c.close_output-last.ensures.others told;
      before_mid = λ name. let first = w.plugins.writes name in let last = c.close_outputs-first.ensures.none_fell.writes name in omega arith;
      after_later = c.close_output-last.ensures.none_fell.writes;
      failed = c.in_ok-whole.ensures.cause;
      closed = c.in_ok-whole.ensures.closed told (audit_text job FULL course flows) audit_start w.audit_empty w.audit;
    }) (λ none. c.if-whole.true)

pub returns-clause-closed : goal.returns-clause-closed
returns-clause-closed g c = λ told course flows before starts audit_start w.
    let at = λ (p : g.row.P.Denot). g.P.Place.state p in
    let ending : PluginEnd g.row.P-Out.Denot → PluginEnding = ending_of g.P.Out.Sink.state in
    let job = c.args.job.now in
    let mid = at c.close_outputs-first.new.place in
    audit_unwritten job course flows before mid (at c.close_output-last.new.place) c.in_ok-whole.whole (record {
      plugins = plugins_closed job course flows before (at c.args.place.now) mid c.as_slice.result.now starts _ (map ending c.args.plugins) _ c.as_slice.ensures (ap (map ending) (c.into_iter-ends.ensures.rest ∙ c.into_vec.ensures))
          (λ (v : _). subst (λ (u : Option (Bor (List ℕ))). AreClosed job course flows before mid c.as_slice.result.now (option_map (λ (n : Bor (List ℕ)). n.now) u)) c.in-None.is (c.in_ok-unwritten.ensures.closed told job course flows before starts v)) w.plugins;
      apart = c.requires.audit_apart;
      others = c.close_output-last.ensures.others told;
      before_mid = λ name. let first = w.plugins.writes name in let last = c.close_outputs-first.ensures.none_fell.writes name in omega arith;
      after_later = c.close_output-last.ensures.none_fell.writes;
      failed = c.in_ok-whole.ensures.cause;
      closed = c.in_ok-whole.ensures.closed told (audit_text job FULL course flows) audit_start w.audit_empty w.audit;
    }) c.if-whole.false
