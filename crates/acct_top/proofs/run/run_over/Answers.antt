use Rattle.std.proofs.Common.{◌∙◌}
use Rattle.acct_top.proofs.EndLemmas.{audit_of, ends_as, flows_same, handed, plugins_of}
use Rattle.acct_top.proofs.run.run_over.Goals as goal

pub close_in-requires : goal.close_in-requires
close_in-requires g c = λ told.
    let calls = c.run_alone-end.ensures.calls in
    let h = handed g.P.In.Source.state _ c.flows_hand_out_what_they_took.ensures c.new-reader.result c.new-flows.result c.run_alone-end.new.flows calls.0 c.args.input c.into_source.result
    c.new-flows.ensures.reader c.new-reader.ensures.fresh c.new-reader.ensures.most c.new-reader.ensures.source c.into_source.ensures calls.1 in
    (h.octets, h.taken ∙ (c.requires.left told).1)

pub returns-clause-run : goal.returns-clause-run
returns-clause-run g c =
    let run = c.run_alone-end.ensures.run c.if-end.false in
    let job = c.args.job.now in
    let law = c.written_datagrams_fit_the_limit.ensures in
    let h = handed g.P.In.Source.state _ c.flows_hand_out_what_they_took.ensures c.new-reader.result c.new-flows.result c.run_alone-end.new.flows run.answers c.args.input c.into_source.result
    c.new-flows.ensures.reader c.new-reader.ensures.fresh c.new-reader.ensures.most c.new-reader.ensures.source c.into_source.ensures run.calls in
    let same = flows_same law job run.answers _ _ c.run_alone-end.result.flow h run.flow in
    record {
      octets = h.octets;
      ends = λ told.
          let left = c.requires.left told in
          ends_as law job run.answers _ _ _ _ _ c.run_alone-end.result.flow h left.0 left.1 (λ took. (c.in_ok-close_in.ensures.taken told h.octets took).here) run.flow;
      plugins = plugins_of job _ _ job.config.plugins _ _ same run.plugins;
      plugins_in_memory = run.plugins_in_memory;
      audit = audit_of job _ _ c.run_alone-end.result.audit _ _ same run.audit;
      audit_in_memory = run.audit_in_memory;
    }
