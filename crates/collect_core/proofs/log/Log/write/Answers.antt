use Rattle.std.proofs.Common.{subst}
use Rattle.outside_io.specs.declared.ends.OutEnd.{OutEnd}
use Rattle.plugin_work.specs.Sinks.{IsWritten}
use Rattle.collect_core.proofs.WrittenLemmas.{none_written}
use Rattle.collect_core.proofs.log.Log.write.Goals as goal
use Rattle.collect_core.proofs.log.Log.write.Goals.{in-Whole, in_default}

pub returns-clause-written : goal.returns-clause-written
returns-clause-written g c = λ start text so_far.
    elim c.match-self.branch [
      | in-Whole w ↦
          rw (w.self-is, w.audit-is)
          (rw w.as_slice.ensures at (w.write_text-self.ensures start text
          (subst (λ (end : OutEnd). IsWritten text end start (g.A.Sink.state c.args.audit.now)) w.in-Whole.is so_far)))
      | in_default w ↦ rw (w.self-is, w.audit-is) (none_written text c.args.self.now.text c.args.self.now.end start _ w.in_default.not-Whole so_far)
    ]
