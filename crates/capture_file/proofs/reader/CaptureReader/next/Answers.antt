use Rattle.std.proofs.Common.{Result, Option, sym, subst}
use Rattle.outside_io.specs.declared.input_fault.InputFault.{InputFault}
use Rattle.capture_file.specs.declared.reader.Step.{Step}
use Rattle.capture_file.specs.Reading.{step_at, ReadsOn}
use Rattle.capture_file.proofs.Calls.{call_reads, step_is_event}
use Rattle.capture_file.proofs.reader.CaptureReader.next.Goals as goal

pub returns-in-Ok-Some-clause-reads : goal.returns-in-Ok-Some-clause-reads
returns-in-Ok-Some-clause-reads g c =
    let call = rw c.in-Ok-Some.field-0-is at c.in-Ok-Some.ensures.call in
    λ octets steps so_far.
    subst (λ (r : Result (Option Step) InputFault). ReadsOn step_at c.next_event.new.self.reading (g.S.Source.state c.args.self.now.source).left (g.S.Source.state c.next_event.new.self.source).left octets steps r)
    (sym (step_is_event _ _ _ c.in-Ok-Some.step call.answer.same))
    (call_reads step_at c.args.self.now.reading c.next_event.new.self.reading _ _ _ octets steps call so_far)

pub returns-in-Ok-None-clause-reads : goal.returns-in-Ok-None-clause-reads
returns-in-Ok-None-clause-reads g c =
    let call = rw c.in-Ok-None.field-0-is at c.in-Ok-None.ensures.call in
    λ octets steps so_far. call_reads step_at c.args.self.now.reading c.next_event.new.self.reading _ _ _ octets steps call so_far

pub returns-in-Err-clause-reads : goal.returns-in-Err-clause-reads
returns-in-Err-clause-reads g c =
    λ octets steps so_far. call_reads step_at c.args.self.now.reading c.next_event.new.self.reading _ _ _ octets steps c.in-Err.ensures.call so_far
