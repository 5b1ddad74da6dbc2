use Rattle.std.proofs.Common.{[], subst, sym}
use Rattle.capture_file.specs.Reading.{step_at, Reads}
use Rattle.capture_file.specs.Standing.{Standing}
use Rattle.capture_file.proofs.Calls.{fresh_reads}
use Rattle.capture_file.proofs.reader.CaptureReader.new.Goals as goal

pub returns-clause-reads : goal.returns-clause-reads
returns-clause-reads g c = subst (λ (there : Standing). Reads step_at there [] []) (sym c.new.ensures) (fresh_reads step_at c.args.flows c.args.most)
