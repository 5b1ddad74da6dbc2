-- A text that is written to a sink.
use Rattle.std.specs.Prelude.{◌≡◌, ◌≢◌, ◌≤◌, ℕ, List, [], ◌++◌}
use Rattle.std.specs.Io.KnownBytes.{append_known}
use Rattle.outside_io.specs.Causes.{Rose}
use Rattle.outside_io.specs.States.{SinkState}
use Rattle.outside_io.specs.declared.ends.OutEnd.{OutEnd}
use Rattle.outside_io.specs.declared.ends.OutEnd.TheVariants.{Whole, Failed}

-- A text was written to a sink behind what it held: all of it, or a front where writing failed or memory ran out.
pub record IsWritten (text : List ℕ) (end : OutEnd) (before now : SinkState) : Type 0 where
  pub front : List ℕ
  pub rest : List ℕ
  pub splits : text ≡ front ++ rest
  pub held : now.held ≡ append_known before.held front
  pub whole : end ≡ Whole → rest ≡ []
  -- writing failed only where the sink did
  pub failed : end ≡ Failed → Rose before.faults now.faults
  pub kept : end ≢ Failed → now.faults ≡ before.faults
  pub later : before.faults ≤ now.faults
