-- What stands on a writer or a reader of std: that itself, and how often it failed.
use Rattle.std.specs.Prelude.{ℕ, None}
use Rattle.outside_io.specs.States.{SourceState, SinkState}
use Rattle.outside_io.specs.declared.file_place.SayOut.{SayOut}
use Rattle.outside_io.specs.declared.file_place.FileSource.{FileSource}

abbrev pub say_faults : {W : Type 0} → SayOut W → ℕ
say_faults out = out.faults

abbrev pub writer_of : {W : Type 0} → SayOut W → W
writer_of out = out.writer

-- the octets held aren't told
abbrev pub say_state : {W : Type 0} → SayOut W → SinkState
say_state out = record { held = None; faults = out.faults }

abbrev pub file_of : {F : Type 0} → FileSource F → F
file_of source = source.file

-- the octets left aren't told
abbrev pub file_source_state : {F : Type 0} → FileSource F → SourceState
file_source_state source = record { left = None; faults = source.faults }
