-- How often opening, reading and writing the system's files failed, by name.
use Rattle.std.specs.Prelude.{ℕ, List, [], None}
use Rattle.outside_io.specs.Named.{count_of}
use Rattle.outside_io.specs.States.{PlaceState}
use Rattle.outside_io.specs.declared.file_place.FilePlace.{FilePlace}

abbrev pub file_open_faults : {R File Folder : Type 0} → FilePlace R File Folder → List ℕ → ℕ
file_open_faults place = count_of place.open_faults

abbrev pub file_read_faults : {R File Folder : Type 0} → FilePlace R File Folder → List ℕ → ℕ
file_read_faults place = count_of place.read_faults

abbrev pub file_write_faults : {R File Folder : Type 0} → FilePlace R File Folder → List ℕ → ℕ
file_write_faults place = count_of place.write_faults

-- the octets of files aren't told
abbrev pub file_state : {R File Folder : Type 0} → FilePlace R File Folder → PlaceState
file_state place = record {
  names = λ _. None;
  taken = λ _. [];
  opens = file_open_faults place;
  reads = file_read_faults place;
  writes = file_write_faults place;
}
