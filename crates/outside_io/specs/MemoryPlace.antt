-- What a place in memory holds, what its sources and sinks are made with, and which of its calls fail.
use Rattle.std.specs.Prelude.{◌≡◌, ◌≢◌, ℕ, ◌-◌, ◌^◌, List, [], Option, None, Some}
use Rattle.outside_io.specs.Named.{value_of, values_of, count_of}
use Rattle.outside_io.specs.Names.{Names}
use Rattle.outside_io.specs.States.{PlaceState}
use Rattle.outside_io.specs.declared.call_plan.CallPlan.{CallPlan}
use Rattle.outside_io.specs.declared.memory_place.MemoryPlace.{MemoryPlace}
use Rattle.outside_io.specs.declared.shape.Shape.{Shape}

abbrev pub place_names : MemoryPlace → Names
place_names place = value_of place.files

-- what each close of an input of the name took, in order
abbrev pub place_taken : MemoryPlace → List ℕ → List (List ℕ)
place_taken place = values_of place.taken

abbrev pub place_open_faults : MemoryPlace → List ℕ → ℕ
place_open_faults place = count_of place.open_faults

abbrev pub place_read_faults : MemoryPlace → List ℕ → ℕ
place_read_faults place = count_of place.read_faults

abbrev pub place_write_faults : MemoryPlace → List ℕ → ℕ
place_write_faults place = count_of place.write_faults

abbrev pub place_state : MemoryPlace → PlaceState
place_state place = record {
  names = place_names place;
  taken = place_taken place;
  opens = place_open_faults place;
  reads = place_read_faults place;
  writes = place_write_faults place;
}

-- which of the calls that open a name are to fail
abbrev pub place_opens : MemoryPlace → CallPlan
place_opens place = place.opens

-- which of the calls that close an output are to fail
abbrev pub place_closes : MemoryPlace → CallPlan
place_closes place = place.closes

abbrev pub most_of : Option Shape → ℕ
most_of None = 2 ^ 64 - 1
most_of (Some shape) = shape.most

abbrev pub failing_of : Option Shape → List ℕ
failing_of None = []
failing_of (Some shape) = shape.failing

-- how many octets a call of the name's source or sink moves at most
abbrev pub place_most : MemoryPlace → List ℕ → ℕ
place_most place name = most_of (value_of place.shapes name)

-- the numbers, from 1, of the calls of the name's source or sink that are to fail
abbrev pub place_failing : MemoryPlace → List ℕ → List ℕ
place_failing place name = failing_of (value_of place.shapes name)

-- the name's source or sink is made with these
pub record PutsShape (old new : MemoryPlace) (name : List ℕ) (most : ℕ) (failing : List ℕ) : Type 0 where
  pub most_here : place_most new name ≡ most
  pub failing_here : place_failing new name ≡ failing
  pub most_elsewhere : (other : List ℕ) → other ≢ name → place_most new other ≡ place_most old other
  pub failing_elsewhere : (other : List ℕ) → other ≢ name → place_failing new other ≡ place_failing old other

-- each name's source and sink are made with what they were
pub record SameShapes (old new : MemoryPlace) : Type 0 where
  pub most : place_most new ≡ place_most old
  pub failing : place_failing new ≡ place_failing old

-- no number of faults and no octets taken changed
pub record SameCounts (old new : MemoryPlace) : Type 0 where
  pub taken : place_taken new ≡ place_taken old
  pub open_faults : place_open_faults new ≡ place_open_faults old
  pub read_faults : place_read_faults new ≡ place_read_faults old
  pub write_faults : place_write_faults new ≡ place_write_faults old

-- no call that opens or closes was counted
pub record SamePlans (old new : MemoryPlace) : Type 0 where
  pub opens : place_opens new ≡ place_opens old
  pub closes : place_closes new ≡ place_closes old
