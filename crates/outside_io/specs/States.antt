-- What the outside tells of a source, a sink, a place or an input as it stands. None where it tells none.
use Rattle.std.specs.Prelude.{◌≡◌, ◌≤◌, ℕ, Bool, List, Option}
use Rattle.acct_types.specs.declared.route_event.Reply.{Reply}
use Rattle.outside_io.specs.Names.{Names}
use Rattle.outside_io.specs.declared.input_fault.InputFault.{InputFault}

-- the octets that a source has left, and how often it failed
pub record SourceState : Type 0 where
  pub left : Option (List ℕ)
  pub faults : ℕ

-- the octets that a sink holds, and how often it failed
pub record SinkState : Type 0 where
  pub held : Option (List ℕ)
  pub faults : ℕ

-- The octets of each name, what each close of an input of it took, in order, and how often opening, reading and writing it failed.
pub record PlaceState : Type 0 where
  pub names : Names
  pub taken : List ℕ → List (List ℕ)
  pub opens : List ℕ → ℕ
  pub reads : List ℕ → ℕ
  pub writes : List ℕ → ℕ

-- an input of datagrams, or of events of sessions
pub record InputState (T : Type 0) : Type 0 where
  -- those left, the fault that ends them (None where they simply end; it means something only where those left are told), and those
  -- handed out so far
  pub left : Option (List T)
  pub ending : Option InputFault
  pub handed : Option (List T)
  -- it said that none is left
  pub ended : Bool
  -- the moment of the one handed out last, in milliseconds, 0 at first
  pub moment : ℕ
  -- how often a read failed
  pub faults : ℕ
  -- it reads a capture
  pub captured : Bool

-- the replies sent so far, and how often one failed
pub record RepliesState : Type 0 where
  pub sent : Option (List Reply)
  pub faults : ℕ

-- no number of faults fell
pub record NoneFell (before after : PlaceState) : Type 0 where
  pub opens : (name : List ℕ) → before.opens name ≤ after.opens name
  pub reads : (name : List ℕ) → before.reads name ≤ after.reads name
  pub writes : (name : List ℕ) → before.writes name ≤ after.writes name

-- no number of faults fell, and no name was written to
pub record OnlyRead (before after : PlaceState) : Type 0 where
  pub opens : (name : List ℕ) → before.opens name ≤ after.opens name
  pub reads : (name : List ℕ) → before.reads name ≤ after.reads name
  pub writes : after.writes ≡ before.writes
