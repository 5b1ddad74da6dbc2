-- A message of which not all octets have come.
use Rattle.std.specs.Prelude.{ℕ, Bool, false, List, Option, Result, is_none, Ok, Err}

abbrev pub needs_more : {F : Type 0} → (List ℕ → Result (Option ℕ) F) → List ℕ → Bool
needs_more framed begun = elim (framed begun) [
  | Ok size ↦ is_none size
  | Err fault ↦ false
]
