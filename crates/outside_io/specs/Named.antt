-- Values under names, kept in a list in which the first one of a name counts.
use Rattle.std.specs.Prelude.{◌≡◌, ◌≢◌, ◌≤◌, ℕ, ◌+◌, List, [], ◌∷◌, Option, None, Some, unwrap_or, if◌then◌else◌}
use Rattle.std.specs.Str.{bytes_eq}
use Rattle.outside_io.specs.Causes.{Rose}
use Rattle.outside_io.specs.declared.named.Named.{Named}

-- the value of the name
abbrev pub value_of : {T : Type 0} → List (Named T) → List ℕ → Option T
value_of [] name = None
value_of (item ∷ items) name = if bytes_eq item.name name then Some item.value else value_of items name

-- all values of the name, in order
abbrev pub values_of : {T : Type 0} → List (Named T) → List ℕ → List T
values_of [] name = []
values_of (item ∷ items) name = if bytes_eq item.name name then item.value ∷ values_of items name else values_of items name

-- how many values stand before that of the name, all of them where it has none
abbrev pub place_of : {T : Type 0} → List (Named T) → List ℕ → ℕ
place_of [] name = 0
place_of (item ∷ items) name = if bytes_eq item.name name then 0 else place_of items name + 1

-- the number of the name, 0 where it has none
abbrev pub count_of : List (Named ℕ) → List ℕ → ℕ
count_of items name = unwrap_or (value_of items name) 0

-- the name has this value, and every other name what it had
pub record PutsNamed {T : Type 0} (old new : List (Named T)) (name : List ℕ) (value : T) : Type 0 where
  pub here : value_of new name ≡ Some value
  pub others : (other : List ℕ) → other ≢ name → value_of new other ≡ value_of old other

-- the number of the name rose, and no other changed
pub record Raises (old new : List (Named ℕ)) (name : List ℕ) : Type 0 where
  pub later : (any : List ℕ) → count_of old any ≤ count_of new any
  pub rose : Rose (count_of old name) (count_of new name)
  pub others : (other : List ℕ) → other ≢ name → count_of new other ≡ count_of old other
