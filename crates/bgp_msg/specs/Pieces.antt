-- Octets that are made of pieces, one behind another. The size of each is told by its first octets.
use Rattle.std.specs.Option.{option_or}
use Rattle.std.specs.Prelude.{ℕ, zero, suc, ◌==◌, List, [], ◌∷◌, length, take, drop, Option, None, if◌then◌else◌}

-- at most so many pieces
abbrev pub pieces_from : (List ℕ → ℕ) → ℕ → List ℕ → List (List ℕ)
pieces_from size zero octets = []
pieces_from size (suc most) octets =
    if length octets == 0 then []
    else take (size octets) octets ∷ pieces_from size most (drop (size octets) octets)

-- The pieces up to the end. Each has one octet at least. The last one is shorter than its size where that passes the end.
unfoldable pub pieces : (List ℕ → ℕ) → List ℕ → List (List ℕ)
pieces size octets = pieces_from size (length octets) octets

-- what the last of them says that says something
abbrev pub last_of : {A : Type 0} → (List ℕ → Option A) → List (List ℕ) → Option A
last_of says [] = None
last_of says (piece ∷ others) = option_or (last_of says others) (says piece)
