-- Octets, split into messages.
use Rattle.std.specs.Prelude.{ℕ, zero, suc, List, [], ◌∷◌, length, take, drop, flat_map, Option, Some, None, Result, Ok, Err}

-- The whole messages at the front, one behind another: up to the first that isn't whole, or where a fault is. A message has an octet at least,
-- so there are no more of them than octets.
abbrev pub messages_from : {F : Type 0} → (List ℕ → Result (Option ℕ) F) → ℕ → List ℕ → List (List ℕ)
messages_from framed zero octets = []
messages_from framed (suc most) octets = elim (framed octets) [
  | Ok (Some size) ↦ take size octets ∷ messages_from framed most (drop size octets)
  | Ok None ↦ []
  | Err fault ↦ []
]

unfoldable pub messages : {F : Type 0} → (List ℕ → Result (Option ℕ) F) → List ℕ → List (List ℕ)
messages framed octets = messages_from framed (length octets) octets

abbrev pub join : List (List ℕ) → List ℕ
join parts = flat_map (λ part. part) parts

-- what stands behind the whole messages
unfoldable pub rest_of : {F : Type 0} → (List ℕ → Result (Option ℕ) F) → List ℕ → List ℕ
rest_of framed octets = drop (length (join (messages framed octets))) octets

-- what is wrong at the front
abbrev pub fault_at : {F : Type 0} → (List ℕ → Result (Option ℕ) F) → List ℕ → Option F
fault_at framed octets = elim (framed octets) [
  | Ok size ↦ None
  | Err fault ↦ Some fault
]
