-- What a configuration keeps of its numbers and names.
use Rattle.std.specs.Prelude.{ℕ, ◌≤◌, ◌≢◌}

-- from the least to the most
abbrev pub IsWithin : ℕ → ℕ → ℕ → Type 0
IsWithin least most n = (least ≤ n) × (n ≤ most)

-- 0, or 3 to 65,535
pub record IsHold (n : ℕ) : Type 0 where
  pub most : n ≤ 65535
  pub not_one : n ≢ 1
  pub not_two : n ≢ 2
