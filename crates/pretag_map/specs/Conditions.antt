-- Conditions of rules. One that isn't given holds.
use Rattle.std.specs.Prelude.{ℕ, ◌==◌, Bool, true, Option, Some, None}
use Rattle.acct_types.specs.declared.addr.Addr.{Addr}
use Rattle.pretag_map.specs.Networks.{Network, covers}

abbrev pub covers_if : Option Network → Addr → Bool
covers_if None address = true
covers_if (Some network) address = covers network address

abbrev pub equals_if : Option ℕ → ℕ → Bool
equals_if None number = true
equals_if (Some wanted) number = wanted == number
