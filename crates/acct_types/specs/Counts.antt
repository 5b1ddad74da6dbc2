-- Sums of counts.
use Rattle.std.specs.Prelude.{◌≡◌, ℕ, ◌+◌, ◌<◌, ◌^◌}
use Rattle.acct_types.specs.declared.flow.Counts.{Counts}

-- the sums of both
abbrev pub plus : Counts → Counts → Counts
plus a b = record { bytes = a.bytes + b.bytes; packets = a.packets + b.packets; flows = a.flows + b.flows }

-- nothing was counted
abbrev pub nothing : Counts
nothing = record { bytes = 0; packets = 0; flows = 0 }

-- no count passes its type
abbrev pub CountsFit : Counts → Type 0
CountsFit c = (c.bytes < 2 ^ 128) × (c.packets < 2 ^ 128) × (c.flows < 2 ^ 128)

-- the order in which counts are added changes nothing, and nor does nothing
pub record AddUp : Type 0 where
  pub grouped : (a b c : Counts) → plus (plus a b) c ≡ plus a (plus b c)
  pub swapped : (a b : Counts) → plus a b ≡ plus b a
  pub nothing_added : (c : Counts) → plus c nothing ≡ c

-- each of the counts is below a limit
abbrev pub IsBelow : ℕ → Counts → Type 0
IsBelow limit c = (c.bytes < limit) × (c.packets < limit) × (c.flows < limit)
