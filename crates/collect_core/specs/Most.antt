-- The limits of a run.
use Rattle.std.specs.Prelude.{ℕ, ◌-◌, ◌^◌}
use Rattle.collect_core.specs.declared.limits.Limits.{Limits}

-- the most records, routing messages, and octets of the events of an input that a run takes
pub record Most : Type 0 where
  pub records : ℕ
  pub messages : ℕ
  pub octets : ℕ

abbrev pub most_in : Limits → Most
most_in limits = record { records = limits.records; messages = limits.messages; octets = limits.octets }

-- the limits of every run
abbrev pub FULL : Most
FULL = record { records = 2 ^ 32 - 1; messages = 2 ^ 32 - 1; octets = 2 ^ 40 }
