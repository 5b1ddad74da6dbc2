-- Lines that give rates of sampling.
use Rattle.std.specs.Prelude.{ℕ, ◌&&◌, Bool, List, find, codes, Option, Some, None, option_map, Result, Ok, Err}
use Rattle.acct_types.specs.declared.addr.Addr.{Addr}
use Rattle.config_keys.specs.Lines.{Text}
use Rattle.pretag_map.specs.Conditions.{equals_if}
use Rattle.pretag_map.specs.Judging.{line_members}
use Rattle.pretag_map.specs.Keys.{any_number, rate_range, sampling_keys}
use Rattle.pretag_map.specs.Members.{Member}
use Rattle.pretag_map.specs.Networks.{Network, covers}
use Rattle.pretag_map.specs.Rules.{rules_of}
use Rattle.pretag_map.specs.Values.{network_given, number_given}
use Rattle.pretag_map.specs.declared.fault.MapCause.{MapCause}
use Rattle.pretag_map.specs.declared.fault.MapCause.TheVariants.{MissingKey}
use Rattle.pretag_map.specs.declared.fault.MapFault.{MapFault}

-- the exporters and interfaces of a line, and one of how many packets is seen
pub record SamplingLine : Type 0 where
  pub exporter : Network
  pub in_iface : Option ℕ
  pub out_iface : Option ℕ
  pub rate : ℕ

-- ---- what a map says

-- a line needs its exporters and its rate
abbrev pub with_rate : List Member → Option Network → Option ℕ → Result SamplingLine MapCause
with_rate members (Some exporter) (Some rate) = Ok (record {
  exporter = exporter;
  in_iface = number_given any_number members (codes "in");
  out_iface = number_given any_number members (codes "out");
  rate = rate;
})
with_rate members _ _ = Err MissingKey

abbrev pub sampling_line_if : Result (List Member) MapCause → Result SamplingLine MapCause
sampling_line_if (Err cause) = Err cause
sampling_line_if (Ok members) =
    with_rate members (network_given members (codes "ip")) (number_given rate_range members (codes "sampling_rate"))

-- the rate that a line gives, or its first cause
abbrev pub sampling_line : Text → Result SamplingLine MapCause
sampling_line line = sampling_line_if (line_members sampling_keys line)

abbrev pub sampling_map_of : Text → Result (List SamplingLine) MapFault
sampling_map_of text = rules_of sampling_line text

-- ---- the rate of a record

-- all conditions of the line hold
abbrev pub samples : Addr → ℕ → ℕ → SamplingLine → Bool
samples exporter in_iface out_iface line =
    covers line.exporter exporter && equals_if line.in_iface in_iface && equals_if line.out_iface out_iface

-- that of the first line of which all conditions hold
abbrev pub rate_of : List SamplingLine → Addr → ℕ → ℕ → Option ℕ
rate_of lines exporter in_iface out_iface = option_map (λ line. line.rate) (find (samples exporter in_iface out_iface) lines)
