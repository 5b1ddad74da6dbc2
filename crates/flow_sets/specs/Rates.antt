-- Sampling rates: what a record has, what an option record teaches, and what is known for a record. A record is seen as its numbers by
-- their elements: samplingInterval (34), samplerId (48), samplerRandomInterval (50), selectorId (302), samplingPacketInterval (305) and
-- samplingPacketSpace (306).
use Rattle.std.specs.Prelude.{ℕ, ◌+◌, ◌/◌, ◌==◌, nat_lt, List, [], ◌∷◌, Option, Some, None, option_map, if◌then◌else◌}
use Rattle.std.specs.Option.{option_or}
use Rattle.flow_templates.specs.declared.rate.LearnedRate.{LearnedRate}
use Rattle.flow_templates.specs.declared.template.Domain.{Domain}
use Rattle.flow_templates.specs.Known.{Known}

abbrev pub Numbers : Type 0
Numbers = ℕ → Option ℕ

-- a rate of 0 counts as 1, and one above 2^32 - 1 as that
abbrev pub clamped : ℕ → ℕ
clamped rate = if rate == 0 then 1 else (if nat_lt 4294967295 rate then 4294967295 else rate)

abbrev pub own_rate : Numbers → Option ℕ
own_rate number = option_map clamped (number 34)

-- the sampler's number, where the record names one
abbrev pub sampler_of : Numbers → Option ℕ
sampler_of number = option_or (number 302) (number 48)

-- of so many packets in all, those of the interval are sampled, and those of the space aren't
abbrev pub ratio : Option ℕ → Option ℕ → Option ℕ
ratio None space = None
ratio (Some interval) None = None
ratio (Some interval) (Some space) = if interval == 0 then None else Some ((interval + space) / interval)

-- what an option record tells
abbrev pub told_rate : Numbers → Option ℕ
told_rate number = option_map clamped (option_or (number 34) (option_or (number 50) (ratio (number 305) (number 306))))

abbrev pub lesson : Domain → Option ℕ → Option ℕ → List LearnedRate
lesson domain sampler None = []
lesson domain sampler (Some rate) = record { key = record { domain = domain; sampler = sampler }; rate = rate } ∷ []

-- what an option record teaches, if anything
abbrev pub taught : Domain → Numbers → List LearnedRate
taught domain number = lesson domain (sampler_of number) (told_rate number)

abbrev pub known_rate : Domain → Known → Option ℕ → Option ℕ
known_rate domain known sampler = known.rate (record { domain = domain; sampler = sampler })

-- the rate that is known for a sampler, or else without one
abbrev pub rate_for : Domain → Known → Option ℕ → Option ℕ
rate_for domain known None = known_rate domain known None
rate_for domain known (Some sampler) = option_or (known_rate domain known (Some sampler)) (known_rate domain known None)

abbrev pub learned_rate : Domain → Known → Numbers → Option ℕ
learned_rate domain known number = rate_for domain known (sampler_of number)
