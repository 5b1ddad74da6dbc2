-- What the code keeps of an UPDATE (RFC 4271, 4.3) between its judgement and its reading.
use Rattle.std.specs.Prelude.{ℕ, ◌≡◌, List, length, None}
use Rattle.bgp_msg.specs.Prefixes.{bad_prefix, prefixes_in}
use Rattle.bgp_msg.specs.Updates.{announced_octets, attributes_of, withdrawn_octets}
use Rattle.bgp_msg.specs.Values.{HaveForms, Keeps}
use Rattle.bgp_msg.specs.declared.families.Family.TheVariants.{V4}
use Rattle.bgp_msg.specs.declared.message.Agreed.{Agreed}
use Rattle.bgp_msg.specs.declared.update.Parts.{Parts}

-- the parts are those of these octets
pub record AreParts (octets : List ℕ) (parts : Parts) : Type 0 where
  pub withdrawn : parts.withdrawn.now ≡ withdrawn_octets octets
  pub values : Keeps parts.values (attributes_of octets)
  pub announced : parts.announced.now ≡ announced_octets octets

-- no prefix is bad, both lists are counted, and each value has its form
pub record CanBeRead (agreed : Agreed) (parts : Parts) : Type 0 where
  pub withdrawn : bad_prefix V4 0 parts.withdrawn.now ≡ None
  pub withdrawn_count : parts.withdrawn_count ≡ length (prefixes_in V4 parts.withdrawn.now)
  pub values : HaveForms agreed parts.values
  pub announced : bad_prefix V4 0 parts.announced.now ≡ None
  pub announced_count : parts.announced_count ≡ length (prefixes_in V4 parts.announced.now)
