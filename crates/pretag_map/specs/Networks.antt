-- Networks.
use Rattle.std.specs.Prelude.{ℕ, ◌+◌, ◌==◌, Bool, nat_le, List, take, drop, position, Option, Some, None, option_and_then, if◌then◌else◌}
use Rattle.acct_types.specs.AddrText.{address_of}
use Rattle.acct_types.specs.Prefixes.{network_of, same_start, width_of}
use Rattle.acct_types.specs.declared.addr.Addr.{Addr}
use Rattle.config_keys.specs.Lines.{Text}
use Rattle.config_keys.specs.Table.{from_to}
use Rattle.config_keys.specs.Values.{number_within}

-- the addresses of a family that begin with the same bits
pub record Network : Type 0 where
  pub addr : Addr
  pub len : ℕ

abbrev pub covers : Network → Addr → Bool
covers network address = same_start network.len network.addr address

-- the network of that many bits of an address, where it has so many
abbrev pub network_around : Addr → ℕ → Option Network
network_around address len = if nat_le len (width_of address) then Some (record { addr = network_of len address; len = len }) else None

-- no address has more bits
abbrev pub length_in : Text → Option ℕ
length_in text = number_within (from_to 0 128) text

abbrev pub network_at : Text → Option ℕ → Option Network
network_at text None = option_and_then (λ address. network_around address (width_of address)) (address_of text)
network_at text (Some place) =
    option_and_then (λ address. option_and_then (λ len. network_around address len) (length_in (drop (place + 1) text))) (address_of (take place text))

-- an address, or an address, a slash and how many of its bits count
abbrev pub network_in : Text → Option Network
network_in text = network_at text (position (λ octet. octet == 47) text)
