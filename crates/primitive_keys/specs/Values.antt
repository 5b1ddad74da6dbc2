-- Values of a record that may be absent.
use Rattle.std.specs.Prelude.{ℕ, ◌%◌, ◌^◌, List, [], Option, min}
use Rattle.std.specs.Option.{unwrap_or}
use Rattle.acct_types.specs.Prefixes.{network_of, width_of}
use Rattle.acct_types.specs.declared.addr.Addr.{Addr}
use Rattle.acct_types.specs.declared.addr.Addr.TheVariants.{V4}

-- an absent number is 0
abbrev pub number_in : Option ℕ → ℕ
number_in number = unwrap_or number 0

-- an absent address is 0.0.0.0
abbrev pub address_in : Option Addr → Addr
address_in address = unwrap_or address (V4 0)

-- the low 48 bits; an absent MAC address is 0
abbrev pub mac_in : Option ℕ → ℕ
mac_in mac = number_in mac % 2 ^ 48

-- absent words are empty
abbrev pub words_in : Option (List ℕ) → List ℕ
words_in words = unwrap_or words []

-- the address with the bits past the mask 0; a mask above its bits clears none
abbrev pub net_of : ℕ → Addr → Addr
net_of mask address = network_of (min mask (width_of address)) address
