-- Networks around addresses.
use Rattle.std.proofs.Common.{◌≡◌, ◌<◌, ◌≤◌, ◌↔◌, ℕ, Option, Some, None, refl, option_map, inl, inr}
use Rattle.std.specs.Prelude.{IsNone, IfSome, nat_le, if◌then◌else◌}
use Rattle.std.proofs.lemmas.Bool.{lt-leb}
use Rattle.std.proofs.lemmas.Bool.Decides.{leb_tells}
use Rattle.acct_types.specs.Prefixes.{network_of, width_of}
use Rattle.acct_types.specs.declared.addr.Addr.{Addr}
use Rattle.acct_types.specs.declared.prefix.Prefix.{Prefix}
use Rattle.pretag_map.specs.Networks.{Network, network_around}
use Rattle.pretag_map.specs.Views.{network_view}

-- what says of a prefix that it is made of an address says it of the network
pub around : (address : Addr) (len : ℕ) (made : Option Prefix)
    → (IsNone made ↔ (width_of address < len)) → IfSome made (λ p. p.addr ≡ network_of len address) → IfSome made (λ p. p.len ≡ len)
    → option_map network_view made ≡ network_around address len
around address len None none addr length =
    let more = lt-leb len (width_of address) (none.0 refl) in
    rw more refl
around address len (Some prefix) none addr length = elim (leb_tells len (width_of address)) [
  | inl fits ↦ rw fits.0 (λ i. Some (record { addr = addr i; len = length i }))
  | inr more ↦ cc (none.1 more.1)
]
