-- The route that is chosen for an address, in words of its own: the longest prefix that covers it (RFC 4271, 9.1.4).
use Rattle.std.specs.Prelude.{◌≡◌, true, List, Option, Some, None}
use Rattle.std.specs.Ordering.{is_le, nat_cmp, ordering_then}
use Rattle.std.specs.declared.cmp.Ordering.{Ordering}
use Rattle.acct_types.specs.Order.{source_cmp}
use Rattle.acct_types.specs.StandingRoutes.{StandingRoute}
use Rattle.acct_types.specs.Updates.{Message, Named}
use Rattle.acct_types.specs.declared.addr.Addr.{Addr}
use Rattle.acct_types.specs.declared.rib.Rib.{Rib}
use Rattle.acct_types.specs.declared.rib.RibSource.{RibSource}
use Rattle.rib_table.specs.Longest.{covers, is_taken}
use Rattle.rib_table.specs.Names.{name_of}
use Rattle.rib_table.specs.Stands.{stands}

-- A route reaches an address: it stands of a source whose routes are taken, to a prefix that covers the address.
pub record Reaches (messages : List Message) (whose : Rib) (address : Addr) (source : RibSource) (route : StandingRoute) : Type 0 where
  pub stands : stands source (name_of route.named) messages ≡ Some (record { next_hop = route.next_hop; attrs = route.attrs })
  pub taken : is_taken whose source ≡ true
  pub covers : covers (name_of route.named) address ≡ true

-- the longer prefix goes first, then the lesser source, then the lesser path identifier
abbrev pub choice_cmp : RibSource → Named → RibSource → Named → Ordering
choice_cmp source named other its = ordering_then (nat_cmp its.len named.len) (ordering_then (source_cmp source other) (nat_cmp named.path_id its.path_id))

-- It reaches the address, and none that does goes before it.
pub record IsFirst (messages : List Message) (whose : Rib) (address : Addr) (source : RibSource) (route : StandingRoute) : Type 0 where
  pub reaches : Reaches messages whose address source route
  pub first : (other : RibSource) (its : StandingRoute) → Reaches messages whose address other its → is_le (choice_cmp source route.named other its.named) ≡ true

-- none, which is so where none reaches the address; or the first of those that do
abbrev pub IsChosen : List Message → Rib → Addr → Option StandingRoute → Type 0
IsChosen messages whose address None = (source : RibSource) (route : StandingRoute) → Reaches messages whose address source route → ⊥
IsChosen messages whose address (Some route) = (source : RibSource) × IsFirst messages whose address source route
