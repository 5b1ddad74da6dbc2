-- The order of addresses, prefixes and sources of routes.
use Rattle.std.specs.Ordering.{bool_cmp, nat_cmp, ordering_then}
use Rattle.std.specs.declared.cmp.Ordering.{Ordering}
use Rattle.std.specs.declared.cmp.Ordering.TheVariants.{Less, Greater}
use Rattle.acct_types.specs.declared.addr.Addr.{Addr}
use Rattle.acct_types.specs.declared.addr.Addr.TheVariants.{V4, V6}
use Rattle.acct_types.specs.declared.prefix.Prefix.{Prefix}
use Rattle.acct_types.specs.declared.rib.PeerKey.{PeerKey}
use Rattle.acct_types.specs.declared.rib.RibSource.{RibSource}
use Rattle.acct_types.specs.declared.rib.RibSource.TheVariants.{Bgp, Bmp}

-- V4 before V6, and then by number
abbrev pub addr_cmp : Addr → Addr → Ordering
addr_cmp (V4 a) (V4 b) = nat_cmp a b
addr_cmp (V4 a) (V6 b) = Less
addr_cmp (V6 a) (V4 b) = Greater
addr_cmp (V6 a) (V6 b) = nat_cmp a b

-- by address, and then by length
abbrev pub prefix_cmp : Prefix → Prefix → Ordering
prefix_cmp p q = ordering_then (addr_cmp p.addr q.addr) (nat_cmp p.len q.len)

-- by address, then by distinguisher, and those before the policy first
abbrev pub peer_cmp : PeerKey → PeerKey → Ordering
peer_cmp p q = ordering_then (addr_cmp p.address q.address) (ordering_then (nat_cmp p.distinguisher q.distinguisher) (bool_cmp p.post q.post))

-- the sessions of BGP by address, and then the peers by router
abbrev pub source_cmp : RibSource → RibSource → Ordering
source_cmp (Bgp a) (Bgp b) = addr_cmp a b
source_cmp (Bgp a) (Bmp r p) = Less
source_cmp (Bmp r p) (Bgp a) = Greater
source_cmp (Bmp r p) (Bmp s q) = ordering_then (addr_cmp r s) (peer_cmp p q)
