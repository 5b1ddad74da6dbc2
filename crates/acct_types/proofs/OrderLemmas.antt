-- The derived orders of addresses, prefixes and sources are those of the definitions.
use Rattle.std.proofs.Common.{◌≡◌, ◌≤◌, ◌↔◌, Bool, true, false, ap, arith, refl, subst}
use mathlib.Core.HLevel.{is_prop→PathP}
use Rattle.std.proofs.Math.Nat.{ℕ_set}
use Rattle.std.specs.Coded.{le_prop}
use Rattle.std.specs.Cmp.{IsTotalOrder, tied_itself}
use Rattle.std.specs.Ordering.{bool_cmp, nat_cmp, ordering_then}
use Rattle.std.specs.declared.cmp.Ordering.{Ordering}
use Rattle.std.specs.declared.cmp.Ordering.TheVariants.{Less, Equal, Greater}
use Rattle.acct_types.specs.declared.addr.Addr.{Addr}
use Rattle.acct_types.specs.declared.addr.Addr.TheVariants.{V4, V6}
use Rattle.acct_types.specs.declared.prefix.Prefix.{Prefix}
use Rattle.acct_types.specs.declared.rib.PeerKey.{PeerKey}
use Rattle.acct_types.specs.declared.rib.RibSource.{RibSource}
use Rattle.acct_types.specs.declared.rib.RibSource.TheVariants.{Bgp, Bmp}
use Rattle.acct_types.specs.contracts.addr.AddrOrd.TheImpl as addr_order
use Rattle.acct_types.specs.contracts.addr.AddrOrd.TheImpl.Laws as addr_laws
use Rattle.acct_types.specs.contracts.prefix.PrefixOrd.TheImpl as prefix_order
use Rattle.acct_types.specs.contracts.prefix.PrefixOrd.TheImpl.Laws as prefix_laws
use Rattle.acct_types.specs.contracts.rib.PeerKeyOrd.TheImpl as peer_order
use Rattle.acct_types.specs.contracts.rib.RibSourceOrd.TheImpl as source_order
use Rattle.acct_types.specs.contracts.rib.RibSourceOrd.TheImpl.Laws as source_laws
use Rattle.acct_types.specs.Prefixes.{last_bits, number_of, width_of}
use Rattle.acct_types.specs.Order.{addr_cmp, peer_cmp, prefix_cmp, source_cmp}

pub same_addr_cmp : (a b : Addr) → (addr_order.cmp-value).it a b ≡ addr_cmp a b
same_addr_cmp (V4 a) (V4 b) = refl
same_addr_cmp (V4 a) (V6 b) = refl
same_addr_cmp (V6 a) (V4 b) = refl
same_addr_cmp (V6 a) (V6 b) = refl

pub same_prefix_cmp : (p q : Prefix) → (prefix_order.cmp-value).it p q ≡ prefix_cmp p q
same_prefix_cmp p q = ap (λ (o : Ordering). ordering_then o (nat_cmp p.len q.len)) (same_addr_cmp p.addr q.addr)

-- the derived functions whole
pub addr_orders_same : (addr_order.cmp-value).it ≡ addr_cmp
addr_orders_same = λ i a b. same_addr_cmp a b i

pub prefix_orders_same : (prefix_order.cmp-value).it ≡ prefix_cmp
prefix_orders_same = λ i p q. same_prefix_cmp p q i

pub addr_cmp-total : IsTotalOrder addr_cmp
addr_cmp-total = subst (λ (R : Addr → Addr → Ordering). IsTotalOrder R) addr_orders_same addr_laws.total-law

pub prefix_cmp-total : IsTotalOrder prefix_cmp
prefix_cmp-total = subst (λ (R : Prefix → Prefix → Ordering). IsTotalOrder R) prefix_orders_same prefix_laws.total-law

-- prefixes are the same where their addresses and lengths are
pub same_prefixes : (p q : Prefix) → p.addr ≡ q.addr → p.len ≡ q.len → p ≡ q
same_prefixes p q addr len =
    let within = is_prop→PathP (λ j. len j ≤ width_of (addr j)) (λ j. le_prop) p.within q.within in
    let cleared = is_prop→PathP (λ j. last_bits (len j) (width_of (addr j)) (number_of (addr j)) ≡ 0) (λ j. ℕ_set _ _) p.cleared q.cleared in
    λ i. record { addr = addr i; len = len i; within = within i; cleared = cleared i }

-- addresses that tie are the same
pub tied_addresses : (a b : Addr) → addr_cmp a b ≡ Equal → a ≡ b
tied_addresses (V4 a) (V4 b) same = ap V4 (grind (arith, same))
tied_addresses (V6 a) (V6 b) same = ap V6 (grind (arith, same))
tied_addresses (V4 a) (V6 b) same = cc same
tied_addresses (V6 a) (V4 b) same = cc same

-- prefixes that tie are the same
pub tied_prefixes : (p q : Prefix) → prefix_cmp p q ≡ Equal → p ≡ q
tied_prefixes p q tied = by (addr_cmp p.addr q.addr) refl tied
  where
    by : (first : Ordering) → addr_cmp p.addr q.addr ≡ first → ordering_then first (nat_cmp p.len q.len) ≡ Equal → p ≡ q
    by Less is h = cc h
    by Greater is h = cc h
    by Equal is h = same_prefixes p q (tied_addresses p.addr q.addr is) (grind (arith, h))

-- prefixes tie exactly where they are the same
pub same_where_tied : (p q : Prefix) → (prefix_cmp p q ≡ Equal) ↔ (p ≡ q)
same_where_tied p q = (tied_prefixes p q, λ same. subst (λ (r : Prefix). prefix_cmp p r ≡ Equal) same (tied_itself prefix_cmp-total p))

-- ---- sources

same_peer_cmp : (p q : PeerKey) → (peer_order.cmp-value).it p q ≡ peer_cmp p q
same_peer_cmp p q = ap (λ (o : Ordering). ordering_then o (ordering_then (nat_cmp p.distinguisher q.distinguisher) (bool_cmp p.post q.post))) (same_addr_cmp p.address q.address)

pub same_source_cmp : (a b : RibSource) → (source_order.cmp-value).it a b ≡ source_cmp a b
same_source_cmp (Bgp a) (Bgp b) = same_addr_cmp a b
same_source_cmp (Bgp a) (Bmp r p) = refl
same_source_cmp (Bmp r p) (Bgp a) = refl
same_source_cmp (Bmp r p) (Bmp s q) = λ i. ordering_then (same_addr_cmp r s i) (same_peer_cmp p q i)

pub source_cmp-total : IsTotalOrder source_cmp
source_cmp-total = subst (λ (R : RibSource → RibSource → Ordering). IsTotalOrder R) (λ i a b. same_source_cmp a b i) source_laws.total-law

-- where a first comparison ties, and the second does
both_tie : (first second : Ordering) → ordering_then first second ≡ Equal → (first ≡ Equal) × (second ≡ Equal)
both_tie Less second h = cc h
both_tie Equal second h = (refl, h)
both_tie Greater second h = cc h

tied_flags : (a b : Bool) → bool_cmp a b ≡ Equal → a ≡ b
tied_flags false false h = refl
tied_flags false true h = cc h
tied_flags true false h = cc h
tied_flags true true h = refl

tied_peers : (p q : PeerKey) → peer_cmp p q ≡ Equal → p ≡ q
tied_peers p q tied =
    let first = both_tie (addr_cmp p.address q.address) _ tied in
    let second = both_tie (nat_cmp p.distinguisher q.distinguisher) (bool_cmp p.post q.post) first.1 in
    let address = tied_addresses p.address q.address first.0 in
    let distinguisher : p.distinguisher ≡ q.distinguisher = grind (arith, second.0) in
    let post = tied_flags p.post q.post second.1 in
    λ i. record { address = address i; distinguisher = distinguisher i; post = post i }

-- sources that tie are the same
tied_sources : (a b : RibSource) → source_cmp a b ≡ Equal → a ≡ b
tied_sources (Bgp a) (Bgp b) tied = ap Bgp (tied_addresses a b tied)
tied_sources (Bgp a) (Bmp r p) tied = cc tied
tied_sources (Bmp r p) (Bgp a) tied = cc tied
tied_sources (Bmp r p) (Bmp s q) tied =
    let both = both_tie (addr_cmp r s) (peer_cmp p q) tied in
    λ i. Bmp (tied_addresses r s both.0 i) (tied_peers p q both.1 i)

-- sources tie exactly where they are the same
pub same_where_sources_tie : (a b : RibSource) → (source_cmp a b ≡ Equal) ↔ (a ≡ b)
same_where_sources_tie a b = (tied_sources a b, λ same. subst (λ (s : RibSource). source_cmp a s ≡ Equal) same (tied_itself source_cmp-total a))
