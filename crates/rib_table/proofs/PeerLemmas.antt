-- The peers of a router stand one behind another.
use Rattle.std.proofs.Common.{◌≡◌, ◌∙◌, ◌&&◌, ℕ, Bool, true, false, cond, [], ◌∷◌, ap, arith, filter, refl, subst, sym}
use Rattle.std.specs.Prelude.{Option, Some, None, nat_lt}
use Rattle.std.specs.BTreeMap.{is_at}
use Rattle.std.specs.Cmp.{IsTotalOrder}
use Rattle.std.specs.List.{AllByRecursion}
use Rattle.std.specs.List.Sorted.{IsStrictlySortedBy}
use Rattle.std.specs.Map.{keys_of}
use Rattle.std.specs.Ordering.{bool_cmp, is_eq, is_le, nat_cmp, ordering_then}
use Rattle.std.specs.declared.cmp.Ordering.{Ordering}
use Rattle.std.specs.declared.cmp.Ordering.TheVariants.{Less, Equal, Greater}
use Rattle.std.proofs.lemmas.List.Elements.{filter_passes, recursion_from_All}
use Rattle.std.proofs.lemmas.List.Kept.{IsStrictlySortedBy-filter}
use Rattle.std.proofs.lemmas.Map.Keys.{sorted_tail}
use Rattle.acct_types.specs.Order.{addr_cmp, peer_cmp, source_cmp}
use Rattle.acct_types.specs.declared.addr.Addr.{Addr}
use Rattle.acct_types.specs.declared.addr.Addr.TheVariants.{V4, V6}
use Rattle.acct_types.specs.declared.rib.PeerKey.{PeerKey}
use Rattle.acct_types.specs.declared.rib.Rib.TheVariants as rib
use Rattle.acct_types.specs.declared.rib.RibSource.{RibSource}
use Rattle.acct_types.specs.declared.rib.RibSource.TheVariants.{Bgp, Bmp}
use Rattle.rib_table.specs.Longest.{best, best_of, is_peer_of, is_taken, longer, longest}
use Rattle.rib_table.specs.Names.{Routed, Standing}
use Rattle.rib_table.specs.Tables.{Sources}
use Rattle.rib_table.specs.declared.name.Name.{Name}
use Rattle.rib_table.proofs.ChoiceLemmas.{all_above}
use Rattle.rib_table.proofs.SourceLemmas.{best_alone}
use Rattle.rib_table.proofs.StandLemmas.{keys_filtered}

abbrev pub least : PeerKey
least = record { address = V4 0; distinguisher = 0; post = false }

-- from the first peer that a router may have on
abbrev pub is_from : Addr → RibSource → Bool
is_from router source = is_le (source_cmp (Bmp router least) source)

least_number : (number : ℕ) (then : Ordering) → is_le then ≡ true → is_le (ordering_then (nat_cmp 0 number) then) ≡ true
least_number number then first = elim (nat_cmp 0 number) as (λ o. nat_cmp 0 number ≡ o → is_le (ordering_then o then) ≡ true) [
  | Less ↦ λ _. refl
  | Equal ↦ λ _. first
  | Greater ↦ λ is. absurd (grind (arith, is))
] refl

least_address : (address : Addr) (then : Ordering) → is_le then ≡ true → is_le (ordering_then (addr_cmp (V4 0) address) then) ≡ true
least_address (V4 n) then first = least_number n then first
least_address (V6 n) then first = refl

least_flag : (flag : Bool) → is_le (bool_cmp false flag) ≡ true
least_flag true = refl
least_flag false = refl

least_first : (peer : PeerKey) → is_le (peer_cmp least peer) ≡ true
least_first peer =
    least_address peer.address (ordering_then (nat_cmp 0 peer.distinguisher) (bool_cmp false peer.post)) (least_number peer.distinguisher (bool_cmp false peer.post) (least_flag peer.post))

-- ---- before the router's peers

before_peer : (router : Addr) (other : Addr) (key : PeerKey) → is_from router (Bmp other key) ≡ false → is_at (addr_cmp router) other ≡ false
before_peer router other key before = elim (addr_cmp router other) as (λ o. is_le (ordering_then o (peer_cmp least key)) ≡ false → is_eq o ≡ false) [
  | Less ↦ λ _. refl
  | Equal ↦ λ is. absurd (cc (sym (least_first key) ∙ is))
  | Greater ↦ λ _. refl
] before

before_taken : (router : Addr) (peer : Option Addr) (source : RibSource) → is_from router source ≡ false → is_taken (rib.Bmp router peer) source ≡ false
before_taken router peer (Bgp other) before = refl
before_taken router None (Bmp other key) before = before_peer router other key before
before_taken router (Some address) (Bmp other key) before = ap (λ b. b && is_at (addr_cmp address) key.address) (before_peer router other key before)

skipped : (router : Addr) (peer : Option Addr) (address : Addr) (sources : Sources)
    → best_of (rib.Bmp router peer) address (filter (λ entry. is_from router entry.0) sources) ≡ best_of (rib.Bmp router peer) address sources
skipped router peer address [] = refl
skipped router peer address (entry ∷ others) =
    let rest = filter (λ e. is_from router e.0) others in
    let whose = rib.Bmp router peer in
    elim (is_from router entry.0) as (λ b. is_from router entry.0 ≡ b → best_of whose address (cond b (entry ∷ rest) rest)
    ≡ cond (is_taken whose entry.0) (best (longest address entry.1) (best_of whose address others)) (best_of whose address others)) [
      | true ↦ λ _. ap (λ later. cond (is_taken whose entry.0) (best (longest address entry.1) later) later) (skipped router peer address others)
      | false ↦ λ before. skipped router peer address others
          ∙ sym (ap (λ b. cond b (best (longest address entry.1) (best_of whose address others)) (best_of whose address others)) (before_taken router peer entry.0 before))
    ] refl

-- ---- behind them

abbrev IsBeyond : Addr → RibSource → Type 0
IsBeyond router (Bgp other) = ⊥
IsBeyond router (Bmp other peer) = addr_cmp router other ≡ Less

first_beyond : (router : Addr) (source : RibSource) → is_from router source ≡ true → is_peer_of router source ≡ false → IsBeyond router source
first_beyond router (Bgp other) from other_router = absurd (cc from)
first_beyond router (Bmp other peer) from other_router =
    elim (addr_cmp router other) as (λ o. is_le (ordering_then o (peer_cmp least peer)) ≡ true → is_eq o ≡ false → o ≡ Less) [
      | Less ↦ λ _ _. refl
      | Equal ↦ λ _ never. absurd (cc never)
      | Greater ↦ λ never _. absurd (cc never)
    ] from other_router

beyond_taken : (router : Addr) (peer : Option Addr) (source : RibSource) → IsBeyond router source → is_taken (rib.Bmp router peer) source ≡ false
beyond_taken router peer (Bgp other) beyond = refl
beyond_taken router None (Bmp other key) beyond = ap is_eq beyond
beyond_taken router (Some address) (Bmp other key) beyond = ap (λ o. is_eq o && is_at (addr_cmp address) key.address) beyond

module _ (addresses : IsTotalOrder addr_cmp) (same : (a b : Addr) → addr_cmp a b ≡ Equal → a ≡ b) where
  later_beyond : (router : Addr) (source later : RibSource) → IsBeyond router source → source_cmp source later ≡ Less → IsBeyond router later
  later_beyond router (Bgp a) later beyond less = absurd beyond
  later_beyond router (Bmp a p) (Bgp b) beyond less = absurd (cc less)
  later_beyond router (Bmp a p) (Bmp b q) beyond less =
      elim (addr_cmp a b) as (λ o. addr_cmp a b ≡ o → ordering_then o (peer_cmp p q) ≡ Less → addr_cmp router b ≡ Less) [
        | Less ↦ λ is _. addresses.trans router a b beyond is
        | Equal ↦ λ is _. subst (λ c. addr_cmp router c ≡ Less) (same a b is) beyond
        | Greater ↦ λ _ never. absurd (cc never)
      ] refl less

  none_beyond : (router : Addr) (peer : Option Addr) (address : Addr) (source : RibSource) (sources : Sources) → IsBeyond router source → AllByRecursion (λ y. source_cmp source y ≡ Less) (keys_of sources)
      → best_of (rib.Bmp router peer) address sources ≡ None
  none_beyond router peer address source [] beyond above = refl
  none_beyond router peer address source (entry ∷ others) beyond above =
      ap (λ b. cond b (best (longest address entry.1) (best_of (rib.Bmp router peer) address others)) (best_of (rib.Bmp router peer) address others))
      (beyond_taken router peer entry.0 (later_beyond router source entry.0 beyond above.0))
      ∙ none_beyond router peer address source others beyond above.1

  -- behind the first that is no peer of the router there is none
  past : (router : Addr) (peer : Option Addr) (address : Addr) (entry : RibSource × Standing) (others : Sources) → IsStrictlySortedBy source_cmp (keys_of (entry ∷ others))
      → is_from router entry.0 ≡ true → is_peer_of router entry.0 ≡ false → best_of (rib.Bmp router peer) address (entry ∷ others) ≡ None
  past router peer address entry others sorted from other_router =
      let beyond = first_beyond router entry.0 from other_router in
      ap (λ b. cond b (best (longest address entry.1) (best_of (rib.Bmp router peer) address others)) (best_of (rib.Bmp router peer) address others)) (beyond_taken router peer entry.0 beyond)
      ∙ none_beyond router peer address entry.0 others beyond (all_above source_cmp entry.0 (keys_of others) sorted)

-- ---- the walk

-- what was found, and what is left
pub record IsWalk (router : Addr) (peer : Option Addr) (address : Addr) (found : Option (Name × Routed)) (left all : Sources) : Type 0 where
  pub same_best : best found (best_of (rib.Bmp router peer) address left) ≡ best_of (rib.Bmp router peer) address all
  pub order : IsStrictlySortedBy source_cmp (keys_of left)
  pub from : AllByRecursion (λ entry. is_from router entry.0 ≡ true) left

-- a range without an end
pub to_the_end : (from : Bool) → (from && true) ≡ from
to_the_end true = refl
to_the_end false = refl

pub begins : (router : Addr) (peer : Option Addr) (address : Addr) (p : RibSource × Standing → Bool) → ((entry : RibSource × Standing) → p entry ≡ is_from router entry.0) → (left all : Sources)
    → left ≡ filter p all → IsStrictlySortedBy source_cmp (keys_of all) → IsWalk router peer address None left all
begins router peer address p same left all is sorted =
    let from_here : left ≡ filter (λ entry. is_from router entry.0) all = is ∙ (λ i. filter (λ entry. same entry i) all) in
    record {
      same_best = ap (best_of (rib.Bmp router peer) address) from_here ∙ skipped router peer address all;
      order = subst (λ es. IsStrictlySortedBy source_cmp (keys_of es)) (sym from_here)
          (subst (IsStrictlySortedBy source_cmp) (sym (keys_filtered (is_from router) all)) (IsStrictlySortedBy-filter source_cmp (is_from router) (keys_of all) sorted));
      from = subst (AllByRecursion (λ entry. is_from router entry.0 ≡ true)) (sym from_here)
          (recursion_from_All _ (filter (λ entry. is_from router entry.0) all) (filter_passes (λ entry. is_from router entry.0) all));
    }

either_longer : (own other its : ℕ) → nat_lt own other ≡ true → nat_lt other its ≡ true → nat_lt own its ≡ true
either_longer own other its less more = grind (arith, less, more)

neither_longer : (own other its : ℕ) → nat_lt own other ≡ false → nat_lt other its ≡ false → nat_lt own its ≡ false
neither_longer own other its less more = grind (arith, less, more)

longer_in_turn : (route other later : Name × Routed) → longer route (Some (longer other (Some later))) ≡ longer (longer route (Some other)) (Some later)
longer_in_turn route other later =
    elim (nat_lt other.0.len later.0.len) as (λ b. nat_lt other.0.len later.0.len ≡ b → longer route (Some (cond b later other)) ≡ longer (longer route (Some other)) (Some later)) [
      | true ↦ λ more. elim (nat_lt route.0.len other.0.len) as (λ b. nat_lt route.0.len other.0.len ≡ b → longer route (Some later) ≡ longer (cond b other route) (Some later)) [
        | true ↦ λ less. ap (λ c. cond c later route) (either_longer route.0.len other.0.len later.0.len less more) ∙ sym (ap (λ c. cond c later other) more)
        | false ↦ λ _. refl
      ] refl
      | false ↦ λ more. elim (nat_lt route.0.len other.0.len) as (λ b. nat_lt route.0.len other.0.len ≡ b → longer route (Some other) ≡ longer (cond b other route) (Some later)) [
        | true ↦ λ less. ap (λ c. cond c other route) less ∙ sym (ap (λ c. cond c later other) more)
        | false ↦ λ less. ap (λ c. cond c other route) less ∙ sym (ap (λ c. cond c later route) (neither_longer route.0.len other.0.len later.0.len less more))
      ] refl
    ] refl

in_turn : (found own later : Option (Name × Routed)) → best found (best own later) ≡ best (best found own) later
in_turn None own later = refl
in_turn (Some route) None later = refl
in_turn (Some route) (Some other) None = refl
in_turn (Some route) (Some other) (Some later) = ap Some (longer_in_turn route other later)

-- one source more
pub goes_on : (router : Addr) (peer : Option Addr) (address : Addr) (found : Option (Name × Routed)) (entry : RibSource × Standing) (left rest all : Sources) → IsWalk router peer address found left all
    → left ≡ entry ∷ rest → (now : Option (Name × Routed)) → now ≡ cond (is_taken (rib.Bmp router peer) entry.0) (best found (longest address entry.1)) found → IsWalk router peer address now rest all
goes_on router peer address found entry left rest all walk is now now_is =
    let whose = rib.Bmp router peer in
    let later = best_of whose address rest in
    let order = subst (λ es. IsStrictlySortedBy source_cmp (keys_of es)) is walk.order in
    let from = subst (AllByRecursion (λ e. is_from router e.0 ≡ true)) is walk.from in
    record {
      same_best = ap (λ o. best o later) now_is
          ∙ elim (is_taken whose entry.0) as (λ b. best (cond b (best found (longest address entry.1)) found) later ≡ best found (cond b (best (longest address entry.1) later) later)) [
            | true ↦ sym (in_turn found (longest address entry.1) later)
            | false ↦ refl
          ]
          ∙ ap (λ es. best found (best_of whose address es)) (sym is) ∙ walk.same_best;
      order = sorted_tail source_cmp entry.0 (keys_of rest) order;
      from = from.1;
    }

-- no source of the router's is left
pub stops : IsTotalOrder addr_cmp → ((a b : Addr) → addr_cmp a b ≡ Equal → a ≡ b) → (router : Addr) (peer : Option Addr) (address : Addr) (found : Option (Name × Routed))
    (entry : RibSource × Standing) (left rest all : Sources) → IsWalk router peer address found left all → left ≡ entry ∷ rest → is_peer_of router entry.0 ≡ false
    → found ≡ best_of (rib.Bmp router peer) address all
stops addresses same router peer address found entry left rest all walk is other_router =
    let order = subst (λ es. IsStrictlySortedBy source_cmp (keys_of es)) is walk.order in
    let from = subst (AllByRecursion (λ e. is_from router e.0 ≡ true)) is walk.from in
    sym (best_alone found) ∙ ap (best found) (sym (ap (best_of (rib.Bmp router peer) address) is ∙ past addresses same router peer address entry rest order from.0 other_router)) ∙ walk.same_best

pub ends : (router : Addr) (peer : Option Addr) (address : Addr) (found : Option (Name × Routed)) (left all : Sources) → IsWalk router peer address found left all → left ≡ []
    → found ≡ best_of (rib.Bmp router peer) address all
ends router peer address found left all walk is =
    sym (best_alone found) ∙ ap (λ es. best found (best_of (rib.Bmp router peer) address es)) (sym is) ∙ walk.same_best
