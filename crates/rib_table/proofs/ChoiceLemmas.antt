-- The route that is found goes before all others that reach the address.
use Rattle.std.proofs.Common.{◌≡◌, ◌≤◌, ◌<◌, ◌∙◌, ℕ, true, false, cond, List, [], ◌∷◌, ap, arith, refl, subst, sym}
use Rattle.std.specs.Prelude.{Option, Some, None, nat_lt, option_map}
use Rattle.std.specs.BTreeMap.{is_at}
use Rattle.std.specs.Cmp.{IsTotalOrder, eq_by_cmp_equiv, tied_itself}
use Rattle.std.specs.List.{AllByRecursion}
use Rattle.std.specs.List.Sorted.{IsStrictlySortedBy}
use Rattle.std.specs.Map.{keys_of, lookup}
use Rattle.std.specs.Option.{unwrap_or}
use Rattle.std.specs.Ordering.{is_eq, is_le, nat_cmp, ordering_reverse, ordering_then}
use Rattle.std.specs.declared.cmp.Ordering.{Ordering}
use Rattle.std.specs.declared.cmp.Ordering.TheVariants.{Less, Equal, Greater}
use Rattle.std.proofs.lemmas.Cmp.{nat_cmp_total}
use Rattle.std.proofs.lemmas.List.Elements.{recursion_from_All}
use Rattle.std.proofs.lemmas.Map.{lookup-none}
use Rattle.std.proofs.lemmas.Map.Entries.{none_past_head}
use Rattle.std.proofs.lemmas.Map.Keys.{IsDistinct-from_sorted, sorted_tail}
use Rattle.std.proofs.lemmas.Option.{none-some}
use Rattle.acct_types.specs.Order.{addr_cmp, source_cmp}
use Rattle.acct_types.specs.Prefixes.{network_of}
use Rattle.acct_types.specs.StandingRoutes.{StandingRoute, route_ref_view}
use Rattle.acct_types.specs.Updates.{Message}
use Rattle.acct_types.specs.declared.addr.Addr.{Addr}
use Rattle.acct_types.specs.declared.rib.Rib.{Rib}
use Rattle.acct_types.specs.declared.rib.RibSource.{RibSource}
use Rattle.acct_types.specs.declared.route.RouteRef.{RouteRef}
use Rattle.rib_table.specs.Choice.{IsChosen, IsFirst, Reaches}
use Rattle.rib_table.specs.Longest.{AreNetworks, IsNetwork, best, best_of, covers, is_taken, longer, longest, route_of, route_seen, standing_route}
use Rattle.rib_table.specs.Names.{Routed, Standing, name_cmp, name_of}
use Rattle.rib_table.specs.Stands.{StandsFor, stands}
use Rattle.rib_table.specs.Tables.{Sources, TableState}
use Rattle.rib_table.specs.declared.name.Name.{Name}
use Rattle.rib_table.proofs.LongestLemmas.{Networks, all_networks, one_network}

-- a route where it is kept, as callers see it
pub seen_as : (route : Option RouteRef) (found : Option (Name × Routed)) → option_map route_seen route ≡ found → option_map route_ref_view route ≡ option_map standing_route found
seen_as None found is = ap (option_map standing_route) is
seen_as (Some route) found is = ap (option_map standing_route) is

-- ---- entries

tied : {K : Type 0} (R : K → K → Ordering) → ((a b : K) → R a b ≡ Equal → a ≡ b) → (a b : K) → is_eq (R a b) ≡ true → a ≡ b
tied R same a b is = same a b (elim (R a b) as (λ o. is_eq o ≡ true → o ≡ Equal) [ Less ↦ λ never. cc never | Equal ↦ λ _. refl | Greater ↦ λ never. cc never ] is)

-- what is found at a key has what all entries have
found_holds : {K X : Type 0} {R : K → K → Ordering} → ((a b : K) → R a b ≡ Equal → a ≡ b) → (P : K × X → Type 0) (k : K) (v : X) (es : List (K × X)) → AllByRecursion P es
    → lookup (is_at (R k)) es ≡ Some v → P (k, v)
found_holds same P k v [] all none = absurd (cc none)
found_holds {R = R} same P k v (e ∷ es) all found =
    elim (is_at (R k) e.0) as (λ b. is_at (R k) e.0 ≡ b → cond b (Some e.1) (lookup (is_at (R k)) es) ≡ Some v → P (k, v)) [
      | true ↦ λ ties is. subst (λ key. P (key, v)) (sym (tied R same k e.0 ties)) (subst (λ w. P (e.0, w)) (ap (λ o. unwrap_or o v) is) all.0)
      | false ↦ λ _ is. found_holds same P k v es all.1 is
    ] refl found

-- what is found among the later entries is found among all
found_later : {K X : Type 0} {R : K → K → Ordering} → IsTotalOrder R → (k : K) (v : X) (e : K × X) (es : List (K × X)) → IsStrictlySortedBy R (keys_of (e ∷ es))
    → lookup (is_at (R k)) es ≡ Some v → lookup (is_at (R k)) (e ∷ es) ≡ Some v
found_later {R = R} total k v e es sorted found =
    elim (is_at (R k) e.0) as (λ b. is_at (R k) e.0 ≡ b → cond b (Some e.1) (lookup (is_at (R k)) es) ≡ Some v) [
      | true ↦ λ is. absurd (none-some v (sym (lookup-none (is_at (R k)) es (none_past_head (eq_by_cmp_equiv total) k e es (IsDistinct-from_sorted R (keys_of (e ∷ es)) sorted) is)) ∙ found))
      | false ↦ λ _. found
    ] refl

found_first : {K X : Type 0} {R : K → K → Ordering} → IsTotalOrder R → (e : K × X) (es : List (K × X)) → lookup (is_at (R e.0)) (e ∷ es) ≡ Some e.1
found_first {R = R} total e es = ap (λ o. cond (is_eq o) (Some e.1) (lookup (is_at (R e.0)) es)) (tied_itself total e.0)

all_map : {A : Type 0} (P Q : A → Type 0) → ((x : A) → P x → Q x) → (xs : List A) → AllByRecursion P xs → AllByRecursion Q xs
all_map P Q leads [] all = tt
all_map P Q leads (x ∷ xs) all = (leads x all.0, all_map P Q leads xs all.1)

-- the keys past the first are above it
pub all_above : {K : Type 0} (R : K → K → Ordering) (k : K) (ks : List K) → IsStrictlySortedBy R (k ∷ ks) → AllByRecursion (λ y. R k y ≡ Less) ks
unfolding IsStrictlySortedBy
all_above R k ks sorted = sorted.0

-- ---- the order of choice

-- by length first, and then by this
abbrev IsFirstBy : ℕ → ℕ → Ordering → Type 0
IsFirstBy own other then = is_le (ordering_then (nat_cmp other own) then) ≡ true

is_longer : (own other : ℕ) (then : Ordering) → other < own → IsFirstBy own other then
is_longer own other then less = elim (nat_cmp other own) as (λ o. nat_cmp other own ≡ o → is_le (ordering_then o then) ≡ true) [
  | Less ↦ λ _. refl
  | Equal ↦ λ is. absurd (grind (arith, is, less))
  | Greater ↦ λ is. absurd (grind (arith, is, less))
] refl

as_long : (m n : ℕ) → nat_cmp m n ≡ Equal → m ≡ n
as_long m n ties = grind (arith, ties)

is_no_shorter : (own other : ℕ) (then : Ordering) → other ≤ own → (other ≡ own → is_le then ≡ true) → IsFirstBy own other then
is_no_shorter own other then most first = elim (nat_cmp other own) as (λ o. nat_cmp other own ≡ o → is_le (ordering_then o then) ≡ true) [
  | Less ↦ λ _. refl
  | Equal ↦ λ is. first (as_long other own is)
  | Greater ↦ λ is. absurd (grind (arith, is, most))
] refl

no_longer : (own other : ℕ) (then : Ordering) → IsFirstBy own other then → other ≤ own
no_longer own other then first = elim (nat_cmp other own) as (λ o. nat_cmp other own ≡ o → is_le (ordering_then o then) ≡ true → other ≤ own) [
  | Less ↦ λ is _. grind (arith, is)
  | Equal ↦ λ is _. grind (arith, is)
  | Greater ↦ λ _ never. absurd (cc never)
] refl first

no_longer_either : (own other its : ℕ) → nat_lt own other ≡ false → its ≤ other → its ≤ own
no_longer_either own other its fails most = grind (arith, fails, most)

longer_either : (own other its : ℕ) → nat_lt own other ≡ true → its ≤ own → its < other
longer_either own other its holds most = grind (arith, holds, most)

-- of two that go before each other the keys tie, and what comes behind those goes before each other too
both_first : {K : Type 0} {R : K → K → Ordering} → IsTotalOrder R → (a b : K) (one other : Ordering) → is_le (ordering_then (R a b) one) ≡ true → is_le (ordering_then (R b a) other) ≡ true
    → (R a b ≡ Equal) × (is_le one ≡ true) × (is_le other ≡ true)
both_first {R = R} total a b one other first also =
    elim (R a b) as (λ o. R a b ≡ o → is_le (ordering_then o one) ≡ true → is_le (ordering_then (ordering_reverse o) other) ≡ true → (R a b ≡ Equal) × (is_le one ≡ true) × (is_le other ≡ true)) [
      | Less ↦ λ _ _ never. absurd (cc never)
      | Equal ↦ λ is left right. (is, left, right)
      | Greater ↦ λ _ never _. absurd (cc never)
    ] refl first (ap (λ o. is_le (ordering_then o other)) (sym (total.antisymm b a)) ∙ also)

then_none : (o : Ordering) → is_le (ordering_then o Equal) ≡ is_le o
then_none Less = refl
then_none Equal = refl
then_none Greater = refl

one_path : (p q : ℕ) → is_le (nat_cmp p q) ≡ true → is_le (nat_cmp q p) ≡ true → p ≡ q
one_path p q first also =
    as_long p q (both_first nat_cmp_total p q Equal Equal (then_none (nat_cmp p q) ∙ first) (then_none (nat_cmp q p) ∙ also)).0

abbrev routed_of : StandingRoute → Routed
routed_of route = record { next_hop = route.next_hop; attrs = route.attrs }

-- ---- the routes of one source

abbrev IsBefore : Name → Name → Type 0
IsBefore name other = IsFirstBy name.len other.len (nat_cmp name.path_id other.path_id)

abbrev Covered : Addr → (Name × Routed → Type 0) → Standing → Type 0
Covered address P standing = AllByRecursion (λ entry. covers entry.0 address ≡ true → P entry) standing

record IsLongest (address : Addr) (standing : Standing) (found : Name × Routed) : Type 0 where
  at : lookup (is_at (name_cmp found.0)) standing ≡ Some found.1
  covered : covers found.0 address ≡ true
  first : Covered address (λ entry. IsBefore found.0 entry.0) standing

abbrev Longest : Addr → Standing → Option (Name × Routed) → Type 0
Longest address standing None = Covered address (λ _. ⊥) standing
Longest address standing (Some found) = IsLongest address standing found

module _ (addresses : IsTotalOrder addr_cmp) (total : IsTotalOrder name_cmp) where
  -- of two paths to one network the first has the lesser identifier
  lesser_path : (address : Addr) (name other : Name) → IsNetwork name → IsNetwork other → covers name address ≡ true → covers other address ≡ true → name_cmp name other ≡ Less → other.len ≤ name.len
      → IsBefore name other
  lesser_path address name other is its covered also less most =
      is_no_shorter name.len other.len (nat_cmp name.path_id other.path_id) most (λ len.
      let addr : name.addr ≡ other.addr =
      one_network name.len name.addr address is.cleared covered ∙ ap (λ l. network_of l address) (sym len) ∙ sym (one_network other.len other.addr address its.cleared also) in
      let ties : addr_cmp name.addr other.addr ≡ Equal = ap (addr_cmp name.addr) (sym addr) ∙ tied_itself addresses name.addr in
      let lens : nat_cmp name.len other.len ≡ Equal = ap (nat_cmp name.len) len ∙ tied_itself nat_cmp_total name.len in
      ap is_le (sym (λ i. ordering_then (ties i) (ordering_then (lens i) (nat_cmp name.path_id other.path_id))) ∙ less))

  lesser_paths : (address : Addr) (name : Name) (standing : Standing) → IsNetwork name → Networks standing → covers name address ≡ true → AllByRecursion (λ y. name_cmp name y ≡ Less) (keys_of standing)
      → Covered address (λ entry. entry.0.len ≤ name.len) standing → Covered address (λ entry. IsBefore name entry.0) standing
  lesser_paths address name [] is networks covered above most = tt
  lesser_paths address name (entry ∷ others) is networks covered above most = (
    λ also. lesser_path address name entry.0 is networks.0 covered also above.0 (most.0 also),
    lesser_paths address name others is networks.1 covered above.1 most.1,
  )

  before_itself : (name : Name) → IsBefore name name
  before_itself name =
      is_no_shorter name.len name.len (nat_cmp name.path_id name.path_id) (grind arith) (λ _. ap is_le (tied_itself nat_cmp_total name.path_id))

  -- the first route is the longest, where no later one is longer
  first_is : (address : Addr) (route : Name × Routed) (others : Standing) → IsStrictlySortedBy name_cmp (keys_of (route ∷ others)) → Networks (route ∷ others) → covers route.0 address ≡ true
      → Covered address (λ entry. entry.0.len ≤ route.0.len) others → IsLongest address (route ∷ others) route
  first_is address route others sorted networks covered most = record {
    at = found_first total route others;
    covered = covered;
    first = (λ _. before_itself route.0, lesser_paths address route.0 others networks.0 networks.1 covered (all_above name_cmp route.0 (keys_of others) sorted) most);
  }

  -- a later one is, where the first is shorter or doesn't cover
  later_is : (address : Addr) (route found : Name × Routed) (others : Standing) → IsStrictlySortedBy name_cmp (keys_of (route ∷ others)) → (covers route.0 address ≡ true → IsBefore found.0 route.0)
      → IsLongest address others found → IsLongest address (route ∷ others) found
  later_is address route found others sorted before it =
      record { at = found_later total found.0 found.1 route others sorted it.at; covered = it.covered; first = (before, it.first) }

  uncovered : {P : Type 0} (address : Addr) (name : Name) → covers name address ≡ false → covers name address ≡ true → P
  uncovered address name fails holds = absurd (cc (sym fails ∙ holds))

  covered_is : (address : Addr) (route : Name × Routed) (others : Standing) → IsStrictlySortedBy name_cmp (keys_of (route ∷ others)) → Networks (route ∷ others) → covers route.0 address ≡ true
      → (found : Option (Name × Routed)) → Longest address others found → IsLongest address (route ∷ others) (longer route found)
  covered_is address route others sorted networks covered None none =
      first_is address route others sorted networks covered (all_map _ _ (λ entry none also. absurd (none also)) others none)
  covered_is address route others sorted networks covered (Some other) it =
      elim (nat_lt route.0.len other.0.len) as (λ b. nat_lt route.0.len other.0.len ≡ b → IsLongest address (route ∷ others) (cond b other route)) [
        | true ↦ λ is. later_is address route other others sorted (λ _. is_longer other.0.len route.0.len (nat_cmp other.0.path_id route.0.path_id) (longer_either route.0.len other.0.len route.0.len is (grind arith))) it
        | false ↦ λ is. first_is address route others sorted networks covered
            (all_map _ _ (λ entry before also. no_longer_either route.0.len other.0.len entry.0.len is (no_longer other.0.len entry.0.len (nat_cmp other.0.path_id entry.0.path_id) (before also))) others it.first)
      ] refl

  not_covered_is : (address : Addr) (route : Name × Routed) (others : Standing) → IsStrictlySortedBy name_cmp (keys_of (route ∷ others)) → covers route.0 address ≡ false
      → (found : Option (Name × Routed)) → Longest address others found → Longest address (route ∷ others) found
  not_covered_is address route others sorted fails None none = (uncovered address route.0 fails, none)
  not_covered_is address route others sorted fails (Some found) it = later_is address route found others sorted (uncovered address route.0 fails) it

  longest_is : (address : Addr) (standing : Standing) → IsStrictlySortedBy name_cmp (keys_of standing) → Networks standing → Longest address standing (longest address standing)
  longest_is address [] sorted networks = tt
  longest_is address (route ∷ others) sorted networks =
      let rest = longest_is address others (sorted_tail name_cmp route.0 (keys_of others) sorted) networks.1 in
      elim (covers route.0 address) as (λ b. covers route.0 address ≡ b → Longest address (route ∷ others) (cond b (Some (longer route (longest address others))) (longest address others))) [
        | true ↦ λ covered. covered_is address route others sorted networks covered (longest address others) rest
        | false ↦ λ fails. not_covered_is address route others sorted fails (longest address others) rest
      ] refl

  -- ---- the routes of all sources

  abbrev IsFirstOf : RibSource → Name → RibSource → Name → Type 0
  IsFirstOf source name other its = IsFirstBy name.len its.len (ordering_then (source_cmp source other) (nat_cmp name.path_id its.path_id))

  abbrev Taken : Rib → Addr → (RibSource → Name → Type 0) → Sources → Type 0
  Taken whose address P sources = AllByRecursion (λ entry. is_taken whose entry.0 ≡ true → Covered address (λ route. P entry.0 route.0) entry.1) sources

  record IsBest (whose : Rib) (address : Addr) (sources : Sources) (found : Name × Routed) : Type 0 where
    source : RibSource
    standing : Standing
    kept : lookup (is_at (source_cmp source)) sources ≡ Some standing
    at : lookup (is_at (name_cmp found.0)) standing ≡ Some found.1
    taken : is_taken whose source ≡ true
    covered : covers found.0 address ≡ true
    first : Taken whose address (IsFirstOf source found.0) sources

  abbrev Best : Rib → Addr → Sources → Option (Name × Routed) → Type 0
  Best whose address sources None = Taken whose address (λ _ _. ⊥) sources
  Best whose address sources (Some found) = IsBest whose address sources found

  module _ (ordered : IsTotalOrder source_cmp) where
    -- one of a later source is the best, where those of the first come behind it
    later_best : (whose : Rib) (address : Addr) (entry : RibSource × Standing) (others : Sources) (found : Name × Routed) → IsStrictlySortedBy source_cmp (keys_of (entry ∷ others))
        → (it : IsBest whose address others found) → (is_taken whose entry.0 ≡ true → Covered address (λ route. IsFirstOf it.source found.0 entry.0 route.0) entry.1)
        → IsBest whose address (entry ∷ others) found
    later_best whose address entry others found sorted it before = record {
      source = it.source;
      standing = it.standing;
      kept = found_later ordered it.source it.standing entry others sorted it.kept;
      at = it.at;
      taken = it.taken;
      covered = it.covered;
      first = (before, it.first);
    }

    of_one_source : (source : RibSource) (name other : Name) → IsBefore name other → IsFirstOf source name source other
    of_one_source source name other before = subst (λ o. IsFirstBy name.len other.len (ordering_then o (nat_cmp name.path_id other.path_id))) (sym (tied_itself ordered source)) before

    -- the longest of the first source is, where those of later ones are no longer
    first_best : (whose : Rib) (address : Addr) (entry : RibSource × Standing) (others : Sources) (found : Name × Routed) → is_taken whose entry.0 ≡ true → IsLongest address entry.1 found
        → Taken whose address (IsFirstOf entry.0 found.0) others → IsBest whose address (entry ∷ others) found
    first_best whose address entry others found taken it before = record {
      source = entry.0;
      standing = entry.1;
      kept = found_first ordered entry others;
      at = it.at;
      taken = taken;
      covered = it.covered;
      first = (λ _. all_map _ _ (λ route goes also. of_one_source entry.0 found.0 route.0 (goes also)) entry.1 it.first, before);
    }

    above : (source : RibSource) (name its : Name) (other : RibSource) → source_cmp source other ≡ Less → its.len ≤ name.len → IsFirstOf source name other its
    above source name its other less most =
        is_no_shorter name.len its.len (ordering_then (source_cmp source other) (nat_cmp name.path_id its.path_id)) most
        (λ _. ap (λ o. is_le (ordering_then o (nat_cmp name.path_id its.path_id))) less)

    -- what isn't longer and is of a later source comes behind
    all_behind : (whose : Rib) (address : Addr) (source : RibSource) (name : Name) (sources : Sources) → AllByRecursion (λ y. source_cmp source y ≡ Less) (keys_of sources)
        → Taken whose address (λ _ its. its.len ≤ name.len) sources → Taken whose address (IsFirstOf source name) sources
    all_behind whose address source name [] less most = tt
    all_behind whose address source name (entry ∷ others) less most = (
      λ taken. all_map _ _ (λ route no_more also. above source name route.0 entry.0 less.0 (no_more also)) entry.1 (most.0 taken),
      all_behind whose address source name others less.1 most.1,
    )

    all_taken : (whose : Rib) (address : Addr) (P Q : RibSource → Name → Type 0) → ((source : RibSource) (name : Name) → P source name → Q source name) → (sources : Sources)
        → Taken whose address P sources → Taken whose address Q sources
    all_taken whose address P Q leads sources all =
        all_map _ _ (λ entry holds taken. all_map _ _ (λ route it also. leads entry.0 route.0 (it also)) entry.1 (holds taken)) sources all

    taken_best : (whose : Rib) (address : Addr) (entry : RibSource × Standing) (others : Sources) → IsStrictlySortedBy source_cmp (keys_of (entry ∷ others)) → is_taken whose entry.0 ≡ true
        → (own later : Option (Name × Routed)) → Longest address entry.1 own → Best whose address others later → Best whose address (entry ∷ others) (best own later)
    taken_best whose address entry others sorted taken None None none all = (λ _. none, all)
    taken_best whose address entry others sorted taken None (Some found) none it =
        later_best whose address entry others found sorted it (λ _. all_map _ _ (λ route none also. absurd (none also)) entry.1 none)
    taken_best whose address entry others sorted taken (Some route) None it all =
        first_best whose address entry others route taken it (all_taken whose address (λ _ _. ⊥) (IsFirstOf entry.0 route.0) (λ source name never. absurd never) others all)
    taken_best whose address entry others sorted taken (Some route) (Some other) it also =
        elim (nat_lt route.0.len other.0.len) as (λ b. nat_lt route.0.len other.0.len ≡ b → IsBest whose address (entry ∷ others) (cond b other route)) [
          | true ↦ λ is. later_best whose address entry others other sorted also (λ _. all_map _ _ (λ its goes covered.
              is_longer other.0.len its.0.len (ordering_then (source_cmp also.source entry.0) (nat_cmp other.0.path_id its.0.path_id))
              (longer_either route.0.len other.0.len its.0.len is (no_longer route.0.len its.0.len (nat_cmp route.0.path_id its.0.path_id) (goes covered)))) entry.1 it.first)
          | false ↦ λ is. first_best whose address entry others route taken it
              (all_behind whose address entry.0 route.0 others (all_above source_cmp entry.0 (keys_of others) sorted)
              (all_taken whose address (IsFirstOf also.source other.0) (λ _ its. its.len ≤ route.0.len) (λ source its goes.
              no_longer_either route.0.len other.0.len its.len is (no_longer other.0.len its.len (ordering_then (source_cmp also.source source) (nat_cmp other.0.path_id its.path_id)) goes)) others also.first))
        ] refl

    not_taken_best : (whose : Rib) (address : Addr) (entry : RibSource × Standing) (others : Sources) → IsStrictlySortedBy source_cmp (keys_of (entry ∷ others)) → is_taken whose entry.0 ≡ false
        → (later : Option (Name × Routed)) → Best whose address others later → Best whose address (entry ∷ others) later
    not_taken_best whose address entry others sorted fails None all = (λ holds. absurd (cc (sym fails ∙ holds)), all)
    not_taken_best whose address entry others sorted fails (Some found) it = later_best whose address entry others found sorted it (λ holds. absurd (cc (sym fails ∙ holds)))

    best_is : (whose : Rib) (address : Addr) (sources : Sources) → IsStrictlySortedBy source_cmp (keys_of sources) → AllByRecursion (λ entry. IsStrictlySortedBy name_cmp (keys_of entry.1)) sources
        → AllByRecursion (λ entry. AreNetworks entry.1) sources → Best whose address sources (best_of whose address sources)
    best_is whose address [] sorted names networks = tt
    best_is whose address (entry ∷ others) sorted names networks =
        let rest = best_is whose address others (sorted_tail source_cmp entry.0 (keys_of others) sorted) names.1 networks.1 in
        let own = longest_is address entry.1 names.0 (all_networks entry.1 (recursion_from_All IsNetwork (keys_of entry.1) networks.0)) in
        elim (is_taken whose entry.0) as (λ b. is_taken whose entry.0 ≡ b → Best whose address (entry ∷ others) (cond b (best (longest address entry.1) (best_of whose address others)) (best_of whose address others))) [
          | true ↦ λ taken. taken_best whose address entry others sorted taken (longest address entry.1) (best_of whose address others) own rest
          | false ↦ λ fails. not_taken_best whose address entry others sorted fails (best_of whose address others) rest
        ] refl

    module _ (source_same : (a b : RibSource) → source_cmp a b ≡ Equal → a ≡ b) (name_same : (a b : Name) → name_cmp a b ≡ Equal → a ≡ b) where
      -- what reaches the address has what all routes have that are taken and cover it
      reach_holds : (table : TableState) (messages : List Message) → StandsFor table messages → (whose : Rib) (address : Addr) (P : RibSource → Name → Type 0) → Taken whose address P table.sources
          → (source : RibSource) (route : StandingRoute) → Reaches messages whose address source route → P source (name_of route.named)
      reach_holds table messages stands_for whose address P all source route reaches =
          let name = name_of route.named in
          let routed : Routed = record { next_hop = route.next_hop; attrs = route.attrs } in
          elim (lookup (is_at (source_cmp source)) table.sources) as (λ kept. lookup (is_at (source_cmp source)) table.sources ≡ kept
          → lookup (is_at (name_cmp name)) (unwrap_or kept []) ≡ Some routed → P source name) [
            | None ↦ λ _ none. absurd (cc none)
            | Some standing ↦ λ kept at.
                let own = found_holds source_same (λ entry. is_taken whose entry.0 ≡ true → Covered address (λ its. P entry.0 its.0) entry.1) source standing table.sources all kept reaches.taken in
                found_holds name_same (λ its. covers its.0 address ≡ true → P source its.0) name routed standing own at reaches.covers
          ] refl (stands_for.routes source name ∙ reaches.stands)

      found_is : (table : TableState) (messages : List Message) → StandsFor table messages → (whose : Rib) (address : Addr) (found : Option (Name × Routed)) → Best whose address table.sources found
          → IsChosen messages whose address (option_map standing_route found)
      found_is table messages stands_for whose address None none = λ source route reaches. reach_holds table messages stands_for whose address (λ _ _. ⊥) none source route reaches
      found_is table messages stands_for whose address (Some found) it = (
        it.source,
        record {
          reaches = record {
            stands = sym (stands_for.routes it.source found.0) ∙ ap (λ kept. lookup (is_at (name_cmp found.0)) (unwrap_or kept [])) it.kept ∙ it.at;
            taken = it.taken;
            covers = it.covered;
          };
          first = λ other its reaches. reach_holds table messages stands_for whose address (IsFirstOf it.source found.0) it.first other its reaches;
        },
      )

      -- the route of a table is the one that is chosen
      pub route_is_chosen : (table : TableState) (messages : List Message) → StandsFor table messages → (whose : Rib) (address : Addr) → IsChosen messages whose address (route_of whose address table.sources)
      route_is_chosen table messages stands_for whose address =
          found_is table messages stands_for whose address (best_of whose address table.sources) (best_is whose address table.sources stands_for.order.order stands_for.order.names stands_for.order.networks)

      -- each route that reaches the address is to a network
      to_network : (table : TableState) (messages : List Message) → StandsFor table messages → (whose : Rib) (address : Addr) (source : RibSource) (route : StandingRoute)
          → Reaches messages whose address source route → IsNetwork (name_of route.named)
      to_network table messages stands_for whose address source route reaches =
          reach_holds table messages stands_for whose address (λ _ name. IsNetwork name)
          (all_map _ _ (λ entry networks taken. all_map _ _ (λ its is also. is) entry.1 (all_networks entry.1 (recursion_from_All IsNetwork (keys_of entry.1) networks))) table.sources stands_for.order.networks)
          source route reaches

      firsts_are_one : (table : TableState) (messages : List Message) → StandsFor table messages → (whose : Rib) (address : Addr) (source other : RibSource) (route its : StandingRoute)
          → IsFirst messages whose address source route → IsFirst messages whose address other its → route ≡ its
      firsts_are_one table messages stands_for whose address source other route its one also =
          let lens = both_first nat_cmp_total its.named.len route.named.len (ordering_then (source_cmp source other) (nat_cmp route.named.path_id its.named.path_id))
          (ordering_then (source_cmp other source) (nat_cmp its.named.path_id route.named.path_id)) (one.first other its also.reaches) (also.first source route one.reaches) in
          let sources = both_first ordered source other (nat_cmp route.named.path_id its.named.path_id) (nat_cmp its.named.path_id route.named.path_id) lens.1 lens.2 in
          let len : route.named.len ≡ its.named.len = sym (as_long its.named.len route.named.len lens.0) in
          let own = to_network table messages stands_for whose address source route one.reaches in
          let others = to_network table messages stands_for whose address other its also.reaches in
          let addr : route.named.addr ≡ its.named.addr =
          one_network route.named.len route.named.addr address own.cleared one.reaches.covers ∙ ap (λ l. network_of l address) len
          ∙ sym (one_network its.named.len its.named.addr address others.cleared also.reaches.covers) in
          let path_id = one_path route.named.path_id its.named.path_id sources.1 sources.2 in
          let named : route.named ≡ its.named = λ i. record { addr = addr i; len = len i; path_id = path_id i } in
          let routed : Some (routed_of route) ≡ Some (routed_of its) =
          sym one.reaches.stands ∙ (λ i. stands (source_same source other sources.0 i) (name_of (named i)) messages) ∙ also.reaches.stands in
          let same : routed_of route ≡ routed_of its = ap (λ o. unwrap_or o (routed_of route)) routed in
          λ i. record { named = named i; next_hop = (same i).next_hop; attrs = (same i).attrs }

      -- two routes that are chosen are one
      pub choices_are_one : (table : TableState) (messages : List Message) → StandsFor table messages → (whose : Rib) (address : Addr) (one other : Option StandingRoute)
          → IsChosen messages whose address one → IsChosen messages whose address other → one ≡ other
      choices_are_one table messages stands_for whose address None None chosen also = refl
      choices_are_one table messages stands_for whose address None (Some route) chosen also = absurd (chosen also.0 route also.1.reaches)
      choices_are_one table messages stands_for whose address (Some route) None chosen also = absurd (also chosen.0 route chosen.1.reaches)
      choices_are_one table messages stands_for whose address (Some route) (Some its) chosen also =
          ap Some (firsts_are_one table messages stands_for whose address chosen.0 also.0 route its chosen.1 also.1)
