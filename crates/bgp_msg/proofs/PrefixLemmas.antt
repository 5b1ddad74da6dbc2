-- Lists of prefixes, one prefix after another.
use Rattle.std.proofs.Common.{◌≡◌, ◌≤◌, ◌<◌, ◌+◌, ◌-◌, ◌∙◌, ◌∷◌, ◌++◌, [], ℕ, false, true, List, length, take, drop, refl, sym, ap, append_assoc, arith, min}
use Rattle.std.proofs.lemmas.Bool.{ne_eqb}
use Rattle.std.proofs.lemmas.Bool.Decides.{nat_tests}
use Rattle.std.proofs.lemmas.List.{append-nil, drop-replicate, length-take, map-append}
use Rattle.std.specs.Prelude.{◌==◌, ◌↔◌, Bool, IsNone, IsSome, not, Option, Some, None, map, replicate, if◌then◌else◌}
use Rattle.acct_types.specs.Updates.{nlri_view, route_view}
use Rattle.acct_types.specs.Prefixes.{width_of}
use Rattle.acct_types.specs.declared.addr.Addr.{Addr}
use Rattle.acct_types.specs.declared.prefix.Prefix.{Prefix}
use Rattle.bgp_msg.specs.Families.{family_of, hop_length, reached}
use Rattle.bgp_msg.specs.Pieces.{pieces}
use Rattle.bgp_msg.specs.Prefixes.{address_of, bad_prefix, bits_of, filled, first_bad, is_bad, named, prefix_size, prefixes_in, width}
use Rattle.bgp_msg.specs.Routes.{routes}
use Rattle.bgp_msg.specs.declared.families.Family.{Family}
use Rattle.bgp_msg.specs.declared.families.Family.TheVariants.{V4, V6}
use Rattle.acct_types.specs.declared.update.Announce.{Announce}
use Rattle.acct_types.specs.declared.update.Nlri.{Nlri}
use Rattle.bgp_msg.proofs.PieceLemmas.{HasSize, pieces_end, pieces_next}

pub has_size : HasSize prefix_size
unfolding prefix_size
has_size octets = omega arith

pub bad_end : (family : Family) (place : ℕ) (octets : List ℕ) → true ≡ (length octets == 0) → bad_prefix family place octets ≡ None
bad_end family place octets h = rw (pieces_end prefix_size octets h) refl

pub bad_next : (family : Family) (place n : ℕ) (octets prefix rest : List ℕ) (all : Option ℕ) → false ≡ (length octets == 0) → n ≡ prefix_size octets → prefix ≡ take n octets → rest ≡ drop n octets
    → is_bad family prefix ≡ false → bad_prefix family place octets ≡ all → bad_prefix family (place + length prefix) rest ≡ all
bad_next family place n octets prefix rest all h is front behind good kept =
    rw (pieces_next prefix_size n octets prefix rest has_size h is front behind, good) at kept

pub bad_found : (family : Family) (place n : ℕ) (octets prefix : List ℕ) (all : Option ℕ) → false ≡ (length octets == 0) → n ≡ prefix_size octets → prefix ≡ take n octets
    → is_bad family prefix ≡ true → bad_prefix family place octets ≡ all → Some place ≡ all
bad_found family place n octets prefix all h is front bad kept =
    rw (pieces_next prefix_size n octets prefix (drop n octets) has_size h is front refl, bad) at kept

if_good : (bad : Bool) (place : ℕ) (others : Option ℕ) → (if bad then Some place else others) ≡ None → (bad ≡ false) × (others ≡ None)
if_good true place others h = absurd (cc)
if_good false place others h = (refl, h)

-- a list without a bad prefix has none wherever it stands
any_place : (family : Family) (place other : ℕ) (prefixes : List (List ℕ)) → first_bad family place prefixes ≡ None → first_bad family other prefixes ≡ None
any_place family place other [] h = refl
any_place family place other (prefix ∷ prefixes) h =
    let good = if_good (is_bad family prefix) place _ h in
    rw good.0 (any_place family (place + length prefix) (other + length prefix) prefixes good.1)

-- where the list stands further on, so does its bad prefix
further : (family : Family) (start place found : ℕ) (prefixes : List (List ℕ)) → first_bad family place prefixes ≡ Some found → first_bad family (start + place) prefixes ≡ Some (start + found)
further family start place found [] h = absurd (cc)
further family start place found (prefix ∷ prefixes) h =
    let sum : start + place + length prefix ≡ start + (place + length prefix) = omega arith in
    by (is_bad family prefix) refl
    (λ behind. ap (λ (n : ℕ). first_bad family n prefixes) sum ∙ further family start (place + length prefix) found prefixes behind) h
  where
    by : (bad : Bool) → is_bad family prefix ≡ bad
        → (first_bad family (place + length prefix) prefixes ≡ Some found → first_bad family (start + place + length prefix) prefixes ≡ Some (start + found))
        → (if bad then Some place else first_bad family (place + length prefix) prefixes) ≡ Some found
        → (if bad then Some (start + place) else first_bad family (start + place + length prefix) prefixes) ≡ Some (start + found)
    by true is others h = let same : place ≡ found = cc in ap (λ (n : ℕ). Some (start + n)) same
    by false is others h = others h

pub bad_further : (family : Family) (start found : ℕ) (octets : List ℕ) → bad_prefix family 0 octets ≡ Some found → bad_prefix family start octets ≡ Some (start + found)
bad_further family start found octets h =
    let first : start + 0 ≡ start = omega arith in
    sym (ap (λ (n : ℕ). first_bad family n (pieces prefix_size octets)) first) ∙ further family start 0 found (pieces prefix_size octets) h

pub good_first : (family : Family) (n : ℕ) (octets prefix rest : List ℕ) → false ≡ (length octets == 0) → n ≡ prefix_size octets → prefix ≡ take n octets → rest ≡ drop n octets
    → bad_prefix family 0 octets ≡ None → (is_bad family prefix ≡ false) × (bad_prefix family 0 rest ≡ None)
good_first family n octets prefix rest h is front behind good =
    let there = if_good (is_bad family prefix) 0 _ (rw (pieces_next prefix_size n octets prefix rest has_size h is front behind) at good) in
    (there.0, any_place family (0 + length prefix) 0 (pieces prefix_size rest) there.1)

pub good_anywhere : (family : Family) (place other : ℕ) (octets : List ℕ) → bad_prefix family place octets ≡ None → bad_prefix family other octets ≡ None
good_anywhere family place other octets h = any_place family place other (pieces prefix_size octets) h

pub prefixes_next : (family : Family) (n : ℕ) (octets prefix rest : List ℕ) → false ≡ (length octets == 0) → n ≡ prefix_size octets → prefix ≡ take n octets → rest ≡ drop n octets
    → prefixes_in family octets ≡ named family prefix ∷ prefixes_in family rest
unfolding prefixes_in
prefixes_next family n octets prefix rest h is front behind = rw (pieces_next prefix_size n octets prefix rest has_size h is front behind) refl

pub prefixes_end : (family : Family) (octets : List ℕ) → true ≡ (length octets == 0) → prefixes_in family octets ≡ []
unfolding prefixes_in
prefixes_end family octets h = rw (pieces_end prefix_size octets h) refl

-- the first sixteen, and zeros behind them
pub filled_is : (octets some : List ℕ) → some ≡ take 16 octets → some ++ drop (length some) (replicate 16 0) ≡ filled octets
filled_is octets some is =
    let size : length some ≡ min 16 (length octets) = ap length is ∙ length-take 16 octets in
    let same : 16 - length some ≡ 16 - length octets = omega (arith, size) in
    rw (drop-replicate {X = ℕ} (length some) 16 0, same, is) refl

-- one prefix more that is kept
pub named_next : (family : Family) (n : ℕ) (octets prefix rest : List ℕ) (names : List Nlri) (one : Nlri) → false ≡ (length octets == 0) → n ≡ prefix_size octets → prefix ≡ take n octets → rest ≡ drop n octets
    → nlri_view one ≡ named family prefix → map nlri_view (names ++ one ∷ []) ++ prefixes_in family rest ≡ map nlri_view names ++ prefixes_in family octets
named_next family n octets prefix rest names one h is front behind read =
    rw (map-append nlri_view names (one ∷ []), append_assoc, read, prefixes_next family n octets prefix rest h is front behind) refl

pub names_end : (family : Family) (names : List Nlri) (octets : List ℕ) → true ≡ (length octets == 0) → map nlri_view names ≡ map nlri_view names ++ prefixes_in family octets
names_end family names octets h = rw (prefixes_end family octets h) (sym (append-nil (map nlri_view names)))

-- one route more that is kept
pub routes_next : (family : Family) (hop : Addr) (n : ℕ) (octets prefix rest : List ℕ) (all : List Announce) (one : Nlri) → false ≡ (length octets == 0) → n ≡ prefix_size octets → prefix ≡ take n octets
    → rest ≡ drop n octets → nlri_view one ≡ named family prefix
    → map route_view (all ++ record { nlri = one; next_hop = hop } ∷ []) ++ routes hop (prefixes_in family rest) ≡ map route_view all ++ routes hop (prefixes_in family octets)
routes_next family hop n octets prefix rest all one h is front behind read =
    rw (map-append route_view all (record { nlri = one; next_hop = hop } ∷ []), append_assoc, read, prefixes_next family n octets prefix rest h is front behind) refl

pub routes_end : (family : Family) (hop : Addr) (all : List Announce) (octets : List ℕ) → true ≡ (length octets == 0) → map route_view all ≡ map route_view all ++ routes hop (prefixes_in family octets)
routes_end family hop all octets h = rw (prefixes_end family octets h) (sym (append-nil (map route_view all)))

pub fits : (family : Family) (prefix : List ℕ) → is_bad family prefix ≡ false → bits_of prefix ≤ width family
unfolding is_bad
fits family prefix h = grind (arith, nat_tests, h)

pub width_is : (family : Family) (octets : List ℕ) → width_of (address_of family octets) ≡ width family
unfolding address_of
width_is V4 octets = refl
width_is V6 octets = refl

is_some : {T : Type 0} (option : Option T) → (IsNone option → ⊥) → IsSome option
is_some None h = absurd (h refl)
is_some (Some value) h = refl

-- a prefix that isn't bad is one of its family's addresses
pub is_made : (family : Family) (address : Addr) (prefix octets : List ℕ) (made : Option Prefix) → address ≡ address_of family octets → is_bad family prefix ≡ false
    → (IsNone made ↔ (width_of address < bits_of prefix)) → IsSome made
is_made family address prefix octets made is good none =
    let wide = ap width_of is ∙ width_is family octets in
    let most = fits family prefix good in
    is_some made (λ h. let over = none.0 h in omega (arith, wide, most, over))

pub none_in : (family : Family) (octets : List ℕ) → (length (prefixes_in family octets) == 0) ≡ (length octets == 0)
unfolding prefixes_in
none_in family octets = by (length octets == 0) refl
  where
    by : (none : Bool) → (length octets == 0) ≡ none → (length (map (named family) (pieces prefix_size octets)) == 0) ≡ none
    by true h = rw (pieces_end prefix_size octets (sym h)) refl
    by false h = rw (pieces_next prefix_size (prefix_size octets) octets (take (prefix_size octets) octets) (drop (prefix_size octets) octets) has_size (sym h) refl refl refl)
        (ne_eqb _ 0 (λ e. omega (arith, e)))

pub none_reached : (value : List ℕ) (family : Family) → Some family ≡ family_of value → not (length (drop (5 + hop_length value) value) == 0) ≡ not (length (reached value) == 0)
unfolding reached
none_reached value family is = rw (sym is) (ap not (sym (none_in family (drop (5 + hop_length value) value))))
