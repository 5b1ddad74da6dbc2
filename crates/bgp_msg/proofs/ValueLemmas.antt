-- The values of attributes, one attribute after another.
use Rattle.std.proofs.Common.{◌≡◌, ◌∙◌, ◌∷◌, [], ℕ, true, false, List, length, take, drop, refl, sym, ap, subst}
use Rattle.std.specs.Option.{option_or}
use Rattle.std.specs.Prelude.{◌==◌, Bool, Option, Some, None, option_copied, if◌then◌else◌}
use Rattle.bgp_msg.specs.Attributes.{attribute_size, attribute_type, value_in, value_of}
use Rattle.bgp_msg.specs.Pieces.{pieces}
use Rattle.bgp_msg.specs.Values.{Adds, Keeps}
use Rattle.bgp_msg.specs.declared.values.Values.{Values}
use Rattle.bgp_msg.proofs.AttributeLemmas.{has_size}
use Rattle.bgp_msg.proofs.PieceLemmas.{or_assoc, pieces_end, pieces_next}

-- the values so far and those of the rest are those of all
pub record KeepsBefore (values : Values) (rest all : List (List ℕ)) : Type 0 where
  pub origin : option_or (option_copied values.origin) (value_in 1 rest) ≡ value_in 1 all
  pub as_path : option_or (option_copied values.as_path) (value_in 2 rest) ≡ value_in 2 all
  pub next_hop : option_or (option_copied values.next_hop) (value_in 3 rest) ≡ value_in 3 all
  pub med : option_or (option_copied values.med) (value_in 4 rest) ≡ value_in 4 all
  pub local_pref : option_or (option_copied values.local_pref) (value_in 5 rest) ≡ value_in 5 all
  pub communities : option_or (option_copied values.communities) (value_in 8 rest) ≡ value_in 8 all
  pub mp_reach : option_or (option_copied values.mp_reach) (value_in 14 rest) ≡ value_in 14 all
  pub mp_unreach : option_or (option_copied values.mp_unreach) (value_in 15 rest) ≡ value_in 15 all
  pub as4_path : option_or (option_copied values.as4_path) (value_in 17 rest) ≡ value_in 17 all

-- ---- one type

first_or : (type : ℕ) (attribute : List ℕ) (others : List (List ℕ)) → value_in type (attribute ∷ others) ≡ option_or (value_in type (attribute ∷ [])) (value_in type others)
first_or type attribute others = by (attribute_type attribute == type) (value_of attribute) (value_in type others)
  where
    by : (same : Bool) (value : List ℕ) (behind : Option (List ℕ)) → (if same then Some value else behind) ≡ option_or (if same then Some value else None) behind
    by true value behind = refl
    by false value behind = refl

begin : (type : ℕ) (attributes : List (List ℕ)) (kept : Option (List ℕ)) → kept ≡ value_in type [] → option_or kept (value_in type attributes) ≡ value_in type attributes
begin type attributes kept is = ap (λ (value : Option (List ℕ)). option_or value (value_in type attributes)) is

more : (type : ℕ) (attribute : List ℕ) (others all : List (List ℕ)) (before after : Option (List ℕ)) → after ≡ option_or before (value_in type (attribute ∷ []))
    → option_or before (value_in type (attribute ∷ others)) ≡ value_in type all → option_or after (value_in type others) ≡ value_in type all
more type attribute others all before after is kept =
    ap (λ (value : Option (List ℕ)). option_or value (value_in type others)) is
    ∙ sym (or_assoc before (value_in type (attribute ∷ [])) (value_in type others))
    ∙ ap (λ (value : Option (List ℕ)). option_or before value) (sym (first_or type attribute others))
    ∙ kept

or_nothing : (value : Option (List ℕ)) → option_or value None ≡ value
or_nothing None = refl
or_nothing (Some value) = refl

end : (type : ℕ) (all : List (List ℕ)) (kept : Option (List ℕ)) → option_or kept (value_in type []) ≡ value_in type all → kept ≡ value_in type all
end type all kept is = sym (or_nothing kept) ∙ is

-- ---- all of them

pub keeps_begin : (values : Values) (attributes : List (List ℕ)) → Keeps values [] → KeepsBefore values attributes attributes
keeps_begin values attributes none = record {
  origin = begin 1 attributes _ none.origin;
  as_path = begin 2 attributes _ none.as_path;
  next_hop = begin 3 attributes _ none.next_hop;
  med = begin 4 attributes _ none.med;
  local_pref = begin 5 attributes _ none.local_pref;
  communities = begin 8 attributes _ none.communities;
  mp_reach = begin 14 attributes _ none.mp_reach;
  mp_unreach = begin 15 attributes _ none.mp_unreach;
  as4_path = begin 17 attributes _ none.as4_path;
}

keeps_more : (before values : Values) (attribute : List ℕ) (others all : List (List ℕ)) → Adds before attribute values → KeepsBefore before (attribute ∷ others) all → KeepsBefore values others all
keeps_more before values attribute others all adds kept = record {
  origin = more 1 attribute others all _ _ adds.origin kept.origin;
  as_path = more 2 attribute others all _ _ adds.as_path kept.as_path;
  next_hop = more 3 attribute others all _ _ adds.next_hop kept.next_hop;
  med = more 4 attribute others all _ _ adds.med kept.med;
  local_pref = more 5 attribute others all _ _ adds.local_pref kept.local_pref;
  communities = more 8 attribute others all _ _ adds.communities kept.communities;
  mp_reach = more 14 attribute others all _ _ adds.mp_reach kept.mp_reach;
  mp_unreach = more 15 attribute others all _ _ adds.mp_unreach kept.mp_unreach;
  as4_path = more 17 attribute others all _ _ adds.as4_path kept.as4_path;
}

keeps_all : (values : Values) (all : List (List ℕ)) → KeepsBefore values [] all → Keeps values all
keeps_all values all kept = record {
  origin = end 1 all _ kept.origin;
  as_path = end 2 all _ kept.as_path;
  next_hop = end 3 all _ kept.next_hop;
  med = end 4 all _ kept.med;
  local_pref = end 5 all _ kept.local_pref;
  communities = end 8 all _ kept.communities;
  mp_reach = end 14 all _ kept.mp_reach;
  mp_unreach = end 15 all _ kept.mp_unreach;
  as4_path = end 17 all _ kept.as4_path;
}

-- ---- in octets

pub keeps_next : (n : ℕ) (before values : Values) (octets attribute rest : List ℕ) (all : List (List ℕ)) → false ≡ (length octets == 0) → n ≡ attribute_size octets → attribute ≡ take n octets → rest ≡ drop n octets
    → Adds before attribute values → KeepsBefore before (pieces attribute_size octets) all → KeepsBefore values (pieces attribute_size rest) all
keeps_next n before values octets attribute rest all h is front behind adds kept =
    keeps_more before values attribute (pieces attribute_size rest) all adds
    (subst (λ (attributes : List (List ℕ)). KeepsBefore before attributes all) (pieces_next attribute_size n octets attribute rest has_size h is front behind) kept)

pub keeps_end : (values : Values) (octets : List ℕ) (all : List (List ℕ)) → true ≡ (length octets == 0) → KeepsBefore values (pieces attribute_size octets) all → Keeps values all
keeps_end values octets all h kept = keeps_all values all (subst (λ (attributes : List (List ℕ)). KeepsBefore values attributes all) (pieces_end attribute_size octets h) kept)
