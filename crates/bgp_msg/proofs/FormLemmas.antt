-- Values of their forms.
use Rattle.std.proofs.Common.{◌≡◌, ◌∙◌, Bor, ℕ, false, true, List, length, refl, sym}
use Rattle.std.proofs.lemmas.Bool.{eqb-true}
use Rattle.std.specs.Prelude.{◌==◌, Bool, IfSome, Option, Some, None, if◌then◌else◌, not, option_copied}
use Rattle.bgp_msg.specs.Attributes.{AreFormed, form_fault, rule_of, unless, value_in}
use Rattle.bgp_msg.specs.Families.{is_reach, is_unreach}
use Rattle.bgp_msg.specs.Paths.{is_path}
use Rattle.bgp_msg.specs.Prefixes.{bad_prefix}
use Rattle.bgp_msg.specs.Updates.{IsNumber, prefix_fault}
use Rattle.bgp_msg.specs.Values.{HaveForms, Keeps}
use Rattle.bgp_msg.specs.declared.attributes.Form.TheVariants.{Exactly}
use Rattle.bgp_msg.specs.declared.families.Family.TheVariants.{V4}
use Rattle.bgp_msg.specs.declared.message.Agreed.{Agreed}
use Rattle.bgp_msg.specs.declared.values.Values.{Values}
use Rattle.bgp_msg.proofs.PrefixLemmas.{good_anywhere}

unless_none : (test : Bool) (subcode : ℕ) → unless test subcode ≡ None → test ≡ true
unless_none true subcode h = refl
unless_none false subcode h = absurd (cc)

if_not : (test : Bool) (subcode : ℕ) (other : Option ℕ) → (if not test then Some subcode else other) ≡ None → test ≡ true
if_not true subcode other h = refl
if_not false subcode other h = absurd (cc)

origin_formed : (agreed : Agreed) (attributes : List (List ℕ)) (value : List ℕ) → AreFormed agreed attributes → value_in 1 attributes ≡ Some value → length value ≡ 1
unfolding form_fault rule_of
origin_formed agreed attributes value all is = eqb-true (length value) 1 (if_not (length value == 1) 5 _ (all 1 value _ is refl))

number_formed : (agreed : Agreed) (type : ℕ) (attributes : List (List ℕ)) (value : List ℕ) → IsNumber type → AreFormed agreed attributes → value_in type attributes ≡ Some value → length value ≡ 4
unfolding form_fault
number_formed agreed type attributes value number all is =
    eqb-true (length value) 4 (unless_none (length value == 4) 5 (rw number.2 at (all type value number.0 is number.1)))

path_formed : (agreed : Agreed) (attributes : List (List ℕ)) (value : List ℕ) → AreFormed agreed attributes → value_in 2 attributes ≡ Some value → is_path agreed.four_octets value ≡ true
unfolding form_fault rule_of
path_formed agreed attributes value all is = unless_none (is_path agreed.four_octets value) 11 (all 2 value _ is refl)

reach_formed : (agreed : Agreed) (attributes : List (List ℕ)) (value : List ℕ) → AreFormed agreed attributes → value_in 14 attributes ≡ Some value → is_reach value ≡ true
unfolding form_fault rule_of
reach_formed agreed attributes value all is = unless_none (is_reach value) 9 (all 14 value _ is refl)

unreach_formed : (agreed : Agreed) (attributes : List (List ℕ)) (value : List ℕ) → AreFormed agreed attributes → value_in 15 attributes ≡ Some value → is_unreach value ≡ true
unfolding form_fault rule_of
unreach_formed agreed attributes value all is = unless_none (is_unreach value) 9 (all 15 value _ is refl)

-- NEXT_HOP, MULTI_EXIT_DISC and LOCAL_PREF
next_hop_number : IsNumber 3
unfolding rule_of
next_hop_number = (record { class = 1; form = Exactly 4 }, refl, refl)

exit_number : IsNumber 4
unfolding rule_of
exit_number = (record { class = 2; form = Exactly 4 }, refl, refl)

preference_number : IsNumber 5
unfolding rule_of
preference_number = (record { class = 1; form = Exactly 4 }, refl, refl)

if_some : (option : Option (Bor (List ℕ))) (P : List ℕ → Type 0) → ((value : List ℕ) → option_copied option ≡ Some value → P value) → IfSome option (λ value. P value.now)
if_some None P h = tt
if_some (Some value) P h = h value.now refl

-- the values of attributes that have their forms
pub have_forms : (agreed : Agreed) (attributes : List (List ℕ)) (values : Values) → AreFormed agreed attributes → Keeps values attributes → HaveForms agreed values
have_forms agreed attributes values all kept = record {
  origin = if_some values.origin (λ value. length value ≡ 1) (λ value is. origin_formed agreed attributes value all (sym kept.origin ∙ is));
  as_path = if_some values.as_path (λ value. is_path agreed.four_octets value ≡ true) (λ value is. path_formed agreed attributes value all (sym kept.as_path ∙ is));
  next_hop = if_some values.next_hop (λ value. length value ≡ 4) (λ value is. number_formed agreed 3 attributes value next_hop_number all (sym kept.next_hop ∙ is));
  med = if_some values.med (λ value. length value ≡ 4) (λ value is. number_formed agreed 4 attributes value exit_number all (sym kept.med ∙ is));
  local_pref = if_some values.local_pref (λ value. length value ≡ 4) (λ value is. number_formed agreed 5 attributes value preference_number all (sym kept.local_pref ∙ is));
  mp_reach = if_some values.mp_reach (λ value. is_reach value ≡ true) (λ value is. reach_formed agreed attributes value all (sym kept.mp_reach ∙ is));
  mp_unreach = if_some values.mp_unreach (λ value. is_unreach value ≡ true) (λ value is. unreach_formed agreed attributes value all (sym kept.mp_unreach ∙ is));
}

-- ---- prefixes of a list that has no fault

no_place : (place : Option ℕ) → prefix_fault place ≡ None → place ≡ None
no_place None h = refl
no_place (Some place) h = absurd (cc)

pub can_be_read : (place : ℕ) (octets : List ℕ) → prefix_fault (bad_prefix V4 place octets) ≡ None → bad_prefix V4 0 octets ≡ None
can_be_read place octets h = good_anywhere V4 place 0 octets (no_place (bad_prefix V4 place octets) h)
