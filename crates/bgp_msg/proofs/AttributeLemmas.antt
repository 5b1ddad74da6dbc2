-- Attributes, one after another.
use Rattle.std.proofs.Common.{◌≡◌, ◌<◌, ◌+◌, ◌∙◌, ◌∷◌, [], ℕ, false, true, List, length, take, drop, refl, sym, ap, subst, arith}
use Rattle.std.proofs.lemmas.Bool.{eq-eqb, eqb-true}
use Rattle.std.proofs.lemmas.Grind.{get_or-set_at}
use Rattle.std.proofs.lemmas.List.{get_or-replicate, get_or-set_other}
use Rattle.std.specs.Prelude.{◌==◌, ◌||◌, Bool, Option, Some, None, if◌then◌else◌, replicate, set, slice_index_or}
use Rattle.bgp_msg.specs.Attributes.{AreFormed, attribute_fault, attribute_size, attribute_type, attributes_fault, form_fault, head_size, is_among, is_cut, or_else, rule_of, value_in, value_of}
use Rattle.bgp_msg.specs.Frames.{fault}
use Rattle.bgp_msg.specs.Pieces.{pieces}
use Rattle.bgp_msg.specs.declared.attributes.Rule.{Rule}
use Rattle.bgp_msg.specs.declared.message.Agreed.{Agreed}
use Rattle.bgp_msg.specs.declared.message.BgpFault.{BgpFault}
use Rattle.bgp_msg.proofs.PieceLemmas.{HasSize, pieces_end, pieces_next}

pub has_size : HasSize attribute_size
unfolding attribute_size head_size
has_size octets = grind arith

-- What is wrong with the rest is what is wrong with all. The types that came before are those that were seen.
pub record Leads (agreed : Agreed) (start : ℕ) (octets : List ℕ) (seen : List Bool) (place : ℕ) (rest : List ℕ) : Type 0 where
  pub before : List ℕ
  pub are_seen : (type : ℕ) → type < 256 → slice_index_or seen type false ≡ is_among type before
  pub leads : attributes_fault agreed before place (pieces attribute_size rest) ≡ attributes_fault agreed [] start (pieces attribute_size octets)

-- ---- attributes without a fault have their forms

or_none : (place : ℕ) (first : Option ℕ) (others : Option BgpFault) → or_else place first others ≡ None → (first ≡ None) × (others ≡ None)
or_none place None others h = (refl, h)
or_none place (Some subcode) others h = absurd (cc)

if_else : (test : Bool) (subcode : ℕ) (other : Option ℕ) → (if test then Some subcode else other) ≡ None → other ≡ None
if_else true subcode other h = absurd (cc)
if_else false subcode other h = h

formed_one : (agreed : Agreed) (before attribute : List ℕ) (rule : Rule) → attribute_fault agreed before attribute ≡ None → rule_of (attribute_type attribute) ≡ Some rule
    → form_fault agreed rule.form (value_of attribute) ≡ None
unfolding attribute_fault
formed_one agreed before attribute rule none is =
    if_else _ 4 _ (rw is at (if_else (is_cut attribute || is_among (attribute_type attribute) before) 1 _ none))

some_same : (one other : List ℕ) → Some one ≡ Some other → one ≡ other
some_same one other h = cc

pub formed : (agreed : Agreed) (before : List ℕ) (place : ℕ) (attributes : List (List ℕ)) → attributes_fault agreed before place attributes ≡ None → AreFormed agreed attributes
formed agreed before place [] none type value rule is known = absurd (cc)
formed agreed before place (attribute ∷ others) none type value rule is known =
    let there = or_none place (attribute_fault agreed before attribute) _ none in
    by (attribute_type attribute == type) (value_in type others) refl
    (λ behind. formed agreed (attribute_type attribute ∷ before) (place + length attribute) others there.1 type value rule behind known) is
  where
    by : (same : Bool) (behind : Option (List ℕ)) → (attribute_type attribute == type) ≡ same → (behind ≡ Some value → form_fault agreed rule.form value ≡ None)
        → (if same then Some (value_of attribute) else behind) ≡ Some value → form_fault agreed rule.form value ≡ None
    by true behind h others is =
        let type_is = eqb-true (attribute_type attribute) type h in
        let value_is : value_of attribute ≡ value = some_same (value_of attribute) value is in
        subst (λ (v : List ℕ). form_fault agreed rule.form v ≡ None) value_is
        (formed_one agreed before attribute rule (or_none place (attribute_fault agreed before attribute) _ none).0 (ap rule_of type_is ∙ known))
    by false behind h others is = others is

-- ---- the types that came before

pub leads_begin : (agreed : Agreed) (start : ℕ) (octets : List ℕ) → Leads agreed start octets (replicate 256 false) start octets
leads_begin agreed start octets = record { before = []; are_seen = λ type h. get_or-replicate 256 type false false h; leads = refl }

clash : (test : Bool) → test ≡ false → test ≡ true → ⊥
clash test h k = cc

-- one type more was seen
seen_next : (seen : List Bool) (before : List ℕ) (kind type : ℕ) (same : Bool) → kind < length seen → (type == kind) ≡ same → slice_index_or seen type false ≡ is_among type before
    → slice_index_or (set seen kind true) type false ≡ (same || is_among type before)
seen_next seen before kind type true within h kept = get_or-set_at seen kind type true false (eqb-true type kind h) within
seen_next seen before kind type false within h kept = get_or-set_other seen kind type true false (λ e. clash (type == kind) h (eq-eqb type kind e)) ∙ kept

pub leads_next : (agreed : Agreed) (start n kind : ℕ) (octets rest attribute behind : List ℕ) (seen : List Bool) (place : ℕ) → Leads agreed start octets seen place rest
    → length seen ≡ 256 → kind ≡ attribute_type attribute → kind < 256 → false ≡ (length rest == 0) → n ≡ attribute_size rest → attribute ≡ take n rest → behind ≡ drop n rest
    → ((before : List ℕ) → slice_index_or seen kind false ≡ is_among (attribute_type attribute) before → attribute_fault agreed before attribute ≡ None)
    → Leads agreed start octets (set seen kind true) (place + length attribute) behind
leads_next agreed start n kind octets rest attribute behind seen place so all is within h size front next good =
    let again : slice_index_or seen kind false ≡ is_among (attribute_type attribute) so.before = so.are_seen kind within ∙ ap (λ (type : ℕ). is_among type so.before) is in
    let fine = good so.before again in
    record {
      before = attribute_type attribute ∷ so.before;
      are_seen = λ type few. subst (λ (one : ℕ). slice_index_or (set seen kind true) type false ≡ (type == one || is_among type so.before)) is
          (seen_next seen so.before kind type (type == kind) (omega (arith, all, within)) refl (so.are_seen type few));
      leads = rw (pieces_next attribute_size n rest attribute behind has_size h size front next, fine) at so.leads;
    }

pub leads_found : (agreed : Agreed) (start n kind subcode : ℕ) (octets rest attribute : List ℕ) (seen : List Bool) (place : ℕ) → Leads agreed start octets seen place rest
    → kind ≡ attribute_type attribute → kind < 256 → false ≡ (length rest == 0) → n ≡ attribute_size rest → attribute ≡ take n rest
    → ((before : List ℕ) → slice_index_or seen kind false ≡ is_among (attribute_type attribute) before → Some subcode ≡ attribute_fault agreed before attribute)
    → Some (fault 3 subcode place) ≡ attributes_fault agreed [] start (pieces attribute_size octets)
leads_found agreed start n kind subcode octets rest attribute seen place so is within h size front bad =
    let again : slice_index_or seen kind false ≡ is_among (attribute_type attribute) so.before = so.are_seen kind within ∙ ap (λ (type : ℕ). is_among type so.before) is in
    let found = sym (bad so.before again) in
    rw (pieces_next attribute_size n rest attribute (drop n rest) has_size h size front refl, found) at so.leads

pub leads_end : (agreed : Agreed) (start : ℕ) (octets rest : List ℕ) (seen : List Bool) (place : ℕ) → Leads agreed start octets seen place rest → true ≡ (length rest == 0)
    → None ≡ attributes_fault agreed [] start (pieces attribute_size octets)
leads_end agreed start octets rest seen place so h = rw (pieces_end attribute_size rest h) at so.leads
