-- The fields one by one.
use Rattle.std.proofs.Common.{◌≡◌, ◌∙◌, ◌+◌, ◌-◌, ◌<◌, ◌≤◌, ◌∷◌, ℕ, List, Bool, true, false, cond, suc, drop, refl, ap, sym, arith}
use Rattle.std.specs.Prelude.{◌==◌, ◌&&◌, ◌||◌, nat_lt, if◌then◌else◌}
use Rattle.std.specs.List.{list_all}
use Rattle.std.proofs.lemmas.Bool.{ltb-true, ltb-false}
use Rattle.std.proofs.lemmas.List.Sums.{sum_by-cons}
use Rattle.flow_templates.specs.declared.template.FieldSpec.{FieldSpec}
use Rattle.flow_templates.specs.Elements.{is_allowed}
use Rattle.flow_templates.specs.Templates.{field_length, field_of, fields_length, fields_of, has_enterprise, judged_fields, least_length, least_width}

pub least_field : (version : ℕ) (octets : List ℕ) → 4 ≤ field_length version octets
least_field version octets = by (has_enterprise version octets)
  where
    by : (b : Bool) → 4 ≤ cond b 8 4
    by true = omega arith
    by false = omega arith

pub longest_field : (version : ℕ) (octets : List ℕ) → field_length version octets ≤ 8
longest_field version octets = by (has_enterprise version octets)
  where
    by : (b : Bool) → cond b 8 4 ≤ 8
    by true = omega arith
    by false = omega arith

-- one more field of those that are left, and its octets
pub fields_next : (version count i : ℕ) (octets : List ℕ) → i < count
    → fields_of version (count - i) octets ≡ field_of version octets ∷ fields_of version (count - (i + 1)) (drop (field_length version octets) octets)
fields_next version count i octets h =
    let left : count - i ≡ suc (count - (i + 1)) = omega arith in
    rw left refl

pub length_next : (version count i : ℕ) (octets : List ℕ) → i < count
    → fields_length version (count - i) octets ≡ field_length version octets + fields_length version (count - (i + 1)) (drop (field_length version octets) octets)
length_next version count i octets h =
    let left : count - i ≡ suc (count - (i + 1)) = omega arith in
    rw left refl

-- one more field whose width is judged, unless it is skipped
pub judged_next : (version scope i : ℕ) (field : FieldSpec) (fields : List FieldSpec) → list_all (is_allowed version) (judged_fields version (scope - i) (field ∷ fields))
    ≡ ((version == 9 && nat_lt i scope || is_allowed version field) && list_all (is_allowed version) (judged_fields version (scope - (i + 1)) fields))
judged_next version scope i field fields = by (version == 9) (nat_lt i scope) refl
  where
    by : (nine less : Bool) → nat_lt i scope ≡ less → list_all (is_allowed version) (if nine then drop (scope - i) (field ∷ fields) else field ∷ fields)
        ≡ ((nine && less || is_allowed version field) && list_all (is_allowed version) (if nine then drop (scope - (i + 1)) fields else fields))
    by false less h = refl
    by true true h =
        let left : scope - i ≡ suc (scope - (i + 1)) = omega (arith, ltb-true i scope h) in
        rw left refl
    by true false h =
        let none : scope - i ≡ 0 = omega (arith, ltb-false i scope h) in
        let still : scope - (i + 1) ≡ 0 = omega (arith, ltb-false i scope h) in
        rw (none, still) refl

abbrev pub is_judged_so : ℕ → ℕ → List FieldSpec → Bool
is_judged_so version scope fields = list_all (is_allowed version) (judged_fields version scope fields)

passes_next : (version scope count i : ℕ) (octets : List ℕ) (field : FieldSpec) (passed : Bool) → i < count → field ≡ field_of version octets
    → passed ≡ (version == 9 && nat_lt i scope || is_allowed version field)
    → is_judged_so version (scope - i) (fields_of version (count - i) octets)
    ≡ (passed && is_judged_so version (scope - (i + 1)) (fields_of version (count - (i + 1)) (drop (field_length version octets) octets)))
passes_next version scope count i octets field passed h is test =
    let tail = fields_of version (count - (i + 1)) (drop (field_length version octets) octets) in
    ap (is_judged_so version (scope - i)) (fields_next version count i octets h)
    ∙ judged_next version scope i (field_of version octets) tail
    ∙ ap (λ (p : Bool). p && is_judged_so version (scope - (i + 1)) tail) (sym (test ∙ ap (λ (f : FieldSpec). version == 9 && nat_lt i scope || is_allowed version f) is))

pub not_passed : (version scope count i : ℕ) (octets : List ℕ) (field : FieldSpec) (passed : Bool) → i < count → field ≡ field_of version octets
    → passed ≡ (version == 9 && nat_lt i scope || is_allowed version field) → passed ≡ false
    → is_judged_so version (scope - i) (fields_of version (count - i) octets) ≡ false
not_passed version scope count i octets field passed h is test denied =
    passes_next version scope count i octets field passed h is test
    ∙ ap (λ (p : Bool). p && is_judged_so version (scope - (i + 1)) (fields_of version (count - (i + 1)) (drop (field_length version octets) octets))) denied

pub passed_on : (version scope count i : ℕ) (octets next : List ℕ) (field : FieldSpec) (passed : Bool) → i < count → field ≡ field_of version octets
    → passed ≡ (version == 9 && nat_lt i scope || is_allowed version field) → passed ≡ true → next ≡ drop (field_length version octets) octets
    → is_judged_so version (scope - (i + 1)) (fields_of version (count - (i + 1)) next) ≡ is_judged_so version (scope - i) (fields_of version (count - i) octets)
passed_on version scope count i octets next field passed h is test granted on =
    let tail = fields_of version (count - (i + 1)) (drop (field_length version octets) octets) in
    ap (λ (rest : List ℕ). is_judged_so version (scope - (i + 1)) (fields_of version (count - (i + 1)) rest)) on
    ∙ sym (passes_next version scope count i octets field passed h is test ∙ ap (λ (p : Bool). p && is_judged_so version (scope - (i + 1)) tail) granted)

pub least_next : (version count i : ℕ) (octets next : List ℕ) → i < count → next ≡ drop (field_length version octets) octets
    → least_length version (fields_of version (count - i) octets)
    ≡ least_width version (field_of version octets) + least_length version (fields_of version (count - (i + 1)) next)
least_next version count i octets next h on =
    ap (least_length version) (fields_next version count i octets h)
    ∙ sum_by-cons (least_width version) (field_of version octets) (fields_of version (count - (i + 1)) (drop (field_length version octets) octets))
    ∙ ap (λ (rest : List ℕ). least_width version (field_of version octets) + least_length version (fields_of version (count - (i + 1)) rest)) (sym on)
