-- The table of a record's layout.
use Rattle.std.proofs.Common.{◌≡◌, ◌≢◌, ◌<◌, ◌∙◌, ℕ, Bool, true, false, List, [], ◌∷◌, Option, Some, None, ◌+◌, zero, suc, length, take, drop, set, refl, sym, ap, subst, arith}
use Rattle.std.specs.Prelude.{◌==◌, ◌||◌, ◌&&◌, not, is_some, if◌then◌else◌, replicate, IfSome}
use Rattle.std.specs.List.{list_all}
use Rattle.std.specs.Option.{option_or}
use Rattle.std.proofs.lemmas.Bool.{and_parts, eq-eqb, eqb-false, eqb-true, true≢false}
use Rattle.std.proofs.lemmas.List.{at_drop_more, get_or-set_other, get_or-set_same}
use Rattle.std.proofs.Math.ListN.{get_or}
use Rattle.std.proofs.lemmas.Nat.{mod_below}
use Rattle.flow_templates.specs.declared.template.FieldSpec.{FieldSpec}
use Rattle.flow_templates.specs.Elements.{addresses_v4, addresses_v6, ipfix_numbers, is_among, macs, numbers}
use Rattle.flow_templates.specs.declared.template.Template.{Template}
use Rattle.flow_sets.specs.declared.fields.Span.{Span}
use Rattle.flow_sets.specs.Fields.{end_of, end_of_all, has_element, is_known, is_read, record_length, skipped, span_at, span_in, span_of}
use Rattle.flow_sets.specs.Layout.{listed, slot}
use Rattle.flow_sets.proofs.FieldLemmas.{ends_behind}

-- ---- elements that are read have slots of their own

pub by_lists : (i v n a b m : Bool) (P : Type 0) → (i ≡ true → P) → (n ≡ true → P) → (a ≡ true → P) → (b ≡ true → P) → (m ≡ true → P)
    → (if i then v else n || a || b || m) ≡ true → P
by_lists true v n a b m P p q r s t h = p refl
by_lists false v true a b m P p q r s t h = q refl
by_lists false v false true b m P p q r s t h = r refl
by_lists false v false false true m P p q r s t h = s refl
by_lists false v false false false true P p q r s t h = t refl
by_lists false v false false false false P p q r s t h = cc h

-- what is read in a version is read in version 10
pub read_in_ten : (version element : ℕ) → is_read version element ≡ true → is_read 10 element ≡ true
read_in_ten version element h =
    by (is_among ipfix_numbers element) (is_among numbers element || is_among addresses_v4 element || is_among addresses_v6 element || is_among macs element) h
  where
    by : (i others : Bool) → (if i then version == 10 else others) ≡ true → (if i then true else others) ≡ true
    by true others h = refl
    by false others h = h

pub known_read : (version : ℕ) (field : FieldSpec) → is_known version field ≡ true → is_read 10 field.element ≡ true
known_read version field h = read_in_ten version field.element (and_parts (not (is_some field.enterprise)) (is_read version field.element) h).1

-- an element of a list is one of its elements: what holds of each of them, holds of it
pub among : (P : ℕ → Bool) (xs : List ℕ) (x : ℕ) → list_all P xs ≡ true → is_among xs x ≡ true → P x ≡ true
among P [] x all h = cc h
among P (y ∷ xs) x all h =
    let parts = and_parts (P y) (list_all P xs) all in
    by (x == y) refl parts.0 (among P xs x parts.1) h
  where
    by : (b : Bool) → (x == y) ≡ b → P y ≡ true → (is_among xs x ≡ true → P x ≡ true) → (b || is_among xs x) ≡ true → P x ≡ true
    by true e here rest h = subst (λ (z : ℕ). P z ≡ true) (sym (eqb-true x y e)) here
    by false e here rest h = rest h

all_read : (ℕ → Bool) → Bool
all_read P = list_all P ipfix_numbers && (list_all P numbers && (list_all P addresses_v4 && (list_all P addresses_v6 && list_all P macs)))

-- what holds of all elements that are read, holds of each
of_read : (P : ℕ → Bool) (element : ℕ) → all_read P ≡ true → is_read 10 element ≡ true → P element ≡ true
unfolding all_read
of_read P element all h =
    let i = and_parts (list_all P ipfix_numbers) _ all in
    let n = and_parts (list_all P numbers) _ i.1 in
    let a = and_parts (list_all P addresses_v4) _ n.1 in
    let b = and_parts (list_all P addresses_v6) (list_all P macs) a.1 in
    by_lists (is_among ipfix_numbers element) true (is_among numbers element) (is_among addresses_v4 element) (is_among addresses_v6 element)
    (is_among macs element) (P element ≡ true)
    (among P ipfix_numbers element i.0) (among P numbers element n.0) (among P addresses_v4 element a.0) (among P addresses_v6 element b.0) (among P macs element b.1) h

has_own_slot : ℕ → ℕ → Bool
has_own_slot one other = not (slot one == slot other) || one == other

-- no two elements that are read have one slot
own_slots : (one other : ℕ) → is_read 10 one ≡ true → is_read 10 other ≡ true → slot one ≡ slot other → one ≡ other
unfolding all_read has_own_slot
own_slots one other this that same =
    by (slot one == slot other) (eq-eqb (slot one) (slot other) same) (of_read (λ (x : ℕ). has_own_slot x other) one (of_read (λ (y : ℕ). all_read (λ (x : ℕ). has_own_slot x y)) other refl that) this)
  where
    by : (b : Bool) → b ≡ true → (not b || one == other) ≡ true → one ≡ other
    by true e h = eqb-true one other h
    by false e h = cc e

-- ---- one more field

abbrev pub Noted : ℕ → FieldSpec → Span → List (Option Span) → List (Option Span) → Type 0
Noted version field span old new = (element : ℕ) → listed new element ≡ option_or (listed old element) (if has_element version element field then Some span else None)

or_none : (x : Option Span) → x ≡ option_or x None
or_none None = refl
or_none (Some span) = refl

-- a field that means nothing
pub unknown : (version : ℕ) (field : FieldSpec) (span : Span) (spans : List (Option Span)) → is_known version field ≡ false → Noted version field span spans spans
unknown version field span spans h element = rw h (or_none (listed spans element))

-- an element that is noted
pub repeated : (version : ℕ) (field : FieldSpec) (span : Span) (spans : List (Option Span)) → is_known version field ≡ true
    → get_or spans (slot field.element) None ≢ None → Noted version field span spans spans
repeated version field span spans known h element = by (has_element version element field) refl
  where
    there : (x : Option Span) → x ≢ None → x ≡ option_or x (Some span)
    there None h = absurd (h refl)
    there (Some old) h = refl

    here : (is : Bool) → is ≡ true → (if is then get_or spans (slot field.element) None else None) ≢ None
    here true e = h
    here false e = cc e

    by : (b : Bool) → has_element version element field ≡ b → listed spans element ≡ option_or (listed spans element) (if b then Some span else None)
    by true e = let same = eqb-true field.element element (and_parts (is_known version field) (field.element == element) e).1 in
        there (listed spans element) (λ none. here (is_read 10 field.element) (known_read version field known) (ap (listed spans) same ∙ none))
    by false e = or_none (listed spans element)

-- an element that isn't noted yet
pub newly : (version : ℕ) (field : FieldSpec) (span : Span) (spans : List (Option Span)) (place : ℕ) → place ≡ slot field.element → is_known version field ≡ true → length spans ≡ 65
    → get_or spans place None ≡ None → Noted version field span spans (set spans place (Some span))
newly version field span spans place at known size none element = by (field.element == element) (is_read 10 element) refl refl
  where
    by : (b is : Bool) → (field.element == element) ≡ b → is_read 10 element ≡ is
        → (if is then get_or (set spans place (Some span)) (slot element) None else None)
        ≡ option_or (if is then get_or spans (slot element) None else None) (if is_known version field && b then Some span else None)
    by true true e read =
        let same : place ≡ slot element = at ∙ ap slot (eqb-true field.element element e) in
        let below = mod_below element 65 (omega arith) in
        rw known (ap (λ (n : ℕ). get_or (set spans place (Some span)) n None) (sym same)
        ∙ get_or-set_same spans place (Some span) None (omega (arith, same, below, size))
        ∙ sym (ap (λ (x : Option Span). option_or x (Some span)) (ap (λ (n : ℕ). get_or spans n None) (sym same) ∙ none)))
    by true false e read = absurd (true≢false (sym (known_read version field known) ∙ ap (is_read 10) (eqb-true field.element element e) ∙ read))
    by false true e read =
        rw known (get_or-set_other spans place (slot element) (Some span) None
        (λ same. eqb-false field.element element e (own_slots field.element element (known_read version field known) read (sym at ∙ sym same)))
        ∙ or_none (get_or spans (slot element) None))
    by false false e read = rw known refl

-- ---- fields one behind another

or_one : (x : Option Span) (b : Bool) (span : Span) (rest : Option Span) → option_or (option_or x (if b then Some span else None)) rest ≡ option_or x (if b then Some span else rest)
or_one None true span rest = refl
or_one None false span rest = refl
or_one (Some old) true span rest = refl
or_one (Some old) false span rest = refl

-- the field is noted, and those behind it are left
pub one_noted : (version : ℕ) (fields : List FieldSpec) (octets : List ℕ) (end i : ℕ) (d : FieldSpec) (span : Span) (old new : List (Option Span)) → i < length fields
    → span ≡ span_of version (get_or fields i d) octets end → Noted version (get_or fields i d) span old new → (element : ℕ)
    → option_or (listed new element) (span_in version element (drop (i + 1) fields) octets (span.place + span.width))
    ≡ option_or (listed old element) (span_in version element (drop i fields) octets end)
one_noted version fields octets end i d span old new h is noted element =
    let left = λ (place : ℕ). span_in version element (drop (i + 1) fields) octets place in
    let has = has_element version element (get_or fields i d) in
    ap (λ (x : Option Span). option_or x (left (span.place + span.width))) (noted element)
    ∙ or_one (listed old element) has span (left (span.place + span.width))
    ∙ ap (λ (s : Span). option_or (listed old element) (if has then Some s else left (s.place + s.width))) is
    ∙ sym (ap (option_or (listed old element)) (at_drop_more (λ (fields : List FieldSpec). span_in version element fields octets end) fields i d h))

pub ends_one_on : (version : ℕ) (fields : List FieldSpec) (octets : List ℕ) (end i : ℕ) (d : FieldSpec) (span : Span) → i < length fields
    → span ≡ span_of version (get_or fields i d) octets end
    → end_of_all version (drop (i + 1) fields) octets (span.place + span.width) ≡ end_of_all version (drop i fields) octets end
ends_one_on version fields octets end i d span h is =
    ap (λ (s : Span). end_of_all version (drop (i + 1) fields) octets (s.place + s.width)) is
    ∙ sym (at_drop_more (λ (fields : List FieldSpec). end_of_all version fields octets end) fields i d h)

-- the end of fields in two parts
pub ends_in_parts : (version count : ℕ) (fields : List FieldSpec) (octets : List ℕ) (place : ℕ)
    → end_of_all version (drop count fields) octets (end_of_all version (take count fields) octets place) ≡ end_of_all version fields octets place
ends_in_parts version zero fields octets place = refl
ends_in_parts version (suc count) [] octets place = refl
ends_in_parts version (suc count) (field ∷ fields) octets place = ends_in_parts version count fields octets (end_of version field octets place)

-- ---- a record

pub nothing_listed : (count element : ℕ) → listed (replicate count None) element ≡ None
nothing_listed count element = by (is_read 10 element) (get_or (replicate count None) (slot element) None) (none count (slot element) None)
  where
    none : (count slot : ℕ) (nothing : Option Span) → get_or (replicate count nothing) slot nothing ≡ nothing
    none zero slot nothing = refl
    none (suc count) zero nothing = refl
    none (suc count) (suc slot) nothing = none count slot nothing

    by : (b : Bool) (x : Option Span) → x ≡ None → (if b then x else None) ≡ None
    by true x h = h
    by false x h = refl

pub whole_length : (version : ℕ) (template : Template) (octets : List ℕ) (scope others : List FieldSpec) (begin : ℕ) → scope ≡ take (skipped version template) template.fields
    → others ≡ drop (skipped version template) template.fields → begin ≡ end_of_all version scope octets 0
    → end_of_all version others octets begin ≡ record_length version template octets
whole_length version template octets scope others begin front back at =
    rw (back, at, front) (ends_in_parts version (skipped version template) template.fields octets 0)

pub scope_passes : (version : ℕ) (template : Template) (octets : List ℕ) (scope : List FieldSpec) → scope ≡ take (skipped version template) template.fields
    → length octets < end_of_all version scope octets 0 → length octets < record_length version template octets
scope_passes version template octets scope front past =
    let whole = whole_length version template octets scope _ _ front refl refl in
    let more = ends_behind version (drop (skipped version template) template.fields) octets (end_of_all version scope octets 0) in
    omega (arith, whole, more, past)

pub whole_spans : (version : ℕ) (template : Template) (octets : List ℕ) (scope others : List FieldSpec) (begin element : ℕ) → scope ≡ take (skipped version template) template.fields
    → others ≡ drop (skipped version template) template.fields → begin ≡ end_of_all version scope octets 0
    → span_in version element others octets begin ≡ span_at version template octets element
whole_spans version template octets scope others begin element front back at = rw (back, at, front) refl

pub if_some : {A B : Type 0} (result : Option ℕ) → IfSome result (λ _. A) → (A → B) → IfSome result (λ _. B)
if_some None a f = tt
if_some (Some used) a f = f a
