-- On the value of a name.
use Rattle.std.proofs.Common.{◌≡◌, ◌≢◌, ◌≤◌, ◌-◌, ℕ, List, [], ◌∷◌, ◌++◌, ◌<◌, ◌+◌, suc, set, add-one, get_or, true, false, Option, Some, refl, ap, sym, ◌∙◌, arith, cond, length, take, length-append, append-nil}
use Rattle.std.specs.Str.{bytes_eq}
use Rattle.std.proofs.lemmas.Slice.Eq.{bytes_eq-Decides}
use Rattle.outside_io.specs.declared.named.Named.{Named}
use Rattle.outside_io.specs.Named.{value_of, values_of, place_of, PutsNamed}
use Rattle.outside_io.specs.Names.{Puts}
use Rattle.std.proofs.lemmas.List.{take_at}
use Rattle.std.proofs.lemmas.Grind.{common_steps}

pub same_name : (name : List ℕ) → bytes_eq name name ≡ true
same_name name = (bytes_eq-Decides name name).1 refl

pub other_name : (name other : List ℕ) → other ≢ name → bytes_eq name other ≡ false
other_name name other ne = elim (bytes_eq name other) as (λ b. bytes_eq name other ≡ b → b ≡ false) [ true ↦ λ e. absurd (ne (sym ((bytes_eq-Decides name other).0 e))) | false ↦ λ e. refl ] refl

-- another value at the place of the name is its value
value_of-set_same : {T : Type 0} (items : List (Named T)) (item : Named T) (name : List ℕ) (place : ℕ) → place ≡ place_of items name → place < length items → bytes_eq item.name name ≡ true → value_of (set items place item) name ≡ Some item.value
value_of-set_same [] item name place at within same = absurd (omega arith)
value_of-set_same (x ∷ xs) item name place at within same =
    elim (bytes_eq x.name name) as (λ b. bytes_eq x.name name ≡ b → value_of (set (x ∷ xs) place item) name ≡ Some item.value) [
      | true ↦ λ hit. let first : place ≡ 0 = at ∙ ap (λ b. cond b 0 (place_of xs name + 1)) hit in rw first (rw same refl)
      | false ↦ λ miss.
          let later : place ≡ suc (place_of xs name) = at ∙ ap (λ b. cond b 0 (place_of xs name + 1)) miss ∙ add-one (place_of xs name) in
          let short : place_of xs name < length xs = omega arith in
          rw later (rw miss (value_of-set_same xs item name (place_of xs name) refl short same))
    ] refl

-- and no other name's
value_of-set_other : {T : Type 0} (items : List (Named T)) (item : Named T) (name other : List ℕ) (place : ℕ) → place ≡ place_of items name → place < length items → bytes_eq item.name other ≡ false → other ≢ name → value_of (set items place item) other ≡ value_of items other
value_of-set_other [] item name other place at within apart differ = refl
value_of-set_other (x ∷ xs) item name other place at within apart differ =
    elim (bytes_eq x.name name) as (λ b. bytes_eq x.name name ≡ b → value_of (set (x ∷ xs) place item) other ≡ value_of (x ∷ xs) other) [
      | true ↦ λ hit.
          let first : place ≡ 0 = at ∙ ap (λ b. cond b 0 (place_of xs name + 1)) hit in
          let is_name : x.name ≡ name = (bytes_eq-Decides x.name name).0 hit in
          let passed : bytes_eq x.name other ≡ false = ap (λ n. bytes_eq n other) is_name ∙ other_name name other differ in
          rw first (rw (apart, passed) refl)
      | false ↦ λ miss.
          let later : place ≡ suc (place_of xs name) = at ∙ ap (λ b. cond b 0 (place_of xs name + 1)) miss ∙ add-one (place_of xs name) in
          let short : place_of xs name < length xs = omega arith in
          rw later (ap (cond (bytes_eq x.name other) (Some x.value)) (value_of-set_other xs item name other (place_of xs name) refl short apart differ))
    ] refl

-- a value behind the others is that of a name that had none
value_of-push_same : {T : Type 0} (items : List (Named T)) (item : Named T) (name : List ℕ) → length items ≤ place_of items name → bytes_eq item.name name ≡ true → value_of (items ++ item ∷ []) name ≡ Some item.value
value_of-push_same [] item name none same = rw same refl
value_of-push_same (x ∷ xs) item name none same =
    elim (bytes_eq x.name name) as (λ b. bytes_eq x.name name ≡ b → value_of ((x ∷ xs) ++ item ∷ []) name ≡ Some item.value) [
      | true ↦ λ hit. let first : place_of (x ∷ xs) name ≡ 0 = ap (λ b. cond b 0 (place_of xs name + 1)) hit in absurd (omega (arith, first))
      | false ↦ λ miss.
          let later : place_of (x ∷ xs) name ≡ place_of xs name + 1 = ap (λ b. cond b 0 (place_of xs name + 1)) miss in
          let past : length xs ≤ place_of xs name = omega (arith, later) in
          rw miss (value_of-push_same xs item name past same)
    ] refl

value_of-push_other : {T : Type 0} (items : List (Named T)) (item : Named T) (other : List ℕ) → bytes_eq item.name other ≡ false → value_of (items ++ item ∷ []) other ≡ value_of items other
value_of-push_other [] item other apart = rw apart refl
value_of-push_other (x ∷ xs) item other apart = ap (cond (bytes_eq x.name other) (Some x.value)) (value_of-push_other xs item other apart)

-- the place of a name is that of a value with this name
name_at_place : {T : Type 0} (items : List (Named T)) (name : List ℕ) (place : ℕ) (default : Named T) → place ≡ place_of items name → place < length items → (get_or items place default).name ≡ name
name_at_place [] name place default at within = absurd (omega arith)
name_at_place (x ∷ xs) name place default at within =
    elim (bytes_eq x.name name) as (λ b. bytes_eq x.name name ≡ b → (get_or (x ∷ xs) place default).name ≡ name) [
      | true ↦ λ hit. let first : place ≡ 0 = at ∙ ap (λ b. cond b 0 (place_of xs name + 1)) hit in rw first ((bytes_eq-Decides x.name name).0 hit)
      | false ↦ λ miss.
          let later : place ≡ suc (place_of xs name) = at ∙ ap (λ b. cond b 0 (place_of xs name + 1)) miss ∙ add-one (place_of xs name) in
          let short : place_of xs name < length xs = omega arith in
          rw later (name_at_place xs name (place_of xs name) default refl short)
    ] refl

-- the value at the place of the name is written
pub PutsNamed-set : {T : Type 0} (old new : List (Named T)) (item : Named T) (name : List ℕ) (value : T) (place : ℕ) → place ≡ place_of old name → place < length old → item ≡ get_or old place item → new ≡ set old place (record item { value = value }) → PutsNamed old new name value
PutsNamed-set old new item name value place at within found e =
    let is_name : item.name ≡ name = ap (λ x. x.name) found ∙ name_at_place old name place item at within in
    let same : bytes_eq item.name name ≡ true = ap (λ n. bytes_eq n name) is_name ∙ same_name name in
    record {
      here = ap (λ items. value_of items name) e ∙ value_of-set_same old (record item { value = value }) name place at within same;
      others = λ other differ. ap (λ items. value_of items other) e ∙ value_of-set_other old (record item { value = value }) name other place at within (ap (λ n. bytes_eq n other) is_name ∙ other_name name other differ) differ;
    }

-- a name that had no value gets one
pub PutsNamed-push : {T : Type 0} (old new : List (Named T)) (kept name : List ℕ) (value : T) → kept ≡ name → length old ≤ place_of old name → new ≡ old ++ record { name = kept; value = value } ∷ [] → PutsNamed old new name value
PutsNamed-push old new kept name value same none e = record {
  here = ap (λ items. value_of items name) e ∙ value_of-push_same old (record { name = kept; value = value }) name none (ap (λ n. bytes_eq n name) same ∙ same_name name);
  others = λ other differ. ap (λ items. value_of items other) e ∙ value_of-push_other old (record { name = kept; value = value }) other (ap (λ n. bytes_eq n other) same ∙ other_name name other differ);
}

values_of-push : {T : Type 0} (items : List (Named T)) (item : Named T) (name : List ℕ) → values_of (items ++ item ∷ []) name ≡ values_of items name ++ values_of (item ∷ []) name
values_of-push [] item name = refl
values_of-push (x ∷ xs) item name =
    elim (bytes_eq x.name name) as (λ b. cond b (x.value ∷ values_of (xs ++ item ∷ []) name) (values_of (xs ++ item ∷ []) name) ≡ cond b (x.value ∷ values_of xs name) (values_of xs name) ++ values_of (item ∷ []) name) [
      | true ↦ ap (λ values. x.value ∷ values) (values_of-push xs item name)
      | false ↦ values_of-push xs item name
    ]

-- the name has one value more, behind those that it had
pub Puts-push : (old new : List (Named (List ℕ))) (kept name value wanted : List ℕ) → kept ≡ name → value ≡ wanted → new ≡ old ++ record { name = kept; value = value } ∷ [] → Puts (values_of old) (values_of new) name (values_of old name ++ wanted ∷ [])
Puts-push old new kept name value wanted same is e =
    let item : Named (List ℕ) = record { name = kept; value = value } in
    record {
      here = ap (λ items. values_of items name) e ∙ values_of-push old item name ∙ ap (λ values. values_of old name ++ values)
          (ap (λ b. cond b (value ∷ []) []) (ap (λ n. bytes_eq n name) same ∙ same_name name) ∙ ap (λ v. v ∷ []) is);
      others = λ other differ. ap (λ items. values_of items other) e ∙ values_of-push old item other ∙ ap (λ values. values_of old other ++ values)
          (ap (λ b. cond b (value ∷ []) []) (ap (λ n. bytes_eq n other) same ∙ other_name name other differ)) ∙ append-nil (values_of old other);
    }

-- nothing is written to the name behind what it starts with
pub Puts-start : {old new : List (Named (List ℕ))} {name value : List ℕ} (start : List ℕ) → value ≡ start → PutsNamed old new name value → Puts (value_of old) (value_of new) name (Some (start ++ []))
Puts-start start same puts = record { here = puts.here ∙ ap Some (same ∙ grind (arith, common_steps)); others = puts.others }

-- the octets before the end of a list are those that were taken
pub taken_front : (all before left value : List ℕ) (n : ℕ) (found : Option (List ℕ)) → Some all ≡ found → Some (before ++ left) ≡ found → n ≡ length all - length left → value ≡ take n all → value ≡ before
taken_front all before left value n found is splits count front =
    let whole : all ≡ before ++ left = cc in
    let short : n ≡ length before = omega (arith, count, ap length whole, length-append before left) in
    front ∙ ap (take n) whole ∙ take_at before left n (sym short)
