-- Where fields end.
use Rattle.std.proofs.Common.{◌≡◌, ◌<◌, ◌≤◌, ◌+◌, ◌∷◌, [], ℕ, List, drop, length, arith}
use Rattle.std.proofs.Math.ListN.{get_or}
use Rattle.std.proofs.lemmas.List.{at_drop_more}
use Rattle.flow_templates.specs.declared.template.FieldSpec.{FieldSpec}
use Rattle.flow_sets.specs.Fields.{end_of, end_of_all}

-- fields end behind where they begin
pub ends_behind : (version : ℕ) (fields : List FieldSpec) (octets : List ℕ) (place : ℕ) → place ≤ end_of_all version fields octets place
ends_behind version [] octets place = omega arith
ends_behind version (field ∷ fields) octets place =
    let rest = ends_behind version fields octets (end_of version field octets place) in
    omega (arith, rest)

-- where one of the fields passes the end, all of them do
pub passes : (version : ℕ) (fields : List FieldSpec) (octets : List ℕ) (end whole i : ℕ) (d : FieldSpec) → i < length fields
    → end_of_all version (drop i fields) octets end ≡ whole → length octets < end_of version (get_or fields i d) octets end → length octets < whole
passes version fields octets end whole i d h all past =
    let next = at_drop_more (λ (fields : List FieldSpec). end_of_all version fields octets end) fields i d h in
    let rest = ends_behind version (drop (i + 1) fields) octets (end_of version (get_or fields i d) octets end) in
    omega (arith, next, all, rest, past)
