-- Parameters and capabilities, one after another.
use Rattle.std.proofs.Common.{◌≡◌, ◌≤◌, ◌+◌, ◌∙◌, ◌∷◌, [], ℕ, false, true, List, length, take, drop, refl, sym, arith}
use Rattle.std.proofs.lemmas.Bool.Decides.{nat_tests}
use Rattle.std.specs.Prelude.{◌==◌, Bool, Option, Some, None, if◌then◌else◌, is_some, nat_lt, not, slice_index}
use Rattle.std.specs.Option.{option_or}
use Rattle.bgp_msg.specs.Items.{is_item_cut, item_kind, item_size, item_value, items}
use Rattle.bgp_msg.specs.Opens.{are_capabilities, parameter_fault, parameters_fault, tell_some}
use Rattle.bgp_msg.specs.Frames.{fault}
use Rattle.bgp_msg.specs.declared.message.BgpFault.{BgpFault}
use Rattle.bgp_msg.proofs.PieceLemmas.{HasSize, pieces_end, pieces_next}

pub has_size : HasSize item_size
unfolding item_size
has_size octets = omega arith

pub parameters_end : (place : ℕ) (octets : List ℕ) → true ≡ (length octets == 0) → parameters_fault place (items octets) ≡ None
parameters_end place octets h = rw (pieces_end item_size octets h) refl

pub parameters_next : (place n : ℕ) (octets parameter rest : List ℕ) (all : Option BgpFault) → false ≡ (length octets == 0) → n ≡ item_size octets → parameter ≡ take n octets → rest ≡ drop n octets
    → parameter_fault place parameter ≡ None → parameters_fault place (items octets) ≡ all → parameters_fault (place + length parameter) (items rest) ≡ all
parameters_next place n octets parameter rest all h is front behind good kept =
    rw (pieces_next item_size n octets parameter rest has_size h is front behind, good) at kept

or_some : (first others : Option BgpFault) → is_some first ≡ true → option_or first others ≡ first
or_some None others h = absurd (cc)
or_some (Some fault) others h = refl

pub no_fault : (fault : Option BgpFault) → is_some fault ≡ false → fault ≡ None
no_fault None h = refl
no_fault (Some fault) h = absurd (cc)

pub parameters_found : (place n : ℕ) (octets parameter : List ℕ) (all : Option BgpFault) → false ≡ (length octets == 0) → n ≡ item_size octets → parameter ≡ take n octets
    → is_some (parameter_fault place parameter) ≡ true → parameters_fault place (items octets) ≡ all → parameter_fault place parameter ≡ all
parameters_found place n octets parameter all h is front bad kept =
    sym (or_some (parameter_fault place parameter) _ bad) ∙ (rw (pieces_next item_size n octets parameter (drop n octets) has_size h is front refl) at kept)

if_none : (test : Bool) (one : BgpFault) (others : Option BgpFault) → (if test then Some one else others) ≡ None → (test ≡ false) × (others ≡ None)
if_none true one others h = absurd (cc)
if_none false one others h = (refl, h)

not_false : (test : Bool) → not test ≡ false → test ≡ true
not_false true h = refl
not_false false h = absurd (cc)

-- a parameter without a fault isn't cut, and its capabilities are whole
pub good_parameter : (place : ℕ) (parameter : List ℕ) → parameter_fault place parameter ≡ None → (2 ≤ length parameter) × (are_capabilities (items (item_value parameter)) ≡ true)
unfolding parameter_fault item_size
good_parameter place parameter h =
    let whole = if_none (is_item_cut parameter) (fault 2 0 place) _ h in
    let kind = if_none (not (item_kind parameter == 2)) (fault 2 4 place) _ whole.1 in
    let good = if_none (not (are_capabilities (items (item_value parameter)))) (fault 2 0 place) _ kind.1 in
    let there : nat_lt (length parameter) (2 + slice_index parameter 1) ≡ false = whole.0 in
    (grind (arith, nat_tests, there), not_false (are_capabilities (items (item_value parameter))) good.0)

or_none : (first others : Option BgpFault) → option_or first others ≡ None → (first ≡ None) × (others ≡ None)
or_none None others h = (refl, h)
or_none (Some fault) others h = absurd (cc)

fault_anywhere : (place other : ℕ) (parameter : List ℕ) → parameter_fault place parameter ≡ None → parameter_fault other parameter ≡ None
unfolding parameter_fault
fault_anywhere place other parameter h =
    by (is_item_cut parameter) (not (item_kind parameter == 2)) (not (are_capabilities (items (item_value parameter)))) (not (tell_some (items (item_value parameter)))) h
  where
    by : (a b c d : Bool) → (if a then Some (fault 2 0 place) else (if b then Some (fault 2 4 place) else (if c then Some (fault 2 0 place) else (if d then Some (fault 2 2 place) else None)))) ≡ None
        → (if a then Some (fault 2 0 other) else (if b then Some (fault 2 4 other) else (if c then Some (fault 2 0 other) else (if d then Some (fault 2 2 other) else None)))) ≡ None
    by true b c d h = absurd (cc)
    by false true c d h = absurd (cc)
    by false false true d h = absurd (cc)
    by false false false true h = absurd (cc)
    by false false false false h = refl

-- the first is without a fault, and so are the others, wherever they stand
any_place : (place other : ℕ) (parameters : List (List ℕ)) → parameters_fault place parameters ≡ None → parameters_fault other parameters ≡ None
any_place place other [] h = refl
any_place place other (parameter ∷ others) h =
    let both = or_none (parameter_fault place parameter) _ h in
    rw (fault_anywhere place other parameter both.0) (any_place (place + length parameter) (other + length parameter) others both.1)

pub good_first : (n : ℕ) (octets parameter rest : List ℕ) → false ≡ (length octets == 0) → n ≡ item_size octets → parameter ≡ take n octets → rest ≡ drop n octets
    → parameters_fault 29 (items octets) ≡ None → (parameter_fault 29 parameter ≡ None) × (parameters_fault 29 (items rest) ≡ None)
good_first n octets parameter rest h is front behind good =
    let both = or_none (parameter_fault 29 parameter) _ (rw (pieces_next item_size n octets parameter rest has_size h is front behind) at good) in
    (both.0, any_place (29 + length parameter) 29 (items rest) both.1)
