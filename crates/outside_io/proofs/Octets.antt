-- On octets that are taken or written a piece at a time, told or not.
use Rattle.std.proofs.Common.{◌≡◌, ◌≤◌, ℕ, ◌+◌, List, [], ◌++◌, take, drop, length, Option, Some, None, refl, ap, sym, ◌∙◌, append_assoc, arith}
use Rattle.std.specs.Io.KnownBytes.{prepend_known, append_known, Appends, Keeps}
use Rattle.std.proofs.lemmas.Grind.{common_steps}
use Rattle.std.proofs.lemmas.List.{take_at, length-take-le, drop-drop, take-append-drop}
use Rattle.outside_io.specs.Octets.{Takes, WritesFront}

pub append_known-append_known : (old : Option (List ℕ)) (first next : List ℕ) → append_known (append_known old first) next ≡ append_known old (first ++ next)
append_known-append_known None first next = refl
append_known-append_known (Some octets) first next = ap Some (append_assoc octets first next)

pub append_known-nil : (old : Option (List ℕ)) → append_known old [] ≡ old
append_known-nil None = refl
append_known-nil (Some octets) = ap Some (grind (arith, common_steps))

pub prepend_known-nil : (new : Option (List ℕ)) → prepend_known [] new ≡ new
prepend_known-nil None = refl
prepend_known-nil (Some octets) = refl

pub prepend_known-append : (first next : List ℕ) (new : Option (List ℕ)) → prepend_known (first ++ next) new ≡ prepend_known first (prepend_known next new)
prepend_known-append first next None = refl
prepend_known-append first next (Some octets) = ap Some (append_assoc first next octets)

-- nothing was taken
pub Takes-nil : (old : Option (List ℕ)) → Takes old [] old
Takes-nil old = prepend_known-nil old

-- what was taken first, and then what was taken next
pub Takes-append : (old between new : Option (List ℕ)) (first next : List ℕ) → Takes old first between → Takes between next new → Takes old (first ++ next) new
Takes-append old between new first next so_far more = prepend_known-append first next new ∙ ap (prepend_known first) more ∙ so_far

-- a piece that is the front of what is left, taken from a list at this place
pub Takes-front : (octets piece left rest : List ℕ) (at n : ℕ) → left ≡ drop at octets → piece ≡ take n left → n ≤ length left → Takes (Some (drop at octets)) (take n (piece ++ rest)) (Some (drop (at + n) octets))
Takes-front octets piece left rest at n is_left is_piece short =
    ap Some (
    ap (λ x. x ++ drop (at + n) octets) (take_at piece rest n (ap length is_piece ∙ length-take-le n left short) ∙ is_piece ∙ ap (take n) is_left)
    ∙ ap (λ x. take n (drop at octets) ++ x) (sym (drop-drop n at octets))
    ∙ take-append-drop n (drop at octets)
    )

-- a write of octets of which the rest is still to be written
pub record IsWritten (old now : Option (List ℕ)) (octets rest : List ℕ) : Type 0 where
  pub done : List ℕ
  pub splits : octets ≡ done ++ rest
  pub held : now ≡ append_known old done

pub IsWritten-start : (old : Option (List ℕ)) (octets : List ℕ) → IsWritten old old octets octets
IsWritten-start old octets = record { done = []; splits = refl; held = sym (append_known-nil old) }

pub IsWritten-more : (old now new : Option (List ℕ)) (octets rest : List ℕ) (n : ℕ) → IsWritten old now octets rest → new ≡ append_known now (take n rest) → IsWritten old new octets (drop n rest)
IsWritten-more old now new octets rest n so_far more =
    record {
      done = so_far.done ++ take n rest;
      splits = so_far.splits ∙ ap (λ x. so_far.done ++ x) (sym (take-append-drop n rest)) ∙ sym (append_assoc so_far.done (take n rest) (drop n rest));
      held = more ∙ ap (λ o. append_known o (take n rest)) so_far.held ∙ append_known-append_known old so_far.done (take n rest);
    }

pub IsWritten-all : (old now : Option (List ℕ)) (octets rest : List ℕ) → IsWritten old now octets rest → length rest ≡ 0 → now ≡ append_known old octets
IsWritten-all old now octets rest so_far none =
    so_far.held ∙ ap (append_known old) (let all : so_far.done ≡ octets = grind (arith, common_steps, so_far.splits) in all)

-- nothing was written
pub WritesFront-nil : (old : Option (List ℕ)) (octets : List ℕ) → WritesFront old old octets
WritesFront-nil old octets = record { front = []; rest = octets; splits = refl; held = sym (append_known-nil old) }

-- what was written so far, and then a front of the rest
pub WritesFront-more : (old now new : Option (List ℕ)) (octets rest : List ℕ) → IsWritten old now octets rest → WritesFront now new rest → WritesFront old new octets
WritesFront-more old now new octets rest so_far more =
    record {
      front = so_far.done ++ more.front;
      rest = more.rest;
      splits = so_far.splits ∙ ap (λ x. so_far.done ++ x) more.splits ∙ sym (append_assoc so_far.done more.front more.rest);
      held = more.held ∙ ap (λ o. append_known o more.front) so_far.held ∙ append_known-append_known old so_far.done more.front;
    }

-- a write of no octet keeps what is held
pub nothing_kept : (old new : Option (List ℕ)) (piece : List ℕ) (n : ℕ) → n ≡ 0 → Appends old new (take n piece) → Keeps old new
nothing_kept None new piece n none added = tt
nothing_kept (Some xs) None piece n none added = added
nothing_kept (Some xs) (Some ys) piece n none added = added ∙ grind (arith, common_steps, none)
