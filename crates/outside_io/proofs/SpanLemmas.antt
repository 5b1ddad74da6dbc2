-- On the events that an input hands out between two moments.
use Rattle.std.proofs.Common.{◌≡◌, inl, inr, List, [], ◌++◌, Option, Some, None, IsSome, refl, ap, sym, ◌∙◌, append_assoc, arith}
use Rattle.std.proofs.lemmas.Grind.{common_steps}
use Rattle.std.proofs.lemmas.List.{append_cancel_left, append_cancel_right}
use Rattle.outside_io.specs.Inputs.{prepend_told, append_told}
use Rattle.outside_io.specs.Spans.{NothingInNoTime, SpansJoin, SpansAreUnique}

append_told-nil : {T : Type 0} (told : Option (List T)) → append_told told [] ≡ told
append_told-nil None = refl
append_told-nil (Some events) = ap Some (grind (arith, common_steps))

prepend_told-nil : {T : Type 0} (told : Option (List T)) → prepend_told [] told ≡ told
prepend_told-nil None = refl
prepend_told-nil (Some events) = refl

append_told-append : {T : Type 0} (told : Option (List T)) (first next : List T) → append_told (append_told told first) next ≡ append_told told (first ++ next)
append_told-append None first next = refl
append_told-append (Some events) first next = ap Some (append_assoc events first next)

prepend_told-append : {T : Type 0} (first next : List T) (told : Option (List T)) → prepend_told (first ++ next) told ≡ prepend_told first (prepend_told next told)
prepend_told-append first next None = refl
prepend_told-append first next (Some events) = ap Some (append_assoc first next events)

pub nothing_in_no_time : {T : Type 0} → NothingInNoTime T
nothing_in_no_time left handed = record { left = prepend_told-nil left; handed = sym (append_told-nil handed) }

pub spans_join : {T : Type 0} → SpansJoin T
spans_join left_first handed_first left_between handed_between left_last handed_last earlier later first second =
    record {
      left = prepend_told-append earlier later left_last ∙ ap (prepend_told earlier) second.left ∙ first.left;
      handed = second.handed ∙ ap (λ told. append_told told later) first.handed ∙ append_told-append handed_first earlier later;
    }

prepend_told-cancel : {T : Type 0} (one other : List T) (now then : Option (List T)) → IsSome then → prepend_told one now ≡ then → prepend_told other now ≡ then → one ≡ other
prepend_told-cancel one other None None told first second = cc
prepend_told-cancel one other None (Some before) told first second = cc
prepend_told-cancel one other (Some after) then told first second =
    let same : one ++ after ≡ other ++ after = cc in append_cancel_right one other after same

append_told-cancel : {T : Type 0} (one other : List T) (then now : Option (List T)) → IsSome then → now ≡ append_told then one → now ≡ append_told then other → one ≡ other
append_told-cancel one other None now told first second = cc
append_told-cancel one other (Some before) now told first second =
    let same : before ++ one ≡ before ++ other = cc in append_cancel_left before one other same

pub spans_are_unique : {T : Type 0} → SpansAreUnique T
spans_are_unique left_then handed_then left_now handed_now one other (inl told) first second =
    prepend_told-cancel one other left_now left_then told first.left second.left
spans_are_unique left_then handed_then left_now handed_now one other (inr told) first second =
    append_told-cancel one other handed_then handed_now told first.handed second.handed
