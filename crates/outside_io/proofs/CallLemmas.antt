-- On the calls of an input, one after another.
use Rattle.std.proofs.Common.{List, [], ◌∷◌, ◌++◌, flat_map, Option, Result, refl, ap, subst, ◌∙◌, append-nil}
use Rattle.std.proofs.lemmas.Grind.{flat_map-append}
use Rattle.outside_io.specs.Inputs.{given}
use Rattle.outside_io.specs.Calls.{Calls, CallsJoin, OneCallMore}
use Rattle.outside_io.specs.declared.input_fault.InputFault.{InputFault}

join : {I T : Type 0} (Call : I → I → Result (Option T) InputFault → Type 0) (before between after : I) (first next : List (Result (Option T) InputFault))
    → Calls Call before between first → Calls Call between after next → Calls Call before after (first ++ next)
join {I = I} Call before between after [] next none calls = subst (λ (input : I). Calls Call input after next) none calls
join Call before between after (answer ∷ first) next (there, call, rest) calls = (there, call, join Call there between after first next rest calls)

pub calls_join : {I T : Type 0} (Call : I → I → Result (Option T) InputFault → Type 0) → CallsJoin Call
calls_join Call = record { calls = join Call; events = flat_map-append given }

pub one_call_more : {I T : Type 0} (Call : I → I → Result (Option T) InputFault → Type 0) → OneCallMore Call
one_call_more Call = record {
  calls = λ before between after answers answer so_far call. join Call before between after answers (answer ∷ []) so_far (after, call, refl);
  events = λ answers answer. flat_map-append given answers (answer ∷ []) ∙ ap (λ events. flat_map given answers ++ events) (append-nil (given answer));
}
