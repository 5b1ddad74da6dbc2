-- What an input tells over calls, with one more.
use Rattle.std.proofs.Common.{◌≡◌, ◌∙◌, ◌∷◌, ◌++◌, [], ℕ, Bool, List, Option, Some, None, refl, sym, ap, arith, inr, reverse, subst}
use Rattle.std.specs.Prelude.{Result, Ok, Err, IfErr, IfOk, IsTrue, MatchBool, false, true}
use Rattle.std.proofs.lemmas.List.{append-nil, reverse-append}
use Rattle.acct_types.specs.declared.datagram.Datagram.{Datagram}
use Rattle.outside_io.specs.Calls.{OneCallMore, handed_out}
use Rattle.outside_io.specs.Inputs.{EndsAs, HasInputCause, append_told, given, is_of_capture, prepend_told, EndsHere}
use Rattle.outside_io.specs.Spans.{HandsOut, NothingInNoTime, SpansJoin}
use Rattle.outside_io.specs.declared.input_fault.InputFault.{InputFault}
use Rattle.outside_io.specs.declared.input_fault.InputFault.TheVariants.{ReadFault}
use Rattle.outside_io.specs.declared.ends.SideEnd.{SideEnd}
use Rattle.outside_io.specs.declared.ends.SideEnd.TheVariants.{Ended, TooMany}
use Rattle.outside_io.specs.declared.ends.Which.{Which}
use Rattle.outside_io.specs.declared.ends.Which.TheVariants.{Records, Messages, Octets}
use Rattle.plugin_work.specs.Plugins.{PluginState}
use Rattle.outside_io.specs.States.{SinkState}
use Rattle.collect_core.specs.declared.collector.Core.{Core}
use Rattle.collect_core.specs.declared.job.Job.{Job}
use Rattle.collect_core.specs.declared.log.Log.{Log}
use Rattle.collect_core.specs.Ends.{Answer, EndsFlows, EndsPlugin, ForEachPlugin}
use Rattle.collect_core.specs.Flows.{AreWithin, flows_in}
use Rattle.collect_core.specs.Most.{Most}
use Rattle.config_keys.specs.declared.plugin.PluginConfig.{PluginConfig}
use Rattle.collect_core.specs.Course.{unrouted}
use Rattle.collect_core.specs.Due.{Entry, due, taken}
use Rattle.collect_core.specs.Run.{HasInputEnd, IsRun, RunEnding}
use Rattle.collect_core.proofs.CourseLemmas.{all_taken}
use Rattle.outside_io.specs.States.{InputState}
use Rattle.collect_core.specs.Running.{GoesOn, HasAnswered, HasEnded, HasRun, HasTakenAll, PassesLimit}
use Rattle.collect_core.proofs.FlowLemmas.{within_limits}
use Rattle.collect_core.proofs.WrittenLemmas.{rose_later}

-- what an input tells of one call
pub record Tells (before after : InputState Datagram) (answer : Answer) : Type 0 where
  pub left : prepend_told (given answer) after.left ≡ before.left
  pub handed : after.handed ≡ append_told before.handed (given answer)
  pub ends : EndsAs before.left before.ending answer
  pub ending : after.ending ≡ before.ending
  pub ended : answer ≡ Ok None → IsTrue after.ended
  pub cause : HasInputCause before.faults after.faults answer
  pub of_capture : IfErr answer (λ fault. IsTrue (is_of_capture fault) → IsTrue before.captured)
  pub captured : after.captured ≡ before.captured

-- an answer that none is left ends the input
pub says_ended : (before now : Bool) (answer : Answer) → answer ≡ Ok None → EndsHere before now answer → IsTrue now
says_ended before now answer is ends = subst (λ (a : Answer). EndsHere before now a) is ends

-- no call
pub none_answered : {F : Type 0} → NothingInNoTime Datagram → (Call : F → F → Answer → Type 0) (input : F) (told : InputState Datagram) → HasAnswered Call input input told told []
none_answered none Call input told = record {
  calls = refl;
  hands_out = none told.left told.handed;
  ending = refl;
  later = omega arith;
  captured = refl;
}

-- one call more
pub answered_more : {F : Type 0} → SpansJoin Datagram → (Call : F → F → Answer → Type 0) → OneCallMore Call → (before between after : F) (told_before told_between told_after : InputState Datagram) (answers : List Answer) (answer : Answer)
    → HasAnswered Call before between told_before told_between answers → Call between after answer → Tells told_between told_after answer
    → HasAnswered Call before after told_before told_after (answers ++ answer ∷ [])
answered_more join Call one before between after told_before told_between told_after answers answer had call tells = record {
  calls = one.calls before between after answers answer had.calls call;
  hands_out = subst (λ (events : List Datagram). HandsOut told_before.left told_before.handed events told_after.left told_after.handed) (sym (one.events answers answer))
      (join told_before.left told_before.handed told_between.left told_between.handed told_after.left told_after.handed (handed_out answers) (given answer) had.hands_out
      (record { left = tells.left; handed = tells.handed }));
  ending = tells.ending ∙ had.ending;
  later = omega (arith, had.later, tells.cause.later);
  captured = tells.captured ∙ had.captured;
}

-- ---- the last answer

one_last : (front answers : List Answer) (last answer : Answer) → answers ++ answer ∷ [] ≡ front ++ last ∷ [] → answer ≡ last
one_last front answers last answer is =
    let same : answer ∷ reverse answers ≡ last ∷ reverse front = sym (reverse-append answers (answer ∷ [])) ∙ ap reverse is ∙ reverse-append front (last ∷ []) in
    cc

left_still : (left : Option (List Datagram)) → prepend_told [] left ≡ left
left_still None = refl
left_still (Some events) = refl

-- what a call says of the end holds after it
ends_after : (before after : InputState Datagram) (answer : Answer) → Tells before after answer → EndsAs after.left after.ending answer
ends_after before after (Ok (Some d)) tells = tt
ends_after before after (Ok None) tells =
    subst (λ (ending : Option InputFault). EndsAs after.left ending (Ok None)) (sym tells.ending)
    (subst (λ (left : Option (List Datagram)). EndsAs left before.ending (Ok None)) (sym tells.left ∙ left_still after.left) tells.ends)
ends_after before after (Err fault) tells =
    subst (λ (ending : Option InputFault). EndsAs after.left ending (Err fault)) (sym tells.ending)
    (subst (λ (left : Option (List Datagram)). EndsAs left before.ending (Err fault)) (sym tells.left ∙ left_still after.left) tells.ends)

-- why an input gave no more, by its last answer
pub has_cause : {F : Type 0} → (Call : F → F → Answer → Type 0) (before between : F) (told_before told_between told_after : InputState Datagram) (answers : List Answer) (answer : Answer)
    → HasAnswered Call before between told_before told_between answers → Tells told_between told_after answer → HasInputEnd told_before told_after (answers ++ answer ∷ [])
has_cause Call before between told_before told_between told_after answers answer had tells = record {
  ends = λ last is. subst (λ (a : Answer). EndsAs told_after.left told_after.ending a) (one_last is.0 answers last answer is.1) (ends_after told_between told_after answer tells);
  ending = tells.ending ∙ had.ending;
  ended = λ is. tells.ended (one_last is.0 answers (Ok None) answer is.1);
  later = omega (arith, had.later, tells.cause.later);
  failed = λ is. rose_later told_before.faults told_between.faults told_after.faults had.later (tells.cause.failed (one_last is.0 answers (Err ReadFault) answer is.1));
  of_capture = λ fault is of.
      subst (λ (captured : Bool). IsTrue captured) had.captured
      (of_fault fault (one_last is.0 answers (Err fault) answer is.1) of);
}
  where
    of_fault : (fault : InputFault) → answer ≡ Err fault → IsTrue (is_of_capture fault) → IsTrue told_between.captured
    of_fault fault is = subst (λ (a : Answer). IfErr a (λ f. IsTrue (is_of_capture f) → IsTrue told_between.captured)) is tells.of_capture

-- ---- how a run of calls ends

-- what was handed out with a datagram more
pub handed_more : {F : Type 0} (Call : F → F → Answer → Type 0) → OneCallMore Call → (answers : List Answer) (answer : Answer) (d : Datagram) → answer ≡ Ok (Some d)
    → handed_out answers ++ d ∷ [] ≡ handed_out (answers ++ answer ∷ [])
handed_more Call one answers answer d is =
    sym (one.events answers answer ∙ ap (λ (a : Answer). handed_out answers ++ given a) is)

-- what was handed out with no datagram more
pub handed_no_more : {F : Type 0} (Call : F → F → Answer → Type 0) → OneCallMore Call → (answers : List Answer) (answer : Answer) → given answer ≡ [] → handed_out answers ≡ handed_out (answers ++ answer ∷ [])
handed_no_more Call one answers answer none =
    sym (one.events answers answer ∙ ap (λ (events : List Datagram). handed_out answers ++ events) none ∙ append-nil (handed_out answers))

-- the flow side ends by the limit that the last datagram passes
pub ends_by_limit : (job : Job) (most : Most) (answers : List Answer) (which : Which) → PassesLimit job most (handed_out answers) which → EndsFlows job most answers (TooMany which)
ends_by_limit job most answers Octets passes = inr passes
ends_by_limit job most answers Records passes = passes
ends_by_limit job most answers Messages passes = passes

-- all was taken, with the last answer
pub taken_all : {F : Type 0} → SpansJoin Datagram → (Call : F → F → Answer → Type 0) → OneCallMore Call → (before between after : F) (told_before told_between told_after : InputState Datagram) (answers : List Answer) (answer : Answer)
    → HasAnswered Call before between told_before told_between answers → Call between after answer → Tells told_between told_after answer
    → (job : Job) (most : Most) (starts : List SinkState) (start : SinkState) (collector : Core) (plugins : List PluginState) (log : Log) (audit : SinkState) (by : SideEnd)
    → EndsFlows job most (answers ++ answer ∷ []) by → HasRun job most starts start (flows_in job most (handed_out (answers ++ answer ∷ []))) collector plugins log audit
    → HasTakenAll job most Call before after told_before told_after starts start collector plugins log audit by
taken_all join Call one before between after told_before told_between told_after answers answer had call tells job most starts start collector plugins log audit by ends run =
    let all = answered_more join Call one before between after told_before told_between told_after answers answer had call tells in
    record {
      answers = answers ++ answer ∷ [];
      calls = all.calls;
      hands_out = all.hands_out;
      cause = has_cause Call before between told_before told_between told_after answers answer had tells;
      ends = ends;
      run = run;
    }

-- all was taken, where the last answer hands out nothing
pub taken_to_end : {F : Type 0} → SpansJoin Datagram → (Call : F → F → Answer → Type 0) → OneCallMore Call → (before between after : F) (told_before told_between told_after : InputState Datagram) (answers : List Answer) (answer : Answer)
    → HasAnswered Call before between told_before told_between answers → Call between after answer → Tells told_between told_after answer → given answer ≡ []
    → (job : Job) (most : Most) (starts : List SinkState) (start : SinkState) (collector : Core) (plugins : List PluginState) (log : Log) (audit : SinkState) (left : ℕ) (by : SideEnd)
    → GoesOn job most starts start (handed_out answers) collector plugins log audit left → EndsFlows job most (answers ++ answer ∷ []) by
    → HasTakenAll job most Call before after told_before told_after starts start collector plugins log audit by
taken_to_end join Call one before between after told_before told_between told_after answers answer had call tells none job most starts start collector plugins log audit left by on ends =
    taken_all join Call one before between after told_before told_between told_after answers answer had call tells job most starts start collector plugins log audit by ends
    (subst (λ (flows : List Datagram). HasRun job most starts start flows collector plugins log audit) flows on.run)
  where
    flows : handed_out answers ≡ flows_in job most (handed_out (answers ++ answer ∷ []))
    flows = sym (within_limits job most (handed_out answers) on.within) ∙ ap (flows_in job most) (handed_no_more Call one answers answer none)

-- those handed out by the last answer too are within the limits
pub still_within : {F : Type 0} (Call : F → F → Answer → Type 0) → OneCallMore Call → (job : Job) (most : Most) (answers : List Answer) (answer : Answer) → given answer ≡ [] → AreWithin job most (handed_out answers)
    → AreWithin job most (handed_out (answers ++ answer ∷ []))
still_within Call one job most answers answer none within = subst (λ (handed : List Datagram). AreWithin job most handed) (handed_no_more Call one answers answer none) within

-- what follows of an answer of which three things are known
pub if_ok_three : {X E : Type 0} (P Q R S : X → Type 0) (result : Result X E) → ((x : X) → P x → Q x → R x → S x) → IfOk result P → IfOk result Q → IfOk result R → IfOk result S
if_ok_three P Q R S (Ok x) follows p q r = follows x p q r
if_ok_three P Q R S (Err e) follows p q r = p

-- all was taken, and then the outputs came to their ends
pub is_run : {F : Type 0} (job : Job) (most : Most) (Call : F → F → Answer → Type 0) (state : F → InputState Datagram) (before after : F) (starts : List SinkState) (audit_before audit_after : SinkState)
    (collector : Core) (states : List PluginState) (log : Log) (audit : SinkState) (by : SideEnd) (ending : RunEnding)
    → (run : HasTakenAll job most Call before after (state before) (state after) starts audit_before collector states log audit by) → ending.flow ≡ by → ending.route ≡ Ended
    → HasEnded job most starts audit_before (flows_in job most (handed_out run.answers)) ending.plugins ending.audit audit_after ending.totals
    → IsRun job most unrouted Call state before after starts audit_before audit_after ending
is_run job most Call state before after starts audit_before audit_after collector states log audit by ending run flow route ended = record {
  answers = run.answers;
  calls = run.calls;
  hands_out = run.hands_out;
  cause = run.cause;
  flow = subst (λ (side : SideEnd). EndsFlows job most run.answers side) (sym flow) run.ends;
  route = route;
  plugins = subst (λ (entries : PluginConfig → List Entry). ForEachPlugin (λ plugin start plugin_ending. EndsPlugin plugin (entries plugin) start plugin_ending) job.config.plugins starts ending.plugins)
      all_are_taken ended.plugins_end;
  plugins_in_memory = ended.plugins_in_memory;
  audit = ended.audit_written;
  audit_in_memory = ended.audit_in_memory;
  totals = ended.totals_are;
}
  where
    entries_due : PluginConfig → List Entry
    entries_due plugin = due job most unrouted plugin (flows_in job most (handed_out run.answers))

    all_are_taken : entries_due ≡ (λ (plugin : PluginConfig). taken unrouted plugin (entries_due plugin))
    all_are_taken = λ i plugin. sym (all_taken plugin (entries_due plugin)) i

-- what holds where a test says yes, and where it says no
pub on_yes : (P Q : Type 0) (test : Bool) → test ≡ true → MatchBool test P Q → P
on_yes P Q true is holds = holds
on_yes P Q false is holds = absurd (cc is)

pub on_no : (P Q : Type 0) (test : Bool) → test ≡ false → MatchBool test P Q → Q
on_no P Q true is holds = absurd (cc is)
on_no P Q false is holds = holds
