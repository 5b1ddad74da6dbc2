use Rattle.std.proofs.Common.{◌≡◌, ◌++◌, ◌∷◌, [], List, Ok, None, Some, ap, subst}
use Rattle.std.proofs.lemmas.Result.{IfOk-weaker}
use Rattle.acct_types.specs.declared.datagram.Datagram.{Datagram}
use Rattle.outside_io.specs.Calls.{handed_out}
use Rattle.outside_io.specs.Inputs.{given}
use Rattle.collect_core.specs.Ends.{Answer}
use Rattle.collect_core.specs.Most.{most_in}
use Rattle.collect_core.specs.Running.{GoesOn, Stops}
use Rattle.collect_core.proofs.CallLemmas.{Tells, answered_more, ends_by_limit, handed_more, none_answered, says_ended, still_within, taken_all, taken_to_end}
use Rattle.collect_core.proofs.RunLemmas.{has_room}
use Rattle.collect_core.proofs.running.take_all.Goals as goal

pub loop-datagram-init : goal.loop-datagram-init
loop-datagram-init g c = record {
  answers = [];
  answered = none_answered c.nothing_is_handed_out_in_no_time.ensures g.F.Datagrams.call c.args.flows.now _;
  goes_on = λ starts on. on;
}

pub returns-in-Ok-None-clause-calls : goal.returns-in-Ok-None-clause-calls
returns-in-Ok-None-clause-calls g c =
    let so_far = c.loop-datagram.invariant in
    (so_far.answers ++ c.next.result ∷ [], c.calls_of_datagrams_join.ensures.one_more.calls c.args.flows.now c.loop-datagram.flows c.next.new.self so_far.answers c.next.result so_far.answered.calls c.next.ensures.call)

pub returns-in-Ok-None-clause-run : goal.returns-in-Ok-None-clause-run
returns-in-Ok-None-clause-run g c = λ starts on.
    let job = c.args.job.now in
    let most = most_in c.args.limits.now in
    let so_far = c.loop-datagram.invariant in
    let now = so_far.goes_on starts on in
    let is : c.next.result ≡ Ok None = cc (c.in-Ok-None.is, c.in-Ok-None.field-0-is) in
    let tells : Tells (g.F.Datagrams.state c.loop-datagram.flows)
    (g.F.Datagrams.state c.next.new.self) c.next.result = record {
      left = c.next.ensures.left;
      handed = c.next.ensures.handed;
      ends = c.next.ensures.ends;
      ending = c.next.ensures.ending;
      ended = λ is. says_ended _ _ c.next.result is c.next.ensures.ended;
      cause = c.next.ensures.cause;
      of_capture = c.next.ensures.of_capture;
      captured = c.next.ensures.captured;
    } in
    taken_to_end c.adjoining_spans_join.ensures g.F.Datagrams.call c.calls_of_datagrams_join.ensures.one_more c.args.flows.now c.loop-datagram.flows c.next.new.self _ _ _ so_far.answers c.next.result so_far.answered c.next.ensures.call tells (ap given is)
    job most starts _ _ _ _ _ c.loop-datagram.running.left _ now
    ((so_far.answers, ap (λ (a : Answer). so_far.answers ++ a ∷ []) is), still_within g.F.Datagrams.call c.calls_of_datagrams_join.ensures.one_more job most so_far.answers c.next.result (ap given is) now.within)

pub returns-in-Err-clause-calls : goal.returns-in-Err-clause-calls
returns-in-Err-clause-calls g c =
    let so_far = c.loop-datagram.invariant in
    (so_far.answers ++ c.next.result ∷ [], c.calls_of_datagrams_join.ensures.one_more.calls c.args.flows.now c.loop-datagram.flows c.next.new.self so_far.answers c.next.result so_far.answered.calls c.next.ensures.call)

pub returns-in-Err-clause-run : goal.returns-in-Err-clause-run
returns-in-Err-clause-run g c = λ starts on.
    let job = c.args.job.now in
    let most = most_in c.args.limits.now in
    let so_far = c.loop-datagram.invariant in
    let now = so_far.goes_on starts on in
    let tells : Tells (g.F.Datagrams.state c.loop-datagram.flows)
    (g.F.Datagrams.state c.next.new.self) c.next.result = record {
      left = c.next.ensures.left;
      handed = c.next.ensures.handed;
      ends = c.next.ensures.ends;
      ending = c.next.ensures.ending;
      ended = λ is. says_ended _ _ c.next.result is c.next.ensures.ended;
      cause = c.next.ensures.cause;
      of_capture = c.next.ensures.of_capture;
      captured = c.next.ensures.captured;
    } in
    IfOk-weaker c.ended_by.result _ _
    (λ ended ends. taken_to_end c.adjoining_spans_join.ensures g.F.Datagrams.call c.calls_of_datagrams_join.ensures.one_more c.args.flows.now c.loop-datagram.flows c.next.new.self _ _ _ so_far.answers c.next.result so_far.answered c.next.ensures.call tells (ap given c.in-Err.is)
    job most starts _ _ _ _ _ c.loop-datagram.running.left ended now ends)
    (c.ended_by.ensures.ends job most (so_far.answers ++ c.next.result ∷ []) (so_far.answers, ap (λ (a : Answer). so_far.answers ++ a ∷ []) c.in-Err.is)
    (still_within g.F.Datagrams.call c.calls_of_datagrams_join.ensures.one_more job most so_far.answers c.next.result (ap given c.in-Err.is) now.within))

pub take_next-requires-clause-room : goal.take_next-requires-clause-room
take_next-requires-clause-room g c =
    let so_far = c.loop-datagram.invariant in
    let begun = c.requires.begun in
    has_room c.args.job.now (most_in c.args.limits.now) begun.0 _ (handed_out so_far.answers) c.loop-datagram.running.collector c.loop-datagram.running.plugins.items _ _ c.loop-datagram.running.left
    c.args.limits.now.few_octets (so_far.goes_on begun.0 begun.1)

pub returns-in_err-which-clause-calls : goal.returns-in_err-which-clause-calls
returns-in_err-which-clause-calls g c =
    let so_far = c.loop-datagram.invariant in
    (so_far.answers ++ c.next.result ∷ [], c.calls_of_datagrams_join.ensures.one_more.calls c.args.flows.now c.loop-datagram.flows c.next.new.self so_far.answers c.next.result so_far.answered.calls c.next.ensures.call)

pub returns-in-Some-clause-calls : goal.returns-in-Some-clause-calls
returns-in-Some-clause-calls g c =
    let so_far = c.loop-datagram.invariant in
    (so_far.answers ++ c.next.result ∷ [], c.calls_of_datagrams_join.ensures.one_more.calls c.args.flows.now c.loop-datagram.flows c.next.new.self so_far.answers c.next.result so_far.answered.calls c.next.ensures.call)

pub returns-in-Some-clause-run : goal.returns-in-Some-clause-run
returns-in-Some-clause-run g c = λ starts on.
    let job = c.args.job.now in
    let most = most_in c.args.limits.now in
    let so_far = c.loop-datagram.invariant in
    let is : c.next.result ≡ Ok (Some c.in-Ok-Some.datagram) = cc (c.in-Ok-Some.is, c.in-Ok-Some.field-0-is) in
    let tells : Tells (g.F.Datagrams.state c.loop-datagram.flows)
    (g.F.Datagrams.state c.next.new.self) c.next.result = record {
      left = c.next.ensures.left;
      handed = c.next.ensures.handed;
      ends = c.next.ensures.ends;
      ending = c.next.ensures.ending;
      ended = λ is. says_ended _ _ c.next.result is c.next.ensures.ended;
      cause = c.next.ensures.cause;
      of_capture = c.next.ensures.of_capture;
      captured = c.next.ensures.captured;
    } in
    let next = rw c.in-Some.is at (c.in_ok-which.ensures.stops starts _ (handed_out so_far.answers) (so_far.goes_on starts on)) in
    let stops = subst (λ (handed : List Datagram). Stops job most starts (g.A.Sink.state c.args.audit.now) handed c.in-Some.which
    c.take_next.new.running.collector c.take_next.new.running.plugins.items c.take_next.new.running.log (g.A.Sink.state c.take_next.new.audit))
    (handed_more g.F.Datagrams.call c.calls_of_datagrams_join.ensures.one_more so_far.answers c.next.result c.in-Ok-Some.datagram is) next in
    taken_all c.adjoining_spans_join.ensures g.F.Datagrams.call c.calls_of_datagrams_join.ensures.one_more c.args.flows.now c.loop-datagram.flows c.next.new.self _ _ _ so_far.answers c.next.result so_far.answered c.next.ensures.call tells
    job most starts _ _ _ _ _ _ (ends_by_limit job most (so_far.answers ++ c.next.result ∷ []) c.in-Some.which stops.passes) stops.run

pub loop-datagram-preserved : goal.loop-datagram-preserved
loop-datagram-preserved g c =
    let job = c.args.job.now in
    let most = most_in c.args.limits.now in
    let so_far = c.loop-datagram.invariant in
    let is : c.next.result ≡ Ok (Some c.in-Ok-Some.datagram) = cc (c.in-Ok-Some.is, c.in-Ok-Some.field-0-is) in
    let tells : Tells (g.F.Datagrams.state c.loop-datagram.flows)
    (g.F.Datagrams.state c.next.new.self) c.next.result = record {
      left = c.next.ensures.left;
      handed = c.next.ensures.handed;
      ends = c.next.ensures.ends;
      ending = c.next.ensures.ending;
      ended = λ is. says_ended _ _ c.next.result is c.next.ensures.ended;
      cause = c.next.ensures.cause;
      of_capture = c.next.ensures.of_capture;
      captured = c.next.ensures.captured;
    } in
    record {
      answers = so_far.answers ++ c.next.result ∷ [];
      answered = answered_more c.adjoining_spans_join.ensures g.F.Datagrams.call c.calls_of_datagrams_join.ensures.one_more c.args.flows.now c.loop-datagram.flows c.next.new.self _ _ _ so_far.answers c.next.result so_far.answered c.next.ensures.call tells;
      goes_on = λ starts on.
          subst (λ (handed : List Datagram). GoesOn job most starts (g.A.Sink.state c.args.audit.now) handed
          c.take_next.new.running.collector c.take_next.new.running.plugins.items c.take_next.new.running.log (g.A.Sink.state c.take_next.new.audit) c.take_next.new.running.left)
          (handed_more g.F.Datagrams.call c.calls_of_datagrams_join.ensures.one_more so_far.answers c.next.result c.in-Ok-Some.datagram is)
          (c.in_ok-which.ensures.next starts _ (handed_out so_far.answers) (so_far.goes_on starts on) (ap Ok c.in_default.is));
    }
