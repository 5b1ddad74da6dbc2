use Rattle.std.proofs.Common.{◌∙◌, ◌++◌, List, ℕ, sym, ap}
use Rattle.std.specs.Prelude.{Option, Result, Ok}
use Rattle.framed_pieces.specs.Stream.{rest_of}
use Rattle.framed_pieces.proofs.StreamLemmas.{rest_next, rest_none}
use Rattle.framed_pieces.proofs.TakenLemmas.{kept_live, kept_over, taken_bad, taken_last, taken_next, taken_none}
use Rattle.framed_pieces.proofs.pieces.take_all.Goals as goal

abbrev sized : {F : Type 0} → Option ℕ → Result (Option ℕ) F
sized size = Ok size

pub returns-in-Err-clause-takes : goal.returns-in-Err-clause-takes
returns-in-Err-clause-takes g c =
    let fr = g.F.Framing.framed in
    let ls = g.L.Listener.listening in
    let st = g.L.Listener.state in
    let law = c.requires.lawful in
    let rest = c.loop-fault.rest.now in
    let one = st c.loop-fault.listener in
    let is = sym c.frame.ensures ∙ c.in-Err.is in
    let takes = c.in_ok-refuse-in-Err.ensures.refuses ∙ sym (taken_bad fr ls one rest c.in-Err.fault is c.loop-fault.invariant.live) ∙ c.loop-fault.invariant.takes in
    takes

pub returns-in-Err-clause-keeps : goal.returns-in-Err-clause-keeps
returns-in-Err-clause-keeps g c =
    let fr = g.F.Framing.framed in
    let ls = g.L.Listener.listening in
    let st = g.L.Listener.state in
    let law = c.requires.lawful in
    let rest = c.loop-fault.rest.now in
    let one = st c.loop-fault.listener in
    let is = sym c.frame.ensures ∙ c.in-Err.is in
    let takes = c.in_ok-refuse-in-Err.ensures.refuses ∙ sym (taken_bad fr ls one rest c.in-Err.fault is c.loop-fault.invariant.live) ∙ c.loop-fault.invariant.takes in
    kept_over fr ls (st c.args.listener.now) (st c.refuse.new.self) c.args.octets.now c.loop-fault.begun takes c.in_ok-refuse-in-Err.ensures.ends c.loop-fault.invariant.empty

pub returns-in-Ok-None-clause-takes : goal.returns-in-Ok-None-clause-takes
returns-in-Ok-None-clause-takes g c =
    let fr = g.F.Framing.framed in
    let ls = g.L.Listener.listening in
    let st = g.L.Listener.state in
    let law = c.requires.lawful in
    let rest = c.loop-fault.rest.now in
    let is = sym c.frame.ensures ∙ c.in-Ok-None.is ∙ ap sized c.in-Ok-None.field-0-is in
    let takes = sym (taken_none fr ls (st c.loop-fault.listener) rest is) ∙ c.loop-fault.invariant.takes in
    takes

pub returns-in-Ok-None-clause-keeps : goal.returns-in-Ok-None-clause-keeps
returns-in-Ok-None-clause-keeps g c =
    let fr = g.F.Framing.framed in
    let ls = g.L.Listener.listening in
    let st = g.L.Listener.state in
    let law = c.requires.lawful in
    let rest = c.loop-fault.rest.now in
    let is = sym c.frame.ensures ∙ c.in-Ok-None.is ∙ ap sized c.in-Ok-None.field-0-is in
    let takes = sym (taken_none fr ls (st c.loop-fault.listener) rest is) ∙ c.loop-fault.invariant.takes in
    kept_live fr ls (st c.args.listener.now) (st c.loop-fault.listener) c.args.octets.now c.extend.new.self takes c.loop-fault.invariant.live
    (c.in_ok-extend-in-Ok-None.ensures.ok ∙ ap (λ (begun : List ℕ). begun ++ rest) c.loop-fault.invariant.empty ∙ sym (rest_none fr rest is) ∙ c.loop-fault.invariant.left)

pub returns-then-is_over-clause-takes : goal.returns-then-is_over-clause-takes
returns-then-is_over-clause-takes g c =
    let fr = g.F.Framing.framed in
    let ls = g.L.Listener.listening in
    let st = g.L.Listener.state in
    let law = c.requires.lawful in
    let rest = c.loop-fault.rest.now in
    let one = st c.loop-fault.listener in
    let size = c.in-Ok-Some.size in
    let is = sym c.frame.ensures ∙ c.in-Ok-Some.is ∙ ap sized c.in-Ok-Some.field-0-is in
    let heard = rw c.split_at.ensures.front at c.in_ok-hear-in-Ok-Some.ensures in
    let over = ap ls.is_over (sym heard) ∙ sym c.is_over.ensures ∙ c.if-is_over.true in
    let takes = heard ∙ sym (taken_last fr law ls one rest size is over) ∙ c.loop-fault.invariant.takes in
    takes

pub returns-then-is_over-clause-keeps : goal.returns-then-is_over-clause-keeps
returns-then-is_over-clause-keeps g c =
    let fr = g.F.Framing.framed in
    let ls = g.L.Listener.listening in
    let st = g.L.Listener.state in
    let law = c.requires.lawful in
    let rest = c.loop-fault.rest.now in
    let one = st c.loop-fault.listener in
    let size = c.in-Ok-Some.size in
    let is = sym c.frame.ensures ∙ c.in-Ok-Some.is ∙ ap sized c.in-Ok-Some.field-0-is in
    let heard = rw c.split_at.ensures.front at c.in_ok-hear-in-Ok-Some.ensures in
    let over = ap ls.is_over (sym heard) ∙ sym c.is_over.ensures ∙ c.if-is_over.true in
    let takes = heard ∙ sym (taken_last fr law ls one rest size is over) ∙ c.loop-fault.invariant.takes in
    kept_over fr ls (st c.args.listener.now) (st c.hear.new.self) c.args.octets.now c.loop-fault.begun takes (sym c.is_over.ensures ∙ c.if-is_over.true) c.loop-fault.invariant.empty

pub loop-fault-preserved : goal.loop-fault-preserved
loop-fault-preserved g c =
    let fr = g.F.Framing.framed in
    let ls = g.L.Listener.listening in
    let st = g.L.Listener.state in
    let law = c.requires.lawful in
    let rest = c.loop-fault.rest.now in
    let one = st c.loop-fault.listener in
    let size = c.in-Ok-Some.size in
    let is = sym c.frame.ensures ∙ c.in-Ok-Some.is ∙ ap sized c.in-Ok-Some.field-0-is in
    let heard = rw c.split_at.ensures.front at c.in_ok-hear-in-Ok-Some.ensures in
    let live = sym c.is_over.ensures ∙ c.if-is_over.false in
    let next = taken_next fr law ls one rest size is (ap ls.is_over (sym heard) ∙ live) in
    record {
      takes = rw (heard, c.split_at.ensures.back) (sym next ∙ c.loop-fault.invariant.takes);
      left = ap (rest_of fr) c.split_at.ensures.back ∙ sym (rest_next fr law rest size is) ∙ c.loop-fault.invariant.left;
      empty = c.loop-fault.invariant.empty;
      live = live;
    }
