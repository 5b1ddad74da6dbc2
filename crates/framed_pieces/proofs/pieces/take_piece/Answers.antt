use Rattle.std.proofs.Common.{◌≡◌, ◌∙◌, ◌++◌, List, ℕ, sym, ap}
use Rattle.std.specs.Prelude.{Option, Result, Ok}
use Rattle.std.proofs.lemmas.List.{append-nil}
use Rattle.framed_pieces.specs.Listening.{taken}
use Rattle.framed_pieces.specs.Stream.{rest_of}
use Rattle.framed_pieces.proofs.StreamLemmas.{rest_next, rest_none}
use Rattle.framed_pieces.proofs.TakenLemmas.{behind, front, kept_live, kept_over, kept_same, taken_bad, taken_last, taken_next, taken_none}
use Rattle.framed_pieces.proofs.pieces.take_piece.Goals as goal

abbrev sized : {F : Type 0} → Option ℕ → Result (Option ℕ) F
sized size = Ok size

pub returns-in-Ok-None-clause-takes : goal.returns-in-Ok-None-clause-takes
returns-in-Ok-None-clause-takes g c =
    let fr = g.F.Framing.framed in
    let ls = g.L.Listener.listening in
    let st = g.L.Listener.state in
    let law = c.requires.lawful in
    let start = st c.args.listener.now in
    let octets = c.args.begun.now ++ c.args.piece.now in
    let new = c.complete.new.begun in
    let same = c.in_ok-rest.ensures.same in
    let here = ap fr (sym c.as_slice.ensures) ∙ sym c.frame.ensures ∙ c.in-Ok-None.is ∙ ap sized c.in-Ok-None.field-0-is in
    let all = sym (append-nil new) ∙ ap (λ (rest : List ℕ). new ++ rest) (sym (c.in_ok-rest.ensures.all here)) ∙ same in
    let is = ap fr (sym all) ∙ here in
    let takes = sym (taken_none fr ls start octets is) in
    takes

pub returns-in-Ok-None-clause-keeps : goal.returns-in-Ok-None-clause-keeps
returns-in-Ok-None-clause-keeps g c =
    let fr = g.F.Framing.framed in
    let ls = g.L.Listener.listening in
    let st = g.L.Listener.state in
    let law = c.requires.lawful in
    let start = st c.args.listener.now in
    let octets = c.args.begun.now ++ c.args.piece.now in
    let new = c.complete.new.begun in
    let same = c.in_ok-rest.ensures.same in
    let here = ap fr (sym c.as_slice.ensures) ∙ sym c.frame.ensures ∙ c.in-Ok-None.is ∙ ap sized c.in-Ok-None.field-0-is in
    let all = sym (append-nil new) ∙ ap (λ (rest : List ℕ). new ++ rest) (sym (c.in_ok-rest.ensures.all here)) ∙ same in
    let is = ap fr (sym all) ∙ here in
    let takes = sym (taken_none fr ls start octets is) in
    kept_live fr ls start start octets new takes c.requires.live (all ∙ sym (rest_none fr octets is))

pub returns-in_ok-refuse-in-Err-clause-takes : goal.returns-in_ok-refuse-in-Err-clause-takes
returns-in_ok-refuse-in-Err-clause-takes g c =
    let fr = g.F.Framing.framed in
    let ls = g.L.Listener.listening in
    let st = g.L.Listener.state in
    let law = c.requires.lawful in
    let start = st c.args.listener.now in
    let octets = c.args.begun.now ++ c.args.piece.now in
    let new = c.complete.new.begun in
    let same = c.in_ok-rest.ensures.same in
    let here = ap fr (sym c.as_slice.ensures) ∙ sym c.frame.ensures ∙ c.in-Err.is in
    let is = ap fr (sym same) ∙ law.bad new c.in_ok-rest.rest.now c.in-Err.fault here in
    let takes = c.in_ok-refuse-in-Err.ensures.refuses ∙ sym (taken_bad fr ls start octets c.in-Err.fault is c.requires.live) in
    takes

pub returns-in_ok-refuse-in-Err-clause-keeps : goal.returns-in_ok-refuse-in-Err-clause-keeps
returns-in_ok-refuse-in-Err-clause-keeps g c =
    let fr = g.F.Framing.framed in
    let ls = g.L.Listener.listening in
    let st = g.L.Listener.state in
    let law = c.requires.lawful in
    let start = st c.args.listener.now in
    let octets = c.args.begun.now ++ c.args.piece.now in
    let new = c.complete.new.begun in
    let same = c.in_ok-rest.ensures.same in
    let here = ap fr (sym c.as_slice.ensures) ∙ sym c.frame.ensures ∙ c.in-Err.is in
    let is = ap fr (sym same) ∙ law.bad new c.in_ok-rest.rest.now c.in-Err.fault here in
    let takes = c.in_ok-refuse-in-Err.ensures.refuses ∙ sym (taken_bad fr ls start octets c.in-Err.fault is c.requires.live) in
    kept_over fr ls start (st c.refuse.new.self) octets c.truncate.new.self takes c.in_ok-refuse-in-Err.ensures.ends c.truncate.ensures

pub returns-then-is_over-clause-takes : goal.returns-then-is_over-clause-takes
returns-then-is_over-clause-takes g c =
    let fr = g.F.Framing.framed in
    let ls = g.L.Listener.listening in
    let st = g.L.Listener.state in
    let law = c.requires.lawful in
    let start = st c.args.listener.now in
    let octets = c.args.begun.now ++ c.args.piece.now in
    let new = c.complete.new.begun in
    let same = c.in_ok-rest.ensures.same in
    let size = c.in-Ok-Some.field-0-0 in
    let here = ap fr (sym c.as_slice.ensures) ∙ sym c.frame.ensures ∙ c.in-Ok-Some.is ∙ ap sized c.in-Ok-Some.field-0-is in
    let one = c.in_ok-rest.ensures.one size here in
    let is = ap fr (sym same) ∙ law.before new c.in_ok-rest.rest.now size here in
    let message = c.as_slice-in-Ok-Some.ensures ∙ sym (front new c.in_ok-rest.rest.now octets size one same) in
    let heard = rw message at c.in_ok-hear-in-Ok-Some.ensures in
    let over = sym c.is_over.ensures ∙ c.if-is_over.true in
    let takes = heard ∙ sym (taken_last fr law ls start octets size is (ap ls.is_over (sym heard) ∙ over)) in
    takes

pub returns-then-is_over-clause-keeps : goal.returns-then-is_over-clause-keeps
returns-then-is_over-clause-keeps g c =
    let fr = g.F.Framing.framed in
    let ls = g.L.Listener.listening in
    let st = g.L.Listener.state in
    let law = c.requires.lawful in
    let start = st c.args.listener.now in
    let octets = c.args.begun.now ++ c.args.piece.now in
    let new = c.complete.new.begun in
    let same = c.in_ok-rest.ensures.same in
    let size = c.in-Ok-Some.field-0-0 in
    let here = ap fr (sym c.as_slice.ensures) ∙ sym c.frame.ensures ∙ c.in-Ok-Some.is ∙ ap sized c.in-Ok-Some.field-0-is in
    let one = c.in_ok-rest.ensures.one size here in
    let is = ap fr (sym same) ∙ law.before new c.in_ok-rest.rest.now size here in
    let message = c.as_slice-in-Ok-Some.ensures ∙ sym (front new c.in_ok-rest.rest.now octets size one same) in
    let heard = rw message at c.in_ok-hear-in-Ok-Some.ensures in
    let over = sym c.is_over.ensures ∙ c.if-is_over.true in
    let takes = heard ∙ sym (taken_last fr law ls start octets size is (ap ls.is_over (sym heard) ∙ over)) in
    kept_over fr ls start (st c.hear.new.self) octets c.truncate-in-Ok-Some.new.self takes over c.truncate-in-Ok-Some.ensures

pub returns-in_ok-take_all-in-Ok-Some-clause-takes : goal.returns-in_ok-take_all-in-Ok-Some-clause-takes
returns-in_ok-take_all-in-Ok-Some-clause-takes g c =
    let fr = g.F.Framing.framed in
    let ls = g.L.Listener.listening in
    let st = g.L.Listener.state in
    let law = c.requires.lawful in
    let start = st c.args.listener.now in
    let octets = c.args.begun.now ++ c.args.piece.now in
    let new = c.complete.new.begun in
    let same = c.in_ok-rest.ensures.same in
    let size = c.in-Ok-Some.field-0-0 in
    let here = ap fr (sym c.as_slice.ensures) ∙ sym c.frame.ensures ∙ c.in-Ok-Some.is ∙ ap sized c.in-Ok-Some.field-0-is in
    let one = c.in_ok-rest.ensures.one size here in
    let is = ap fr (sym same) ∙ law.before new c.in_ok-rest.rest.now size here in
    let message = c.as_slice-in-Ok-Some.ensures ∙ sym (front new c.in_ok-rest.rest.now octets size one same) in
    let heard = rw message at c.in_ok-hear-in-Ok-Some.ensures in
    let live = sym c.is_over.ensures ∙ c.if-is_over.false in
    let left = behind new c.in_ok-rest.rest.now octets size one same in
    let next = taken_next fr law ls start octets size is (ap ls.is_over (sym heard) ∙ live) in
    let goes : taken fr ls (st c.hear.new.self) c.in_ok-rest.rest.now ≡ taken fr ls start octets = rw (heard, sym left) (sym next) in
    c.in_ok-take_all-in-Ok-Some.ensures.takes ∙ goes

pub returns-in_ok-take_all-in-Ok-Some-clause-keeps : goal.returns-in_ok-take_all-in-Ok-Some-clause-keeps
returns-in_ok-take_all-in-Ok-Some-clause-keeps g c =
    let fr = g.F.Framing.framed in
    let ls = g.L.Listener.listening in
    let st = g.L.Listener.state in
    let law = c.requires.lawful in
    let start = st c.args.listener.now in
    let octets = c.args.begun.now ++ c.args.piece.now in
    let new = c.complete.new.begun in
    let same = c.in_ok-rest.ensures.same in
    let size = c.in-Ok-Some.field-0-0 in
    let here = ap fr (sym c.as_slice.ensures) ∙ sym c.frame.ensures ∙ c.in-Ok-Some.is ∙ ap sized c.in-Ok-Some.field-0-is in
    let one = c.in_ok-rest.ensures.one size here in
    let is = ap fr (sym same) ∙ law.before new c.in_ok-rest.rest.now size here in
    let message = c.as_slice-in-Ok-Some.ensures ∙ sym (front new c.in_ok-rest.rest.now octets size one same) in
    let heard = rw message at c.in_ok-hear-in-Ok-Some.ensures in
    let live = sym c.is_over.ensures ∙ c.if-is_over.false in
    let left = behind new c.in_ok-rest.rest.now octets size one same in
    let next = taken_next fr law ls start octets size is (ap ls.is_over (sym heard) ∙ live) in
    let goes : taken fr ls (st c.hear.new.self) c.in_ok-rest.rest.now ≡ taken fr ls start octets = rw (heard, sym left) (sym next) in
    c.in_ok-take_all-in-Ok-Some.ensures.keeps
    ∙ kept_same fr ls (st c.hear.new.self) start c.in_ok-rest.rest.now octets goes (ap (rest_of fr) (sym left) ∙ sym (rest_next fr law octets size is))
