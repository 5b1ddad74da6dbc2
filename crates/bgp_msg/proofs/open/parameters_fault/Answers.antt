use Rattle.std.proofs.Common.{◌∙◌, ap, arith, length, length-drop, sym}
use Rattle.bgp_msg.proofs.OpenLemmas.{no_fault, parameters_end, parameters_found, parameters_next}
use Rattle.bgp_msg.proofs.open.parameters_fault.Goals as goal

pub returns-then-is_some : goal.returns-then-is_some
returns-then-is_some c =
    c.parameter_fault-found.ensures ∙ parameters_found c.loop-rest.place c.item_size-size.result c.loop-rest.rest.now c.front-parameter.result.now _ c.loop-rest-test.ensures
    c.item_size-size.ensures.size c.front-parameter.ensures.piece (rw c.parameter_fault-found.ensures at (sym c.is_some.ensures ∙ c.if-is_some.true)) c.loop-rest.invariant.all

pub loop-rest-preserved : goal.loop-rest-preserved
loop-rest-preserved c =
    let left = ap length c.behind-rest.ensures.rest in
    let dropped = length-drop c.item_size-size.result c.loop-rest.rest.now in
    record {
      all = parameters_next c.loop-rest.place c.item_size-size.result c.loop-rest.rest.now c.front-parameter.result.now c.behind-rest.result.now _ c.loop-rest-test.ensures
          c.item_size-size.ensures.size c.front-parameter.ensures.piece c.behind-rest.ensures.rest
          (sym c.parameter_fault-found.ensures ∙ no_fault c.parameter_fault-found.result (sym c.is_some.ensures ∙ c.if-is_some.false)) c.loop-rest.invariant.all;
      few = omega (arith, c.loop-rest.invariant.few, c.front-parameter.ensures.length, left, dropped);
    }

pub returns : goal.returns
returns c = sym (parameters_end c.loop-rest.place c.loop-rest.rest.now c.loop-rest-test.ensures) ∙ c.loop-rest.invariant.all
