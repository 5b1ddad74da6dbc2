use Rattle.std.proofs.Common.{◌∙◌, refl, sym}
use Rattle.bgp_msg.specs.Items.{item_size}
use Rattle.bgp_msg.specs.Opens.{is_capability, tells_some}
use Rattle.bgp_msg.proofs.OpenLemmas.{has_size}
use Rattle.bgp_msg.proofs.PieceLemmas.{all_end, all_fail, all_first, all_next}
use Rattle.bgp_msg.proofs.open.tell_some.Goals as goal

pub tells_some-requires : goal.tells_some-requires
tells_some-requires c =
    (all_first is_capability item_size c.item_size-size.result c.loop-rest.rest.now c.front.result.now _ has_size c.loop-rest-test.ensures
    c.item_size-size.ensures.size c.front.ensures.piece refl c.loop-rest.invariant.good).0

pub returns-then-not-tells_some : goal.returns-then-not-tells_some
returns-then-not-tells_some c =
    sym (c.loop-rest.invariant.all ∙ all_fail tells_some item_size c.item_size-size.result c.loop-rest.rest.now c.front.result.now has_size
    c.loop-rest-test.ensures c.item_size-size.ensures.size c.front.ensures.piece (sym c.tells_some.ensures ∙ c.if-not-tells_some.true))

pub loop-rest-preserved : goal.loop-rest-preserved
loop-rest-preserved c = record {
  all = c.loop-rest.invariant.all ∙ all_next tells_some item_size c.item_size-size.result c.loop-rest.rest.now c.front.result.now c.behind-rest.result.now
      has_size c.loop-rest-test.ensures c.item_size-size.ensures.size c.front.ensures.piece c.behind-rest.ensures.rest (sym c.tells_some.ensures ∙ c.if-not-tells_some.false);
  good = (all_first is_capability item_size c.item_size-size.result c.loop-rest.rest.now c.front.result.now c.behind-rest.result.now has_size c.loop-rest-test.ensures
      c.item_size-size.ensures.size c.front.ensures.piece c.behind-rest.ensures.rest c.loop-rest.invariant.good).1;
}

pub returns : goal.returns
returns c = sym (c.loop-rest.invariant.all ∙ all_end tells_some item_size c.loop-rest.rest.now c.loop-rest-test.ensures)
