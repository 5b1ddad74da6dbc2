use Rattle.std.proofs.Common.{◌∙◌, sym}
use Rattle.bgp_msg.specs.Items.{item_size}
use Rattle.bgp_msg.specs.Opens.{is_capability}
use Rattle.bgp_msg.proofs.OpenLemmas.{has_size}
use Rattle.bgp_msg.proofs.PieceLemmas.{all_end, all_fail, all_next}
use Rattle.bgp_msg.proofs.open.are_capabilities.Goals as goal

pub returns-then-not-is_capability : goal.returns-then-not-is_capability
returns-then-not-is_capability c =
    sym (c.loop-rest.invariant ∙ all_fail is_capability item_size c.item_size-size.result c.loop-rest.rest.now c.front.result.now has_size
    c.loop-rest-test.ensures c.item_size-size.ensures.size c.front.ensures.piece (sym c.is_capability.ensures ∙ c.if-not-is_capability.true))

pub loop-rest-preserved : goal.loop-rest-preserved
loop-rest-preserved c =
    c.loop-rest.invariant ∙ all_next is_capability item_size c.item_size-size.result c.loop-rest.rest.now c.front.result.now c.behind-rest.result.now
    has_size c.loop-rest-test.ensures c.item_size-size.ensures.size c.front.ensures.piece c.behind-rest.ensures.rest (sym c.is_capability.ensures ∙ c.if-not-is_capability.false)

pub returns : goal.returns
returns c = sym (c.loop-rest.invariant ∙ all_end is_capability item_size c.loop-rest.rest.now c.loop-rest-test.ensures)
