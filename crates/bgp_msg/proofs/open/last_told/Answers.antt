use Rattle.std.proofs.Common.{◌∙◌, refl, sym}
use Rattle.bgp_msg.specs.Items.{item_size}
use Rattle.bgp_msg.specs.Opens.{is_capability, told_by}
use Rattle.bgp_msg.proofs.OpenLemmas.{has_size}
use Rattle.bgp_msg.proofs.PieceLemmas.{all_first, last_end, last_next}
use Rattle.bgp_msg.proofs.open.last_told.Goals as goal

pub told_by-requires : goal.told_by-requires
told_by-requires c =
    (all_first is_capability item_size c.item_size-size.result c.loop-rest.rest.now c.front.result.now _ has_size c.loop-rest-test.ensures
    c.item_size-size.ensures.size c.front.ensures.piece refl c.loop-rest.invariant.good).0

pub loop-rest-preserved : goal.loop-rest-preserved
loop-rest-preserved c = record {
  all = rw (c.or-told.ensures, c.told_by.ensures) (last_next told_by item_size c.loop-rest.told c.item_size-size.result c.loop-rest.rest.now c.front.result.now c.behind-rest.result.now _ has_size c.loop-rest-test.ensures
      c.item_size-size.ensures.size c.front.ensures.piece c.behind-rest.ensures.rest c.loop-rest.invariant.all);
  good = (all_first is_capability item_size c.item_size-size.result c.loop-rest.rest.now c.front.result.now c.behind-rest.result.now has_size c.loop-rest-test.ensures
      c.item_size-size.ensures.size c.front.ensures.piece c.behind-rest.ensures.rest c.loop-rest.invariant.good).1;
}

pub returns : goal.returns
returns c = sym (last_end told_by item_size c.loop-rest.told c.loop-rest.rest.now c.loop-rest-test.ensures) ∙ c.loop-rest.invariant.all
