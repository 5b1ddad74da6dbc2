use Rattle.std.proofs.Common.{◌∙◌, List, ℕ, refl, sym}
use Rattle.bgp_msg.specs.Items.{item_size, item_value, items}
use Rattle.bgp_msg.specs.Opens.{last_told}
use Rattle.bgp_msg.proofs.OpenLemmas.{good_first, good_parameter, has_size}
use Rattle.bgp_msg.proofs.PieceLemmas.{last_end, last_next}
use Rattle.bgp_msg.proofs.open.told_in.Goals as goal

pub after-requires : goal.after-requires
after-requires c = (good_parameter 29 c.front.result.now (good_first c.item_size-size.result c.loop-rest.rest.now c.front.result.now _ c.loop-rest-test.ensures c.item_size-size.ensures.size c.front.ensures.piece refl c.loop-rest.invariant.good).0).0

pub last_told-requires : goal.last_told-requires
last_told-requires c =
    rw c.after.ensures (good_parameter 29 c.front.result.now (good_first c.item_size-size.result c.loop-rest.rest.now c.front.result.now _ c.loop-rest-test.ensures c.item_size-size.ensures.size c.front.ensures.piece refl c.loop-rest.invariant.good).0).1

pub loop-rest-preserved : goal.loop-rest-preserved
loop-rest-preserved c = record {
  all = rw (c.or-told.ensures, c.last_told.ensures, c.after.ensures) (last_next (λ (parameter : List ℕ). last_told (items (item_value parameter))) item_size c.loop-rest.told c.item_size-size.result c.loop-rest.rest.now c.front.result.now c.behind-rest.result.now _ has_size
      c.loop-rest-test.ensures c.item_size-size.ensures.size c.front.ensures.piece c.behind-rest.ensures.rest c.loop-rest.invariant.all);
  good = (good_first c.item_size-size.result c.loop-rest.rest.now c.front.result.now c.behind-rest.result.now c.loop-rest-test.ensures c.item_size-size.ensures.size c.front.ensures.piece c.behind-rest.ensures.rest c.loop-rest.invariant.good).1;
}

pub returns : goal.returns
returns c = sym (last_end (λ (parameter : List ℕ). last_told (items (item_value parameter))) item_size c.loop-rest.told c.loop-rest.rest.now c.loop-rest-test.ensures) ∙ c.loop-rest.invariant.all
