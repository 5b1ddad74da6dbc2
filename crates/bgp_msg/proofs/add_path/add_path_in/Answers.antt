use Rattle.std.proofs.Common.{◌∙◌, List, ℕ, sym}
use Rattle.bgp_msg.specs.AddPaths.{said_of}
use Rattle.bgp_msg.specs.Items.{item_size, item_value, items}
use Rattle.bgp_msg.specs.Pieces.{last_of}
use Rattle.bgp_msg.proofs.OpenLemmas.{has_size}
use Rattle.bgp_msg.proofs.PieceLemmas.{last_end, last_next}
use Rattle.bgp_msg.proofs.add_path.add_path_in.Goals as goal

pub loop-rest-preserved : goal.loop-rest-preserved
loop-rest-preserved c =
    rw (c.or-said.ensures, c.last_capability.ensures, c.behind.ensures.rest) (last_next (λ (parameter : List ℕ). last_of (said_of c.args.family) (items (item_value parameter))) item_size c.loop-rest.said c.item_size-size.result c.loop-rest.rest.now c.front.result.now c.behind-rest.result.now _ has_size c.loop-rest-test.ensures
    c.item_size-size.ensures.size c.front.ensures.piece c.behind-rest.ensures.rest c.loop-rest.invariant)

pub returns : goal.returns
returns c = sym (last_end (λ (parameter : List ℕ). last_of (said_of c.args.family) (items (item_value parameter))) item_size c.loop-rest.said c.loop-rest.rest.now c.loop-rest-test.ensures) ∙ c.loop-rest.invariant
