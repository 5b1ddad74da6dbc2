use Rattle.std.proofs.Common.{◌∙◌, sym}
use Rattle.bgp_msg.specs.AddPaths.{said_of}
use Rattle.bgp_msg.specs.Items.{item_size}
use Rattle.bgp_msg.proofs.OpenLemmas.{has_size}
use Rattle.bgp_msg.proofs.PieceLemmas.{last_end, last_next}
use Rattle.bgp_msg.proofs.add_path.last_capability.Goals as goal

pub loop-rest-preserved : goal.loop-rest-preserved
loop-rest-preserved c =
    rw (c.or-said.ensures, c.said_of.ensures) (last_next (said_of c.args.family) item_size c.loop-rest.said c.item_size-size.result c.loop-rest.rest.now c.front.result.now c.behind-rest.result.now _ has_size c.loop-rest-test.ensures
    c.item_size-size.ensures.size c.front.ensures.piece c.behind-rest.ensures.rest c.loop-rest.invariant)

pub returns : goal.returns
returns c = sym (last_end (said_of c.args.family) item_size c.loop-rest.said c.loop-rest.rest.now c.loop-rest-test.ensures) ∙ c.loop-rest.invariant
