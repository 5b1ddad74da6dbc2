use Rattle.std.proofs.Common.{◌∙◌, refl, sym}
use Rattle.bgp_msg.specs.AddPaths.{said_by, tuple_size}
use Rattle.bgp_msg.proofs.AddPathLemmas.{has_size}
use Rattle.bgp_msg.proofs.PieceLemmas.{last_end, last_next}
use Rattle.bgp_msg.proofs.add_path.last_tuple.Goals as goal

pub loop-rest-preserved : goal.loop-rest-preserved
loop-rest-preserved c =
    rw (c.or-said.ensures, c.said_by.ensures) (last_next (said_by c.args.family) tuple_size c.loop-rest.said 4 c.loop-rest.rest.now c.front.result.now c.behind-rest.result.now _ has_size c.loop-rest-test.ensures
    refl c.front.ensures.piece c.behind-rest.ensures.rest c.loop-rest.invariant)

pub returns : goal.returns
returns c = sym (last_end (said_by c.args.family) tuple_size c.loop-rest.said c.loop-rest.rest.now c.loop-rest-test.ensures) ∙ c.loop-rest.invariant
