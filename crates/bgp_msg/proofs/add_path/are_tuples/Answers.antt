use Rattle.std.proofs.Common.{◌∙◌, refl, sym}
use Rattle.bgp_msg.specs.AddPaths.{is_tuple, tuple_size}
use Rattle.bgp_msg.proofs.AddPathLemmas.{has_size}
use Rattle.bgp_msg.proofs.PieceLemmas.{all_end, all_fail, all_next}
use Rattle.bgp_msg.proofs.add_path.are_tuples.Goals as goal

pub returns-then-not-is_tuple : goal.returns-then-not-is_tuple
returns-then-not-is_tuple c =
    sym (c.loop-rest.invariant ∙ all_fail is_tuple tuple_size 4 c.loop-rest.rest.now c.front.result.now has_size
    c.loop-rest-test.ensures refl c.front.ensures.piece (sym c.is_tuple.ensures ∙ c.if-not-is_tuple.true))

pub loop-rest-preserved : goal.loop-rest-preserved
loop-rest-preserved c =
    c.loop-rest.invariant ∙ all_next is_tuple tuple_size 4 c.loop-rest.rest.now c.front.result.now c.behind-rest.result.now
    has_size c.loop-rest-test.ensures refl c.front.ensures.piece c.behind-rest.ensures.rest (sym c.is_tuple.ensures ∙ c.if-not-is_tuple.false)

pub returns : goal.returns
returns c = sym (c.loop-rest.invariant ∙ all_end is_tuple tuple_size c.loop-rest.rest.now c.loop-rest-test.ensures)
