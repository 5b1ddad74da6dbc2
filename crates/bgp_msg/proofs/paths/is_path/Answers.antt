use Rattle.std.proofs.Common.{◌∙◌, sym}
use Rattle.bgp_msg.specs.Paths.{is_segment, segment_size}
use Rattle.bgp_msg.proofs.PieceLemmas.{all_end, all_fail, all_next}
use Rattle.bgp_msg.proofs.SegmentLemmas.{has_size}
use Rattle.bgp_msg.proofs.paths.is_path.Goals as goal

pub returns-then-not-is_segment : goal.returns-then-not-is_segment
returns-then-not-is_segment c =
    sym (c.loop-rest.invariant ∙ all_fail (is_segment c.args.wide) (segment_size c.args.wide) c.segment_size-size.result c.loop-rest.rest.now c.front.result.now (has_size c.args.wide)
    c.loop-rest-test.ensures c.segment_size-size.ensures.size c.front.ensures.piece (sym c.is_segment.ensures ∙ c.if-not-is_segment.true))

pub loop-rest-preserved : goal.loop-rest-preserved
loop-rest-preserved c =
    c.loop-rest.invariant ∙ all_next (is_segment c.args.wide) (segment_size c.args.wide) c.segment_size-size.result c.loop-rest.rest.now c.front.result.now c.behind-rest.result.now
    (has_size c.args.wide) c.loop-rest-test.ensures c.segment_size-size.ensures.size c.front.ensures.piece c.behind-rest.ensures.rest (sym c.is_segment.ensures ∙ c.if-not-is_segment.false)

pub returns : goal.returns
returns c = sym (c.loop-rest.invariant ∙ all_end (is_segment c.args.wide) (segment_size c.args.wide) c.loop-rest.rest.now c.loop-rest-test.ensures)
