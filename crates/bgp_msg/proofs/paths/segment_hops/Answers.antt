use Rattle.std.proofs.Common.{◌∙◌}
use Rattle.bgp_msg.proofs.SegmentLemmas.{sequence_hops}
use Rattle.bgp_msg.proofs.paths.segment_hops.Goals as goal

pub returns-in-2-clause-count : goal.returns-in-2-clause-count
returns-in-2-clause-count c = c.from.ensures ∙ sequence_hops c.args.wide c.args.segment.now c.in-2.is
