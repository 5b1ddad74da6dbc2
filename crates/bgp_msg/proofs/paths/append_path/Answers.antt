use Rattle.std.proofs.Common.{append_assoc, refl}
use Rattle.std.proofs.lemmas.List.{append-nil}
use Rattle.bgp_msg.specs.Paths.{is_segment, segment_size}
use Rattle.bgp_msg.proofs.PieceLemmas.{all_first}
use Rattle.bgp_msg.proofs.SegmentLemmas.{has_size, path_end, path_next}
use Rattle.bgp_msg.proofs.paths.append_path.Goals as goal

pub push_hops-requires : goal.push_hops-requires
push_hops-requires c =
    (all_first (is_segment c.args.wide) (segment_size c.args.wide) c.segment_size-size.result c.loop-rest.rest.now c.front.result.now _ (has_size c.args.wide) c.loop-rest-test.ensures
    c.segment_size-size.ensures.size c.front.ensures.piece refl c.loop-rest.invariant.good).0

pub loop-rest-preserved : goal.loop-rest-preserved
loop-rest-preserved c =
    record {
      all = rw (c.in_ok-push_hops.ensures, append_assoc)
          (rw (path_next c.args.wide c.segment_size-size.result c.loop-rest.rest.now c.front.result.now c.behind-rest.result.now c.loop-rest-test.ensures
          c.segment_size-size.ensures.size c.front.ensures.piece c.behind-rest.ensures.rest) at c.loop-rest.invariant.all);
      good = (all_first (is_segment c.args.wide) (segment_size c.args.wide) c.segment_size-size.result c.loop-rest.rest.now c.front.result.now c.behind-rest.result.now (has_size c.args.wide)
          c.loop-rest-test.ensures c.segment_size-size.ensures.size c.front.ensures.piece c.behind-rest.ensures.rest c.loop-rest.invariant.good).1;
    }

pub returns : goal.returns
returns c = rw (path_end c.args.wide c.loop-rest.rest.now c.loop-rest-test.ensures, append-nil) at c.loop-rest.invariant.all
