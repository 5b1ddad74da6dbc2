use Rattle.std.proofs.Common.{ap, arith, length, length-append, length-drop, refl}
use Rattle.bgp_msg.specs.Paths.{hops_of, is_segment, path_of, segment_size}
use Rattle.bgp_msg.proofs.PieceLemmas.{all_first}
use Rattle.bgp_msg.proofs.SegmentLemmas.{has_size, path_end, path_next}
use Rattle.bgp_msg.proofs.paths.hop_count.Goals as goal

pub segment_hops-count-requires : goal.segment_hops-count-requires
segment_hops-count-requires c =
    (all_first (is_segment c.args.wide) (segment_size c.args.wide) c.segment_size-size.result c.loop-rest.rest.now c.front.result.now _ (has_size c.args.wide) c.loop-rest-test.ensures
    c.segment_size-size.ensures.size c.front.ensures.piece refl c.loop-rest.invariant.good).0

pub loop-rest-preserved : goal.loop-rest-preserved
loop-rest-preserved c =
    let next = ap length (path_next c.args.wide c.segment_size-size.result c.loop-rest.rest.now c.front.result.now c.behind-rest.result.now c.loop-rest-test.ensures
    c.segment_size-size.ensures.size c.front.ensures.piece c.behind-rest.ensures.rest) in
    let both = length-append (hops_of c.args.wide c.front.result.now) (path_of c.args.wide c.behind-rest.result.now) in
    let left = ap length c.behind-rest.ensures.rest in
    let dropped = length-drop c.segment_size-size.result c.loop-rest.rest.now in
    record {
      all = omega (arith, next, both, c.segment_hops-count.ensures.count, c.loop-rest.invariant.all);
      good = (all_first (is_segment c.args.wide) (segment_size c.args.wide) c.segment_size-size.result c.loop-rest.rest.now c.front.result.now c.behind-rest.result.now (has_size c.args.wide)
          c.loop-rest-test.ensures c.segment_size-size.ensures.size c.front.ensures.piece c.behind-rest.ensures.rest c.loop-rest.invariant.good).1;
      few = omega (arith, left, dropped, c.front.ensures.length, c.segment_hops-count.ensures.few, c.loop-rest.invariant.few);
    }

pub returns : goal.returns
returns c = let none = ap length (path_end c.args.wide c.loop-rest.rest.now c.loop-rest-test.ensures) in omega (arith, none, c.loop-rest.invariant.all)
