use Rattle.std.proofs.Common.{◌∙◌, refl, arith}
use Rattle.bgp_msg.proofs.PieceLemmas.{some_left}
use Rattle.bgp_msg.proofs.PrefixLemmas.{good_first, routes_end, routes_next}
use Rattle.bgp_msg.proofs.prefixes.read_routes.Goals as goal

pub read_prefix-nlri-requires : goal.read_prefix-nlri-requires
read_prefix-nlri-requires c =
    record {
      some = omega (arith, c.front.ensures.length, c.prefix_size-size.ensures.some, some_left c.loop-rest.rest.now c.loop-rest-test.ensures);
      good = (good_first c.args.family c.prefix_size-size.result c.loop-rest.rest.now c.front.result.now _ c.loop-rest-test.ensures
          c.prefix_size-size.ensures.size c.front.ensures.piece refl c.loop-rest.invariant.good).0;
    }

pub loop-rest-preserved : goal.loop-rest-preserved
loop-rest-preserved c =
    record {
      all = rw (c.in_ok-push.ensures.items) (routes_next c.args.family c.args.next_hop c.prefix_size-size.result c.loop-rest.rest.now c.front.result.now c.behind-rest.result.now c.loop-rest.announced.items c.read_prefix-nlri.result
          c.loop-rest-test.ensures c.prefix_size-size.ensures.size c.front.ensures.piece c.behind-rest.ensures.rest c.read_prefix-nlri.ensures ∙ c.loop-rest.invariant.all);
      good = (good_first c.args.family c.prefix_size-size.result c.loop-rest.rest.now c.front.result.now c.behind-rest.result.now c.loop-rest-test.ensures
          c.prefix_size-size.ensures.size c.front.ensures.piece c.behind-rest.ensures.rest c.loop-rest.invariant.good).1;
    }

pub returns : goal.returns
returns c = routes_end c.args.family c.args.next_hop c.loop-rest.announced.items c.loop-rest.rest.now c.loop-rest-test.ensures ∙ c.loop-rest.invariant.all
