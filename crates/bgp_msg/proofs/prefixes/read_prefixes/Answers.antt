use Rattle.std.proofs.Common.{◌∙◌, refl, arith}
use Rattle.bgp_msg.proofs.PieceLemmas.{some_left}
use Rattle.bgp_msg.proofs.PrefixLemmas.{good_first, named_next, names_end}
use Rattle.bgp_msg.proofs.prefixes.read_prefixes.Goals as goal

pub read_prefix-requires : goal.read_prefix-requires
read_prefix-requires c =
    record {
      some = omega (arith, c.front.ensures.length, c.prefix_size-size.ensures.some, some_left c.loop-rest.rest.now c.loop-rest-test.ensures);
      good = (good_first c.args.family c.prefix_size-size.result c.loop-rest.rest.now c.front.result.now _ c.loop-rest-test.ensures
          c.prefix_size-size.ensures.size c.front.ensures.piece refl c.loop-rest.invariant.good).0;
    }

pub loop-rest-preserved : goal.loop-rest-preserved
loop-rest-preserved c =
    record {
      all = rw (c.in_ok-push.ensures.items) (named_next c.args.family c.prefix_size-size.result c.loop-rest.rest.now c.front.result.now c.behind-rest.result.now c.loop-rest.names.items c.read_prefix.result
          c.loop-rest-test.ensures c.prefix_size-size.ensures.size c.front.ensures.piece c.behind-rest.ensures.rest c.read_prefix.ensures ∙ c.loop-rest.invariant.all);
      good = (good_first c.args.family c.prefix_size-size.result c.loop-rest.rest.now c.front.result.now c.behind-rest.result.now c.loop-rest-test.ensures
          c.prefix_size-size.ensures.size c.front.ensures.piece c.behind-rest.ensures.rest c.loop-rest.invariant.good).1;
    }

pub returns : goal.returns
returns c = names_end c.args.family c.loop-rest.names.items c.loop-rest.rest.now c.loop-rest-test.ensures ∙ c.loop-rest.invariant.all
