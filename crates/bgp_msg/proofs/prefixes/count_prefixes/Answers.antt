use Rattle.std.proofs.Common.{◌∙◌, length, length-drop, ap, sym, arith}
use Rattle.bgp_msg.proofs.PieceLemmas.{some_left}
use Rattle.bgp_msg.proofs.PrefixLemmas.{bad_end, bad_found, bad_next, prefixes_end, prefixes_next}
use Rattle.bgp_msg.proofs.prefixes.count_prefixes.Goals as goal

pub returns-then-is_bad-clause-bad : goal.returns-then-is_bad-clause-bad
returns-then-is_bad-clause-bad c =
    sym (bad_found c.args.family c.loop-rest.place c.prefix_size-size.result c.loop-rest.rest.now c.front-prefix.result.now _ c.loop-rest-test.ensures
    c.prefix_size-size.ensures.size c.front-prefix.ensures.piece (sym c.is_bad.ensures ∙ c.if-is_bad.true) c.loop-rest.invariant.all)

pub loop-rest-preserved : goal.loop-rest-preserved
loop-rest-preserved c =
    let left = ap length c.behind-rest.ensures.rest in
    let dropped = length-drop c.prefix_size-size.result c.loop-rest.rest.now in
    let some = some_left c.loop-rest.rest.now c.loop-rest-test.ensures in
    let next = ap length (prefixes_next c.args.family c.prefix_size-size.result c.loop-rest.rest.now c.front-prefix.result.now c.behind-rest.result.now c.loop-rest-test.ensures
    c.prefix_size-size.ensures.size c.front-prefix.ensures.piece c.behind-rest.ensures.rest) in
    record {
      all = bad_next c.args.family c.loop-rest.place c.prefix_size-size.result c.loop-rest.rest.now c.front-prefix.result.now c.behind-rest.result.now _ c.loop-rest-test.ensures
          c.prefix_size-size.ensures.size c.front-prefix.ensures.piece c.behind-rest.ensures.rest (sym c.is_bad.ensures ∙ c.if-is_bad.false) c.loop-rest.invariant.all;
      number = omega (arith, next, c.loop-rest.invariant.number);
      few = omega (arith, some, c.loop-rest.invariant.few, c.front-prefix.ensures.length, c.prefix_size-size.ensures.some);
      within = omega (arith, c.loop-rest.invariant.within, c.front-prefix.ensures.length, left, dropped);
    }

pub returns : goal.returns
returns c =
    let none = ap length (prefixes_end c.args.family c.loop-rest.rest.now c.loop-rest-test.ensures) in
    record {
      good = sym c.loop-rest.invariant.all ∙ bad_end c.args.family c.loop-rest.place c.loop-rest.rest.now c.loop-rest-test.ensures;
      count = omega (arith, none, c.loop-rest.invariant.number);
      bad = tt;
      within = tt;
    }
