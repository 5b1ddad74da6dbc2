use Rattle.std.proofs.Common.{◌-◌, ◌∙◌, arith}
use Rattle.out_text.proofs.JsonLemmas.{members_before, plain_at}
use Rattle.out_text.proofs.json_lines.members_of.Goals as goal

pub value_of-requires : goal.value_of-requires
value_of-requires c = plain_at c.args.entries.now (c.loop-place.place - 1) _ (omega (arith, c.loop-place-test.true, c.loop-place.auto.place)) c.requires

pub loop-place-preserved : goal.loop-place-preserved
loop-place-preserved c =
    rw (c.heading.ensures.json_name, c.in_ok-value.ensures, c.loop-place.invariant) at c.in_ok-put.ensures.ok
    ∙ members_before c.args.entries.now c.loop-place.place _ c.loop-place-test.true c.loop-place.auto.place
