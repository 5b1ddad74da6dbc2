use Rattle.bgp_msg.proofs.PrefixLemmas.{none_reached}
use Rattle.bgp_msg.proofs.families.reaches_some.Goals as goal

pub returns-in-Some : goal.returns-in-Some
returns-in-Some c = rw (c.is_empty.ensures, c.behind.ensures.rest, c.from.ensures) (none_reached c.args.value.now c.in-Some.field-0 c.in-Some.ensures)
