use Rattle.std.proofs.Common.{◌∙◌, Some, ap, sym}
use Rattle.bgp_msg.specs.Updates.{prefix_fault}
use Rattle.bgp_msg.specs.declared.families.Family.TheVariants.{V4}
use Rattle.bgp_msg.proofs.PrefixLemmas.{bad_further, good_anywhere}
use Rattle.bgp_msg.proofs.update.judge_prefixes.Goals as goal

pub returns-in-Ok-clause-good : goal.returns-in-Ok-clause-good
returns-in-Ok-clause-good c = ap prefix_fault (good_anywhere V4 0 c.args.start c.args.octets.now c.in-Ok.ensures.good)

pub returns-in-Err-clause-fault : goal.returns-in-Err-clause-fault
returns-in-Err-clause-fault c = ap prefix_fault (bad_further V4 c.args.start c.in-Err.place c.args.octets.now c.in-Err.ensures.bad) ∙ ap Some (sym c.fault.ensures)
