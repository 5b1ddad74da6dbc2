use Rattle.bgp_msg.proofs.PrefixLemmas.{filled_is}
use Rattle.bgp_msg.proofs.prefixes.filled.Goals as goal

pub returns : goal.returns
returns c = rw c.copy_from_slice.ensures.after (filled_is c.args.octets.now c.front-some.result.now c.front-some.ensures.piece)
