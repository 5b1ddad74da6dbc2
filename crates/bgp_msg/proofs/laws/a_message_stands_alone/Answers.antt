use Rattle.bgp_msg.proofs.FrameLemmas.{found_alone}
use Rattle.bgp_msg.proofs.laws.a_message_stands_alone.Goals as goal

pub returns : goal.returns
returns c = found_alone
