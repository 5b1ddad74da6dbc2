use Rattle.ipfix_in.proofs.MessageLemmas.{ignored}
use Rattle.ipfix_in.proofs.laws.octets_past_the_length_change_nothing.Goals as goal

pub returns : goal.returns
returns c = ignored
