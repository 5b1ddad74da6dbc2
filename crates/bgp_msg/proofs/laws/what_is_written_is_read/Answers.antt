use Rattle.bgp_msg.proofs.WrittenLemmas.{reads_keepalive, reads_notification, reads_open}
use Rattle.bgp_msg.proofs.laws.what_is_written_is_read.Goals as goal

pub returns-clause-hello : goal.returns-clause-hello
returns-clause-hello c = reads_open

pub returns-clause-keepalive : goal.returns-clause-keepalive
returns-clause-keepalive c = reads_keepalive

pub returns-clause-notification : goal.returns-clause-notification
returns-clause-notification c = reads_notification
