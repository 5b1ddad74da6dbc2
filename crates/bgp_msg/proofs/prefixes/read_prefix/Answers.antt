use Rattle.bgp_msg.proofs.PrefixLemmas.{is_made}
use Rattle.bgp_msg.proofs.prefixes.read_prefix.Goals as goal

pub unwrap-prefix-requires : goal.unwrap-prefix-requires
unwrap-prefix-requires c = is_made c.args.family c.address_of-address.result c.args.prefix.now c.after.result.now c.new.result c.address_of-address.ensures c.requires.good c.new.ensures.none
