use Rattle.bgp_msg.proofs.SpellingLemmas.{reads_address, reads_path, reads_prefixes, replaces_the_last}
use Rattle.bgp_msg.proofs.laws.lists_are_read_as_they_are_spelled.Goals as goal

pub returns-clause-prefixes : goal.returns-clause-prefixes
returns-clause-prefixes c = reads_prefixes

pub returns-clause-address : goal.returns-clause-address
returns-clause-address c = reads_address

pub returns-clause-path : goal.returns-clause-path
returns-clause-path c = reads_path

pub returns-clause-later : goal.returns-clause-later
returns-clause-later c = replaces_the_last
