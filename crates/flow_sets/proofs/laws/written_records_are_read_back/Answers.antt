use Rattle.flow_sets.proofs.SpellingLemmas.{reads_lengths, reads_numbers, reads_records}
use Rattle.flow_sets.proofs.laws.written_records_are_read_back.Goals as goal

pub returns-clause-length : goal.returns-clause-length
returns-clause-length c = reads_lengths

pub returns-clause-numbers : goal.returns-clause-numbers
returns-clause-numbers c = reads_numbers

pub returns-clause-records : goal.returns-clause-records
returns-clause-records c = reads_records
