use Rattle.acct_types.proofs.SpellLemmas.{reads_spellings}
use Rattle.acct_types.proofs.reading.spellings_are_read.Goals as goal

pub returns : goal.returns
returns c = reads_spellings
