use Rattle.acct_types.proofs.SpellLemmas.{reads_texts}
use Rattle.acct_types.proofs.reading.texts_are_read.Goals as goal

pub returns : goal.returns
returns c = reads_texts
