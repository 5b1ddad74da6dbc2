use Rattle.flow_templates.proofs.SpellingLemmas.{reads_templates}
use Rattle.flow_templates.proofs.laws.written_templates_are_read_back.Goals as goal

pub returns : goal.returns
returns c = reads_templates
