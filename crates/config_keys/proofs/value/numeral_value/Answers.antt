use Rattle.config_keys.proofs.NumberLemmas.{numeral_is_utf8, too_large}
use Rattle.config_keys.proofs.value.numeral_value.Goals as goal

pub returns-in_default : goal.returns-in_default
returns-in_default c = absurd (c.in_default.ensures.cases.0 (numeral_is_utf8 c.args.text.now c.requires))

pub returns-in-Err : goal.returns-in-Err
returns-in-Err c = too_large c.args.text.now c.in-Ok.text.now c.in-Ok.ensures.cases.0 c.requires c.in-Err.ensures.value.0
