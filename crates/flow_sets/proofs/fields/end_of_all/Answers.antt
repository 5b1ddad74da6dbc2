use Rattle.flow_sets.proofs.FieldLemmas.{passes}
use Rattle.flow_sets.proofs.fields.end_of_all.Goals as goal

pub returns-in_default : goal.returns-in_default
returns-in_default c =
    passes c.args.version c.args.fields.now c.args.octets.now c.loop-field.end _ c.loop-field.field-index _ c.loop-field-test.true c.loop-field.invariant.all c.in_default.ensures
