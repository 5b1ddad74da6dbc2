use Rattle.std.proofs.Common.{◌≡◌, ◌∙◌, ◌+◌, ◌-◌, ℕ, List, append_assoc, drop, length, length-drop, arith, ap}
use Rattle.std.proofs.lemmas.Grind.{common_steps}
use Rattle.flow_templates.specs.Templates.{field_length, fields_length}
use Rattle.flow_templates.proofs.FieldLemmas.{fields_next, least_field, length_next}
use Rattle.flow_templates.proofs.reading.read_fields.Goals as goal

pub read_field-requires : goal.read_field-requires
read_field-requires c = omega (arith, length_next c.args.version c.args.count c.loop.counter c.loop.rest.now c.loop-test.true, c.loop.invariant.room)

pub field_length-requires : goal.field_length-requires
field_length-requires c =
    omega (arith, least_field c.args.version c.loop.rest.now, length_next c.args.version c.args.count c.loop.counter c.loop.rest.now c.loop-test.true, c.loop.invariant.room)

pub after-rest-requires : goal.after-rest-requires
after-rest-requires c =
    omega (arith, c.from-in-loop.ensures ∙ c.field_length.ensures, length_next c.args.version c.args.count c.loop.counter c.loop.rest.now c.loop-test.true, c.loop.invariant.room)

pub loop-preserved : goal.loop-preserved
loop-preserved c =
    let kept = c.loop.invariant in
    let first = field_length c.args.version c.loop.rest.now in
    let rest : c.after-rest.result.now ≡ drop first c.loop.rest.now = c.after-rest.ensures ∙ ap (λ (n : ℕ). drop n c.loop.rest.now) (c.from-in-loop.ensures ∙ c.field_length.ensures) in
    let left = ap (λ (octets : List ℕ). fields_length c.args.version (c.args.count - (c.loop.counter + 1)) octets) rest in
    let next = fields_next c.args.version c.args.count c.loop.counter c.loop.rest.now c.loop-test.true in
    record {
      all = rw (rest, c.in_ok-push.ensures.items, append_assoc, c.read_field.ensures) (rw next at kept.all);
      count = grind (arith, common_steps);
      room = omega (arith, kept.room, length_next c.args.version c.args.count c.loop.counter c.loop.rest.now c.loop-test.true, left, ap length rest ∙ length-drop first c.loop.rest.now);
    }
