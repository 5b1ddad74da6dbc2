use Rattle.std.proofs.Common.{◌≡◌, ◌∙◌, ◌+◌, ◌-◌, ℕ, List, drop, length, length-drop, arith, ap}
use Rattle.flow_templates.specs.Templates.{field_length, fields_length}
use Rattle.flow_templates.proofs.FieldLemmas.{length_next, longest_field}
use Rattle.flow_templates.proofs.reading.fields_length.Goals as goal

pub loop-preserved : goal.loop-preserved
loop-preserved c =
    let kept = c.loop.invariant in
    let first = field_length c.args.version c.loop.rest.now in
    let field : c.from-used.result ≡ first = c.from-used.ensures ∙ c.field_length-field.ensures in
    let there : c.from.result ≡ first = c.from.ensures ∙ c.field_length-field.ensures in
    let rest : c.after-rest.result.now ≡ drop first c.loop.rest.now = c.after-rest.ensures ∙ ap (λ (n : ℕ). drop n c.loop.rest.now) (c.from-in-loop.ensures ∙ c.field_length-field.ensures) in
    let left = ap (λ (octets : List ℕ). fields_length c.args.version (c.args.count - (c.loop.counter + 1)) octets) rest in
    record {
      all = omega (arith, kept.all, length_next c.args.version c.args.count c.loop.counter c.loop.rest.now c.loop-test.true, field, left);
      rest = omega (arith, kept.rest, field, there, ap length rest ∙ length-drop first c.loop.rest.now, c.if-rest-from.false);
      few = omega (arith, kept.few, field, longest_field c.args.version c.loop.rest.now);
    }
