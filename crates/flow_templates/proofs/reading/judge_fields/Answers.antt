use Rattle.std.proofs.Common.{◌≡◌, ◌∙◌, ◌+◌, ◌-◌, ℕ, List, drop, length, length-drop, arith, ap, sym}
use Rattle.flow_templates.specs.Templates.{field_length, field_of, fields_length, least_width}
use Rattle.flow_templates.proofs.FieldLemmas.{least_field, least_next, length_next, not_passed, passed_on}
use Rattle.flow_templates.proofs.reading.judge_fields.Goals as goal

pub read_field-field-requires : goal.read_field-field-requires
read_field-field-requires c = omega (arith, length_next c.args.version c.args.count c.loop-index.index c.loop-index.rest.now c.loop-index-test.true, c.loop-index.invariant.room)

pub field_length-requires : goal.field_length-requires
field_length-requires c =
    omega (arith, least_field c.args.version c.loop-index.rest.now, length_next c.args.version c.args.count c.loop-index.index c.loop-index.rest.now c.loop-index-test.true, c.loop-index.invariant.room)

pub after-rest-requires : goal.after-rest-requires
after-rest-requires c =
    omega (arith, c.from.ensures ∙ c.field_length.ensures, length_next c.args.version c.args.count c.loop-index.index c.loop-index.rest.now c.loop-index-test.true, c.loop-index.invariant.room)

pub returns-then-not-is_passed-clause-widths : goal.returns-then-not-is_passed-clause-widths
returns-then-not-is_passed-clause-widths c =
    sym c.loop-index.invariant.widths
    ∙ not_passed c.args.version c.args.scope c.args.count c.loop-index.index c.loop-index.rest.now c.read_field-field.result c.is_passed.result c.loop-index-test.true
    c.read_field-field.ensures c.is_passed.ensures c.if-not-is_passed.true

pub loop-index-preserved : goal.loop-index-preserved
loop-index-preserved c =
    let kept = c.loop-index.invariant in
    let first = field_length c.args.version c.loop-index.rest.now in
    let rest : c.after-rest.result.now ≡ drop first c.loop-index.rest.now =
    c.after-rest.ensures ∙ ap (λ (n : ℕ). drop n c.loop-index.rest.now) (c.from.ensures ∙ c.field_length.ensures) in
    let left = ap (λ (octets : List ℕ). fields_length c.args.version (c.args.count - (c.loop-index.index + 1)) octets) rest in
    let width : c.from-least.result ≡ least_width c.args.version (field_of c.args.version c.loop-index.rest.now) =
    c.from-least.ensures ∙ c.least_width.ensures ∙ ap (least_width c.args.version) c.read_field-field.ensures in
    record {
      widths = passed_on c.args.version c.args.scope c.args.count c.loop-index.index c.loop-index.rest.now c.after-rest.result.now c.read_field-field.result c.is_passed.result
          c.loop-index-test.true c.read_field-field.ensures c.is_passed.ensures c.if-not-is_passed.false rest ∙ kept.widths;
      least = omega (arith, kept.least, width, least_next c.args.version c.args.count c.loop-index.index c.loop-index.rest.now c.after-rest.result.now c.loop-index-test.true rest);
      few = omega (arith, kept.few, c.from-least.ensures, c.least_width.type_inv);
      room = omega (arith, kept.room, length_next c.args.version c.args.count c.loop-index.index c.loop-index.rest.now c.loop-index-test.true, left, ap length rest ∙ length-drop first c.loop-index.rest.now);
    }
