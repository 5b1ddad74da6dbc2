use Rattle.std.proofs.Common.{◌∙◌, ◌+◌, ap, arith}
use Rattle.flow_sets.specs.declared.fields.Span.{Span}
use Rattle.flow_sets.proofs.FieldLemmas.{passes}
use Rattle.flow_sets.proofs.LayoutLemmas.{ends_one_on, one_noted}
use Rattle.flow_sets.proofs.layout.note_all.Goals as goal

pub returns-in_default-clause-end : goal.returns-in_default-clause-end
returns-in_default-clause-end c =
    passes c.args.version c.args.fields.now c.args.octets.now c.loop-field.end _ c.loop-field.field-index _ c.loop-field-test.true c.loop-field.invariant.all c.in_default.ensures

pub loop-field-preserved : goal.loop-field-preserved
loop-field-preserved c =
    let span = c.in-Some.span in
    let is = c.in-Some.ensures.0 in
    let end = ap (λ (s : Span). s.place + s.width) is in
    record {
      all = rw (c.from.ensures, c.from-in-loop-field.ensures) (ends_one_on c.args.version c.args.fields.now c.args.octets.now c.loop-field.end c.loop-field.field-index _ span c.loop-field-test.true is ∙ c.loop-field.invariant.all);
      within = omega (arith, end, c.in-Some.ensures.1);
      noted = λ element.
          rw (c.from.ensures, c.from-in-loop-field.ensures) (one_noted c.args.version c.args.fields.now c.args.octets.now c.loop-field.end c.loop-field.field-index _ span c.loop-field.spans c.note.new.spans c.loop-field-test.true is c.note.ensures element
          ∙ c.loop-field.invariant.noted element);
    }
