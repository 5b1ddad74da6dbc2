use Rattle.std.proofs.Common.{◌∙◌, ℕ, ap, sym}
use Rattle.std.proofs.Math.ListN.{get_or}
use Rattle.std.specs.Prelude.{None}
use Rattle.flow_sets.proofs.LayoutLemmas.{newly, repeated, unknown}
use Rattle.flow_sets.proofs.layout.note.Goals as goal

pub returns-then-not-is_known : goal.returns-then-not-is_known
returns-then-not-is_known c =
    unknown c.args.version c.args.field.now c.args.span c.args.spans.now (sym c.is_known.ensures ∙ c.if-not-is_known.true)

pub returns-in_default : goal.returns-in_default
returns-in_default c =
    repeated c.args.version c.args.field.now c.args.span c.args.spans.now (sym c.is_known.ensures ∙ c.if-not-is_known.false)
    (λ none. c.in_default.not-None (ap (λ (place : ℕ). get_or c.args.spans.now place None) c.slot_of-slot.ensures.slot ∙ none))

pub returns : goal.returns
returns c =
    newly c.args.version c.args.field.now c.args.span c.args.spans.now c.slot_of-slot.result c.slot_of-slot.ensures.slot
    (sym c.is_known.ensures ∙ c.if-not-is_known.false) c.told-spans c.in-None.is
