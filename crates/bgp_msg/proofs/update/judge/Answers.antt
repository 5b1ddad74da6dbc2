use Rattle.std.proofs.Common.{◌∙◌, ℕ, drop, ap, refl, sym}
use Rattle.std.specs.Prelude.{Bool, Some, not}
use Rattle.bgp_msg.specs.Attributes.{attribute_size}
use Rattle.bgp_msg.specs.Pieces.{pieces}
use Rattle.bgp_msg.specs.Updates.{lack_fault, lacks}
use Rattle.bgp_msg.proofs.FormLemmas.{can_be_read}
use Rattle.bgp_msg.proofs.UpdateLemmas.{handed, or_first, or_next, update_of}
use Rattle.bgp_msg.proofs.update.judge.Goals as goal

pub returns-in_err-withdrawn_count-clause-fault : goal.returns-in_err-withdrawn_count-clause-fault
returns-in_err-withdrawn_count-clause-fault c =
    handed c.from_residual.result c.in_err-withdrawn_count.field-0.0 _ c.from_residual.ensures.1
    (update_of c.args.agreed c.args.octets.now c.withdrawn-withdrawn.result.now _ _ _ _ c.requires.lengths c.withdrawn-withdrawn.ensures.octets refl refl refl refl
    ∙ or_first _ _ _ c.in_err-withdrawn_count.ensures.fault)

pub returns-in_err-values-clause-fault : goal.returns-in_err-values-clause-fault
returns-in_err-values-clause-fault c =
    handed c.from_residual-in_err-values.result c.in_err-values.field-0.0 _ c.from_residual-in_err-values.ensures.1
    (update_of c.args.agreed c.args.octets.now c.withdrawn-withdrawn.result.now c.attributes_place.result c.attributes.result.now _ _ c.requires.lengths c.withdrawn-withdrawn.ensures.octets
    c.attributes_place.ensures.place c.attributes.ensures.octets refl refl
    ∙ or_next _ _ c.in_ok-withdrawn_count.ensures.good ∙ or_first _ _ _ c.in_err-values.ensures.fault)

pub returns-in_err-announced_count-clause-fault : goal.returns-in_err-announced_count-clause-fault
returns-in_err-announced_count-clause-fault c =
    let behind = c.after-announced.ensures ∙ ap (λ (n : ℕ). drop n c.args.octets.now) c.announced_place-place.ensures.place in
    handed c.from_residual-in_err-announced_count.result c.in_err-announced_count.field-0.0 _ c.from_residual-in_err-announced_count.ensures.1
    (update_of c.args.agreed c.args.octets.now c.withdrawn-withdrawn.result.now c.attributes_place.result c.attributes.result.now c.announced_place-place.result c.after-announced.result.now
    c.requires.lengths c.withdrawn-withdrawn.ensures.octets c.attributes_place.ensures.place c.attributes.ensures.octets c.announced_place-place.ensures.place behind
    ∙ or_next _ _ c.in_ok-withdrawn_count.ensures.good ∙ or_next _ _ c.in_ok-values.ensures.good ∙ or_first _ _ _ c.in_err-announced_count.ensures.fault)

pub returns-then-lacks-clause-fault : goal.returns-then-lacks-clause-fault
returns-then-lacks-clause-fault c =
    let behind = c.after-announced.ensures ∙ ap (λ (n : ℕ). drop n c.args.octets.now) c.announced_place-place.ensures.place in
    let attributes = pieces attribute_size c.attributes.result.now in
    let lack = c.lacks.ensures attributes c.in_ok-values.ensures.values ∙ ap (λ (none : Bool). lacks attributes (not none)) c.is_empty.ensures in
    update_of c.args.agreed c.args.octets.now c.withdrawn-withdrawn.result.now c.attributes_place.result c.attributes.result.now c.announced_place-place.result c.after-announced.result.now
    c.requires.lengths c.withdrawn-withdrawn.ensures.octets c.attributes_place.ensures.place c.attributes.ensures.octets c.announced_place-place.ensures.place behind
    ∙ or_next _ _ c.in_ok-withdrawn_count.ensures.good ∙ or_next _ _ c.in_ok-values.ensures.good ∙ or_next _ _ c.in_ok-announced_count.ensures.good
    ∙ ap lack_fault (sym lack ∙ c.if-lacks.true) ∙ ap Some (sym c.fault.ensures)

pub returns-clause-good : goal.returns-clause-good
returns-clause-good c =
    let behind = c.after-announced.ensures ∙ ap (λ (n : ℕ). drop n c.args.octets.now) c.announced_place-place.ensures.place in
    let attributes = pieces attribute_size c.attributes.result.now in
    let lack = c.lacks.ensures attributes c.in_ok-values.ensures.values ∙ ap (λ (none : Bool). lacks attributes (not none)) c.is_empty.ensures in
    update_of c.args.agreed c.args.octets.now c.withdrawn-withdrawn.result.now c.attributes_place.result c.attributes.result.now c.announced_place-place.result c.after-announced.result.now
    c.requires.lengths c.withdrawn-withdrawn.ensures.octets c.attributes_place.ensures.place c.attributes.ensures.octets c.announced_place-place.ensures.place behind
    ∙ or_next _ _ c.in_ok-withdrawn_count.ensures.good ∙ or_next _ _ c.in_ok-values.ensures.good ∙ or_next _ _ c.in_ok-announced_count.ensures.good
    ∙ ap lack_fault (sym lack ∙ c.if-lacks.false)

pub returns-clause-readable : goal.returns-clause-readable
returns-clause-readable c = record {
  withdrawn = can_be_read 21 c.withdrawn-withdrawn.result.now c.in_ok-withdrawn_count.ensures.good;
  withdrawn_count = c.in_ok-withdrawn_count.ensures.count;
  values = c.in_ok-values.ensures.forms;
  announced = can_be_read _ c.after-announced.result.now c.in_ok-announced_count.ensures.good;
  announced_count = c.in_ok-announced_count.ensures.count;
}
