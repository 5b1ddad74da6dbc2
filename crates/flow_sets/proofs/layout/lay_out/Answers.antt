use Rattle.std.proofs.Common.{◌≡◌, ◌<◌, ◌≤◌, ◌∙◌, ℕ, Option, length, drop, take, ap, subst}
use Rattle.std.specs.Prelude.{MatchOption}
use Rattle.std.specs.Option.{option_or}
use Rattle.flow_sets.specs.declared.fields.Span.{Span}
use Rattle.flow_sets.specs.Fields.{span_in}
use Rattle.flow_sets.proofs.LayoutLemmas.{if_some, nothing_listed, scope_passes, whole_length, whole_spans}
use Rattle.flow_sets.proofs.layout.lay_out.Goals as goal

pub returns-in_default-clause-length : goal.returns-in_default-clause-length
returns-in_default-clause-length c =
    scope_passes c.args.version c.args.template.now c.args.octets.now c.split_at.result.0.now
    (c.split_at.ensures.front ∙ ap (λ (n : ℕ). take n c.as_slice.result.now) c.skipped.ensures.skipped ∙ ap (take _) c.as_slice.ensures) c.in_default.ensures

pub returns-clause-length : goal.returns-clause-length
returns-clause-length c =
    let front = c.split_at.ensures.front ∙ ap (λ (n : ℕ). take n c.as_slice.result.now) c.skipped.ensures.skipped ∙ ap (take _) c.as_slice.ensures in
    let back = c.split_at.ensures.back ∙ ap (λ (n : ℕ). drop n c.as_slice.result.now) c.skipped.ensures.skipped ∙ ap (drop _) c.as_slice.ensures in
    let whole = whole_length c.args.version c.args.template.now c.args.octets.now c.split_at.result.0.now c.split_at.result.1.now c.in-Some.begin front back c.in-Some.ensures.0 in
    subst (λ (end : ℕ). MatchOption c.note_all.result (length c.args.octets.now < end) (λ used. (used ≡ end) × (used ≤ length c.args.octets.now))) whole c.note_all.ensures.end

pub returns-clause-spans : goal.returns-clause-spans
returns-clause-spans c =
    let front = c.split_at.ensures.front ∙ ap (λ (n : ℕ). take n c.as_slice.result.now) c.skipped.ensures.skipped ∙ ap (take _) c.as_slice.ensures in
    let back = c.split_at.ensures.back ∙ ap (λ (n : ℕ). drop n c.as_slice.result.now) c.skipped.ensures.skipped ∙ ap (drop _) c.as_slice.ensures in
    if_some c.note_all.result c.note_all.ensures.noted
    (λ noted element.
    noted element
    ∙ ap (λ (x : Option Span). option_or x (span_in c.args.version element c.split_at.result.1.now c.args.octets.now c.in-Some.begin)) (nothing_listed 65 element)
    ∙ whole_spans c.args.version c.args.template.now c.args.octets.now c.split_at.result.0.now c.split_at.result.1.now c.in-Some.begin element front back c.in-Some.ensures.0)
