use Rattle.std.proofs.Common.{ℕ, List, length, sym, subst}
use Rattle.flow_templates.specs.declared.change.TemplateChange.{TemplateChange}
use Rattle.flow_templates.specs.declared.noted.Subject.{Subject}
use Rattle.flow_templates.specs.Noted.{ArePlaces, same_subject, subject_of}
use Rattle.flow_templates.proofs.NotedLemmas.{UpdatedPlace, one_more_place, updated_place}
use Rattle.flow_templates.proofs.StoreLemmas.{on_ok}
use Rattle.flow_templates.proofs.noted.NotedChanges.push.Goals as goal

pub invariant_of-self-2 : goal.invariant_of-self-2
invariant_of-self-2 c =
    let changes = c.self.inside.changes in
    let old = c.self.inside.last.entries in
    let new = c.insert.new.self.entries in
    let room = c.insert.ensures.succeeds c.in_ok-reserve.ensures.ok in
    let moved = updated_place _ _ _ _ (on_ok c.insert.result _ room c.insert.ensures.updates).0 in
    subst (λ (all : List TemplateChange). ArePlaces all new) (sym c.in_ok-push.ensures.ok)
    (one_more_place changes c.args.change old new c.self.invariant
    (subst (λ (entries : List (Subject × ℕ)). UpdatedPlace same_subject entries new (subject_of c.args.change) (length changes)) c.reserve.ensures.entries
    (subst (λ (subject : Subject). UpdatedPlace same_subject c.reserve.new.self.entries new subject (length changes)) c.subject_of-subject.ensures
    (subst (λ (place : ℕ). UpdatedPlace same_subject c.reserve.new.self.entries new c.subject_of-subject.result place) c.len-place.ensures moved))))
