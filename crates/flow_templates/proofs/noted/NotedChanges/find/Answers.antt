use Rattle.std.proofs.Common.{◌∙◌, List, sym, ap}
use Rattle.std.specs.Option.{option_copied}
use Rattle.flow_templates.specs.declared.change.TemplateChange.{TemplateChange}
use Rattle.flow_templates.specs.declared.noted.Subject.TheVariants.{One, Kind}
use Rattle.flow_templates.specs.Changes.{after_all}
use Rattle.flow_templates.specs.Noted.{put_or}
use Rattle.flow_templates.proofs.NotedLemmas.{nothing_put, place_by, template_put}
use Rattle.flow_templates.proofs.noted.NotedChanges.find.Goals as goal

pub returns-in_err-template : goal.returns-in_err-template
returns-in_err-template c =
    let last = c.self.inside.last.entries in
    let key = c.args.key.now in
    let before = option_copied c.args.before in
    ap option_copied c.from_residual.ensures
    ∙ nothing_put c.self.inside.changes last key before c.copied-place.result (c.copied-place.ensures ∙ c.get.ensures.value ∙ place_by last (One key))
    (c.in_err-template.ensures ∙ ap (λ (items : List TemplateChange). put_or items c.copied-place.result before) c.as_slice.ensures)
    ∙ sym (c.self.invariant.tell key before)
    ∙ ap (λ (changes : List TemplateChange). after_all changes key before) c.self.view_is

pub returns : goal.returns
returns c =
    let last = c.self.inside.last.entries in
    let key = c.args.key.now in
    let before = option_copied c.args.before in
    let template = c.in_ok-template.template in
    ap option_copied c.then_some.ensures
    ∙ template_put c.self.inside.changes last key before c.copied-place.result c.copied.result c.is_later-later.result template
    (c.copied-place.ensures ∙ c.get.ensures.value ∙ place_by last (One key))
    (c.in_ok-template.ensures ∙ ap (λ (items : List TemplateChange). put_or items c.copied-place.result before) c.as_slice.ensures)
    (c.copied.ensures ∙ c.get-2.ensures.value ∙ place_by last (Kind key.domain template.now.options)) c.is_later-later.ensures
    ∙ sym (c.self.invariant.tell key before)
    ∙ ap (λ (changes : List TemplateChange). after_all changes key before) c.self.view_is
