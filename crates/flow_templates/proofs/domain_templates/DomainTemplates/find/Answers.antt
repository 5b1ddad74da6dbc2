use Rattle.std.proofs.Common.{◌∙◌, Option, sym, ap, ap₂}
use Rattle.std.specs.Option.{option_or}
use Rattle.flow_templates.specs.declared.template.Template.{Template}
use Rattle.flow_templates.specs.Domains.{Numbered, numbered}
use Rattle.flow_templates.proofs.DomainLemmas.{in_either}
use Rattle.flow_templates.proofs.domain_templates.DomainTemplates.find.Goals as goal

pub returns-in-Some : goal.returns-in-Some
returns-in-Some c =
    let others = c.self.inside.others.entries in
    let options = c.self.inside.options.entries in
    ap (λ (first : Option Template). option_or first (numbered options c.args.id)) c.in-Some.ensures
    ∙ sym (in_either _ others options) ∙ ap (λ (kept : Numbered). numbered kept.templates c.args.id) c.self.view_is

pub returns-in-None : goal.returns-in-None
returns-in-None c =
    let others = c.self.inside.others.entries in
    let options = c.self.inside.options.entries in
    ap₂ option_or c.in-None.ensures c.find-in-None.ensures
    ∙ sym (in_either _ others options) ∙ ap (λ (kept : Numbered). numbered kept.templates c.args.id) c.self.view_is
