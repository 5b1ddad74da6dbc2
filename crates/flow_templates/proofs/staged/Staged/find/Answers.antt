use Rattle.std.proofs.Common.{◌≡◌, ◌∙◌, sym, ap, subst}
use Rattle.std.specs.Option.{option_copied}
use Rattle.flow_templates.specs.declared.template.TemplateKey.{TemplateKey}
use Rattle.flow_templates.specs.Changes.{after_all, key_of}
use Rattle.flow_templates.specs.Templates.{IsDefined}
use Rattle.flow_templates.proofs.ChangeLemmas.{DefinedAt, defined_after_all, found_if, if_found}
use Rattle.flow_templates.proofs.RecordLemmas.{if_accepted}
use Rattle.flow_templates.proofs.staged.Staged.find.Goals as goal

pub returns-clause-defined : goal.returns-clause-defined
returns-clause-defined c =
    let key = key_of c.args.domain.now c.args.id in
    let kept = option_copied c.find.result in
    let first : DefinedAt key kept = found_if (IsDefined c.args.domain.now.version) c.find.result c.find.ensures.defined in
    let all : DefinedAt key (after_all c.self.inside.changes key kept) = defined_after_all c.self.inside.changes key kept c.self.invariant first in
    let last : option_copied c.find-2.result ≡ after_all c.self.inside.changes key kept = c.find-2.ensures ∙ ap (λ (one : TemplateKey). after_all c.self.inside.changes one kept) c.new-key.ensures in
    if_found (IsDefined c.args.domain.now.version) c.find-2.result (subst (DefinedAt key) (sym last) all)

pub returns-clause-accepted : goal.returns-clause-accepted
returns-clause-accepted c = if_accepted c.args.domain.now.version c.find-2.result (returns-clause-defined c)
