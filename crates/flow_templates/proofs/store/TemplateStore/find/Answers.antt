use Rattle.std.proofs.Common.{◌∙◌, Option, None, sym, ap, subst}
use Rattle.flow_templates.specs.declared.template.Template.{Template}
use Rattle.flow_templates.specs.Changes.{Entries, found}
use Rattle.flow_templates.specs.Domains.{Numbered}
use Rattle.flow_templates.specs.Keys.{key_of}
use Rattle.flow_templates.specs.Templates.{IsDefined}
use Rattle.flow_templates.proofs.ChangeLemmas.{DefinedAt, if_found}
use Rattle.flow_templates.proofs.DomainLemmas.{found_held, held, held_by}
use Rattle.flow_templates.proofs.RecordLemmas.{if_accepted}
use Rattle.flow_templates.proofs.store.TemplateStore.find.Goals as goal

pub returns-in_default-clause-found : goal.returns-in_default-clause-found
returns-in_default-clause-found c =
    let domains = c.self.inside.domains.entries in
    let key = key_of c.args.domain.now c.args.id in
    sym (ap (λ (entries : Entries). found entries key) (sym c.self.view_is) ∙ found_held domains c.self.invariant.apart key
    ∙ ap (λ (one : Option Numbered). held one c.args.id) (held_by domains c.args.domain.now None c.in_default.ensures.value))

pub returns-clause-found : goal.returns-clause-found
returns-clause-found c =
    let domains = c.self.inside.domains.entries in
    let key = key_of c.args.domain.now c.args.id in
    c.find.ensures ∙ sym (ap (λ (entries : Entries). found entries key) (sym c.self.view_is) ∙ found_held domains c.self.invariant.apart key
    ∙ ap (λ (one : Option Numbered). held one c.args.id) (held_by domains c.args.domain.now _ c.in-Some.ensures.value))

pub returns-clause-defined : goal.returns-clause-defined
returns-clause-defined c =
    let domains = c.self.inside.domains.entries in
    let key = key_of c.args.domain.now c.args.id in
    if_found (IsDefined c.args.domain.now.version) c.find.result
    (subst (λ (one : Option Template). DefinedAt key one)
    (found_held domains c.self.invariant.apart key ∙ ap (λ (one : Option Numbered). held one c.args.id) (held_by domains c.args.domain.now _ c.in-Some.ensures.value) ∙ sym c.find.ensures)
    (c.self.invariant.defined key))

pub returns-clause-accepted : goal.returns-clause-accepted
returns-clause-accepted c =
    if_accepted c.args.domain.now.version c.find.result (returns-clause-defined c)
