use Rattle.std.proofs.Common.{◌++◌, Some, None, subst}
use Rattle.flow_templates.specs.Domains.{Numbered, Renumbers}
use Rattle.flow_templates.proofs.DomainLemmas.{renumbered}
use Rattle.flow_templates.proofs.domain_templates.DomainTemplates.put.Goals as goal

pub returns-then-template-clause-put : goal.returns-then-template-clause-put
returns-then-template-clause-put c =
    subst (λ (old : Numbered). Renumbers old.templates (c.put.new.others.entries ++ c.put.new.own.entries) c.args.id (Some c.args.template)) c.self.view_is
    (renumbered _ _ _ _ c.args.id None (Some c.args.template) c.put.ensures.others c.put.ensures.own)

pub returns-else-template-clause-put : goal.returns-else-template-clause-put
returns-else-template-clause-put c =
    subst (λ (old : Numbered). Renumbers old.templates (c.put-else-template.new.own.entries ++ c.put-else-template.new.others.entries) c.args.id (Some c.args.template)) c.self.view_is
    (renumbered _ _ _ _ c.args.id (Some c.args.template) None c.put-else-template.ensures.own c.put-else-template.ensures.others)
