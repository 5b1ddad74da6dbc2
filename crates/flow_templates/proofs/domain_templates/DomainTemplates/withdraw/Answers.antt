use Rattle.std.proofs.Common.{◌++◌, None, subst}
use Rattle.flow_templates.specs.Domains.{Numbered, Renumbers}
use Rattle.flow_templates.proofs.DomainLemmas.{renumbered, still_parted}
use Rattle.flow_templates.proofs.domain_templates.DomainTemplates.withdraw.Goals as goal

pub invariant_of-self : goal.invariant_of-self
invariant_of-self c =
    still_parted c.self.inside.others.entries c.self.inside.options.entries _ _ c.args.id c.swap_remove-other.ensures.updates.0 c.swap_remove-options.ensures.updates.0 c.self.invariant

pub returns-clause-withdrawn : goal.returns-clause-withdrawn
returns-clause-withdrawn c =
    subst (λ (old : Numbered). Renumbers old.templates (c.swap_remove-other.new.self.entries ++ c.swap_remove-options.new.self.entries) c.args.id None) c.self.view_is
    (renumbered _ _ _ _ c.args.id None None c.swap_remove-other.ensures.updates.0 c.swap_remove-options.ensures.updates.0)
