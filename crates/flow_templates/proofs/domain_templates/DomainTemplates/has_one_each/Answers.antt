use Rattle.std.proofs.Common.{subst}
use Rattle.flow_templates.specs.Domains.{HasOneAnId, Numbered}
use Rattle.flow_templates.proofs.OneEachLemmas.{one_an_id}
use Rattle.flow_templates.proofs.domain_templates.DomainTemplates.has_one_each.Goals as goal

pub returns : goal.returns
returns c =
    subst (λ (kept : Numbered). HasOneAnId kept.templates) c.self.view_is
    (one_an_id c.self.inside.others.entries c.self.inside.options.entries c.len-others.ensures.unique c.len-options.ensures.unique c.self.invariant)
