use Rattle.std.proofs.Common.{subst}
use Rattle.flow_templates.specs.Changes.{Entries, HasOneEach}
use Rattle.flow_templates.proofs.OneEachLemmas.{one_each}
use Rattle.flow_templates.proofs.store.TemplateStore.has_one_each.Goals as goal

pub returns : goal.returns
returns c =
    subst (λ (entries : Entries). HasOneEach entries) c.self.view_is
    (one_each c.self.inside.domains.entries c.self.invariant.apart c.self.invariant.one)
