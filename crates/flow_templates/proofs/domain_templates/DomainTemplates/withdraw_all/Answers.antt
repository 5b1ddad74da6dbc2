use Rattle.std.proofs.Common.{◌≡◌, ◌++◌, Bool, subst, sym}
use Rattle.flow_templates.specs.Changes.{without_kind}
use Rattle.flow_templates.specs.Domains.{numbered}
use Rattle.flow_templates.proofs.DomainLemmas.{without_options, without_others}
use Rattle.flow_templates.proofs.domain_templates.DomainTemplates.withdraw_all.Goals as goal

pub returns-then-options-clause-withdrawn : goal.returns-then-options-clause-withdrawn
returns-then-options-clause-withdrawn c id =
    let left = c.truncate.new.self.entries in
    subst (λ (options : Bool). numbered (c.self.inside.others.entries ++ left) id ≡ without_kind options (numbered c.args.self.now.templates id)) (sym c.if-options.true)
    (rw (sym c.self.view_is) (without_options c.self.inside.others.entries c.self.inside.options.entries left c.truncate.ensures.entries c.self.invariant id))

pub returns-else-options-clause-withdrawn : goal.returns-else-options-clause-withdrawn
returns-else-options-clause-withdrawn c id =
    let left = c.truncate-else-options.new.self.entries in
    subst (λ (options : Bool). numbered (left ++ c.self.inside.options.entries) id ≡ without_kind options (numbered c.args.self.now.templates id)) (sym c.if-options.false)
    (rw (sym c.self.view_is) (without_others c.self.inside.others.entries c.self.inside.options.entries left c.truncate-else-options.ensures.entries c.self.invariant id))
