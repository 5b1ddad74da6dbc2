use Rattle.rib_table.proofs.StandLemmas.{stands_for_applied, stands_for_nothing}
use Rattle.rib_table.proofs.laws.tables_stand_for_messages.Goals as goal

pub returns-clause-new : goal.returns-clause-new
returns-clause-new c =
    stands_for_nothing c.sources_are_ordered.ensures.total (λ a b. (c.sources_are_ordered.ensures.equal a b).0) c.names_are_ordered.ensures.total (λ a b. (c.names_are_ordered.ensures.equal a b).0)

pub returns-clause-applied : goal.returns-clause-applied
returns-clause-applied c =
    stands_for_applied c.sources_are_ordered.ensures.total (λ a b. (c.sources_are_ordered.ensures.equal a b).0) c.names_are_ordered.ensures.total (λ a b. (c.names_are_ordered.ensures.equal a b).0)
