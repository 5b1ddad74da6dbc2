use Rattle.rib_table.proofs.ChoiceLemmas.{choices_are_one, route_is_chosen}
use Rattle.rib_table.proofs.laws.the_longest_is_chosen.Goals as goal

pub returns-clause-chosen : goal.returns-clause-chosen
returns-clause-chosen c =
    route_is_chosen c.addresses_are_ordered.ensures.total c.names_are_ordered.ensures.total c.sources_are_ordered.ensures.total (λ a b. (c.sources_are_ordered.ensures.equal a b).0)
    (λ a b. (c.names_are_ordered.ensures.equal a b).0)

pub returns-clause-one : goal.returns-clause-one
returns-clause-one c =
    choices_are_one c.addresses_are_ordered.ensures.total c.names_are_ordered.ensures.total c.sources_are_ordered.ensures.total (λ a b. (c.sources_are_ordered.ensures.equal a b).0)
    (λ a b. (c.names_are_ordered.ensures.equal a b).0)
