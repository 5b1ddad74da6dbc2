use Rattle.std.proofs.Common.{◌++◌, ◌+◌, ◌∷◌, [], subst, sym}
use Rattle.acct_types.specs.Updates.{message_view}
use Rattle.rib_table.specs.Stands.{StandsFor}
use Rattle.rib_table.specs.Tables.{Sources, TableState, after_message}
use Rattle.rib_table.proofs.table.Table.apply.Goals as goal

pub returns-clause-stands : goal.returns-clause-stands
returns-clause-stands c messages stands_for =
    let applied = c.tables_stand_for_messages.ensures.applied c.args.self.now messages c.args.message.now stands_for c.requires.later in
    subst (λ (sources : Sources).
    StandsFor (record { sources = sources; count = c.self.inside.count + 1; reached = c.args.message.now.moment; ended = c.self.inside.ended }) (messages ++ message_view c.args.message.now ∷ []))
    (sym c.in_ok-change.ensures.ok) (subst (λ (table : TableState). StandsFor (after_message table (message_view c.args.message.now)) (messages ++ message_view c.args.message.now ∷ [])) (sym c.self.view_is) applied)
