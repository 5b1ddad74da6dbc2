use Rattle.std.proofs.Common.{◌≡◌, ◌++◌, length, map}
use Rattle.std.specs.Option.{option_copied, option_map}
use Rattle.acct_types.specs.Primitives.{columns_of}
use Rattle.acct_types.specs.StandingRoutes.{route_ref_view}
use Rattle.primitive_keys.specs.Keys.{cell_in}
use Rattle.primitive_keys.proofs.key.key_of.Given as goal

-- the cells of the rest are still to be added
abbrev pub invariant-loop-column : goal.invariant-loop-column
invariant-loop-column l =
    l.key ++ map (cell_in l.sources.record.now l.sources.from (option_map route_ref_view (option_copied l.sources.src)) (option_map route_ref_view (option_copied l.sources.dst)) l.sources.tags.now (option_copied l.sources.label) l.sources.window) (columns_of l.rest)
    ≡ map (cell_in l.sources.record.now l.sources.from (option_map route_ref_view (option_copied l.sources.src)) (option_map route_ref_view (option_copied l.sources.dst)) l.sources.tags.now (option_copied l.sources.label) l.sources.window) (columns_of l.p)

abbrev pub decreases-loop-column : goal.decreases-loop-column
decreases-loop-column l = length (columns_of l.rest)
