use Rattle.std.proofs.Common.{List, ◌∙◌, Bool, ap, is_some}
use Rattle.std.specs.Map.{lookup}
use Rattle.acct_types.specs.declared.cell.Cell.{Cell}
use Rattle.plugin_cache.specs.Sums.{has_key}
use Rattle.plugin_cache.proofs.KeyLemmas.{same_keys}
use Rattle.plugin_cache.proofs.SumLemmas.{Rows, is_found}
use Rattle.plugin_cache.proofs.aggregate.Aggregate.has.Goals as goal

pub returns : goal.returns
returns c =
    c.contains_key.ensures
    ∙ ap (λ (eq : List Cell → List Cell → Bool). is_some (lookup (eq c.args.key.now) c.self.inside.sums.entries)) (same_keys c.keys_are_ordered.ensures.equality)
    ∙ is_found c.self.inside.sums.entries c.args.key.now
    ∙ ap (λ (rows : Rows). has_key rows c.args.key.now) c.self.view_is
