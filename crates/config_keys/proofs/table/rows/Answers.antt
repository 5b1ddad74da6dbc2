use Rattle.std.proofs.Common.{refl}
use Rattle.config_keys.specs.Table.{table}
use Rattle.config_keys.proofs.table.rows.Goals as goal

pub returns : goal.returns
unfolding table
returns c = refl
