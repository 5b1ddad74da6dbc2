use Rattle.std.proofs.Common.{refl}
use Rattle.config_keys.specs.Values.{left_out_kinds}
use Rattle.config_keys.proofs.value.left_out_kinds.Goals as goal

pub returns : goal.returns
unfolding left_out_kinds
returns c = refl
