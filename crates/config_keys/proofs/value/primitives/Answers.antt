use Rattle.std.proofs.Common.{refl}
use Rattle.config_keys.specs.Values.{primitives}
use Rattle.config_keys.proofs.value.primitives.Goals as goal

pub returns : goal.returns
unfolding primitives
returns c = refl
