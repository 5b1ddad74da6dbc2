use Rattle.std.proofs.Common.{[], refl}
use Rattle.config_keys.proofs.FitLemmas.{settings_fit}
use Rattle.config_keys.specs.Judging.{plugins_named}
use Rattle.config_keys.proofs.laws.values_fit_their_keys.Goals as goal

pub returns : goal.returns
returns c lines settings h = settings_fit (plugins_named lines) lines 1 [] settings refl h
