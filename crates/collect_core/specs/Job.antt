-- What a configuration asks of a collector.
use Rattle.std.specs.Prelude.{Bool, true, false}
use Rattle.acct_types.specs.declared.choice.AsFrom.{AsFrom}
use Rattle.config_keys.specs.Reading.{ConfigSays}
use Rattle.config_keys.specs.declared.tool.Tool.{Tool}
use Rattle.config_keys.specs.declared.tool.Tool.TheVariants.{Nfacctd, Sfacctd, Pmbgpd}

abbrev pub collects : Tool → Bool
collects Nfacctd = true
collects Sfacctd = true
collects Pmbgpd = false

-- what the tool's own keys say
abbrev pub as_of : ConfigSays → AsFrom
as_of config = elim config.tool [ Sfacctd ↦ config.sfacctd_as | Nfacctd ↦ config.nfacctd_as | Pmbgpd ↦ config.nfacctd_as ]

abbrev pub renormalises : ConfigSays → Bool
renormalises config = elim config.tool [ Sfacctd ↦ config.sfacctd_renormalize | Nfacctd ↦ config.nfacctd_renormalize | Pmbgpd ↦ config.nfacctd_renormalize ]
