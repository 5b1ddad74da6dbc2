-- The job that a configuration gives, and what of configurations isn't built yet.
use Rattle.std.specs.Prelude.{◌≡◌, ℕ, ◌||◌, Bool, true, false, not, List, [], Option, Some, None, is_some, unwrap_or, Result, Ok, Err, if◌then◌else◌}
use Rattle.collect_core.specs.declared.job.Job.{Job}
use Rattle.collect_core.specs.Job.{collects}
use Rattle.config_keys.specs.ConfigViews.{says}
use Rattle.config_keys.specs.Lines.{is_among}
use Rattle.config_keys.specs.Reading.{ConfigSays, config_of, output_names, shares_name}
use Rattle.config_keys.specs.declared.fault.ConfigCause.{ConfigCause}
use Rattle.config_keys.specs.declared.fault.ConfigCause.TheVariants.{NotInProfile, SameName}
use Rattle.config_keys.specs.declared.fault.ConfigFault.{ConfigFault}
use Rattle.config_keys.specs.declared.fault.ConfigFault.TheVariants.{At}
use Rattle.config_keys.specs.declared.tool.Tool.{Tool}

-- Something that a configuration asks for isn't built yet: pmbgpd, routes.
abbrev pub is_unbuilt : ConfigSays → Bool
is_unbuilt config = not (collects config.tool) || config.bgp_daemon || config.bmp_daemon || is_some config.bgp_agent_map

-- What is wrong with an accepted configuration in a file, at no line, before its maps are read: something isn't built
-- yet, or an output has the file's name.
abbrev pub refusal_of : List ℕ → ConfigSays → Option ConfigCause
refusal_of file config =
    if is_unbuilt config then Some NotInProfile
    else (if is_among (output_names config) file then Some SameName else None)

abbrev pub unless_refused : Option ConfigCause → ConfigSays → Result ConfigSays ConfigFault
unless_refused None config = Ok config
unless_refused (Some cause) config = Err (At 0 cause)

abbrev pub built_from : List ℕ → Result ConfigSays ConfigFault → Result ConfigSays ConfigFault
built_from file (Err fault) = Err fault
built_from file (Ok config) = unless_refused (refusal_of file config) config

-- what the text of a file says as the configuration of a tool that is built, or why it is refused
abbrev pub built_config : Tool → List ℕ → List ℕ → Result ConfigSays ConfigFault
built_config tool file text = built_from file (config_of tool text)

-- the name of the capture of flows
abbrev pub capture_of : Job → List ℕ
capture_of job = unwrap_or job.config.acct_flow_capture []

-- A job that is built: it replays a capture of flows, without routes, and its names differ.
pub record IsReplay (job : Job) : Type 0 where
  pub built : is_unbuilt (says job.config) ≡ false
  pub apart : shares_name (says job.config) ≡ false
  pub captured : is_some job.config.acct_flow_capture ≡ true

-- the job is that of a configuration, whatever its maps say
pub record IsJobOf (job : Job) (config : ConfigSays) : Type 0 where
  pub config_is : says job.config ≡ config
  pub replay : IsReplay job
