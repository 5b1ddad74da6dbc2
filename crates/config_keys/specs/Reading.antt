-- What a configuration says, by its settings.
use Rattle.std.specs.Prelude.{ℕ, ◌&&◌, ◌||◌, Bool, true, false, not, List, [], ◌∷◌, ◌++◌, map, find, Option, Some, None, option_map, option_and_then, unwrap_or, is_some, is_none, Result, Ok, Err, if◌then◌else◌, codes}
use Rattle.std.specs.List.{list_any}
use Rattle.std.specs.Option.{option_to_list}
use Rattle.std.specs.Str.{bytes_eq}
use Rattle.acct_types.specs.Columns.{with_column}
use Rattle.acct_types.specs.declared.addr.Addr.{Addr}
use Rattle.acct_types.specs.declared.addr.Addr.TheVariants.{V4}
use Rattle.acct_types.specs.declared.choice.AsFrom.{AsFrom}
use Rattle.acct_types.specs.declared.choice.AsFrom.TheVariants.{Export, Bgp, Bmp}
use Rattle.acct_types.specs.declared.choice.Layout.{Layout}
use Rattle.acct_types.specs.declared.choice.Layout.TheVariants.{Formatted, Csv, Json}
use Rattle.acct_types.specs.declared.primitives.Column.TheVariants.{SrcHost}
use Rattle.config_keys.specs.Judging.{plugins_or_none, settings_of}
use Rattle.config_keys.specs.Lines.{Text, Setting, is_among, lines_of}
use Rattle.config_keys.specs.Table.{entries_range, hold_range, lag_range, port_range, refresh_range, stop_range}
use Rattle.config_keys.specs.Values.{Asked, NamedPlugin, are_apart, asked_by, identifier_of, nothing_asked, number_within, plugins_of}
use Rattle.config_keys.specs.declared.fault.ConfigCause.TheVariants.{MissingKey, SameName}
use Rattle.config_keys.specs.declared.fault.ConfigFault.{ConfigFault}
use Rattle.config_keys.specs.declared.fault.ConfigFault.TheVariants.{At}
use Rattle.config_keys.specs.declared.table.Range.{Range}
use Rattle.config_keys.specs.declared.tool.Tool.{Tool}
use Rattle.config_keys.specs.declared.tool.Tool.TheVariants.{Nfacctd, Sfacctd, Pmbgpd}
use Rattle.config_keys.specs.declared.value.PluginKind.{PluginKind}
use Rattle.config_keys.specs.declared.value.PluginKind.TheVariants.{Print, Memory}

-- ---- the value that a key has

abbrev pub same_name : Option Text → Option Text → Bool
same_name None None = true
same_name None (Some name) = false
same_name (Some name) None = false
same_name (Some name) (Some other) = bytes_eq name other

-- the value of a key with a name, or without one
abbrev pub value_in : List Setting → Text → Option Text → Option Text
value_in settings key name = option_map (λ s. s.value) (find (λ s. bytes_eq s.key key && same_name s.name name) settings)

abbrev pub first_some : Option Text → Option Text → Option Text
first_some None other = other
first_some (Some value) other = Some value

-- the value of a key for a plugin: with its name, or else without a name
abbrev pub value_for : List Setting → Text → Text → Option Text
value_for settings key plugin = first_some (value_in settings key (Some plugin)) (value_in settings key None)

-- ---- what values say, with the default of a key that isn't there

-- (Each value that stands fits its key, or its line has a cause.)
abbrev pub number_or : Range → Option Text → ℕ → ℕ
number_or range value default = unwrap_or (option_and_then (number_within range) value) default

abbrev pub identifier_or : Option Text → Addr → Addr
identifier_or value default = unwrap_or (option_and_then identifier_of value) default

abbrev pub truth_or : Option Text → Bool → Bool
truth_or None default = default
truth_or (Some value) default = bytes_eq value (codes "true")

abbrev pub layout_in : Option Text → Layout
layout_in None = Formatted
layout_in (Some value) = if bytes_eq value (codes "csv") then Csv else (if bytes_eq value (codes "json") then Json else Formatted)

abbrev pub as_from_in : Option Text → AsFrom
as_from_in None = Export
as_from_in (Some value) = if bytes_eq value (codes "bgp") then Bgp else (if bytes_eq value (codes "bmp") then Bmp else Export)

abbrev pub by_source_host : Asked
by_source_host = record nothing_asked { columns = with_column SrcHost [] }

abbrev pub asked_in : Option Text → Asked
asked_in value = unwrap_or (option_and_then asked_by value) by_source_host

-- ---- plugins

-- what a configuration says of one plugin
pub record PluginSays : Type 0 where
  pub name : Text
  pub kind : PluginKind
  pub asked : Asked
  pub layout : Layout
  pub file : Text
  pub refresh : ℕ
  pub ring : ℕ
  pub wait : Bool
  pub cache : ℕ

-- the key of the output's name
abbrev pub file_key : PluginKind → Text
file_key Print = codes "print_output_file"
file_key Memory = codes "acct_memory_file"

-- only a print plugin needs the key that says that its file is appended to
abbrev pub lacks_append : PluginKind → Option Text → Bool
lacks_append Print value = is_none value
lacks_append Memory value = false

abbrev pub plugin_with : List Setting → Bool → NamedPlugin → Text → PluginSays
plugin_with settings replay plugin file = record {
  name = plugin.name;
  kind = plugin.kind;
  asked = asked_in (value_for settings (codes "aggregate") plugin.name);
  layout = layout_in (value_for settings (codes "print_output") plugin.name);
  file = file;
  refresh = number_or refresh_range (value_for settings (codes "print_refresh_time") plugin.name) 60;
  ring = number_or entries_range (value_for settings (codes "acct_ring_records") plugin.name) 4096;
  wait = truth_or (value_for settings (codes "acct_ring_wait") plugin.name) replay;
  cache = number_or entries_range (value_for settings (codes "acct_cache_entries") plugin.name) 16384;
}

-- what is said of a plugin, where no key of it is missing
abbrev pub plugin_of : List Setting → Bool → NamedPlugin → Option PluginSays
plugin_of settings replay plugin =
    if lacks_append plugin.kind (value_for settings (codes "print_output_file_append") plugin.name) then None
    else option_map (plugin_with settings replay plugin) (value_for settings (file_key plugin.kind) plugin.name)

abbrev pub behind : Option PluginSays → Option (List PluginSays) → Option (List PluginSays)
behind None more = None
behind (Some plugin) more = option_map (λ plugins. plugin ∷ plugins) more

-- what is said of each plugin, where no key of one is missing
abbrev pub plugins_from : List Setting → Bool → List NamedPlugin → Option (List PluginSays)
plugins_from settings replay [] = Some []
plugins_from settings replay (plugin ∷ plugins) = behind (plugin_of settings replay plugin) (plugins_from settings replay plugins)

-- whether a collector's run is a replay
abbrev pub is_replay : List Setting → Bool
is_replay settings = is_some (value_in settings (codes "acct_flow_capture") None)

abbrev pub named_plugins : List Setting → Option (List NamedPlugin)
named_plugins settings = option_and_then (λ value. plugins_or_none (plugins_of value)) (value_in settings (codes "plugins") None)

abbrev pub collector_plugins : List Setting → Option (List PluginSays)
collector_plugins settings = option_and_then (plugins_from settings (is_replay settings)) (named_plugins settings)

-- the plugins of a tool, where no key is missing; pmbgpd has none and needs no key
abbrev pub plugins_for : Tool → List Setting → Option (List PluginSays)
plugins_for Nfacctd settings = collector_plugins settings
plugins_for Sfacctd settings = collector_plugins settings
plugins_for Pmbgpd settings = Some []

-- ---- the configuration

-- what a configuration says, key by key
pub record ConfigSays : Type 0 where
  pub tool : Tool
  pub plugins : List PluginSays
  pub nfacctd_port : ℕ
  pub sfacctd_port : ℕ
  pub nfacctd_renormalize : Bool
  pub sfacctd_renormalize : Bool
  pub nfacctd_as : AsFrom
  pub sfacctd_as : AsFrom
  pub pre_tag_map : Option Text
  pub bgp_agent_map : Option Text
  pub sampling_map : Option Text
  pub bgp_daemon : Bool
  pub bmp_daemon : Bool
  pub bgp_daemon_port : ℕ
  pub bmp_daemon_port : ℕ
  pub acct_flow_capture : Option Text
  pub acct_route_capture : Option Text
  pub acct_audit_file : Text
  pub acct_dump_file : Text
  pub acct_threads : Bool
  pub acct_replay_lag : ℕ
  pub acct_bgp_hold : ℕ
  pub acct_bgp_id : Addr
  pub acct_stop_after : ℕ

-- pmbgpd serves BGP unless it is told not to
abbrev pub has_bgp_daemon : Tool → Bool
has_bgp_daemon Nfacctd = false
has_bgp_daemon Sfacctd = false
has_bgp_daemon Pmbgpd = true

-- the value of a key of the whole program
abbrev pub value_of : List Setting → Text → Option Text
value_of settings key = value_in settings key None

abbrev pub config_with : Tool → List Setting → List PluginSays → ConfigSays
config_with tool settings plugins = record {
  tool = tool;
  plugins = plugins;
  nfacctd_port = number_or port_range (value_of settings (codes "nfacctd_port")) 2100;
  sfacctd_port = number_or port_range (value_of settings (codes "sfacctd_port")) 6343;
  nfacctd_renormalize = truth_or (value_of settings (codes "nfacctd_renormalize")) false;
  sfacctd_renormalize = truth_or (value_of settings (codes "sfacctd_renormalize")) false;
  nfacctd_as = as_from_in (value_of settings (codes "nfacctd_as"));
  sfacctd_as = as_from_in (value_of settings (codes "sfacctd_as"));
  pre_tag_map = value_of settings (codes "pre_tag_map");
  bgp_agent_map = value_of settings (codes "bgp_agent_map");
  sampling_map = value_of settings (codes "sampling_map");
  bgp_daemon = truth_or (value_of settings (codes "bgp_daemon")) (has_bgp_daemon tool);
  bmp_daemon = truth_or (value_of settings (codes "bmp_daemon")) false;
  bgp_daemon_port = number_or port_range (value_of settings (codes "bgp_daemon_port")) 179;
  bmp_daemon_port = number_or port_range (value_of settings (codes "bmp_daemon_port")) 1790;
  acct_flow_capture = value_of settings (codes "acct_flow_capture");
  acct_route_capture = value_of settings (codes "acct_route_capture");
  acct_audit_file = unwrap_or (value_of settings (codes "acct_audit_file")) (codes "audit.txt");
  acct_dump_file = unwrap_or (value_of settings (codes "acct_dump_file")) (codes "dump.txt");
  acct_threads = truth_or (value_of settings (codes "acct_threads")) true;
  acct_replay_lag = number_or lag_range (value_of settings (codes "acct_replay_lag")) 0;
  acct_bgp_hold = number_or hold_range (value_of settings (codes "acct_bgp_hold")) 180;
  acct_bgp_id = identifier_or (value_of settings (codes "acct_bgp_id")) (V4 2130706433);
  acct_stop_after = number_or stop_range (value_of settings (codes "acct_stop_after")) 4294967295;
}

-- ---- keys that are missing and names that are the same

-- routing parts from a daemon that isn't on
abbrev pub lacks_daemon : ConfigSays → AsFrom → Bool
lacks_daemon config Export = false
lacks_daemon config Bgp = not config.bgp_daemon
lacks_daemon config Bmp = not config.bmp_daemon

-- A replay with a daemon on needs the capture of routes, and without the capture of flows there is none of routes.
abbrev pub lacks_capture : ConfigSays → Bool
lacks_capture config =
    if is_some config.acct_flow_capture then (config.bgp_daemon || config.bmp_daemon) && is_none config.acct_route_capture
    else is_some config.acct_route_capture

abbrev pub lacks_key : Tool → ConfigSays → Bool
lacks_key Nfacctd config = lacks_daemon config config.nfacctd_as || lacks_capture config
lacks_key Sfacctd config = lacks_daemon config config.sfacctd_as || lacks_capture config
lacks_key Pmbgpd config = false

abbrev pub outputs_for : Tool → ConfigSays → List Text
outputs_for Nfacctd config = config.acct_audit_file ∷ map (λ plugin. plugin.file) config.plugins
outputs_for Sfacctd config = config.acct_audit_file ∷ map (λ plugin. plugin.file) config.plugins
outputs_for Pmbgpd config = config.acct_dump_file ∷ []

-- the names of the outputs
abbrev pub output_names : ConfigSays → List Text
output_names config = outputs_for config.tool config

abbrev pub collector_inputs : ConfigSays → List Text
collector_inputs config =
    option_to_list config.acct_flow_capture ++ option_to_list config.acct_route_capture
    ++ option_to_list config.pre_tag_map ++ option_to_list config.bgp_agent_map ++ option_to_list config.sampling_map

abbrev pub inputs_for : Tool → ConfigSays → List Text
inputs_for Nfacctd config = collector_inputs config
inputs_for Sfacctd config = collector_inputs config
inputs_for Pmbgpd config = option_to_list config.acct_route_capture

-- the names of the captures and maps
abbrev pub input_names : ConfigSays → List Text
input_names config = inputs_for config.tool config

abbrev pub same_texts : Option Text → Option Text → Bool
same_texts None other = false
same_texts (Some text) None = false
same_texts (Some text) (Some other) = bytes_eq text other

abbrev pub same_captures : Tool → ConfigSays → Bool
same_captures Nfacctd config = same_texts config.acct_flow_capture config.acct_route_capture
same_captures Sfacctd config = same_texts config.acct_flow_capture config.acct_route_capture
same_captures Pmbgpd config = false

-- two outputs have one name, or a collector's two captures, or an output has that of an input or a map
abbrev pub shares_name : ConfigSays → Bool
shares_name config =
    not (are_apart (output_names config)) || same_captures config.tool config
    || list_any (λ name. is_among (input_names config) name) (output_names config)

-- ---- the whole

abbrev pub judged : ConfigSays → Result ConfigSays ConfigFault
judged config =
    if lacks_key config.tool config then Err (At 0 MissingKey)
    else (if shares_name config then Err (At 0 SameName) else Ok config)

abbrev pub completed : Tool → List Setting → Option (List PluginSays) → Result ConfigSays ConfigFault
completed tool settings None = Err (At 0 MissingKey)
completed tool settings (Some plugins) = judged (config_with tool settings plugins)

abbrev pub config_from : Tool → Result (List Setting) ConfigFault → Result ConfigSays ConfigFault
config_from tool (Err fault) = Err fault
config_from tool (Ok settings) = completed tool settings (plugins_for tool settings)

-- what a text says as the configuration of a tool, or the first fault
abbrev pub config_of : Tool → Text → Result ConfigSays ConfigFault
config_of tool text = config_from tool (settings_of (lines_of text))
