-- What a configuration says, as the definitions see it.
use Rattle.std.specs.Prelude.{◌≡◌, map, Result, Ok, Err}
use Rattle.config_keys.specs.JudgingViews.{FaultIs}
use Rattle.config_keys.specs.Reading.{ConfigSays, PluginSays}
use Rattle.config_keys.specs.ValueViews.{asked_view}
use Rattle.config_keys.specs.declared.config.Config.{Config}
use Rattle.config_keys.specs.declared.fault.ConfigFault.{ConfigFault}
use Rattle.config_keys.specs.declared.plugin.PluginConfig.{PluginConfig}

abbrev pub plugin_says : PluginConfig → PluginSays
plugin_says plugin = record {
  name = plugin.name;
  kind = plugin.kind;
  asked = asked_view plugin.primitives;
  layout = plugin.layout;
  file = plugin.file;
  refresh = plugin.refresh;
  ring = plugin.ring;
  wait = plugin.wait;
  cache = plugin.cache;
}

abbrev pub says : Config → ConfigSays
says config = record {
  tool = config.tool;
  plugins = map plugin_says config.plugins;
  nfacctd_port = config.nfacctd_port;
  sfacctd_port = config.sfacctd_port;
  nfacctd_renormalize = config.nfacctd_renormalize;
  sfacctd_renormalize = config.sfacctd_renormalize;
  nfacctd_as = config.nfacctd_as;
  sfacctd_as = config.sfacctd_as;
  pre_tag_map = config.pre_tag_map;
  bgp_agent_map = config.bgp_agent_map;
  sampling_map = config.sampling_map;
  bgp_daemon = config.bgp_daemon;
  bmp_daemon = config.bmp_daemon;
  bgp_daemon_port = config.bgp_daemon_port;
  bmp_daemon_port = config.bmp_daemon_port;
  acct_flow_capture = config.acct_flow_capture;
  acct_route_capture = config.acct_route_capture;
  acct_audit_file = config.acct_audit_file;
  acct_dump_file = config.acct_dump_file;
  acct_threads = config.acct_threads;
  acct_replay_lag = config.acct_replay_lag;
  acct_bgp_hold = config.acct_bgp_hold;
  acct_bgp_id = config.acct_bgp_id;
  acct_stop_after = config.acct_stop_after;
}

-- the answer is what the text says, or its first fault, unless memory ran out
abbrev pub IsReading : Result Config ConfigFault → Result ConfigSays ConfigFault → Type 0
IsReading (Ok config) said = said ≡ Ok (says config)
IsReading (Err fault) said = FaultIs fault said
