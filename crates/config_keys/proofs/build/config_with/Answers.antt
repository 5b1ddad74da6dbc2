use Rattle.std.proofs.Common.{◌∙◌, None, ap, codes, map}
use Rattle.config_keys.specs.ConfigViews.{plugin_says}
use Rattle.config_keys.specs.Reading.{truth_or, value_in}
use Rattle.config_keys.specs.Views.{setting_of}
use Rattle.config_keys.proofs.build.config_with.Goals as goal

-- key by key
pub returns : goal.returns
returns c = λ i. record {
  tool = c.args.tool;
  plugins = map plugin_says c.args.plugins;
  nfacctd_port = c.number_of.ensures.value i;
  sfacctd_port = c.number_of-2.ensures.value i;
  nfacctd_renormalize = c.truth_of.ensures i;
  sfacctd_renormalize = c.truth_of-2.ensures i;
  nfacctd_as = c.as_from_of.ensures i;
  sfacctd_as = c.as_from_of-2.ensures i;
  pre_tag_map = c.in_ok-pre_tag_map.ensures i;
  bgp_agent_map = c.in_ok-bgp_agent_map.ensures i;
  sampling_map = c.in_ok-sampling_map.ensures i;
  bgp_daemon = (c.truth_of-3.ensures ∙ ap (truth_or (value_in (map setting_of c.args.entries.now) (codes "bgp_daemon") None)) c.has_bgp_daemon.ensures) i;
  bmp_daemon = c.truth_of-4.ensures i;
  bgp_daemon_port = c.number_of-3.ensures.value i;
  bmp_daemon_port = c.number_of-4.ensures.value i;
  acct_flow_capture = c.in_ok-acct_flow_capture.ensures i;
  acct_route_capture = c.in_ok-acct_route_capture.ensures i;
  acct_audit_file = c.in_ok-acct_audit_file.ensures i;
  acct_dump_file = c.in_ok-acct_dump_file.ensures i;
  acct_threads = c.truth_of-5.ensures i;
  acct_replay_lag = c.number_of-5.ensures.value i;
  acct_bgp_hold = c.number_of-6.ensures.value i;
  acct_bgp_id = c.identifier_of.ensures.value i;
  acct_stop_after = c.number_of-7.ensures.value i;
}
