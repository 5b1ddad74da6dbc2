-- The keys of the configuration, a row for each: its name, where it may stand, and the values it takes.
use Rattle.std.specs.Prelude.{ℕ, ◌==◌, ◌&&◌, ◌||◌, Bool, true, false, nat_le, List, [], ◌∷◌, Option, find, codes}
use Rattle.std.specs.Str.{bytes_eq}
use Rattle.config_keys.specs.Lines.{Text}
use Rattle.config_keys.specs.declared.table.Scope.{Scope}
use Rattle.config_keys.specs.declared.table.Scope.TheVariants.{Global, Plugin, PassedOver}
use Rattle.config_keys.specs.declared.table.Choice.{Choice as OneOf}
use Rattle.config_keys.specs.declared.table.Choice.TheVariants.{Truth, Append, Layout, NetflowAs, SflowAs}
use Rattle.config_keys.specs.declared.table.Range.{Range}
use Rattle.config_keys.specs.declared.table.Kind.{Kind}
use Rattle.config_keys.specs.declared.table.Kind.TheVariants.{Plugins, Primitives, Choice, FileName, Number, Identifier, Anything}
use Rattle.config_keys.specs.declared.table.Row.{Row}

-- a key, where it may stand, and the values it takes
pub record KeyRow : Type 0 where
  pub name : Text
  pub scope : Scope
  pub kind : Kind

abbrev pub row_view : Row → KeyRow
row_view row = record { name = row.name.now; scope = row.scope; kind = row.kind }

abbrev pub key : Text → Scope → Kind → KeyRow
key name scope kind = record { name = name; scope = scope; kind = kind }

-- the numbers from the least to the most
abbrev pub from_to : ℕ → ℕ → Range
from_to least most = record { zero = false; least = least; most = most }

abbrev pub port_range : Range
port_range = from_to 1 65535

abbrev pub refresh_range : Range
refresh_range = from_to 1 86400

abbrev pub entries_range : Range
entries_range = from_to 1 65536

abbrev pub lag_range : Range
lag_range = from_to 0 4294967295

-- or 0
abbrev pub hold_range : Range
hold_range = record (from_to 3 65535) { zero = true }

abbrev pub stop_range : Range
stop_range = from_to 1 4294967295

unfoldable pub table : List KeyRow
table =
    key (codes "plugins") Global Plugins ∷
    key (codes "aggregate") Plugin Primitives ∷
    key (codes "print_output") Plugin (Choice Layout) ∷
    key (codes "print_output_file") Plugin FileName ∷
    key (codes "print_output_file_append") Plugin (Choice Append) ∷
    key (codes "print_refresh_time") Plugin (Number refresh_range) ∷
    key (codes "acct_memory_file") Plugin FileName ∷
    key (codes "acct_cache_entries") Plugin (Number entries_range) ∷
    key (codes "acct_ring_records") Plugin (Number entries_range) ∷
    key (codes "acct_ring_wait") Plugin (Choice Truth) ∷
    key (codes "nfacctd_port") Global (Number port_range) ∷
    key (codes "sfacctd_port") Global (Number port_range) ∷
    key (codes "nfacctd_renormalize") Global (Choice Truth) ∷
    key (codes "sfacctd_renormalize") Global (Choice Truth) ∷
    key (codes "nfacctd_as") Global (Choice NetflowAs) ∷
    key (codes "sfacctd_as") Global (Choice SflowAs) ∷
    key (codes "pre_tag_map") Global FileName ∷
    key (codes "bgp_agent_map") Global FileName ∷
    key (codes "sampling_map") Global FileName ∷
    key (codes "bgp_daemon") Global (Choice Truth) ∷
    key (codes "bmp_daemon") Global (Choice Truth) ∷
    key (codes "bgp_daemon_port") Global (Number port_range) ∷
    key (codes "bmp_daemon_port") Global (Number port_range) ∷
    key (codes "acct_flow_capture") Global FileName ∷
    key (codes "acct_route_capture") Global FileName ∷
    key (codes "acct_audit_file") Global FileName ∷
    key (codes "acct_dump_file") Global FileName ∷
    key (codes "acct_threads") Global (Choice Truth) ∷
    key (codes "acct_replay_lag") Global (Number lag_range) ∷
    key (codes "acct_bgp_hold") Global (Number hold_range) ∷
    key (codes "acct_bgp_id") Global Identifier ∷
    key (codes "acct_stop_after") Global (Number stop_range) ∷
    key (codes "daemonize") PassedOver Anything ∷
    key (codes "debug") PassedOver Anything ∷
    key (codes "logfile") PassedOver Anything ∷
    key (codes "pidfile") PassedOver Anything ∷
    key (codes "syslog") PassedOver Anything ∷
    key (codes "imt_path") PassedOver Anything ∷
    key (codes "plugin_buffer_size") PassedOver Anything ∷
    key (codes "plugin_pipe_size") PassedOver Anything ∷
    key (codes "nfacctd_ip") PassedOver Anything ∷
    key (codes "sfacctd_ip") PassedOver Anything ∷
    key (codes "bgp_daemon_ip") PassedOver Anything ∷
    key (codes "bmp_daemon_ip") PassedOver Anything ∷
    key (codes "bgp_daemon_max_peers") PassedOver Anything ∷
    key (codes "core_proc_name") PassedOver Anything ∷
    key (codes "files_umask") PassedOver Anything ∷
    key (codes "nfacctd_pipe_size") PassedOver Anything ∷
    []

-- the row of a key, where it is known
abbrev pub row_of : Text → Option KeyRow
row_of name = find (λ row. bytes_eq row.name name) table

-- the words that a choice takes
abbrev pub taken_words : OneOf → List Text
taken_words Truth = codes "true" ∷ codes "false" ∷ []
taken_words Append = codes "true" ∷ []
taken_words Layout = codes "formatted" ∷ codes "csv" ∷ codes "json" ∷ []
taken_words NetflowAs = codes "netflow" ∷ codes "bgp" ∷ codes "bmp" ∷ []
taken_words SflowAs = codes "sflow" ∷ codes "bgp" ∷ codes "bmp" ∷ []

-- the words that are known and not taken
abbrev pub left_out_words : OneOf → List Text
left_out_words Truth = []
left_out_words Append = codes "false" ∷ []
left_out_words Layout = codes "avro" ∷ []
left_out_words NetflowAs = codes "longest" ∷ codes "file" ∷ []
left_out_words SflowAs = codes "longest" ∷ codes "file" ∷ []

-- whether the number is in the range
abbrev pub fits : Range → ℕ → Bool
fits range n = nat_le range.least n && nat_le n range.most || range.zero && n == 0
