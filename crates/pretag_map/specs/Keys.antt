-- The keys of maps, a row for each: its name, and the values it takes.
use Rattle.std.specs.Prelude.{ℕ, List, [], ◌∷◌, Option, find, codes}
use Rattle.std.specs.Str.{bytes_eq}
use Rattle.config_keys.specs.Lines.{Text}
use Rattle.config_keys.specs.Table.{from_to}
use Rattle.config_keys.specs.declared.table.Range.{Range}
use Rattle.pretag_map.specs.declared.keys.Kind.{Kind}
use Rattle.pretag_map.specs.declared.keys.Kind.TheVariants.{Number, Network, Address, Label}
use Rattle.pretag_map.specs.declared.keys.Row.{Row}

pub record KeyRow : Type 0 where
  pub name : Text
  pub kind : Kind

abbrev pub row_view : Row → KeyRow
row_view row = record { name = row.name.now; kind = row.kind }

abbrev pub key : Text → Kind → KeyRow
key name kind = record { name = name; kind = kind }

-- below 2^64
abbrev pub any_number : Range
any_number = from_to 0 18446744073709551615

abbrev pub rate_range : Range
rate_range = from_to 1 4294967295

unfoldable pub tag_keys : List KeyRow
tag_keys =
    key (codes "ip") Network ∷
    key (codes "in") (Number any_number) ∷
    key (codes "out") (Number any_number) ∷
    key (codes "source_id") (Number any_number) ∷
    key (codes "src_as") (Number any_number) ∷
    key (codes "dst_as") (Number any_number) ∷
    key (codes "src_net") Network ∷
    key (codes "dst_net") Network ∷
    key (codes "set_tag") (Number any_number) ∷
    key (codes "set_tag2") (Number any_number) ∷
    key (codes "set_label") Label ∷
    []

unfoldable pub agent_keys : List KeyRow
agent_keys =
    key (codes "ip") Network ∷
    key (codes "bgp_ip") Address ∷
    key (codes "acct_peer") Address ∷
    []

unfoldable pub sampling_keys : List KeyRow
sampling_keys =
    key (codes "ip") Network ∷
    key (codes "sampling_rate") (Number rate_range) ∷
    key (codes "in") (Number any_number) ∷
    key (codes "out") (Number any_number) ∷
    []

-- the row of a key, where the map has it
abbrev pub row_of : List KeyRow → Text → Option KeyRow
row_of rows name = find (λ row. bytes_eq row.name name) rows
