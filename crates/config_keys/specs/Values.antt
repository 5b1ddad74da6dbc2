-- The values of keys.
use Rattle.std.specs.Prelude.{ℕ, ◌==◌, ◌&&◌, ◌||◌, Bool, true, false, not, nat_le, nat_lt, List, [], ◌∷◌, length, map, find, Option, Some, None, option_map, option_and_then, unwrap_or, is_some, Result, Ok, Err, if◌then◌else◌, codes}
use Rattle.std.specs.List.{list_all, list_any}
use Rattle.std.specs.Str.{bytes_eq}
use Rattle.std.specs.Str.Parse.{digits_value}
use Rattle.acct_types.specs.AddrText.{address_of}
use Rattle.acct_types.specs.Columns.{with_column}
use Rattle.acct_types.specs.declared.addr.Addr.{Addr}
use Rattle.acct_types.specs.declared.addr.Addr.TheVariants.{V4, V6}
use Rattle.acct_types.specs.declared.primitives.Column.{Column}
use Rattle.acct_types.specs.declared.primitives.Column.TheVariants as column
use Rattle.config_keys.specs.Lines.{Text, Label, is_among, label_of, members_of}
use Rattle.config_keys.specs.Table.{fits, left_out_words, taken_words}
use Rattle.config_keys.specs.declared.fault.ConfigCause.{ConfigCause}
use Rattle.config_keys.specs.declared.fault.ConfigCause.TheVariants.{NotInProfile, BadValue, UnknownPrimitive, TooManyPlugins}
use Rattle.config_keys.specs.declared.table.Range.{Range}
use Rattle.config_keys.specs.declared.table.Kind.{Kind}
use Rattle.config_keys.specs.declared.table.Kind.TheVariants.{Plugins, Primitives, Choice, FileName, Number, Identifier, Anything}
use Rattle.config_keys.specs.declared.value.PluginKind.{PluginKind}
use Rattle.config_keys.specs.declared.value.PluginKind.TheVariants.{Print, Memory}

-- ---- numbers and names of files

abbrev pub is_digit : ℕ → Bool
is_digit octet = nat_le 48 octet && nat_le octet 57

abbrev pub begins_with_zero : Text → Bool
begins_with_zero [] = false
begins_with_zero (octet ∷ octets) = octet == 48

-- decimal digits without sign or leading zero
abbrev pub is_numeral : Text → Bool
is_numeral text = nat_le 1 (length text) && list_all is_digit text && (length text == 1 || not (begins_with_zero text))

-- the number in a text, where it is in the range
abbrev pub number_within : Range → Text → Option ℕ
number_within range text = if is_numeral text && fits range (digits_value 10 text) then Some (digits_value 10 text) else None

-- 1 to 255 characters
abbrev pub is_file_name : Text → Bool
is_file_name text = nat_le 1 (length text) && nat_le (length text) 255

-- an IPv4 address that isn't 0.0.0.0
abbrev pub is_identifier : Addr → Bool
is_identifier (V4 n) = not (n == 0)
is_identifier (V6 n) = false

abbrev pub identifier_in : Option Addr → Option Addr
identifier_in None = None
identifier_in (Some address) = if is_identifier address then Some address else None

abbrev pub identifier_of : Text → Option Addr
identifier_of text = identifier_in (address_of text)

-- ---- lists of plugins

-- a plugin of a kind with its name
pub record NamedPlugin : Type 0 where
  pub kind : PluginKind
  pub name : Text

-- what a member of a list of plugins is
pub data Member : Type 0 where
  LeftOut : Member
  Malformed : Member
  Taken : NamedPlugin → Member

-- kinds that are known and not taken
unfoldable pub left_out_kinds : List Text
left_out_kinds =
    codes "sqlite3" ∷ codes "mysql" ∷ codes "pgsql" ∷ codes "kafka" ∷ codes "amqp" ∷ codes "tee" ∷ codes "nfprobe" ∷ codes "sfprobe" ∷ []

-- without a name the kind is the name
abbrev pub named : PluginKind → Label → Member
named kind label = Taken (record { kind = kind; name = unwrap_or label.name label.word })

abbrev pub labelled_member : Option Label → Member
labelled_member None = Malformed
labelled_member (Some label) =
    if bytes_eq label.word (codes "print") then named Print label
    else (if bytes_eq label.word (codes "memory") then named Memory label
    else (if is_among left_out_kinds label.word then LeftOut else Malformed))

abbrev pub member_of : Text → Member
member_of text = labelled_member (label_of text)

abbrev pub is_left_out_member : Member → Bool
is_left_out_member LeftOut = true
is_left_out_member Malformed = false
is_left_out_member (Taken plugin) = false

-- whether a member's kind is known and not taken
abbrev pub has_left_out : List Text → Bool
has_left_out members = list_any (λ member. is_left_out_member (member_of member)) members

abbrev pub onto : Member → Option (List NamedPlugin) → Option (List NamedPlugin)
onto LeftOut more = None
onto Malformed more = None
onto (Taken plugin) more = option_map (λ plugins. plugin ∷ plugins) more

-- the plugins, where each member is one
abbrev pub plugins_in : List Text → Option (List NamedPlugin)
plugins_in [] = Some []
plugins_in (member ∷ members) = onto (member_of member) (plugins_in members)

-- no text of the list stands before itself, nor among those before the list
abbrev pub are_new : List Text → List Text → Bool
are_new before [] = true
are_new before (text ∷ texts) = not (is_among before text) && are_new (text ∷ before) texts

abbrev pub are_apart : List Text → Bool
are_apart texts = are_new [] texts

abbrev pub names_of : List NamedPlugin → List Text
names_of plugins = map (λ plugin. plugin.name) plugins

abbrev pub few_and_apart : Option (List NamedPlugin) → Result (List NamedPlugin) ConfigCause
few_and_apart None = Err BadValue
few_and_apart (Some plugins) =
    if not (are_apart (names_of plugins)) then Err BadValue
    else (if nat_lt 8 (length plugins) then Err TooManyPlugins else Ok plugins)

-- the plugins of a list, or what is wrong with it
abbrev pub plugins_of : Text → Result (List NamedPlugin) ConfigCause
plugins_of value = if has_left_out (members_of value) then Err NotInProfile else few_and_apart (plugins_in (members_of value))

-- ---- lists of primitives

-- columns in their order, and whether flows are counted
pub record Asked : Type 0 where
  pub columns : List Column
  pub flows : Bool

abbrev pub nothing_asked : Asked
nothing_asked = record { columns = []; flows = false }

pub record Primitive : Type 0 where
  pub name : Text
  pub column : Column

abbrev pub primitive : Text → Column → Primitive
primitive name column = record { name = name; column = column }

-- the primitives that ask for a column
unfoldable pub primitives : List Primitive
primitives =
    primitive (codes "tag") column.Tag ∷
    primitive (codes "tag2") column.Tag2 ∷
    primitive (codes "label") column.Label ∷
    primitive (codes "acct_window") column.AcctWindow ∷
    primitive (codes "src_mac") column.SrcMac ∷
    primitive (codes "dst_mac") column.DstMac ∷
    primitive (codes "vlan") column.Vlan ∷
    primitive (codes "src_as") column.SrcAs ∷
    primitive (codes "dst_as") column.DstAs ∷
    primitive (codes "std_comm") column.StdComm ∷
    primitive (codes "as_path") column.AsPath ∷
    primitive (codes "local_pref") column.LocalPref ∷
    primitive (codes "med") column.Med ∷
    primitive (codes "peer_dst_as") column.PeerDstAs ∷
    primitive (codes "peer_src_ip") column.PeerSrcIp ∷
    primitive (codes "peer_dst_ip") column.PeerDstIp ∷
    primitive (codes "in_iface") column.InIface ∷
    primitive (codes "out_iface") column.OutIface ∷
    primitive (codes "src_host") column.SrcHost ∷
    primitive (codes "dst_host") column.DstHost ∷
    primitive (codes "src_net") column.SrcNet ∷
    primitive (codes "dst_net") column.DstNet ∷
    primitive (codes "src_mask") column.SrcMask ∷
    primitive (codes "dst_mask") column.DstMask ∷
    primitive (codes "src_port") column.SrcPort ∷
    primitive (codes "dst_port") column.DstPort ∷
    primitive (codes "proto") column.Proto ∷
    primitive (codes "tos") column.Tos ∷
    []

abbrev pub column_named : Text → Option Column
column_named name = option_map (λ p. p.column) (find (λ p. bytes_eq p.name name) primitives)

-- what is asked for with one more member
abbrev pub with_member : Asked → Text → Option Asked
with_member asked member =
    if bytes_eq member (codes "flows") then Some (record asked { flows = true })
    else option_map (λ c. record asked { columns = with_column c asked.columns }) (column_named member)

abbrev pub asked_with : Asked → List Text → Option Asked
asked_with asked [] = Some asked
asked_with asked (member ∷ members) = option_and_then (λ more. asked_with more members) (with_member asked member)

-- what the members of a list ask for, where each is a primitive
abbrev pub asked_by : Text → Option Asked
asked_by value = asked_with nothing_asked (members_of value)

-- ---- what is wrong with a value

-- whether the value is known and not taken
abbrev pub is_left_out : Kind → Text → Bool
is_left_out Plugins value = has_left_out (members_of value)
is_left_out Primitives value = false
is_left_out (Choice choice) value = is_among (left_out_words choice) value
is_left_out FileName value = false
is_left_out (Number range) value = false
is_left_out Identifier value = false
is_left_out Anything value = false

abbrev pub bad_unless : Bool → Option ConfigCause
bad_unless good = if good then None else Some BadValue

abbrev pub cause_in : Result (List NamedPlugin) ConfigCause → Option ConfigCause
cause_in (Ok plugins) = None
cause_in (Err cause) = Some cause

abbrev pub value_cause : Kind → Text → Option ConfigCause
value_cause Plugins value = cause_in (plugins_of value)
value_cause Primitives value = if is_some (asked_by value) then None else Some UnknownPrimitive
value_cause (Choice choice) value = bad_unless (is_among (taken_words choice) value)
value_cause FileName value = bad_unless (is_file_name value)
value_cause (Number range) value = bad_unless (is_some (number_within range value))
value_cause Identifier value = bad_unless (is_some (identifier_of value))
value_cause Anything value = None
