-- What is wrong with the members of a line.
use Rattle.std.specs.Prelude.{Bool, false, not, List, Option, Some, None, Result, Ok, Err, is_some, if◌then◌else◌}
use Rattle.std.specs.List.{list_all}
use Rattle.config_keys.specs.Lines.{Text, is_text}
use Rattle.config_keys.specs.Values.{are_apart}
use Rattle.pretag_map.specs.Keys.{KeyRow, row_of}
use Rattle.pretag_map.specs.Members.{Member, keys_of, members_of}
use Rattle.pretag_map.specs.Values.{takes}
use Rattle.pretag_map.specs.declared.fault.MapCause.{MapCause}
use Rattle.pretag_map.specs.declared.fault.MapCause.TheVariants.{NotText, NoEquals, UnknownKey, Repeated, BadValue}

abbrev pub is_known : List KeyRow → Member → Bool
is_known rows member = is_some (row_of rows member.key)

abbrev pub takes_at : Option KeyRow → Text → Bool
takes_at None value = false
takes_at (Some row) value = takes row.kind value

abbrev pub fits : List KeyRow → Member → Bool
fits rows member = takes_at (row_of rows member.key) member.value

abbrev pub judged : List KeyRow → Option (List Member) → Result (List Member) MapCause
judged rows None = Err NoEquals
judged rows (Some members) =
    if not (list_all (is_known rows) members) then Err UnknownKey
    else (if not (are_apart (keys_of members)) then Err Repeated
    else (if not (list_all (fits rows) members) then Err BadValue
    else Ok members))

-- The members of a line, or its first cause; each cause is judged over the whole line.
abbrev pub line_members : List KeyRow → Text → Result (List Member) MapCause
line_members rows line = if is_text line then judged rows (members_of line) else Err NotText
