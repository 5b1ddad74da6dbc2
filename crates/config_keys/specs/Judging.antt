-- What is wrong with the lines of a configuration.
use Rattle.std.specs.Prelude.{◌≡◌, ℕ, ◌+◌, ◌&&◌, ◌||◌, Bool, true, false, not, List, [], ◌∷◌, ◌++◌, Option, Some, None, is_none, is_some, Result, Ok, Err, if◌then◌else◌, codes}
use Rattle.std.specs.List.{list_all, list_any}
use Rattle.std.specs.Str.{bytes_eq}
use Rattle.config_keys.specs.Lines.{Text, Setting, Statement, Nothing, NoColon, NoLabel, Says, is_among, is_text, statement_of}
use Rattle.config_keys.specs.Table.{KeyRow, row_of}
use Rattle.config_keys.specs.Values.{NamedPlugin, is_left_out, names_of, plugins_of, value_cause}
use Rattle.config_keys.specs.declared.fault.ConfigCause.{ConfigCause}
use Rattle.config_keys.specs.declared.fault.ConfigCause.TheVariants.{NotText, NoColon as WithoutColon, UnknownKey, NotInProfile, Repeated, UnknownPlugin}
use Rattle.config_keys.specs.declared.fault.ConfigFault.{ConfigFault}
use Rattle.config_keys.specs.declared.fault.ConfigFault.TheVariants.{At}
use Rattle.config_keys.specs.declared.table.Scope.{Scope}
use Rattle.config_keys.specs.declared.table.Scope.TheVariants.{Global, Plugin, PassedOver}

-- ---- the plugins that the configuration names

-- the setting of a line with the key `plugins`
abbrev pub naming : Statement → Option Setting
naming Nothing = None
naming NoColon = None
naming NoLabel = None
naming (Says setting) = if bytes_eq setting.key (codes "plugins") then Some setting else None

abbrev pub plugins_or_none : Result (List NamedPlugin) ConfigCause → Option (List NamedPlugin)
plugins_or_none (Ok plugins) = Some plugins
plugins_or_none (Err cause) = None

-- the plugins of a line with the key `plugins`, where the line has no cause
abbrev pub plugins_at : Text → Setting → Option (List NamedPlugin)
plugins_at line setting = if is_text line && not (is_some setting.name) then plugins_or_none (plugins_of setting.value) else None

abbrev pub plugins_or : Text → Option Setting → Option (List NamedPlugin) → Option (List NamedPlugin)
plugins_or line None later = later
plugins_or line (Some setting) later = plugins_at line setting

-- the plugins of the first line with the key `plugins`, where it is there and has no cause
abbrev pub plugins_named : List Text → Option (List NamedPlugin)
plugins_named [] = None
plugins_named (line ∷ lines) = plugins_or line (naming (statement_of line)) (plugins_named lines)

-- ---- the causes at a line

abbrev pub may_not_be_named : Scope → Bool
may_not_be_named Global = true
may_not_be_named Plugin = false
may_not_be_named PassedOver = false

abbrev pub is_of_plugins : Scope → Bool
is_of_plugins Global = false
is_of_plugins Plugin = true
is_of_plugins PassedOver = false

-- whether the name isn't that of a plugin, where the plugins are known
abbrev pub is_unknown_name : Option (List NamedPlugin) → Option Text → Bool
is_unknown_name None name = false
is_unknown_name (Some plugins) None = false
is_unknown_name (Some plugins) (Some name) = not (is_among (names_of plugins) name)

-- the first cause of a setting of a known key, in their order
abbrev pub setting_cause : Option (List NamedPlugin) → Bool → Setting → KeyRow → Option ConfigCause
setting_cause plugins repeated setting row =
    if may_not_be_named row.scope && is_some setting.name || is_left_out row.kind setting.value then Some NotInProfile
    else (if repeated then Some Repeated
    else (if is_of_plugins row.scope && is_unknown_name plugins setting.name then Some UnknownPlugin
    else value_cause row.kind setting.value))

abbrev pub key_cause : Option (List NamedPlugin) → Bool → Setting → Option KeyRow → Option ConfigCause
key_cause plugins repeated setting None = Some UnknownKey
key_cause plugins repeated setting (Some row) = setting_cause plugins repeated setting row

abbrev pub in_text : Text → Option ConfigCause → Option ConfigCause
in_text line cause = if is_text line then cause else Some NotText

-- the first cause at a line, in their order; a line that says nothing has none
abbrev pub line_cause : Option (List NamedPlugin) → Bool → Text → Statement → Option ConfigCause
line_cause plugins repeated line Nothing = None
line_cause plugins repeated line NoColon = in_text line (Some WithoutColon)
line_cause plugins repeated line NoLabel = in_text line (Some UnknownKey)
line_cause plugins repeated line (Says setting) = in_text line (key_cause plugins repeated setting (row_of setting.key))

-- ---- the settings, or the first line with a cause

-- whether the same key with the same name, or without one, stands before
abbrev pub stands_before : List Setting → Text → Bool
stands_before before left = list_any (λ earlier. bytes_eq earlier.left left) before

abbrev pub is_repeated : List Setting → Statement → Bool
is_repeated before Nothing = false
is_repeated before NoColon = false
is_repeated before NoLabel = false
is_repeated before (Says setting) = stands_before before setting.left

abbrev pub said_by : Statement → List Setting
said_by Nothing = []
said_by NoColon = []
said_by NoLabel = []
said_by (Says setting) = setting ∷ []

abbrev pub unless_caused : ℕ → Option ConfigCause → Result (List Setting) ConfigFault → Result (List Setting) ConfigFault
unless_caused number None rest = rest
unless_caused number (Some cause) rest = Err (At number cause)

-- The settings of lines that stand behind others and are counted from a number on; or the first of these lines with a
-- cause. Of the lines before them their settings are given.
abbrev pub settings_from : Option (List NamedPlugin) → ℕ → List Setting → List Text → Result (List Setting) ConfigFault
settings_from plugins number before [] = Ok before
settings_from plugins number before (line ∷ lines) =
    unless_caused number (line_cause plugins (is_repeated before (statement_of line)) line (statement_of line))
    (settings_from plugins (number + 1) (before ++ said_by (statement_of line)) lines)

-- the settings of a configuration, or the least line with a cause
abbrev pub settings_of : List Text → Result (List Setting) ConfigFault
settings_of lines = settings_from (plugins_named lines) 1 [] lines

-- ---- what is known of settings

-- whether the value is one that its key takes
abbrev pub value_fits : Option KeyRow → Text → Bool
value_fits None value = false
value_fits (Some row) value = is_none (value_cause row.kind value)

abbrev pub all_fit : List Setting → Bool
all_fit settings = list_all (λ s. value_fits (row_of s.key) s.value) settings

-- the settings of lines without a cause have values that their keys take
abbrev pub FitTheirKeys : Type 0
FitTheirKeys = (lines : List Text) (settings : List Setting) → settings_of lines ≡ Ok settings → all_fit settings ≡ true
