-- What the code reads of lines, as the definitions see it.
use Rattle.std.specs.Prelude.{◌≡◌, ℕ, Bool, false, List, map, Option, option_map, Result, Ok, Err, Vec}
use Rattle.std.specs.Borrow.{Bor}
use Rattle.std.specs.HashSet.{HashSet}
use Rattle.config_keys.specs.Lines.{Setting, Statement, Nothing, NoColon, NoLabel, Says}
use Rattle.config_keys.specs.Seen.{has_text}
use Rattle.config_keys.specs.ValueViews.{named_view}
use Rattle.config_keys.specs.Values.{NamedPlugin}
use Rattle.config_keys.specs.Views.{setting_of}
use Rattle.config_keys.specs.declared.fault.ConfigFault.{ConfigFault}
use Rattle.config_keys.specs.declared.fault.ConfigFault.TheVariants.{At, NoMemory}
use Rattle.config_keys.specs.declared.line.Entry.{Entry}
use Rattle.config_keys.specs.declared.value.NamedPlugin.{NamedPlugin as ReadPlugin}

abbrev pub plugins_view : {Z : Type 0} → Option (Vec ReadPlugin Z) → Option (List NamedPlugin)
plugins_view plugins = option_map (λ v. map named_view v.items) plugins

-- whether the set has the label of a line
abbrev pub has_label : {S : Type 0} → HashSet (Bor (List ℕ)) S → Statement → Bool
has_label seen Nothing = false
has_label seen NoColon = false
has_label seen NoLabel = false
has_label seen (Says setting) = has_text seen setting.left

-- the fault that is said, unless memory ran out
abbrev pub FaultIs : {S : Type 0} → ConfigFault → Result S ConfigFault → Type 0
FaultIs (At line cause) said = said ≡ Err (At line cause)
FaultIs NoMemory said = Unit {0}

-- the settings that were read, or the fault
abbrev pub SettingsAre : {Z : Type 0} → Result (Vec Entry Z) ConfigFault → Result (List Setting) ConfigFault → Type 0
SettingsAre (Ok entries) said = said ≡ Ok (map setting_of entries.items)
SettingsAre (Err fault) said = FaultIs fault said
