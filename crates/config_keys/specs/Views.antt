-- The code's lines, as the definitions see them.
use Rattle.std.specs.Prelude.{option_map}
use Rattle.config_keys.specs.Lines.{Label, Setting, Statement, Nothing, NoColon, NoLabel, Says}
use Rattle.config_keys.specs.declared.line.Label.{Label as ReadLabel}
use Rattle.config_keys.specs.declared.line.Entry.{Entry}
use Rattle.config_keys.specs.declared.line.Line.{Line}
use Rattle.config_keys.specs.declared.line.Line.TheVariants as line

abbrev pub label_view : ReadLabel → Label
label_view label = record { word = label.word.now; name = option_map (λ name. name.now) label.name }

abbrev pub setting_of : Entry → Setting
setting_of entry = record { left = entry.left.now; key = entry.key.now; name = option_map (λ name. name.now) entry.name; value = entry.value.now }

abbrev pub line_view : Line → Statement
line_view line.Nothing = Nothing
line_view line.NoColon = NoColon
line_view line.NoLabel = NoLabel
line_view (line.Says entry) = Says (setting_of entry)
