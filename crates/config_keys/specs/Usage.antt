-- The command lines of the tools, as `clap` reads them.
use Rattle.std.specs.Prelude.{◌≡◌, ℕ, true, pos, List, [], Option, Some, None, codes, ◌≢◌, Result, Ok, Err, IsSome, option_map}
use Rattle.std.specs.Str.Parse.{digits_value, without_leading_plus}
use Rattle.config_keys.specs.declared.words.Words.{Words}
use Rattle.config_keys.specs.declared.words.Words.TheVariants.{Config, Generate}
use Rattle.config_keys.specs.declared.words.UsageFault.{UsageFault}
use Rattle.config_keys.specs.declared.words.UsageFault.TheVariants.{Refused, Neither, Both, NoMemory}
use Rattle.clap.specs.Words.{App, Rule, Text, new_app, new_rule, with_rule, fault_of, matches_of, first_of, Kinds}
use Rattle.clap.specs.declared.builder.ArgAction.TheVariants.{Set}
use Rattle.clap.specs.declared.builder.value_parser.ValueParser.TheVariants as parser
use Rattle.config_keys.specs.declared.tool.Tool.{Tool}
use Rattle.config_keys.specs.declared.tool.Tool.TheVariants.{Nfacctd, Sfacctd, Pmbgpd}

abbrev pub name_of : Tool → Text
name_of Nfacctd = codes "nfacctd"
name_of Sfacctd = codes "sfacctd"
name_of Pmbgpd = codes "pmbgpd"

-- `-f FILE`
abbrev pub file_rule : Rule
file_rule = record (new_rule (codes "file")) { short = Some 102; action = Some Set }

-- `--generate NUMBER`, from 1 to 100,000
abbrev pub generate_rule : Rule
generate_rule = record (new_rule (codes "generate")) {
  long = Some (codes "generate");
  action = Some Set;
  parser = Some (parser.Signed (pos 1) (pos 100000));
}

-- a command with `-f FILE`, whose words stand without the program's name, and which has no help or version flag
abbrev pub file_app : Text → App
file_app name =
    let app = new_app name in
    with_rule (record app { top = record app.top { no_binary_name = true; disable_help_flag = true; disable_version_flag = true } }) file_rule

abbrev pub usage : Tool → App
usage Nfacctd = with_rule (file_app (codes "nfacctd")) generate_rule
usage Sfacctd = file_app (codes "sfacctd")
usage Pmbgpd = file_app (codes "pmbgpd")

-- `clap` refuses the words for these causes, and takes them where there is none
abbrev pub causes : Tool → List Text → Kinds
causes tool words = fault_of (usage tool) words

-- what the words give to an option
abbrev pub file_in : Tool → List Text → Option Text
file_in tool words = first_of (codes "file") (matches_of (usage tool) words)

abbrev pub number_in : Tool → List Text → Option Text
number_in tool words = first_of (codes "generate") (matches_of (usage tool) words)

-- the number that a text spells in decimal, behind a plus sign or none
abbrev pub number_in_text : Text → ℕ
number_in_text text = digits_value 10 (without_leading_plus text)

abbrev pub IsReadFault : UsageFault → Type 0
IsReadFault Refused = Unit {0}
IsReadFault NoMemory = Unit {0}
IsReadFault Neither = ⊥
IsReadFault Both = ⊥

-- what is answered to the words, but for want of memory
abbrev pub IsAnswer : Tool → List Text → Result Words UsageFault → Type 0
IsAnswer tool words (Ok (Config file)) = (causes tool words ≡ []) × (file_in tool words ≡ Some file) × (number_in tool words ≡ None)
IsAnswer tool words (Ok (Generate n)) = (causes tool words ≡ []) × (file_in tool words ≡ None) × (option_map number_in_text (number_in tool words) ≡ Some n)
IsAnswer tool words (Err Refused) = causes tool words ≢ []
IsAnswer tool words (Err Neither) = (causes tool words ≡ []) × (file_in tool words ≡ None) × (number_in tool words ≡ None)
IsAnswer tool words (Err Both) = (causes tool words ≡ []) × IsSome (file_in tool words) × IsSome (number_in tool words)
IsAnswer tool words (Err NoMemory) = Unit {0}
