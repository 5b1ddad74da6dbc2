-- What is read before a run: the text of the configuration, and those of its maps.
use Rattle.std.specs.Prelude.{◌≡◌, ◌⊎◌, ◌≤◌, ◌<◌, ⊤, ℕ, List, [], ◌∷◌, ◌++◌, length, Option, Some, None, Result, Ok, Err}
use Rattle.outside_io.specs.Causes.{Rose}
use Rattle.outside_io.specs.Names.{Names, Puts}
use Rattle.acct_top.specs.declared.answer.AnyCause.{AnyCause}
use Rattle.acct_top.specs.declared.answer.AnyCause.TheVariants.{Config, Map, TooLong}
use Rattle.acct_top.specs.declared.answer.Answer.{Answer}
use Rattle.acct_top.specs.declared.answer.Answer.TheVariants.{ConfigRefused, OpenFault, NoMemory}
use Rattle.collect_core.specs.declared.job.Job.{Job}
use Rattle.acct_top.specs.Job.{IsJobOf, built_config}
use Rattle.outside_io.specs.States.{PlaceState}
use Rattle.config_keys.specs.Reading.{ConfigSays}
use Rattle.config_keys.specs.declared.fault.ConfigCause.TheVariants.{MissingKey}
use Rattle.config_keys.specs.declared.fault.ConfigFault.TheVariants as config
use Rattle.config_keys.specs.declared.tool.Tool.{Tool}
use Rattle.pretag_map.specs.Rules.{FaultIs}
use Rattle.pretag_map.specs.SamplingLines.{SamplingLine, sampling_map_of}
use Rattle.pretag_map.specs.TagRules.{TagRule, tag_map_of}
use Rattle.pretag_map.specs.declared.fault.MapFault.{MapFault}
use Rattle.pretag_map.specs.declared.fault.MapFault.TheVariants as map

-- the most octets of a configuration or a map
abbrev pub MOST_TEXT : ℕ
MOST_TEXT = 1048576

-- ---- a text

-- the name has a text that isn't too long, and that says this
pub record Says {S E : Type 0} (said : List ℕ → Result S E) (names : Names) (name : List ℕ) (this : S) : Type 0 where
  pub text : List ℕ
  pub there : names name ≡ Some text
  pub short : length text ≤ MOST_TEXT
  pub says : said text ≡ Ok this

-- the text is too long, which is of no line
abbrev pub IsTooLong : List ℕ → ℕ → Type 0
IsTooLong text line = (MOST_TEXT < length text) × (line ≡ 0)

-- the text of a configuration has this cause at this line
abbrev pub HasConfigCause : Tool → List ℕ → List ℕ → ℕ → AnyCause → Type 0
HasConfigCause tool file text line TooLong = IsTooLong text line
HasConfigCause tool file text line (Config cause) = (length text ≤ MOST_TEXT) × (built_config tool file text ≡ Err (config.At line cause))
HasConfigCause tool file text line (Map cause) = ⊥

-- the text of a map has this cause at this line
abbrev pub HasMapCause : {M : Type 0} → (List ℕ → Result M MapFault) → List ℕ → ℕ → AnyCause → Type 0
HasMapCause said text line TooLong = IsTooLong text line
HasMapCause said text line (Config cause) = ⊥
HasMapCause said text line (Map cause) = (length text ≤ MOST_TEXT) × (said text ≡ Err (map.At line cause))

-- the name has a text with this cause at this line
pub record IsRefused (HasCause : List ℕ → ℕ → AnyCause → Type 0) (names : Names) (name : List ℕ) (line : ℕ) (cause : AnyCause) : Type 0 where
  pub text : List ℕ
  pub there : names name ≡ Some text
  pub has : HasCause text line cause

-- ---- the maps of a configuration

-- what the text of a map says, or nothing where no map is named
abbrev pub IsMap : {M : Type 0} → (List ℕ → Result M MapFault) → M → Names → Option (List ℕ) → M → Type 0
IsMap said nothing names None map = map ≡ nothing
IsMap said nothing names (Some name) map = Says said names name map

abbrev pub AreTags : Names → ConfigSays → List TagRule → Type 0
AreTags names config tags = IsMap tag_map_of [] names config.pre_tag_map tags

abbrev pub AreSamplings : Names → ConfigSays → List SamplingLine → Type 0
AreSamplings names config samplings = IsMap sampling_map_of [] names config.sampling_map samplings

-- the map of that name is refused
abbrev pub IsMapRefused : {M : Type 0} → (List ℕ → Result M MapFault) → Names → Option (List ℕ) → List ℕ → ℕ → AnyCause → Type 0
IsMapRefused said names map name line cause = (map ≡ Some name) × IsRefused (HasMapCause said) names name line cause

-- the names that a configuration reads beside its file, in order
abbrev pub named : Option (List ℕ) → List (List ℕ)
named None = []
named (Some name) = name ∷ []

-- ---- the job of a file

-- the configuration of a file and its maps give this job
pub record IsJob (job : Job) (tool : Tool) (file : List ℕ) (names : Names) : Type 0 where
  pub config : ConfigSays
  pub said : Says (built_config tool file) names file config
  pub tags : AreTags names config job.tags
  pub agents : job.agents ≡ []
  pub samplings : AreSamplings names config job.samplings
  pub is : IsJobOf job config

-- there is no capture to replay, which is of no line of the configuration
pub record LacksCapture (config : ConfigSays) (file name : List ℕ) (line : ℕ) (cause : AnyCause) : Type 0 where
  pub lacks : config.acct_flow_capture ≡ None
  pub name_is : name ≡ file
  pub line_is : line ≡ 0
  pub cause_is : cause ≡ Config MissingKey

-- An accepted configuration gives no job: the map of tags is refused, or else that of sampling rates, or else there is no
-- capture to replay.
abbrev pub IsRefusedLater : ConfigSays → List ℕ → Names → List ℕ → ℕ → AnyCause → Type 0
IsRefusedLater config file names name line cause =
    IsMapRefused tag_map_of names config.pre_tag_map name line cause
    ⊎ ((tags : List TagRule) × AreTags names config tags
    × (IsMapRefused sampling_map_of names config.sampling_map name line cause
    ⊎ ((samplings : List SamplingLine) × AreSamplings names config samplings × LacksCapture config file name line cause)))

-- A file gives no job: its configuration is refused, or else what is read later.
abbrev pub GivesNoJob : Tool → List ℕ → Names → List ℕ → ℕ → AnyCause → Type 0
GivesNoJob tool file names name line cause =
    ((name ≡ file) × IsRefused (HasConfigCause tool file) names file line cause)
    ⊎ ((config : ConfigSays) × Says (built_config tool file) names file config × IsRefusedLater config file names name line cause)

-- The name is read for the job of a file: it is the file's own, or that of the map of tags, or else that of the map of
-- sampling rates.
abbrev pub IsReadFor : Tool → List ℕ → Names → List ℕ → Type 0
IsReadFor tool file names name =
    (name ≡ file)
    ⊎ ((config : ConfigSays) × Says (built_config tool file) names file config
    × ((config.pre_tag_map ≡ Some name) ⊎ ((tags : List TagRule) × AreTags names config tags × (config.sampling_map ≡ Some name))))

-- the names that are read before the run of a file's job, in order
abbrev pub read_before : List ℕ → Job → List (List ℕ)
read_before file job = file ∷ (named job.config.pre_tag_map ++ named job.config.sampling_map)

-- one close more took these octets of a name
abbrev pub TakesMore : (List ℕ → List (List ℕ)) → (List ℕ → List (List ℕ)) → List ℕ → List ℕ → Type 0
TakesMore before after name octets = Puts before after name (before name ++ octets ∷ [])

-- each of these names was read to its end, one after another
abbrev pub TakesEach : Names → List (List ℕ) → (List ℕ → List (List ℕ)) → (List ℕ → List (List ℕ)) → Type 0
TakesEach names [] before after = after ≡ before
TakesEach names (name ∷ others) before after =
    (between : List ℕ → List (List ℕ)) × (octets : List ℕ) × (names name ≡ Some octets) × TakesMore before between name octets × TakesEach names others between after

-- ---- the steps of reading

-- why the text of a name gives nothing
abbrev pub IsRefusalOf : (List ℕ → ℕ → AnyCause → Type 0) → Names → List ℕ → Answer → Type 0
IsRefusalOf HasCause names name (OpenFault other) = other ≡ name
IsRefusalOf HasCause names name (ConfigRefused other line cause) = (other ≡ name) × IsRefused HasCause names name line cause
IsRefusalOf HasCause names name NoMemory = ⊤
IsRefusalOf HasCause names name answer = ⊥

-- why a map that a configuration may name gives nothing
abbrev pub IsMapRefusal : {M : Type 0} → (List ℕ → Result M MapFault) → Names → Option (List ℕ) → Answer → Type 0
IsMapRefusal said names map (OpenFault name) = map ≡ Some name
IsMapRefusal said names map (ConfigRefused name line cause) = IsMapRefused said names map name line cause
IsMapRefusal said names map NoMemory = ⊤
IsMapRefusal said names map answer = ⊥

-- all that is known of a text before it is read as a configuration or a map
abbrev pub HasTextCause : List ℕ → ℕ → AnyCause → Type 0
HasTextCause text line cause = (cause ≡ TooLong) × IsTooLong text line

-- a map was read as its text says it, or its fault, unless memory ran out
abbrev pub IsMapReading : {M : Type 0} → Result M MapFault → Result M MapFault → Type 0
IsMapReading (Ok map) said = said ≡ Ok map
IsMapReading (Err fault) said = FaultIs fault said

-- why a file gives no job
abbrev pub IsNoJob : Answer → Tool → List ℕ → Names → Type 0
IsNoJob (OpenFault name) tool file names = IsReadFor tool file names name
IsNoJob (ConfigRefused name line cause) tool file names = GivesNoJob tool file names name line cause
IsNoJob NoMemory tool file names = ⊤
IsNoJob answer tool file names = ⊥

-- a name is answered as not read only where a number of it rose
abbrev pub ReadReason : Answer → PlaceState → PlaceState → Type 0
ReadReason (OpenFault name) before after = Rose (before.opens name) (after.opens name) ⊎ Rose (before.reads name) (after.reads name)
ReadReason (ConfigRefused name line cause) before after = ⊤
ReadReason NoMemory before after = ⊤
ReadReason answer before after = ⊥
