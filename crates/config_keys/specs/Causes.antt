-- Causes as the programs say them.
use Rattle.std.specs.Prelude.{ℕ, List, codes}
use Rattle.config_keys.specs.declared.fault.ConfigCause.{ConfigCause}
use Rattle.config_keys.specs.declared.fault.ConfigCause.TheVariants.{NotText, NoColon, UnknownKey, NotInProfile, Repeated, UnknownPlugin, BadValue, UnknownPrimitive, TooManyPlugins, MissingKey, SameName}

abbrev pub cause_text : ConfigCause → List ℕ
cause_text NotText = codes "not-text"
cause_text NoColon = codes "no-colon"
cause_text UnknownKey = codes "unknown-key"
cause_text NotInProfile = codes "not-in-profile"
cause_text Repeated = codes "repeated"
cause_text UnknownPlugin = codes "unknown-plugin"
cause_text BadValue = codes "bad-value"
cause_text UnknownPrimitive = codes "unknown-primitive"
cause_text TooManyPlugins = codes "too-many-plugins"
cause_text MissingKey = codes "missing-key"
cause_text SameName = codes "same-name"
