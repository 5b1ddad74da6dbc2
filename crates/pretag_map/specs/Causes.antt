-- Causes as the programs say them.
use Rattle.std.specs.Prelude.{ℕ, List, codes}
use Rattle.pretag_map.specs.declared.fault.MapCause.{MapCause}
use Rattle.pretag_map.specs.declared.fault.MapCause.TheVariants.{NotText, NoEquals, UnknownKey, Repeated, BadValue, MissingKey, NoAction, TooManyRules}

abbrev pub cause_text : MapCause → List ℕ
cause_text NotText = codes "not-text"
cause_text NoEquals = codes "no-equals"
cause_text UnknownKey = codes "unknown-key"
cause_text Repeated = codes "repeated"
cause_text BadValue = codes "bad-value"
cause_text MissingKey = codes "missing-key"
cause_text NoAction = codes "no-action"
cause_text TooManyRules = codes "too-many-rules"
