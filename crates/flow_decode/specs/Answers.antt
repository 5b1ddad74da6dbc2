-- What a decoder answers, and what it learns.
use Rattle.std.specs.Prelude.{◌≡◌, Result, Ok, Err}
use Rattle.acct_types.specs.declared.datagram.Datagram.{Datagram}
use Rattle.flow_templates.specs.declared.refusal.Cause.{Cause}
use Rattle.flow_templates.specs.declared.refusal.Undecodable.{Undecodable}
use Rattle.flow_templates.specs.declared.refusal.Undecodable.TheVariants.{Refused, NoMemory}
use Rattle.flow_templates.specs.Decoding.{Said}
use Rattle.flow_templates.specs.Known.{Known, known_after, known_in}
use Rattle.flow_decode.specs.Datagrams.{decoded}
use Rattle.flow_decode.specs.History.{DecoderState}
use Rattle.flow_decode.specs.declared.decoder.Decoded.{Decoded}

-- the answer is the one that is wanted, unless memory ran out
abbrev pub Answers : Result Decoded Undecodable → Result Decoded Cause → Type 0
Answers (Ok decoded) wanted = wanted ≡ Ok decoded
Answers (Err (Refused cause)) wanted = wanted ≡ Err cause
Answers (Err NoMemory) wanted = Unit {0}

-- what is known behind a datagram that says this
abbrev pub known_behind : Known → Result Said Cause → Known
known_behind known (Ok said) = known_after known said.changes
known_behind known (Err cause) = known

-- a datagram was accepted, and what it says is known
pub record Learns (old new : DecoderState) (d : Datagram) : Type 0 where
  pub tool : new.tool ≡ old.tool
  pub renormalise : new.renormalise ≡ old.renormalise
  pub known : known_in new.stores ≡ known_behind (known_in old.stores) (decoded old.tool (known_in old.stores) d)
