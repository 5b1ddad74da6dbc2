-- One message after another: what each gives, as far as the two sides have come.
use Rattle.std.specs.Prelude.{ℕ, Bool, ◌≡◌, ◌+◌, ◌==◌, ◌||◌, List, [], ◌∷◌, ◌++◌, length, map, min, Option, Some, None, is_some, if◌then◌else◌, not}
use Rattle.acct_types.specs.Updates.{Said, update_view}
use Rattle.bgp_msg.specs.Frames.{kind_of}
use Rattle.bgp_msg.specs.Opens.{hello_of}
use Rattle.bgp_msg.specs.Written.{keepalive_spelling, open_spelling}
use Rattle.bgp_msg.specs.declared.message.BgpFault.{BgpFault}
use Rattle.bgp_msg.specs.declared.message.Hello.{Hello}
use Rattle.bgp_session.specs.Lives.{agreed_with, end_at, farewell, next, reply_to, update_in}
use Rattle.bgp_session.specs.Stream.{header_end, messages, rest_of}
use Rattle.bgp_session.specs.declared.hearing.Hearing.{Hearing}
use Rattle.bgp_session.specs.declared.progress.Local.{Local}
use Rattle.bgp_session.specs.declared.progress.Progress.{Progress}
use Rattle.bgp_session.specs.declared.progress.Stage.TheVariants.{Closed}
use Rattle.bgp_session.specs.declared.why.Why.{Why}
use Rattle.bgp_session.specs.declared.why.Why.TheVariants.{Fault}
use Rattle.framed_pieces.specs.Listening.{Listening}

-- what messages give: how far the sides have come then, what is answered, what is learned, how many octets the messages that were heard have, and
-- why the life is over
pub record Outcome : Type 0 where
  pub progress : Progress
  pub replies : List ℕ
  pub updates : List Said
  pub spoken : ℕ
  pub closed : Option Why

abbrev pub shut : Progress → Progress
shut progress = record progress { stage = Closed }

-- what a peer that says this is answered
abbrev pub greeting : Local → Hello → List ℕ
greeting local hello = open_spelling hello.asn local.hold local.id ++ keepalive_spelling

abbrev pub greeted : Local → Progress → Hello → Progress
greeted local progress hello = record { stage = next progress.stage; agreed = agreed_with hello; hold = min local.hold hello.hold }

-- a message that is heard
abbrev pub behind : Local → Progress → List ℕ → Progress
behind local progress message = record {
  stage = next progress.stage;
  agreed = if kind_of message == 1 then agreed_with (hello_of message) else progress.agreed;
  hold = if kind_of message == 1 then min local.hold (hello_of message).hold else progress.hold;
}

-- no message more
abbrev pub ending : Progress → Option Why → Outcome
ending progress None = record { progress = progress; replies = []; updates = []; spoken = 0; closed = None }
ending progress (Some reason) = record { progress = shut progress; replies = farewell (Some reason); updates = []; spoken = 0; closed = Some reason }

abbrev pub step_by : Local → Progress → List ℕ → Option Why → Outcome
step_by local progress message None =
    record { progress = behind local progress message; replies = reply_to local message; updates = update_in progress.agreed message; spoken = length message; closed = None }
step_by local progress message (Some reason) = ending progress (Some reason)

-- one message
unfoldable pub step : Local → Progress → List ℕ → Outcome
step local progress message = step_by local progress message (end_at progress.stage progress.agreed message)

-- one outcome behind another, where the first doesn't end the life
abbrev pub onward : Outcome → Outcome → Outcome
onward first later = record {
  progress = later.progress;
  replies = first.replies ++ later.replies;
  updates = first.updates ++ later.updates;
  spoken = first.spoken + later.spoken;
  closed = later.closed;
}

-- messages, and why they end
abbrev pub steps : Local → Progress → Option Why → List (List ℕ) → Outcome
steps local progress reason [] = ending progress reason
steps local progress reason (message ∷ others) =
    if is_some (step local progress message).closed then step local progress message
    else onward (step local progress message) (steps local (step local progress message).progress reason others)

-- octets
unfoldable pub outcome : Local → Progress → List ℕ → Outcome
outcome local progress octets = steps local progress (header_end (rest_of octets)) (messages octets)

-- what is kept of octets
abbrev pub kept : Option Why → List ℕ → List ℕ
kept None rest = rest
kept (Some reason) rest = []

-- ---- what is gathered of messages, one after another

pub record Gathered : Type 0 where
  pub local : Local
  pub progress : Progress
  pub replies : List ℕ
  pub updates : List Said
  pub some : Bool
  pub closed : Option Why

abbrev pub gathered : Hearing → Gathered
gathered hearing = record {
  local = hearing.local;
  progress = hearing.progress;
  replies = hearing.replies;
  updates = map update_view hearing.updates;
  some = hearing.some;
  closed = hearing.closed;
}

-- an outcome is added
abbrev pub added : Gathered → Outcome → Gathered
added before given = record {
  local = before.local;
  progress = given.progress;
  replies = before.replies ++ given.replies;
  updates = before.updates ++ given.updates;
  some = before.some || not (given.spoken == 0);
  closed = given.closed;
}

abbrev pub listening : Listening Gathered BgpFault
listening = record {
  hears = λ before message. added before (step before.local before.progress message);
  refuses = λ before fault. added before (ending before.progress (Some (Fault fault)));
  is_over = λ before. is_some before.closed;
}

-- an outcome was added to what was gathered, but for the progress
pub record Adds (old new : Hearing) (given : Outcome) : Type 0 where
  pub local : new.local ≡ old.local
  pub replies : new.replies ≡ old.replies ++ given.replies
  pub updates : map update_view new.updates ≡ map update_view old.updates ++ given.updates
  pub some : new.some ≡ (old.some || not (given.spoken == 0))
  pub closed : new.closed ≡ given.closed
