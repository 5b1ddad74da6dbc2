-- When octets came, in milliseconds.
use Rattle.std.specs.Prelude.{ℕ, ◌+◌, ◌*◌, ◌==◌, ◌&&◌, Bool, nat_lt, nat_le, List, [], ◌∷◌, ◌++◌, length, if◌then◌else◌, not}
use Rattle.bgp_session.specs.Lives.{heard, hold_of}
use Rattle.bgp_session.specs.Stream.{join}
use Rattle.bgp_session.specs.declared.progress.Local.{Local}

-- octets that came together
pub record Piece : Type 0 where
  pub moment : ℕ
  pub octets : List ℕ

-- the octets of pieces, of which the newest comes first
abbrev pub joined : List Piece → List ℕ
joined [] = []
joined (piece ∷ earlier) = joined earlier ++ piece.octets

-- the moment at which so many octets had come
abbrev pub moment_of : ℕ → List Piece → ℕ
moment_of count [] = 0
moment_of count (piece ∷ earlier) = if nat_lt (length (joined earlier)) count then piece.moment else moment_of count earlier

-- how many octets the messages have that were heard, up to the last octet of the last one: OPEN, KEEPALIVE and UPDATE
unfoldable pub spoken_by : List ℕ → ℕ
spoken_by octets = length (join (heard octets))

-- the moment at which the last octet came of the last message that was heard
abbrev pub last_heard : List Piece → ℕ
last_heard pieces = moment_of (spoken_by (joined pieces)) pieces

-- A hold time in seconds that was agreed, and isn't 0, has passed since a moment.
unfoldable pub is_expired : ℕ → ℕ → ℕ → Bool
is_expired hold last moment = not (hold == 0) && nat_le (last + 1000 * hold) moment

-- a session is expired behind pieces
abbrev pub expired_at : Local → List Piece → ℕ → Bool
expired_at local pieces moment = is_expired (hold_of local (joined pieces)) (last_heard pieces) moment
