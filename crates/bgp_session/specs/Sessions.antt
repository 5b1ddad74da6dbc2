-- A session, and the pieces that it took. Callers see its peer, what this side says of itself, and the moment of the last piece; of the rest,
-- which is by the pieces alone, they see whether it is live, and HasHeard.
use Rattle.std.specs.Prelude.{ℕ, ◌≡◌, Bool, true, false, List, not}
use Rattle.acct_types.specs.declared.addr.Addr.{Addr}
use Rattle.bgp_session.specs.Lives.{closed_by, heard, hold_of, agreed_in, stage_of}
use Rattle.bgp_session.specs.Moments.{Piece, is_expired, joined, last_heard}
use Rattle.bgp_session.specs.Steps.{kept}
use Rattle.bgp_session.specs.Stream.{rest_of}
use Rattle.bgp_session.specs.declared.progress.Local.{Local}
use Rattle.bgp_session.specs.declared.progress.Progress.{Progress}
use Rattle.bgp_session.specs.declared.progress.Stage.{Stage}
use Rattle.bgp_session.specs.declared.progress.Stage.TheVariants.{AwaitsOpen, AwaitsKeepalive, Established, Closed}

pub record SessionState : Type 0 where
  pub peer : Addr
  pub local : Local
  pub moment : ℕ
  pub progress : Progress
  pub last : ℕ
  pub begun : List ℕ

abbrev pub is_over : Stage → Bool
is_over AwaitsOpen = false
is_over AwaitsKeepalive = false
is_over Established = false
is_over Closed = true

unfoldable pub is_live : SessionState → Bool
is_live session = not (is_over session.progress.stage)

-- at this moment an agreed hold time has passed since the last message
unfoldable pub has_expired : SessionState → ℕ → Bool
has_expired session moment = is_expired session.progress.hold session.last moment

-- What is awaited, what was agreed, when the last message came, and what is kept of the message begun are by the octets of the pieces joined,
-- however they were cut.
pub record Keeps (session : SessionState) (pieces : List Piece) : Type 0 where
  pub stage : session.progress.stage ≡ stage_of (joined pieces)
  pub agreed : session.progress.agreed ≡ agreed_in (heard (joined pieces))
  pub hold : session.progress.hold ≡ hold_of session.local (joined pieces)
  pub last : session.last ≡ last_heard pieces
  pub begun : session.begun ≡ kept (closed_by (joined pieces)) (rest_of (joined pieces))

-- The session has taken these pieces, the newest first.
unfoldable pub HasHeard : SessionState → List Piece → Type 0
HasHeard session pieces = Keeps session pieces
