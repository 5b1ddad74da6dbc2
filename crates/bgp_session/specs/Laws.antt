-- Laws of lives, in words of their own.
use Rattle.std.specs.Prelude.{ℕ, ◌≡◌, ◌⊎◌, List, [], ◌∷◌, ◌++◌, Some}
use Rattle.acct_types.specs.Updates.{Said}
use Rattle.bgp_msg.specs.Frames.{kind_of}
use Rattle.bgp_session.specs.Lives.{closed_by, replies_to, updates_in}
use Rattle.bgp_session.specs.Moments.{Piece, moment_of}
use Rattle.bgp_session.specs.Sessions.{SessionState}
use Rattle.bgp_session.specs.declared.progress.Local.{Local}
use Rattle.bgp_session.specs.declared.why.Why.{Why}

-- KEEPALIVEs and UPDATEs, in any order
abbrev pub AreEstablished : List (List ℕ) → Type 0
AreEstablished [] = Unit {0}
AreEstablished (message ∷ others) = ((kind_of message ≡ 4) ⊎ (kind_of message ≡ 2)) × AreEstablished others

-- an OPEN, then a KEEPALIVE, then KEEPALIVEs and UPDATEs, as far as they go
abbrev pub AreInOrder : List (List ℕ) → Type 0
AreInOrder [] = Unit {0}
AreInOrder (open_message ∷ []) = kind_of open_message ≡ 1
AreInOrder (open_message ∷ keepalive ∷ others) = (kind_of open_message ≡ 1) × (kind_of keepalive ≡ 4) × AreEstablished others

-- Where nothing ended the life, octets that come behind add to what was answered and learned.
pub record Grows (local : Local) (octets more : List ℕ) : Type 0 where
  pub replies : List ℕ
  pub updates : List Said
  pub answered : replies_to local (octets ++ more) ≡ replies_to local octets ++ replies
  pub learned : updates_in (octets ++ more) ≡ updates_in octets ++ updates

-- what ended a life stays its end, and nothing is answered or learned behind it
pub record IsOver (local : Local) (octets more : List ℕ) (reason : Why) : Type 0 where
  pub closed : closed_by (octets ++ more) ≡ Some reason
  pub answered : replies_to local (octets ++ more) ≡ replies_to local octets
  pub learned : updates_in (octets ++ more) ≡ updates_in octets

-- Two sessions stand alike: they await the same, agreed on the same, and keep the same of a message begun.
pub record KeepAlike (one other : SessionState) : Type 0 where
  pub progress : one.progress ≡ other.progress
  pub begun : one.begun ≡ other.begun

unfoldable pub StandAlike : SessionState → SessionState → Type 0
StandAlike one other = KeepAlike one other

-- the octets of pieces came at the same moments
abbrev pub ComeTogether : List Piece → List Piece → Type 0
ComeTogether one other = (count : ℕ) → moment_of count one ≡ moment_of count other
