-- What a listener makes of the messages of octets.
use Rattle.std.specs.Prelude.{ℕ, Bool, List, [], ◌∷◌, Option, Some, None, Result, if◌then◌else◌}
use Rattle.framed_pieces.specs.Stream.{fault_at, messages, rest_of}

-- what a message makes of its state, what a fault does, and whether it hears no more
pub record Listening (S F : Type 0) : Type 0 where
  pub hears : S → List ℕ → S
  pub refuses : S → F → S
  pub is_over : S → Bool

-- messages, up to the one with which it is over
abbrev pub heard_all : {S F : Type 0} → Listening S F → S → List (List ℕ) → S
heard_all listening state [] = state
heard_all listening state (message ∷ others) =
    if listening.is_over (listening.hears state message) then listening.hears state message
    else heard_all listening (listening.hears state message) others

-- what is wrong behind them, unless it is over
abbrev pub judged : {S F : Type 0} → Listening S F → S → Option F → S
judged listening state None = state
judged listening state (Some fault) = if listening.is_over state then state else listening.refuses state fault

unfoldable pub taken : {S F : Type 0} → (List ℕ → Result (Option ℕ) F) → Listening S F → S → List ℕ → S
taken framed listening state octets = judged listening (heard_all listening state (messages framed octets)) (fault_at framed (rest_of framed octets))

-- what is kept of octets: what isn't a whole message, and nothing where it is over
abbrev pub kept : {S F : Type 0} → (List ℕ → Result (Option ℕ) F) → Listening S F → S → List ℕ → List ℕ
kept framed listening state octets = if listening.is_over (taken framed listening state octets) then [] else rest_of framed octets
