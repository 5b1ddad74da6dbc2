-- Messages that stand one behind another, each of which tells its length at its front.
use Rattle.std.specs.Prelude.{ℕ, ◌≡◌, ◌≤◌, ◌++◌, List, [], length, take, Option, Some, None, Result, Ok, Err}

-- What stands at the front is told by its own octets alone: a message of so many octets, one octet at least, or a fault; or more octets are
-- needed.
pub record IsFraming {F : Type 0} (framed : List ℕ → Result (Option ℕ) F) : Type 0 where
  pub nothing : framed [] ≡ Ok None
  pub some : (octets : List ℕ) (size : ℕ) → framed octets ≡ Ok (Some size) → (1 ≤ size) × (size ≤ length octets)
  pub alone : (octets : List ℕ) (size : ℕ) → framed octets ≡ Ok (Some size) → framed (take size octets) ≡ Ok (Some size)
  pub before : (octets more : List ℕ) (size : ℕ) → framed octets ≡ Ok (Some size) → framed (octets ++ more) ≡ Ok (Some size)
  pub bad : (octets more : List ℕ) (fault : F) → framed octets ≡ Err fault → framed (octets ++ more) ≡ Err fault
