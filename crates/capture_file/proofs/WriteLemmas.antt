-- How octets that are appended one part after another stand.
use Rattle.std.proofs.Common.{◌≡◌, ℕ, List, [], ◌∷◌, ◌++◌, append_assoc}

pub laid_out : (old stamp address port size own : List ℕ) (kind : ℕ)
    → (((((old ++ kind ∷ []) ++ stamp) ++ address) ++ port) ++ size) ++ own ≡ old ++ (kind ∷ (stamp ++ (address ++ (port ++ (size ++ own)))))
laid_out old stamp address port size own kind = simp append_assoc
