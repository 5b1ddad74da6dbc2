-- An OPEN, piece by piece.
use Rattle.std.proofs.Common.{◌≡◌, ◌++◌, ◌∷◌, [], ℕ, refl}
use Rattle.byteorder.specs.Endian.{big_bytes}
use Rattle.bgp_msg.specs.Written.{open_spelling, short_asn}

pub opened : (asn hold id : ℕ) → (((((255 ∷ 255 ∷ 255 ∷ 255 ∷ 255 ∷ 255 ∷ 255 ∷ 255 ∷ 255 ∷ 255 ∷ 255 ∷ 255 ∷ 255 ∷ 255 ∷ 255 ∷ 255 ∷ 0 ∷ 49 ∷ 1 ∷ 4 ∷ []) ++ big_bytes 2 (short_asn asn)) ++ big_bytes 2 hold) ++ big_bytes 4 id)
    ++ (20 ∷ 2 ∷ 18 ∷ 1 ∷ 4 ∷ 0 ∷ 1 ∷ 0 ∷ 1 ∷ 1 ∷ 4 ∷ 0 ∷ 2 ∷ 0 ∷ 1 ∷ 65 ∷ 4 ∷ [])) ++ big_bytes 4 asn ≡ open_spelling asn hold id
unfolding open_spelling
opened asn hold id = refl
