-- One more of the pieces that are left.
use Rattle.std.proofs.Common.{◌≡◌, ◌+◌, ◌-◌, ◌<◌, ℕ, List, suc, refl, arith}
use Rattle.std.specs.Prelude.{Result, false}
use Rattle.flow_templates.specs.declared.refusal.Cause.{Cause}
use Rattle.sflow_in.specs.Xdr.{before, body_of, format_of, is_cut, pieces, rest_of}

pub pieces_next : {T : Type 0} (cut : Cause) (read : ℕ → List ℕ → Result T Cause) (count i : ℕ) (octets : List ℕ) → i < count → is_cut octets ≡ false
    → pieces cut read (count - i) octets ≡ before (read (format_of octets) (body_of octets)) (pieces cut read (count - (i + 1)) (rest_of octets))
pieces_next cut read count i octets h whole =
    let left : count - i ≡ suc (count - (i + 1)) = omega arith in
    rw (left, whole) refl
