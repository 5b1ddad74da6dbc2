-- Sets of texts.
use Rattle.std.proofs.Common.{◌≡◌, ◌||◌, Bool, true, false, cond, refl}

pub one_or_other : (a b : Bool) → cond a true b ≡ (a || b)
one_or_other true b = refl
one_or_other false b = refl
