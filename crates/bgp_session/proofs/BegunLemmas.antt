-- A message of which not all octets have come.
use Rattle.std.proofs.Common.{◌≡◌, ◌≤◌, ◌<◌, ◌+◌, ◌++◌, ℕ, false, true, List, length, refl, length-append, max, arith}
use Rattle.std.proofs.lemmas.Bool.{ltb-true, ltb-false}
use Rattle.std.specs.Prelude.{Bool, Some, None, Ok, nat_lt}
use Rattle.bgp_msg.specs.Frames.{framed, length_of}
use Rattle.bgp_session.proofs.FrameLemmas.{is_framed, length_front}

pub within_more : (begun front : List ℕ) (want : ℕ) → framed begun ≡ Ok None → length front ≤ want → (length begun < 19 → length begun + want ≡ 19)
    → (19 ≤ length begun → length begun + want ≡ length_of begun) → length (begun ++ front) ≤ max 19 (length_of (begun ++ front))
within_more begun front want is few header whole = by (nat_lt (length begun) 19) refl
  where
    by : (short : Bool) → nat_lt (length begun) 19 ≡ short → length (begun ++ front) ≤ max 19 (length_of (begun ++ front))
    by true s =
        let longer = length-append begun front in
        let up = header (ltb-true (length begun) 19 s) in
        omega (arith, few, longer, up)
    by false s =
        let some = ltb-false (length begun) 19 s in
        let longer = length-append begun front in
        let up = whole some in
        let same = length_front begun front some in
        omega (arith, few, longer, up, same)

-- a message that has no octet behind it is all there is
pub one : (begun : List ℕ) (size : ℕ) → length begun ≤ max 19 (length_of begun) → framed begun ≡ Ok (Some size) → size ≡ length begun
one begun size within is =
    let there = is_framed begun size is in
    let same = there.same in
    let least = there.least in
    let here = there.here in
    omega (arith, within, same, least, here)
