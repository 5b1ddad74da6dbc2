-- On the octets of a buffer between two places.
use Rattle.std.proofs.Common.{◌≡◌, ◌≤◌, ℕ, ◌+◌, ◌-◌, ◌∙◌, List, ◌++◌, length, take, drop, sym, ap, arith, length-drop, take-append-drop}
use Rattle.std.proofs.lemmas.List.{append-nil, drop_all, take_all, take_at, take-take, drop-take, drop-append-le, length-take-le}

-- the part between two places is at the front of the buffer once it was copied there
pub moved : (items rest : List ℕ) (start end : ℕ) → start ≤ end → end ≤ length items → take (end - start) (take (end - start) (drop start items) ++ rest) ≡ drop start (take end items)
moved items rest start end ordered within =
    let long : end - start ≤ length (drop start items) = omega (arith, length-drop start items) in
    let whole : start + (end - start) ≡ end = omega arith in
    take_at (take (end - start) (drop start items)) rest (end - start) (length-take-le (end - start) (drop start items) long)
    ∙ sym (drop-take start (end - start) items)
    ∙ ap (λ (n : ℕ). drop start (take n items)) whole

-- what was read behind the end of the part follows it
pub refilled : (old new : List ℕ) (start end count : ℕ) → start ≤ end → end ≤ length old → take end new ≡ take end old
    → drop start (take (end + count) new) ≡ drop start (take end old) ++ take count (drop end new)
refilled old new start end count ordered within kept =
    let short : start ≤ length (take end old) = omega (arith, length-take-le end old within) in
    ap (drop start) (
    sym (take-append-drop end (take (end + count) new))
    ∙ ap (λ (xs : List ℕ). xs ++ drop end (take (end + count) new)) (take-take end (end + count) new (omega arith) ∙ kept)
    ∙ ap (λ (xs : List ℕ). take end old ++ xs) (drop-take end count new)
    )
    ∙ drop-append-le start (take end old) (take count (drop end new)) short

-- what was written over all of a buffer is the buffer
pub written_over : (items new : List ℕ) (len : ℕ) → len ≡ length items → length new ≡ length items → take len (new ++ drop (length new) items) ≡ new
written_over items new len whole same =
    ap (λ (xs : List ℕ). take len (new ++ xs)) (drop_all (length new) items (omega (arith, same)))
    ∙ ap (take len) (append-nil new)
    ∙ take_all len new (omega (arith, whole, same))
