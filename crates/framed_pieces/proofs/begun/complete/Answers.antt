use Rattle.std.proofs.Common.{◌≡◌, ◌∙◌, ℕ, List, refl, sym, ap, append_assoc, arith, true, false}
use Rattle.std.proofs.lemmas.List.{take-append-drop}
use Rattle.std.specs.Prelude.{Option, Some, None, Result, Ok, Err, is_none}
use Rattle.framed_pieces.specs.Begun.{needs_more}
use Rattle.framed_pieces.proofs.begun.complete.Goals as goal

clash : {F : Type 0} (found : Result (Option ℕ) F) (size : ℕ) → found ≡ Ok None → found ≡ Ok (Some size) → ⊥
clash found size h k = cc

partial : {F : Type 0} (framed : List ℕ → Result (Option ℕ) F) (begun : List ℕ) → needs_more framed begun ≡ true → framed begun ≡ Ok None
partial {F} framed begun h = by (framed begun) h
  where
    by : (found : Result (Option ℕ) F) → (elim found [ Ok size ↦ is_none size | Err fault ↦ false ]) ≡ true → found ≡ Ok None
    by (Ok None) h = refl
    by (Ok (Some size)) h = absurd (cc)
    by (Err fault) h = absurd (cc)

pub loop-begun-init : goal.loop-begun-init
loop-begun-init g c = record { same = refl; one = λ size is. absurd (clash _ size c.requires is) }

pub wanted-requires : goal.wanted-requires
wanted-requires g c = rw c.as_slice-in-loop-begun.ensures
    (partial g.F.Framing.framed c.loop-begun.begun (ap (needs_more g.F.Framing.framed) (sym c.as_slice.ensures) ∙ sym c.needs_more.ensures ∙ c.if-needs_more.true))

pub loop-begun-preserved : goal.loop-begun-preserved
loop-begun-preserved g c =
    let few = c.split_at.ensures.front_len in
    let least = c.min-size.ensures in
    let part = rw c.as_slice-in-loop-begun.ensures at c.wanted.ensures.part in
    record {
      same = rw (c.in_ok-extend.ensures.ok, append_assoc, c.split_at.ensures.front, c.split_at.ensures.back, take-append-drop c.min-size.result c.loop-begun.rest.now) c.loop-begun.invariant.same;
      one = rw c.in_ok-extend.ensures.ok (λ size is. part c.split_at.result.0.now size (omega (arith, few, least)) is);
    }
