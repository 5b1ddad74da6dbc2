-- On numbers of faults that rise.
use Rattle.std.proofs.Common.{refl, ◌≡◌, ◌≢◌, ◌≤◌, ◌<◌, ℕ, ◌-◌, ◌^◌, List, arith, true, false, subst, sym, ◌∙◌}
use Rattle.std.specs.Str.{bytes_eq}
use Rattle.std.proofs.lemmas.Slice.Eq.{bytes_eq-Decides}
use Rattle.outside_io.specs.Causes.{Rose}

-- a number that rose early on has risen
pub Rose-earlier : (before between now : ℕ) → Rose before between → between ≤ now → Rose before now
Rose-earlier before between now rose later = omega arith

-- a number that rose later on has risen
pub Rose-later : (before between now : ℕ) → before ≤ between → Rose between now → Rose before now
Rose-later before between now later rose = omega arith

-- a number that rose and isn't at its type's end is another one
pub Rose-apart : (before now : ℕ) → before < 2 ^ 64 - 1 → Rose before now → now ≢ before
Rose-apart before now room rose = λ same. omega arith

-- a number that fell at no name but maybe at this one, and not at this one, fell at none
pub later_everywhere : (before now : List ℕ → ℕ) (name : List ℕ) → before name ≤ now name → ((other : List ℕ) → other ≢ name → now other ≡ before other) → (any : List ℕ) → before any ≤ now any
later_everywhere before now name here others any =
    elim (bytes_eq any name) as (λ b. bytes_eq any name ≡ b → before any ≤ now any) [
      | true ↦ λ e. let same : any ≡ name = (bytes_eq-Decides any name).0 e in subst (λ (n : List ℕ). before n ≤ now n) (sym same) here
      | false ↦ λ e. let apart : any ≢ name = λ same. absurd (true_is_not_false (sym ((bytes_eq-Decides any name).1 same) ∙ e)) in omega (arith, others any apart)
    ] refl
  where
    true_is_not_false : true ≡ false → ⊥
    true_is_not_false e = cc
