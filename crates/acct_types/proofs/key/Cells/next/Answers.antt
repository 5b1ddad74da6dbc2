use Rattle.std.proofs.Common.{◌≡◌, ◌∙◌, ◌==◌, true, [], List, ℕ, length, ap, sym}
use Rattle.std.proofs.lemmas.Bool.{eqb-true}
use Rattle.std.proofs.lemmas.List.{nil_from_length}
use Rattle.acct_types.specs.Packed.{cells_in}
use Rattle.acct_types.proofs.PackedLemmas.{none_read}
use Rattle.acct_types.proofs.key.Cells.next.Goals as goal

none : (octets : List ℕ) → (length octets == 0) ≡ true → cells_in octets ≡ []
none octets empty = ap cells_in (nil_from_length octets (eqb-true _ _ empty)) ∙ none_read

pub returns-then-is_empty-clause-cells : goal.returns-then-is_empty-clause-cells
returns-then-is_empty-clause-cells c =
    let empty = sym c.self.view_is ∙ none _ (sym c.is_empty.ensures ∙ c.if-is_empty.true) in
    (empty, empty)
