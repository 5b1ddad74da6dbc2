-- Sets of texts.
use Rattle.std.specs.Prelude.{ℕ, Bool, List}
use Rattle.std.specs.Borrow.{Bor}
use Rattle.std.specs.HashSet.{HashSet}
use Rattle.std.specs.List.{list_any}
use Rattle.std.specs.Str.{bytes_eq}

-- whether the text is in the set
abbrev pub has_text : {S : Type 0} → HashSet (Bor (List ℕ)) S → List ℕ → Bool
has_text set text = list_any (λ other. bytes_eq text other.now) set.keys
