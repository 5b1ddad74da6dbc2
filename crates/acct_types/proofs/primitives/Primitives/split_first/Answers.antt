use Rattle.std.proofs.Common.{◌≡◌, ◌==◌, false, ◌∙◌, ◌∷◌, List, ap, sym, arith, ℕ, get_or}
use Rattle.std.specs.Prelude.{◌^◌, ◌-◌, ◌*◌, ◌%◌}
use Rattle.std.specs.Int.RustNames.{bit_and}
use Rattle.std.specs.Int.Count.{count_trailing_zeros}
use Rattle.std.specs.List.{filter}
use Rattle.acct_types.specs.declared.primitives.Column.{Column}
use Rattle.acct_types.specs.declared.primitives.Column.TheVariants.{Tag}
use Rattle.acct_types.specs.Columns.{all_columns}
use Rattle.acct_types.specs.Primitives.{is_set}
use Rattle.acct_types.proofs.ColumnLemmas.{first_set, nothing_set}
use Rattle.acct_types.proofs.primitives.Primitives.split_first.Goals as goal

pub returns-then-self-eq0-clause-none : goal.returns-then-self-eq0-clause-none
returns-then-self-eq0-clause-none c = λ _.
    let empty : c.args.self.now.set ≡ 0 = grind (arith, c.if-self-eq0.true) in
    ap (λ (set : ℕ). filter (λ d. is_set set d) all_columns) empty ∙ nothing_set

pub returns-clause-first : goal.returns-clause-first
returns-clause-first c =
    let set = c.args.self.now.set in
    let some : (set == 0) ≡ false = grind (arith, c.if-self-eq0.false) in
    first_set set some c.args.self.now.within
    ∙ ap (λ (all : List Column). get_or all (count_trailing_zeros 32 set) Tag
    ∷ filter (λ d. is_set (bit_and set (4294967295 - 1 * 2 ^ count_trailing_zeros 32 set % 4294967296)) d) all_columns)
    (sym c.all.ensures)
