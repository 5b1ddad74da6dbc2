use Rattle.std.proofs.Common.{List, ◌≡◌, ◌∙◌, Bool, sym, ap, ap₂, Some, None, Option}
use Rattle.std.specs.Map.{lookup}
use Rattle.indexmap.specs.IndexMap.{insert_entry}
use Rattle.indexmap.proofs.MapLemmas.{insert_entry-first, Found-position}
use Rattle.acct_types.specs.declared.flow.Counts.{Counts}
use Rattle.acct_types.specs.declared.cell.Cell.{Cell}
use Rattle.acct_types.specs.contracts.key.KeyPartialEq.TheImpl as key
use Rattle.acct_types.specs.Cells.{key_eq}
use Rattle.acct_types.specs.Counts.{}
use Rattle.plugin_cache.specs.Sums.{added}
use Rattle.plugin_cache.proofs.KeyLemmas.{same_keys}
use Rattle.plugin_cache.proofs.SumLemmas.{Rows, added_is, no_key, none_of, plus_or}
use Rattle.plugin_cache.proofs.aggregate.Aggregate.add.Goals as goal

pub plus-requires : goal.plus-requires
plus-requires c =
    let found : lookup (key_eq c.args.key) c.args.self.now ≡ Some c.index.result.now =
    ap₂ (λ (eq : List Cell → List Cell → Bool) (rows : Rows). lookup (eq c.args.key) rows) (sym (same_keys c.keys_are_ordered.ensures.equality)) (sym c.self.view_is) ∙ sym c.in-Some.ensures.value ∙ c.index.ensures in
    rw found at c.requires

pub returns-clause-ok : goal.returns-clause-ok
returns-clause-ok c =
    let k = c.args.key in
    let rows = c.self.inside.sums.entries in
    let eq = (key.eq-value).it in
    let found : lookup (key_eq k) rows ≡ Some c.index.result.now = ap (λ (e : List Cell → List Cell → Bool). lookup (e k) rows) (sym (same_keys c.keys_are_ordered.ensures.equality)) ∙ sym c.in-Some.ensures.value ∙ c.index.ensures in
    sym (insert_entry-first eq k c.plus.result rows c.in-Some.place (Found-position (eq k) rows c.in-Some.place (sym c.in-Some.ensures.index)).first)
    ∙ ap₂ (λ (e : List Cell → List Cell → Bool) (v : Counts). insert_entry e rows k v) (same_keys c.keys_are_ordered.ensures.equality) (c.plus.ensures ∙ ap (λ (o : Option Counts). plus_or o c.args.counts) (sym found))
    ∙ sym (added_is rows k c.args.counts) ∙ ap (λ (rows : Rows). added rows k c.args.counts) c.self.view_is

pub returns-in_default-clause-ok : goal.returns-in_default-clause-ok
returns-in_default-clause-ok c =
    let k = c.args.key in
    let rows = c.self.inside.sums.entries in
    let none : lookup (key_eq k) rows ≡ None = ap (λ (e : List Cell → List Cell → Bool). lookup (e k) rows) (sym (same_keys c.keys_are_ordered.ensures.equality)) ∙ none_of _ c.in_default.ensures.found in
    c.in_ok-insert.ensures.entries
    ∙ ap₂ (λ (e : List Cell → List Cell → Bool) (o : Option Counts). insert_entry e rows k (plus_or o c.args.counts)) (same_keys c.keys_are_ordered.ensures.equality) (sym none)
    ∙ sym (added_is rows k c.args.counts) ∙ ap (λ (rows : Rows). added rows k c.args.counts) c.self.view_is

pub returns-in_err-insert-clause-there : goal.returns-in_err-insert-clause-there
returns-in_err-insert-clause-there c there =
    let k = c.args.key in
    let none : lookup (key_eq k) c.args.self.now ≡ None =
    ap₂ (λ (eq : List Cell → List Cell → Bool) (rows : Rows). lookup (eq k) rows) (sym (same_keys c.keys_are_ordered.ensures.equality)) (sym c.self.view_is) ∙ none_of _ c.in_default.ensures.found in
    absurd (cc (there, no_key c.args.self.now k none))
