-- Texts and entries of lists of purges and items, and what is written one after another.
use Rattle.std.proofs.Common.{◌≡◌, ◌∙◌, ◌≤◌, ◌+◌, ◌∷◌, ◌++◌, [], ℕ, List, Option, Some, None, refl, sym, ap, ap₂, arith, append_assoc, length}
use Rattle.std.specs.Prelude.{map}
use Rattle.std.specs.Io.KnownBytes.{append_known}
use Rattle.acct_types.specs.declared.item.Item.{Item}
use Rattle.acct_types.specs.declared.item.Purge.{Purge}
use Rattle.config_keys.specs.declared.plugin.PluginConfig.{PluginConfig}
use Rattle.outside_io.specs.Causes.{Rose}
use Rattle.outside_io.specs.declared.ends.OutEnd.{OutEnd}
use Rattle.outside_io.specs.declared.ends.OutEnd.TheVariants.{Whole, Failed}
use Rattle.out_text.specs.Purges.{purge_text}
use Rattle.plugin_cache.specs.Slices.{Entry, IsPurgeOf, OneForEach, Slice, Timed, entries_in, timed}
use Rattle.plugin_cache.specs.Sums.{HaveOnePurge}
use Rattle.plugin_work.specs.Output.{HaveOneOutput, entries_of, slices_in, texts_of}
use Rattle.plugin_work.specs.Sinks.{IsWritten}
use Rattle.outside_io.specs.States.{SinkState}

-- ---- purges

same_purge : (a b : Purge) → a.window ≡ b.window → a.rows ≡ b.rows → a ≡ b
same_purge a b window rows = λ i. record { window = window i; rows = rows i }

same_purges : HaveOnePurge → (slices : List Slice) (some other : List Purge) → OneForEach IsPurgeOf slices some → OneForEach IsPurgeOf slices other → some ≡ other
same_purges one [] [] [] a b = refl
same_purges one [] [] (q ∷ other) a b = absurd b
same_purges one [] (p ∷ some) other a b = absurd a
same_purges one (slice ∷ slices) [] other a b = absurd a
same_purges one (slice ∷ slices) (p ∷ some) [] a b = absurd b
same_purges one (slice ∷ slices) (p ∷ some) (q ∷ other) a b =
    ap₂ (λ (x : Purge) (xs : List Purge). x ∷ xs)
    (same_purge p q (a.0.window ∙ sym b.0.window) (one slice.1 p.rows q.rows a.0.rows b.0.rows))
    (same_purges one slices some other a.1 b.1)

pub one_output : HaveOnePurge → HaveOneOutput
one_output one = record {
  purges = same_purges one;
  text = λ config items some other a b.
      a.is ∙ ap (texts_of config) (same_purges one (slices_in config items) a.purges b.purges a.are b.are) ∙ sym b.is;
}

-- one for each of two lists, one after another
pub each_joined : (Is : Slice → Purge → Type 0) (a b : List Slice) (p q : List Purge) → OneForEach Is a p → OneForEach Is b q → OneForEach Is (a ++ b) (p ++ q)
each_joined Is [] b [] q first next = next
each_joined Is [] b (x ∷ p) q first next = absurd first
each_joined Is (s ∷ a) b [] q first next = absurd first
each_joined Is (s ∷ a) b (x ∷ p) q first next = (first.0, each_joined Is a b p q first.1 next)

pub texts_joined : (config : PluginConfig) (p q : List Purge) → texts_of config (p ++ q) ≡ texts_of config p ++ texts_of config q
texts_joined config [] q = refl
texts_joined config (x ∷ p) q =
    ap (λ (text : List ℕ). purge_text config.primitives config.layout x ++ text) (texts_joined config p q)
    ∙ sym (append_assoc (purge_text config.primitives config.layout x) (texts_of config p) (texts_of config q))

-- ---- items

pub timed_more : (refresh : Option ℕ) (items : List Item) (item : Item) (more : List Timed) → map (timed refresh) (items ++ item ∷ []) ++ more ≡ map (timed refresh) items ++ timed refresh item ∷ more
timed_more refresh [] item more = refl
timed_more refresh (x ∷ items) item more = ap (λ (rest : List Timed). timed refresh x ∷ rest) (timed_more refresh items item more)

pub timed_all : (refresh : Option ℕ) (items : List Item) → map (timed refresh) items ++ [] ≡ map (timed refresh) items
timed_all refresh [] = refl
timed_all refresh (x ∷ items) = ap (λ (rest : List Timed). timed refresh x ∷ rest) (timed_all refresh items)

pub entries_timed : (refresh : Option ℕ) (items : List Item) → entries_in (map (timed refresh) items) ≡ entries_of items
entries_timed refresh [] = refl
entries_timed refresh (x ∷ items) = ap (λ (rest : List Entry). (x.key, x.counts) ∷ rest) (entries_timed refresh items)

pub one_longer : (items : List Item) (item : Item) → length (items ++ item ∷ []) ≡ length items + 1
one_longer [] item = refl
one_longer (x ∷ items) item = omega (arith, one_longer items item)

-- ---- what is written

append_twice : (held : Option (List ℕ)) (first next : List ℕ) → append_known (append_known held first) next ≡ append_known held (first ++ next)
append_twice None first next = refl
append_twice (Some octets) first next = ap Some (append_assoc octets first next)

pub append_none : (xs : List ℕ) → xs ++ [] ≡ xs
append_none [] = refl
append_none (x ∷ xs) = ap (λ (rest : List ℕ). x ∷ rest) (append_none xs)

held_still : (held : Option (List ℕ)) → held ≡ append_known held []
held_still None = refl
held_still (Some octets) = ap Some (sym (append_none octets))

-- nothing was written
pub none_written : (text : List ℕ) (end : OutEnd) (sink : SinkState) → (end ≡ Whole → text ≡ []) → (end ≡ Failed → ⊥) → IsWritten text end sink sink
none_written text end sink whole apart = record {
  front = [];
  rest = text;
  splits = refl;
  held = held_still sink.held;
  whole = whole;
  failed = λ failed. absurd (apart failed);
  kept = λ _. refl;
  later = omega arith;
}

rose_later : (before between now : ℕ) → before ≤ between → Rose between now → Rose before now
rose_later before between now later rose = omega arith

-- a text, and then another one
pub written_joined : (first next : List ℕ) (end : OutEnd) (before between now : SinkState) → IsWritten first Whole before between → IsWritten next end between now → IsWritten (first ++ next) end before now
written_joined first next end before between now x y =
    let all : first ≡ x.front = x.splits ∙ ap (λ (rest : List ℕ). x.front ++ rest) (x.whole refl) ∙ append_none x.front in
    record {
      front = x.front ++ y.front;
      rest = y.rest;
      splits = ap₂ (λ (m n : List ℕ). m ++ n) all y.splits ∙ sym (append_assoc x.front y.front y.rest);
      held = y.held ∙ ap (λ (held : Option (List ℕ)). append_known held y.front) x.held ∙ append_twice before.held x.front y.front;
      whole = y.whole;
      failed = λ failed. rose_later before.faults between.faults now.faults x.later (y.failed failed);
      kept = λ apart. y.kept apart ∙ x.kept (λ e. cc e);
      later = omega (arith, x.later, y.later);
    }

-- a text that isn't written begins a longer one
pub written_further : (first next : List ℕ) (end : OutEnd) (before now : SinkState) → (end ≡ Whole → next ≡ []) → IsWritten first end before now → IsWritten (first ++ next) end before now
written_further first next end before now none x = record {
  front = x.front;
  rest = x.rest ++ next;
  splits = ap (λ (text : List ℕ). text ++ next) x.splits ∙ append_assoc x.front x.rest next;
  held = x.held;
  whole = λ whole. ap₂ (λ (m n : List ℕ). m ++ n) (x.whole whole) (none whole);
  failed = x.failed;
  kept = x.kept;
  later = x.later;
}
