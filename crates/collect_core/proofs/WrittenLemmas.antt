-- Texts that are written one after another.
use Rattle.std.proofs.Common.{◌≡◌, ◌≢◌, ◌∙◌, ◌≤◌, ◌++◌, [], ℕ, List, Option, Some, None, refl, sym, ap, ap₂, arith, append_assoc}
use Rattle.std.proofs.lemmas.List.{append-nil}
use Rattle.std.specs.Io.KnownBytes.{append_known}
use Rattle.outside_io.specs.Causes.{Rose}
use Rattle.outside_io.specs.Octets.{WritesFront}
use Rattle.outside_io.specs.declared.ends.OutEnd.{OutEnd}
use Rattle.outside_io.specs.declared.ends.OutEnd.TheVariants.{Whole, Failed}
use Rattle.plugin_work.specs.Sinks.{IsWritten}
use Rattle.outside_io.specs.States.{SinkState}

append_twice : (held : Option (List ℕ)) (first next : List ℕ) → append_known (append_known held first) next ≡ append_known held (first ++ next)
append_twice None first next = refl
append_twice (Some octets) first next = ap Some (append_assoc octets first next)

held_still : (held : Option (List ℕ)) → held ≡ append_known held []
held_still None = refl
held_still (Some octets) = ap Some (sym (append-nil octets))

-- no text is written at first
pub nothing_written : (sink : SinkState) → IsWritten [] Whole sink sink
nothing_written sink = record {
  front = [];
  rest = [];
  splits = refl;
  held = held_still sink.held;
  whole = λ _. refl;
  failed = λ e. cc e;
  kept = λ _. refl;
  later = omega arith;
}

-- a number that rose later rose
pub rose_later : (before between now : ℕ) → before ≤ between → Rose between now → Rose before now
rose_later before between now later rose = omega arith

-- one text more, of which this front is written
more_written : (text next front rest : List ℕ) (end : OutEnd) (start before now : SinkState) → IsWritten text Whole start before → next ≡ front ++ rest → now.held ≡ append_known before.held front
    → (end ≡ Whole → rest ≡ []) → (end ≡ Failed → Rose before.faults now.faults) → (end ≢ Failed → now.faults ≡ before.faults) → before.faults ≤ now.faults → IsWritten (text ++ next) end start now
more_written text next front rest end start before now so_far splits held whole failed kept later =
    let all : text ≡ so_far.front = so_far.splits ∙ ap (λ (r : List ℕ). so_far.front ++ r) (so_far.whole refl) ∙ append-nil so_far.front in
    record {
      front = so_far.front ++ front;
      rest = rest;
      splits = ap₂ (λ (m n : List ℕ). m ++ n) all splits ∙ sym (append_assoc so_far.front front rest);
      held = held ∙ ap (λ (h : Option (List ℕ)). append_known h front) so_far.held ∙ append_twice start.held so_far.front front;
      whole = whole;
      failed = λ e. rose_later start.faults before.faults now.faults so_far.later (failed e);
      kept = λ apart. kept apart ∙ so_far.kept (λ e. cc e);
      later = omega (arith, so_far.later, later);
    }

-- one text more is written
pub all_written : (text next : List ℕ) (start before now : SinkState) → IsWritten text Whole start before → now.held ≡ append_known before.held next → now.faults ≡ before.faults
    → IsWritten (text ++ next) Whole start now
all_written text next start before now so_far held kept =
    more_written text next next [] Whole start before now so_far (sym (append-nil next)) held (λ _. refl) (λ e. cc e) (λ _. kept) (omega (arith, kept))

-- one text more, of which a front is written
pub front_written : (text next : List ℕ) (end : OutEnd) (start before now : SinkState) → IsWritten text Whole start before → WritesFront before.held now.held next → end ≢ Whole
    → (end ≡ Failed → Rose before.faults now.faults) → (end ≢ Failed → now.faults ≡ before.faults) → before.faults ≤ now.faults → IsWritten (text ++ next) end start now
front_written text next end start before now so_far front apart failed kept later =
    more_written text next front.front front.rest end start before now so_far front.splits front.held (λ whole. absurd (apart whole)) failed kept later

-- one text more, of which nothing is written
pub none_written : (text next : List ℕ) (end : OutEnd) (start now : SinkState) → end ≢ Whole → IsWritten text end start now → IsWritten (text ++ next) end start now
none_written text next end start now apart so_far = record {
  front = so_far.front;
  rest = so_far.rest ++ next;
  splits = ap (λ (t : List ℕ). t ++ next) so_far.splits ∙ append_assoc so_far.front so_far.rest next;
  held = so_far.held;
  whole = λ whole. absurd (apart whole);
  failed = so_far.failed;
  kept = so_far.kept;
  later = so_far.later;
}
