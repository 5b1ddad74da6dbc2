use Rattle.std.proofs.Common.{◌≡◌, ◌∙◌, ap, map, sym}
use Rattle.std.specs.List.{slice_split}
use Rattle.std.specs.Str.{bytes_eq}
use Rattle.std.proofs.lemmas.Slice.Eq.{bytes_eq-Decides}
use Rattle.out_text.specs.Events.{event_line, event_words}
use Rattle.out_text.proofs.EventLemmas.{guesses_it, is_space, no_difference, refuses_none, some_line, text_is, words_again}
use Rattle.out_text.proofs.event_reading.read_event.Goals as goal

pub returns-in_default-clause-none : goal.returns-in_default-clause-none
returns-in_default-clause-none c _ e fits line = some_line c.args.line.now e c.in_default.ensures.cases line

pub returns-in_err-event-clause-none : goal.returns-in_err-event-clause-none
returns-in_err-event-clause-none c refused e fits line =
    let text = text_is _ _ _ e c.in-Some.ensures.cases line in
    let words : map (λ word. word.now) c.as_slice.result.now ≡ event_words e = rw c.as_slice.ensures.value (c.in_ok-words.ensures ∙ ap (slice_split is_space) text ∙ words_again e fits.0) in
    refuses_none c.from_residual-in_err-event.result e c.in_err-event.field-0.0 refused c.from_residual-in_err-event.ensures.1 (c.in_err-event.ensures.reads e fits words)

pub returns-then-ne-clause-none : goal.returns-then-ne-clause-none
returns-then-ne-clause-none c _ e fits line =
    let text = text_is _ _ _ e c.in-Some.ensures.cases line in
    let words : map (λ word. word.now) c.as_slice.result.now ≡ event_words e = rw c.as_slice.ensures.value (c.in_ok-words.ensures ∙ ap (slice_split is_space) text ∙ words_again e fits.0) in
    let event = guesses_it c.likely_event.result c.in_ok-event.event e c.in_ok-event.was (c.likely_event.ensures.reads e fits words) in
    let same : c.as_slice-2.result.now ≡ c.args.line.now = c.as_slice-2.ensures ∙ c.in_ok-event_text.ensures.ok ∙ rw c.new-printed.ensures (ap event_line event ∙ sym line) in
    no_difference (bytes_eq c.as_slice-2.result.now c.args.line.now) c.if-ne.ensures ((bytes_eq-Decides c.as_slice-2.result.now c.args.line.now).1 same)
