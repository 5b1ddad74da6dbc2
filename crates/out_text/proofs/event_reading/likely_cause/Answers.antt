use Rattle.std.proofs.Common.{◌≡◌, ◌∙◌, ℕ, List, Some, ap, ap₂, subst}
use Rattle.std.specs.List.{find}
use Rattle.std.specs.Str.{bytes_eq}
use Rattle.flow_templates.specs.declared.refusal.Cause.{Cause}
use Rattle.out_text.specs.Events.{cause_number, cause_word}
use Rattle.out_text.specs.Guesses.{IsAnswer, causes_with, or_zero}
use Rattle.out_text.proofs.EventLemmas.{found_cause}
use Rattle.out_text.proofs.event_reading.likely_cause.Goals as goal

pub returns : goal.returns
returns c cause fits same =
    let answer = c.word_and_number.ensures (cause_word cause) (cause_number cause) fits same in
    let is : (c.in_ok-word.word.now, c.in_ok-word.number) ≡ (cause_word cause, or_zero (cause_number cause)) = subst (λ r. IsAnswer r (cause_word cause, or_zero (cause_number cause))) c.in_ok-word.was answer in
    let found : c.first_cause.result ≡ Some cause =
    c.first_cause.ensures
    ∙ ap₂ (λ (word : List ℕ) (causes : List Cause). find (λ x. bytes_eq (cause_word x) word) causes) (ap (λ (pair : List ℕ × ℕ). pair.0) is) (c.causes_with.ensures ∙ ap (λ (pair : List ℕ × ℕ). causes_with pair.1) is)
    ∙ found_cause cause in
    cc (found, c.ok_or.ensures.value)
