use Rattle.std.proofs.Common.{◌≡◌, ◌∙◌, ℕ, List, Some, ap, ap₂, subst}
use Rattle.std.specs.List.{find}
use Rattle.std.specs.Str.{bytes_eq}
use Rattle.flow_templates.specs.declared.decoded.NoticeCause.{NoticeCause}
use Rattle.out_text.specs.Events.{notice_number, notice_word}
use Rattle.out_text.specs.Guesses.{IsAnswer, notices_with, or_zero}
use Rattle.out_text.proofs.EventLemmas.{found_notice, notice_is_below}
use Rattle.out_text.proofs.event_reading.likely_notice_cause.Goals as goal

pub returns : goal.returns
returns c notice fits same =
    let answer = c.word_and_number.ensures (notice_word notice) (notice_number notice) (notice_is_below notice fits) same in
    let is : (c.in_ok-word.word.now, c.in_ok-word.number) ≡ (notice_word notice, or_zero (notice_number notice)) = subst (λ r. IsAnswer r (notice_word notice, or_zero (notice_number notice))) c.in_ok-word.was answer in
    let found : c.first_notice.result ≡ Some notice =
    c.first_notice.ensures
    ∙ ap₂ (λ (word : List ℕ) (notices : List NoticeCause). find (λ x. bytes_eq (notice_word x) word) notices) (ap (λ (pair : List ℕ × ℕ). pair.0) is) (c.notices_with.ensures ∙ ap (λ (pair : List ℕ × ℕ). notices_with pair.1) is)
    ∙ found_notice notice fits in
    cc (found, c.ok_or.ensures.value)
