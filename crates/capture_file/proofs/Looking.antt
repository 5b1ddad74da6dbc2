-- How a reader looks for the event at the front, one read after another.
use Rattle.std.proofs.Common.{◌≡◌, ℕ, ◌∙◌, true, false, List, [], ◌++◌, Option, Some, None, refl, sym, ap, append_assoc, inl, inr}
use Rattle.std.specs.Prelude.{IsTrue}
use Rattle.std.specs.Io.KnownBytes.{prepend_known}
use Rattle.std.proofs.lemmas.List.{append_cancel_right}
use Rattle.outside_io.specs.Octets.{Takes}
use Rattle.capture_file.specs.Reading.{TakenIsUnique}
use Rattle.capture_file.specs.Standing.{Standing, past_magic, with_octets, is_open, ReadsWhileOpen}
use Rattle.capture_file.proofs.Standing.{with_octets-append, with_octets-nil}

pub takes_nothing : (left : Option (List ℕ)) → Takes left [] left
takes_nothing None = refl
takes_nothing (Some octets) = refl

pub takes_more : (before between now : Option (List ℕ)) (first next : List ℕ) → Takes before first between → Takes between next now → Takes before (first ++ next) now
takes_more before between now first next one two = joined now ∙ ap (prepend_known first) two ∙ one
  where
    joined : (left : Option (List ℕ)) → prepend_known (first ++ next) left ≡ prepend_known first (prepend_known next left)
    joined None = refl
    joined (Some octets) = ap Some (append_assoc first next octets)

-- Some octets were taken, the last of them where those before decided nothing. None were where the octets ahead decided at once.
pub record IsReaching {S : Type 0} (before now : Standing) (source_before source_now : S) (left_before left_now : Option (List ℕ)) : Type 0 where
  pub octets : List ℕ
  pub taken : Takes left_before octets left_now
  pub while_open : ReadsWhileOpen before octets
  pub there : past_magic now ≡ with_octets before octets
  pub idle : is_open (past_magic before) ≡ false → (octets ≡ []) × (source_now ≡ source_before)

pub reaching_start : {S : Type 0} (there : Standing) (source : S) (left : Option (List ℕ)) → IsReaching there there source source left left
reaching_start there source left = record {
  octets = [];
  taken = takes_nothing left;
  while_open = inl refl;
  there = sym (with_octets-nil there);
  idle = λ closed. (refl, refl);
}

-- where the octets taken decide nothing, those ahead at first did not either
pub not_idle : {S : Type 0} (before now : Standing) (source_before source_now : S) (left_before left_now : Option (List ℕ)) → IsReaching before now source_before source_now left_before left_now
    → IsTrue (is_open (past_magic now)) → is_open (past_magic before) ≡ false → ⊥
not_idle before now source_before source_now left_before left_now so_far opened closed =
    let none = (so_far.idle closed).0 in
    let same : past_magic now ≡ past_magic before = so_far.there ∙ ap (with_octets before) none ∙ with_octets-nil before in
    no (sym opened ∙ ap is_open same ∙ closed)
  where
    no : true ≡ false → ⊥
    no e = cc

pub reaching_more : {S : Type 0} (before now there next : Standing) (source_before source_now source_next : S) (left_before left_now left_next : Option (List ℕ)) (more : List ℕ)
    → IsReaching before now source_before source_now left_before left_now → there ≡ past_magic now → IsTrue (is_open there)
    → next ≡ record there { ahead = there.ahead ++ more } → Takes left_now more left_next → IsReaching before next source_before source_next left_before left_next
reaching_more before now there next source_before source_now source_next left_before left_now left_next more so_far passed opened goes_on took =
    let stands : there ≡ with_octets before so_far.octets = passed ∙ so_far.there in
    record {
      octets = so_far.octets ++ more;
      taken = takes_more left_before left_now left_next so_far.octets more so_far.taken took;
      while_open = inr (so_far.octets, more, refl, sym (ap is_open stands) ∙ opened);
      there = ap past_magic goes_on ∙ ap (λ (place : Standing). with_octets place more) stands ∙ with_octets-append before so_far.octets more;
      idle = λ closed. absurd (not_idle before now source_before source_now left_before left_now so_far (sym (ap is_open passed) ∙ opened) closed);
    }

pub taken_is_unique : TakenIsUnique
taken_is_unique None None one other told first second = cc
taken_is_unique (Some before) None one other told first second = cc
taken_is_unique left_before (Some after) one other told first second =
    let same : one ++ after ≡ other ++ after = cc in append_cancel_right one other after same
