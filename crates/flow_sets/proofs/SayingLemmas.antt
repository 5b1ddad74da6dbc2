-- What is said one behind another.
use Rattle.std.proofs.Common.{◌≡◌, ◌∙◌, ◌++◌, ◌∷◌, [], ℕ, List, refl, sym, ap, append_assoc}
use Rattle.std.specs.Prelude.{Result, Ok, Err, IsOk}
use Rattle.std.proofs.lemmas.List.{append-nil}
use Rattle.flow_templates.specs.declared.decoded.Notice.{Notice}
use Rattle.flow_templates.specs.declared.decoded.NoticeCause.{NoticeCause}
use Rattle.flow_templates.specs.declared.decoded.RawDecoded.{RawDecoded}
use Rattle.flow_templates.specs.declared.rate.LearnedRate.{LearnedRate}
use Rattle.flow_templates.specs.declared.refusal.Cause.{Cause}
use Rattle.flow_templates.specs.Changes.{StagedChanges}
use Rattle.flow_templates.specs.Decoding.{Said}
use Rattle.flow_sets.specs.Saying.{and_rates, behind, both, noticed, nothing_said, so_far, taught_alone}

pub same_said : (a b : Said) → a.rows ≡ b.rows → a.notices ≡ b.notices → a.changes.templates ≡ b.changes.templates → a.changes.rates ≡ b.changes.rates → a ≡ b
same_said a b rows notices templates rates = λ i. record { rows = rows i; notices = notices i; changes = record { templates = templates i; rates = rates i } }

pub both_nothing : (a : Said) → both a nothing_said ≡ a
both_nothing a = same_said (both a nothing_said) a (append-nil a.rows) (append-nil a.notices) (append-nil a.changes.templates) (append-nil a.changes.rates)

pub nothing_both : (a : Said) → both nothing_said a ≡ a
nothing_both a = refl

pub both_both : (a b c : Said) → both (both a b) c ≡ both a (both b c)
both_both a b c =
    same_said (both (both a b) c) (both a (both b c)) (append_assoc a.rows b.rows c.rows) (append_assoc a.notices b.notices c.notices)
    (append_assoc a.changes.templates b.changes.templates c.changes.templates) (append_assoc a.changes.rates b.changes.rates c.changes.rates)

pub behind_behind : (a b : Said) (rest : Result Said Cause) → behind a (behind b rest) ≡ behind (both a b) rest
behind_behind a b (Ok rest) = ap Ok (sym (both_both a b rest))
behind_behind a b (Err cause) = refl

pub behind_nothing : (rest : Result Said Cause) → behind nothing_said rest ≡ rest
behind_nothing (Ok rest) = refl
behind_nothing (Err cause) = refl

pub behind_err : (a : Said) (rest : Result Said Cause) (cause : Cause) → behind a rest ≡ Err cause → rest ≡ Err cause
behind_err a (Ok rest) cause h = cc h
behind_err a (Err other) cause h = h

-- what is read to its end isn't refused
pub said_ok : (wanted : Result Said Cause) (now : Said) → behind nothing_said wanted ≡ Ok now → IsOk wanted
said_ok (Ok said) now h = refl
said_ok (Err cause) now h = cc h

-- ---- parts of one kind

pub and_notice : (decoded : RawDecoded) (staged : StagedChanges) (notices : List Notice) (number : ℕ) (cause : NoticeCause)
    → notices ≡ decoded.notices ++ record { set = number; cause = cause } ∷ []
    → behind (so_far decoded staged) (Ok (noticed number cause)) ≡ Ok (so_far (record { rows = decoded.rows; notices = notices }) staged)
and_notice decoded staged notices number cause is =
    ap Ok (same_said (both (so_far decoded staged) (noticed number cause)) (so_far (record { rows = decoded.rows; notices = notices }) staged) (append-nil decoded.rows) (sym is)
    (append-nil staged.templates) (append-nil staged.rates))

pub and_taught : (decoded : RawDecoded) (staged new : StagedChanges) (lessons : List LearnedRate) (wanted : Result Said Cause) → wanted ≡ Ok (taught_alone lessons)
    → new ≡ and_rates staged lessons → behind (so_far decoded staged) wanted ≡ Ok (so_far decoded new)
and_taught decoded staged new lessons wanted is all =
    ap (behind (so_far decoded staged)) is
    ∙ ap Ok (same_said (both (so_far decoded staged) (taught_alone lessons)) (so_far decoded new) (append-nil decoded.rows) (append-nil decoded.notices)
    (append-nil staged.templates ∙ sym (ap (λ (staged : StagedChanges). staged.templates) all)) (sym (ap (λ (staged : StagedChanges). staged.rates) all)))
