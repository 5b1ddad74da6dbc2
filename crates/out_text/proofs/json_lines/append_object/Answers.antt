use Rattle.std.proofs.Common.{◌∙◌, ◌++◌, ◌∷◌, [], ℕ, List, ap, append_assoc}
use Rattle.std.proofs.lemmas.Result.{on_ok_weaker}
use Rattle.serde_json.specs.Data.{object}
use Rattle.serde_json.proofs.Views.{view-Object}
use Rattle.out_text.specs.Objects.{by_name}
use Rattle.out_text.specs.Rows.{entries_of}
use Rattle.out_text.proofs.JsonLemmas.{json_line_is, no_float}
use Rattle.out_text.proofs.json_lines.append_object.Goals as goal

pub returns : goal.returns
returns c =
    let entries = entries_of c.args.entries.now in
    let shown = view-Object c.in_ok-members.members ∙ ap object c.in_ok-members.ensures in
    let text = rw shown at c.in_ok-text.ensures.text in
    let line = c.as_bytes.ensures.value ∙ text (no_float (by_name entries)) in
    on_ok_weaker c.push.result
    (λ h. h ∙ ap (λ (t : List ℕ). t ++ 10 ∷ []) (c.in_ok-extend.ensures.ok ∙ ap (λ (t : List ℕ). c.args.out.now ++ t) line)
    ∙ append_assoc c.args.out.now _ (10 ∷ []) ∙ ap (λ (t : List ℕ). c.args.out.now ++ t) (json_line_is entries c.requires))
    c.push.ensures.ok
