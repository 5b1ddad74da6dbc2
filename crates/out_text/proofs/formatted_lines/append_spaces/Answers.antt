use Rattle.std.proofs.Common.{◌++◌, ap, ◌∙◌, List, ℕ}
use Rattle.std.proofs.lemmas.List.{take-replicate}
use Rattle.std.proofs.lemmas.Result.{on_ok_weaker}
use Rattle.out_text.proofs.formatted_lines.append_spaces.Goals as goal

pub returns : goal.returns
returns c = on_ok_weaker c.extend.result (λ h. h ∙ ap (λ (t : List ℕ). c.args.out.now ++ t) (take-replicate c.args.count 39 32 c.requires)) c.extend.ensures.ok
