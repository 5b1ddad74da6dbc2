use Rattle.std.proofs.Common.{◌∙◌, Bor, List, ℕ}
use Rattle.std.specs.Str.{bytes_eq}
use Rattle.config_keys.specs.Seen.{has_text}
use Rattle.config_keys.proofs.SeenLemmas.{one_or_other}
use Rattle.config_keys.proofs.seen.see.Goals as goal

pub returns-clause-more : goal.returns-clause-more
returns-clause-more c other =
    let at : Bor (List ℕ) = record { ref_ptr = (0, 0); now = other } in
    c.in_ok-insert.ensures.updates.0 at ∙ one_or_other (bytes_eq c.args.text.now other) (has_text c.args.seen.now other)
