use Rattle.std.proofs.Common.{◌∙◌}
use Rattle.out_text.proofs.PlainLemmas.{plain_utf8}
use Rattle.out_text.proofs.json_lines.value_of.Goals as goal

pub unreachable-requires : goal.unreachable-requires
unreachable-requires c =
    let text = c.as_slice.ensures ∙ c.in_ok-append_text.ensures in
    c.in_default-from_utf8.ensures.cases.0 (plain_utf8 c.as_slice.result.now (rw text (rw c.truncate.ensures c.requires)))
