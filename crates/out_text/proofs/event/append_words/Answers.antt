use Rattle.std.proofs.Common.{◌++◌, [], map, sym, arith}
use Rattle.std.proofs.lemmas.List.{get_or-map, length-map}
use Rattle.out_text.proofs.EventLemmas.{longer_line}
use Rattle.out_text.proofs.event.append_words.Goals as goal

pub loop-word-preserved : goal.loop-word-preserved
loop-word-preserved c =
    let size = length-map c.args.others.now (λ word. word.now) in
    let word = get_or-map (λ word. word.now) c.args.others.now c.loop-word.word-index (record { ref_ptr = (0, 0); now = [] }) [] c.loop-word-test.true in
    longer_line (c.args.out.now ++ c.args.first.now) _ _ _ _ (map (λ word. word.now) c.args.others.now) c.loop-word.word-index (omega (arith, size, c.loop-word-test.true)) (sym word) c.loop-word.invariant c.in_ok-push.ensures.ok c.in_ok-extend-2.ensures.ok
