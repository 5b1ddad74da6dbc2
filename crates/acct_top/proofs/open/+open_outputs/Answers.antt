use Rattle.std.proofs.Common.{◌≡◌, ◌∙◌, ◌++◌, ◌∷◌, [], List, Some, ap, sym, subst}
use Rattle.std.specs.Prelude.{All}
use Rattle.std.proofs.lemmas.List.Elements.{All-push}
use Rattle.acct_top.specs.Run.{IsNewSink}
use Rattle.acct_top.proofs.OpenLemmas.{all_begun, all_fault, all_kept, all_kept_closed, first_item, on_ok_of, same_last}
use Rattle.acct_top.proofs.open.+open_outputs.Goals as goal

pub returns-in-Ok-open_outputs-clause-opened : goal.returns-in-Ok-open_outputs-clause-opened
returns-in-Ok-open_outputs-clause-opened g t c = λ all.
    let new = λ (out : g.row.P-Out.Denot). IsNewSink g.P.Place.tells (g.P.Out.Sink.state out) in
    let pushed : c.push.new.self ≡ c.args.outs.now ++ c.in-Ok.out ∷ [] = on_ok_of c.push.result _ (sym c.is_err.ensures.value ∙ c.if-is_err.false) c.push.ensures.ok in
    c.in-Ok-open_outputs.ensures.opened (subst (λ (outs : List g.row.P-Out.Denot). All new outs) (sym pushed) (All-push new c.args.outs.now c.in-Ok.out all c.in-Ok.ensures.opened))

pub returns-in-Ok-open_outputs-clause-begun : goal.returns-in-Ok-open_outputs-clause-begun
returns-in-Ok-open_outputs-clause-begun g t c = λ told.
    let splits = first_item c.args.plugins.now c.plugin-item.result c.in-len1-up.len_at_least c.plugin-item.is in
    all_begun c.args.job.now c.args.plugins.now c.plugin-item.result _ c.begin_of-begin.result _ _
    (record { splits = splits; apart = c.requires.apart; is_begin = c.begin_of-begin.ensures; put = c.in-Ok.ensures.begun told }) _
    (c.in-Ok-open_outputs.ensures.begun told)

pub returns-in-Ok-open_outputs-clause-others : goal.returns-in-Ok-open_outputs-clause-others
returns-in-Ok-open_outputs-clause-others g t c = λ told.
    let splits = first_item c.args.plugins.now c.plugin-item.result c.in-len1-up.len_at_least c.plugin-item.is in
    all_kept c.args.job.now c.args.plugins.now c.plugin-item.result _ c.begin_of-begin.result _ _
    (record { splits = splits; apart = c.requires.apart; is_begin = c.begin_of-begin.ensures; put = c.in-Ok.ensures.begun told }) _
    (c.open_outputs.ensures.others told)

pub returns-in-Ok-close_empty-clause-unopened : goal.returns-in-Ok-close_empty-clause-unopened
returns-in-Ok-close_empty-clause-unopened g t c = λ told.
    let splits = first_item c.args.plugins.now c.plugin-item.result c.in-len1-up.len_at_least c.plugin-item.is in
    let pushed : c.push.new.self ≡ c.args.outs.now ++ c.in-Ok.out ∷ [] = on_ok_of c.push.result _ (sym c.is_err.ensures.value ∙ c.if-is_err.false) c.push.ensures.ok in
    let same : c.in-Ok.out ≡ c.in-Some.out = same_last c.args.outs.now c.pop.new.self c.in-Ok.out c.in-Some.out (sym pushed ∙ sym c.in-Err-open_outputs.ensures.none_opened ∙ c.in-Some.ensures) in
    let empty : (g.P.Out.Sink.state c.in-Some.out).held ≡ Some [] = ap (λ (o : g.row.P-Out.Denot). (g.P.Out.Sink.state o).held) (sym same) ∙ c.in-Ok.ensures.opened.empty told in
    all_fault c.args.job.now c.args.plugins.now c.plugin-item.result _ c.begin_of-begin.result _ _
    (record { splits = splits; apart = c.requires.apart; is_begin = c.begin_of-begin.ensures; put = c.in-Ok.ensures.begun told }) c.in-Err-open_outputs.answer _ _
    (c.in-Err-open_outputs.ensures.unopened told) (c.in-Ok-close_empty.ensures.begun told empty)

pub returns-in-Ok-close_empty-clause-others : goal.returns-in-Ok-close_empty-clause-others
returns-in-Ok-close_empty-clause-others g t c = λ told.
    let splits = first_item c.args.plugins.now c.plugin-item.result c.in-len1-up.len_at_least c.plugin-item.is in
    all_kept_closed c.args.job.now c.args.plugins.now c.plugin-item.result _ c.begin_of-begin.result _ _
    (record { splits = splits; apart = c.requires.apart; is_begin = c.begin_of-begin.ensures; put = c.in-Ok.ensures.begun told }) _ _
    (c.open_outputs.ensures.others told) (c.close_empty.ensures.others told)

pub returns-in-Err-close_empty-clause-others : goal.returns-in-Err-close_empty-clause-others
returns-in-Err-close_empty-clause-others g t c = λ told.
    let splits = first_item c.args.plugins.now c.plugin-item.result c.in-len1-up.len_at_least c.plugin-item.is in
    all_kept_closed c.args.job.now c.args.plugins.now c.plugin-item.result _ c.begin_of-begin.result _ _
    (record { splits = splits; apart = c.requires.apart; is_begin = c.begin_of-begin.ensures; put = c.in-Ok.ensures.begun told }) _ _
    (c.open_outputs.ensures.others told) (c.close_empty.ensures.others told)
