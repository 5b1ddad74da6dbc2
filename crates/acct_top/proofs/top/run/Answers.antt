use Rattle.std.proofs.Common.{◌∙◌, map, string_bytes, ap}
use Rattle.outside_io.specs.Names.{Names}
use Rattle.acct_top.proofs.TopLemmas.{holds_of_words, reason_of_words}
use Rattle.acct_top.proofs.top.run.Goals as goal

pub returns-in-Ok-clause-holds : goal.returns-in-Ok-clause-holds
returns-in-Ok-clause-holds g c = λ told.
    let read = c.in-Ok.ensures in
    holds_of_words c.run_job.result c.args.tool (map string_bytes c.args.words.now) c.in-Ok.job _ _ _
    (record { file = c.in-Ok-Some.file; named = rw c.in-Ok-Some.field-0-is at c.in-Ok-Some.ensures.named; is_job = read.job told })
    (record { names = read.names told; only_read = read.only_read; taken = read.taken told })
    (c.run_job.ensures.holds told)

pub returns-in-Ok-clause-others : goal.returns-in-Ok-clause-others
returns-in-Ok-clause-others g c = λ told name apart.
    let read = c.in-Ok.ensures in
    let other = apart c.in-Ok.job (record { file = c.in-Ok-Some.file; named = rw c.in-Ok-Some.field-0-is at c.in-Ok-Some.ensures.named; is_job = read.job told }) in
    c.run_job.ensures.others told name other ∙ ap (λ (n : Names). n name) (read.names told)

pub returns-in-Ok-clause-reason : goal.returns-in-Ok-clause-reason
returns-in-Ok-clause-reason g c =
    let read = c.in-Ok.ensures in
    reason_of_words c.run_job.result g.P.Place.tells c.args.tool (map string_bytes c.args.words.now) c.in-Ok.job _ _ _ read.only_read
    (λ told. record { file = c.in-Ok-Some.file; named = rw c.in-Ok-Some.field-0-is at c.in-Ok-Some.ensures.named; is_job = read.job told })
    c.run_job.ensures.reason
