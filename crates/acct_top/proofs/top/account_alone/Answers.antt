use Rattle.acct_top.proofs.TopLemmas.{owed, said_holds, said_reason}
use Rattle.acct_top.proofs.top.account_alone.Goals as goal

pub returns-clause-holds : goal.returns-clause-holds
returns-clause-holds g c = λ told. said_holds c.run-answer.result c.say_answer.result _ _ _ _ _ _ c.say_answer.ensures.answer (c.run-answer.ensures.holds told)

pub returns-clause-reason : goal.returns-clause-reason
returns-clause-reason g c = said_reason c.run-answer.result c.say_answer.result g.P.Place.tells _ _ _ _ _ _ c.say_answer.ensures.answer c.run-answer.ensures.reason

pub returns-clause-owed : goal.returns-clause-owed
returns-clause-owed g c = λ told.
    owed c.say_answer.result g.P.Place.tells _ _ _ _ _ _ (said_holds c.run-answer.result c.say_answer.result _ _ _ _ _ _ c.say_answer.ensures.answer (c.run-answer.ensures.holds told))
    (said_reason c.run-answer.result c.say_answer.result g.P.Place.tells _ _ _ _ _ _ c.say_answer.ensures.answer c.run-answer.ensures.reason)
