use Rattle.outside_io.proofs.CallLemmas.{calls_join, one_call_more}
use Rattle.outside_io.proofs.spans.calls_of_sessions_join.Goals as goal

pub returns-clause-join : goal.returns-clause-join
returns-clause-join g c = calls_join g.I.Sessions.call

pub returns-clause-one_more : goal.returns-clause-one_more
returns-clause-one_more g c = one_call_more g.I.Sessions.call
