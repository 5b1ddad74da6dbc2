use Rattle.bgp_session.proofs.BegunLemmas.{one, within_more}
use Rattle.bgp_session.proofs.framing.HeadersFraming.wanted.Goals as goal

pub returns-clause-part : goal.returns-clause-part
returns-clause-part c = λ more size few is.
    one _ size (within_more c.args.begun.now more c.wanted.result c.requires few c.wanted.ensures.header c.wanted.ensures.whole) is
