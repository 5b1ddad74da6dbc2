use Rattle.flow_sets.proofs.WidthLemmas.{is_layout, serves}
use Rattle.flow_sets.proofs.layout.Layout.renew.Goals as goal

pub returns-clause-answer : goal.returns-clause-answer
returns-clause-answer c =
    is_layout c.args.version c.args.template.now c.args.octets.now _ c.requires.accepted c.in-Some.ensures.length.0 c.in-Some.ensures.length.1 c.in-Some.ensures.spans

pub returns-clause-serves : goal.returns-clause-serves
returns-clause-serves c =
    serves c.args.version c.args.template.now c.args.fixed c.args.octets.now _ c.requires.accepted c.requires.fixed c.in-Some.ensures.length.0 c.in-Some.ensures.spans
