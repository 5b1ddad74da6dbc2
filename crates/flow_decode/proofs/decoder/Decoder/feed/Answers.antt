use Rattle.std.proofs.Common.{subst, sym}
use Rattle.flow_decode.specs.History.{DecoderState, Knows, told_by}
use Rattle.flow_decode.proofs.HistoryLemmas.{accepted, still_knows}
use Rattle.flow_decode.proofs.decoder.Decoder.feed.Goals as goal

pub returns-clause-knows : goal.returns-clause-knows
returns-clause-knows c = λ earlier knows good.
    let before = subst (λ (s : DecoderState). Knows s earlier) (sym c.self.view_is) knows in
    still_knows c.self.inside.tool _ _ (told_by c.self.inside.tool earlier) c.args.datagram.now before
    (accepted _ _ _ _ c.in_ok-raw.ensures.answer c.in_ok-commit.ensures.ok)
