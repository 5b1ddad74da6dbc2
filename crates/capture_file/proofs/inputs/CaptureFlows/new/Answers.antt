use Rattle.std.proofs.Common.{true}
use Rattle.capture_file.specs.Event.{datagram_at}
use Rattle.capture_file.proofs.Calls.{fresh_ends, fresh_left}
use Rattle.capture_file.proofs.inputs.CaptureFlows.new.Goals as goal

pub returns-clause-left : goal.returns-clause-left
returns-clause-left g c =
    let reader = c.args.reader in
    fresh_left datagram_at true reader.reading.most reader.reading reader.progress (g.S.Source.state reader.source).left c.requires.start c.requires.live

pub returns-clause-ending : goal.returns-clause-ending
returns-clause-ending g c =
    let reader = c.args.reader in
    λ octets told. fresh_ends true reader.reading.most reader.reading reader.progress (g.S.Source.state reader.source).left octets c.requires.start c.requires.live told
