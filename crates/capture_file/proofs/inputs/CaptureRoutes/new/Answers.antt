use Rattle.std.proofs.Common.{false}
use Rattle.capture_file.specs.Event.{route_event_at}
use Rattle.capture_file.proofs.Calls.{fresh_ends, fresh_left}
use Rattle.capture_file.proofs.inputs.CaptureRoutes.new.Goals as goal

pub returns-clause-left : goal.returns-clause-left
returns-clause-left g c =
    let reader = c.args.reader in
    fresh_left route_event_at false reader.reading.most reader.reading reader.progress (g.S.Source.state reader.source).left c.requires.start c.requires.live

pub returns-clause-ending : goal.returns-clause-ending
returns-clause-ending g c =
    let reader = c.args.reader in
    λ octets told. fresh_ends false reader.reading.most reader.reading reader.progress (g.S.Source.state reader.source).left octets c.requires.start c.requires.live told
