use Rattle.std.proofs.Common.{sym, ◌∙◌}
use Rattle.capture_file.proofs.Calls.{handed}
use Rattle.capture_file.proofs.reader.read_event.Goals as goal

pub returns-in-Ok-clause-call : goal.returns-in-Ok-clause-call
returns-in-Ok-clause-call g c =
    let looked = c.in-Ok-Ok.ensures.looked in
    handed g.E.ReadEvent.at c.args.reading.now c.look.new.self c.take_event.new.self _ _ looked.octets c.in-Ok.event c.in-Ok-Ok.width
    looked.taken looked.while_open looked.there (sym looked.judged ∙ c.in-Ok-Ok.field-0-is) c.in-Ok.ensures.event c.in-Ok.ensures.behind
