use Rattle.std.proofs.Common.{Ok, arith}
use Rattle.flow_templates.proofs.RecordLemmas.{judged_bounds, judged_ok, can_be_read, read_turn, reads_err, turn_defines}
use Rattle.flow_templates.proofs.reading.read_record.Goals as goal

pub returns-in-Err-clause-answer : goal.returns-in-Err-clause-answer
returns-in-Err-clause-answer c = reads_err c.args.version c.args.options c.args.octets.now c.in-Err.fault c.in-Err.ensures.judged c.in-Err.ensures.no_memory

pub u16_at-id-requires : goal.u16_at-id-requires
u16_at-id-requires c =
    omega (arith, (can_be_read c.args.version c.args.options c.args.octets.now (judged_ok c.args.version c.args.options c.args.octets.now c.in-Ok.used c.in-Ok.ensures.judged)).four)

pub read_what-requires : goal.read_what-requires
read_what-requires c = judged_ok c.args.version c.args.options c.args.octets.now c.in-Ok.used c.in-Ok.ensures.judged

pub returns-in_default-clause-answer : goal.returns-in_default-clause-answer
returns-in_default-clause-answer c = judged_ok c.args.version c.args.options c.args.octets.now c.in-Ok.used c.in-Ok.ensures.judged

pub returns-clause-answer : goal.returns-clause-answer
returns-clause-answer c =
    read_turn c.args.version c.args.options c.args.octets.now c.u16_at-id.result c.in-Ok.used c.in-Ok-read_what.what c.in-Ok.ensures.judged c.u16_at-id.ensures c.in-Ok-read_what.ensures

pub returns-clause-accepted : goal.returns-clause-accepted
returns-clause-accepted c =
    turn_defines c.args.version c.args.options c.args.octets.now (record { id = c.u16_at-id.result; used = c.in-Ok.used; what = c.in-Ok-read_what.what }) c.requires (λ k. (c.type_inv.octets k).fits)
    (read_turn c.args.version c.args.options c.args.octets.now c.u16_at-id.result c.in-Ok.used c.in-Ok-read_what.what c.in-Ok.ensures.judged c.u16_at-id.ensures c.in-Ok-read_what.ensures)

pub returns-clause-least : goal.returns-clause-least
returns-clause-least c = (judged_bounds c.args.version c.args.options c.args.octets.now (Ok c.in-Ok.used) c.in-Ok.ensures.judged).0

pub returns-clause-within : goal.returns-clause-within
returns-clause-within c = (judged_bounds c.args.version c.args.options c.args.octets.now (Ok c.in-Ok.used) c.in-Ok.ensures.judged).1
