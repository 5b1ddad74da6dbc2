use Rattle.std.proofs.Common.{◌≡◌, Ok, arith}
use Rattle.out_text.specs.declared.event.Event.TheVariants.{End}
use Rattle.out_text.specs.Events.{counts_of}
use Rattle.out_text.proofs.EventLemmas.{count_at}
use Rattle.out_text.proofs.event_reading.likely_end.Goals as goal

pub returns-in_err-number_in-6-clause-reads : goal.returns-in_err-number_in-6-clause-reads
returns-in_err-number_in-6-clause-reads c totals small same =
    cc (count_at c.args.words.now (counts_of totals) 5 c.number_in-6.result c.number_in-6.ensures small same (omega arith), c.in_err-number_in-6.was)

pub returns-clause-reads : goal.returns-clause-reads
returns-clause-reads c totals small same =
    let read = count_at c.args.words.now (counts_of totals) in
    let datagrams : c.in_ok-number_in.field-0 ≡ totals.datagrams = cc (read 0 c.number_in.result c.number_in.ensures small same (omega arith), c.in_ok-number_in.was) in
    let refused : c.in_ok-number_in-2.field-0 ≡ totals.refused = cc (read 1 c.number_in-2.result c.number_in-2.ensures small same (omega arith), c.in_ok-number_in-2.was) in
    let records : c.in_ok-number_in-3.field-0 ≡ totals.records = cc (read 2 c.number_in-3.result c.number_in-3.ensures small same (omega arith), c.in_ok-number_in-3.was) in
    let dropped : c.in_ok-number_in-4.field-0 ≡ totals.dropped = cc (read 3 c.number_in-4.result c.number_in-4.ensures small same (omega arith), c.in_ok-number_in-4.was) in
    let messages : c.in_ok-number_in-5.field-0 ≡ totals.messages = cc (read 4 c.number_in-5.result c.number_in-5.ensures small same (omega arith), c.in_ok-number_in-5.was) in
    let closed : c.in_ok-number_in-6.field-0 ≡ totals.closed = cc (read 5 c.number_in-6.result c.number_in-6.ensures small same (omega arith), c.in_ok-number_in-6.was) in
    λ i. Ok (End (record { datagrams = datagrams i; refused = refused i; records = records i; dropped = dropped i; messages = messages i; closed = closed i }))
