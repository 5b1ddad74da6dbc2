use Rattle.std.proofs.Common.{refl}
use Rattle.capture_file.specs.declared.reader.Progress.TheVariants.{Live}
use Rattle.capture_file.proofs.Calls.{call_ending, call_ends, call_left, call_read, call_same}
use Rattle.capture_file.proofs.reader.CaptureReader.hand_out.Goals as goal

pub returns-in-Live-clause-left : goal.returns-in-Live-clause-left
returns-in-Live-clause-left g c =
    call_left (g.E.ReadEvent.at c.args.self.now.reading.flows) c.args.self.now.reading c.next_event.new.self.reading c.args.self.now.progress c.next_event.new.self.progress _ _ c.next_event.result
    c.in-Live.is c.next_event.ensures.progress c.next_event.ensures.call

pub returns-in-Live-clause-ends : goal.returns-in-Live-clause-ends
returns-in-Live-clause-ends g c =
    call_ends (g.E.ReadEvent.at c.args.self.now.reading.flows) c.args.self.now.reading c.next_event.new.self.reading c.args.self.now.progress _ _ c.next_event.result
    c.in-Live.is c.next_event.ensures.call

pub returns-in-Live-clause-ending : goal.returns-in-Live-clause-ending
returns-in-Live-clause-ending g c =
    call_ending (g.E.ReadEvent.at c.args.self.now.reading.flows) c.args.self.now.reading c.next_event.new.self.reading c.args.self.now.progress c.next_event.new.self.progress _ _ c.next_event.result
    c.in-Live.is c.next_event.ensures.progress c.next_event.ensures.call

pub returns-in-Live-clause-flows : goal.returns-in-Live-clause-flows
returns-in-Live-clause-flows g c =
    (call_same (g.E.ReadEvent.at c.args.self.now.reading.flows) c.args.self.now.reading c.next_event.new.self.reading c.next_event.ensures.call.octets _ c.next_event.result c.next_event.ensures.call.answer).0

pub returns-in-Live-clause-event : goal.returns-in-Live-clause-event
returns-in-Live-clause-event g c =
    call_read (g.E.ReadEvent.at c.args.self.now.reading.flows) c.args.self.now.reading c.next_event.new.self.reading _ _ c.next_event.result c.next_event.ensures.call

pub returns-in-Failed-clause-left : goal.returns-in-Failed-clause-left
returns-in-Failed-clause-left g c =
    rw c.in-Failed.is (call_left (g.E.ReadEvent.at c.args.self.now.reading.flows) c.args.self.now.reading c.next_event-in-Failed.new.self.reading Live c.next_event-in-Failed.new.self.progress _ _ c.next_event-in-Failed.result
    refl c.next_event-in-Failed.ensures.progress c.next_event-in-Failed.ensures.call)

pub returns-in-Failed-clause-ends : goal.returns-in-Failed-clause-ends
returns-in-Failed-clause-ends g c =
    rw c.in-Failed.is (call_ends (g.E.ReadEvent.at c.args.self.now.reading.flows) c.args.self.now.reading c.next_event-in-Failed.new.self.reading Live _ _ c.next_event-in-Failed.result
    refl c.next_event-in-Failed.ensures.call)

pub returns-in-Failed-clause-ending : goal.returns-in-Failed-clause-ending
returns-in-Failed-clause-ending g c =
    rw c.in-Failed.is (call_ending (g.E.ReadEvent.at c.args.self.now.reading.flows) c.args.self.now.reading c.next_event-in-Failed.new.self.reading Live c.next_event-in-Failed.new.self.progress _ _ c.next_event-in-Failed.result
    refl c.next_event-in-Failed.ensures.progress c.next_event-in-Failed.ensures.call)

pub returns-in-Failed-clause-flows : goal.returns-in-Failed-clause-flows
returns-in-Failed-clause-flows g c =
    (call_same (g.E.ReadEvent.at c.args.self.now.reading.flows) c.args.self.now.reading c.next_event-in-Failed.new.self.reading c.next_event-in-Failed.ensures.call.octets _ c.next_event-in-Failed.result c.next_event-in-Failed.ensures.call.answer).0

pub returns-in-Failed-clause-event : goal.returns-in-Failed-clause-event
returns-in-Failed-clause-event g c =
    call_read (g.E.ReadEvent.at c.args.self.now.reading.flows) c.args.self.now.reading c.next_event-in-Failed.new.self.reading _ _ c.next_event-in-Failed.result c.next_event-in-Failed.ensures.call
