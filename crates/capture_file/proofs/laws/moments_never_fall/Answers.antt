use Rattle.std.proofs.Common.{true, false}
use Rattle.capture_file.specs.Capture.{events_of}
use Rattle.capture_file.proofs.Spelling.{datagrams_rise, route_events_rise}
use Rattle.capture_file.proofs.laws.moments_never_fall.Goals as goal

pub returns : goal.returns
returns c = record {
  flows = λ most octets. datagrams_rise 0 (events_of true most octets);
  routes = λ most octets. route_events_rise 0 (events_of false most octets);
}
