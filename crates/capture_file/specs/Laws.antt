-- What holds of the events of every capture.
use Rattle.std.specs.Prelude.{◌≡◌, ◌≤◌, ◌<◌, ◌^◌, ℕ, Bool, List, [], ◌∷◌, ◌++◌, ◌-◌, flat_map, length, take, drop, Ok}
use Rattle.acct_types.specs.declared.addr.Addr.{Addr}
use Rattle.acct_types.specs.declared.addr.Addr.TheVariants.{V4, V6}
use Rattle.acct_types.specs.declared.datagram.Datagram.{Datagram}
use Rattle.acct_types.specs.declared.route_event.RouteEvent.{RouteEvent}
use Rattle.acct_types.specs.RouteEvents.{act_octets}
use Rattle.capture_file.specs.declared.flows.CaptureEnd.TheVariants.{Ended}
use Rattle.capture_file.specs.Capture.{magic, datagrams_of, end_of, route_events_of, route_end_of}
use Rattle.capture_file.specs.Event.{LONGEST, judged, spelling_of, route_spelling_of}

-- no moment is below the one before it
abbrev pub NeverFall : {E : Type 0} → (E → ℕ) → ℕ → List E → Type 0
NeverFall moment_of moment [] = Unit {0}
NeverFall moment_of moment (event ∷ events) = (moment ≤ moment_of event) × NeverFall moment_of (moment_of event) events

abbrev pub FitsAddress : Addr → Type 0
FitsAddress (V4 number) = number < 2 ^ 32
FitsAddress (V6 number) = number < 2 ^ 128

-- the numbers of a datagram fit their octets, and an event may carry its own octets
pub record FitsEvent (d : Datagram) : Type 0 where
  pub moment : d.moment < 2 ^ 64
  pub exporter : FitsAddress d.exporter
  pub port : d.port < 2 ^ 16
  pub octets : length d.octets ≤ LONGEST

-- the same of a route event
pub record FitsRouteEvent (e : RouteEvent) : Type 0 where
  pub moment : e.moment < 2 ^ 64
  pub address : FitsAddress e.address
  pub port : e.port < 2 ^ 16
  pub octets : length (act_octets e.act) ≤ LONGEST

-- Each datagram has at most as many octets as an event may carry, and the events of all, as they are written, have at most so many.
abbrev pub FitIn : ℕ → List Datagram → Type 0
FitIn most [] = Unit {0}
FitIn most (d ∷ ds) = (length d.octets ≤ LONGEST) × (length (spelling_of d) ≤ most) × FitIn (most - length (spelling_of d)) ds

-- the octets of the events that datagrams are written as
abbrev pub spellings_of : List Datagram → List ℕ
spellings_of ds = flat_map spelling_of ds

-- the octets of the events that route events are written as
abbrev pub route_spellings_of : List RouteEvent → List ℕ
route_spellings_of es = flat_map route_spelling_of es

-- a capture of these datagrams is read as these datagrams, to its end
pub record ReadsBack (most : ℕ) (ds : List Datagram) : Type 0 where
  pub datagrams : datagrams_of most (magic ++ spellings_of ds) ≡ ds
  pub end : end_of most (magic ++ spellings_of ds) ≡ Ended

-- a capture of these route events is read as these route events, to its end
pub record ReadsRoutesBack (most : ℕ) (es : List RouteEvent) : Type 0 where
  pub events : route_events_of most (magic ++ route_spellings_of es) ≡ es
  pub end : route_end_of most (magic ++ route_spellings_of es) ≡ Ended

-- Whatever follows it, an event stands at the front of its spelling, and is read as itself.
pub record IsReadAgain {E : Type 0} (flows : Bool) (read : ℕ → List ℕ → E) (spelling : List ℕ) (event : E) (moment most used : ℕ) (later : List ℕ) : Type 0 where
  pub whole : judged flows most used (spelling ++ later) ≡ Ok (length spelling)
  pub same : read moment (take (length spelling) (spelling ++ later)) ≡ event
  pub rest : drop (length spelling) (spelling ++ later) ≡ later
