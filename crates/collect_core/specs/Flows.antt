-- The datagrams of a run: those that an input hands out, within the limits.
use Rattle.std.specs.Prelude.{◌≡◌, ◌≤◌, ◌<◌, ℕ, ◌-◌, List, [], ◌∷◌, length, nat_le, nat_lt, if◌then◌else◌}
use Rattle.acct_types.specs.declared.datagram.Datagram.{Datagram}
use Rattle.capture_file.specs.Event.{spelling_of}
use Rattle.collect_core.specs.declared.job.Job.{Job}
use Rattle.collect_core.specs.Most.{Most}
use Rattle.collect_core.specs.Due.{records_in, records_of}

-- the octets of the event that a datagram is in a capture
abbrev pub event_octets : Datagram → ℕ
event_octets d = length (spelling_of d)

-- the datagrams before the first whose event would bring the octets of all events above the limit
abbrev pub fitting : ℕ → List Datagram → List Datagram
fitting most [] = []
fitting most (d ∷ later) = if nat_le (event_octets d) most then d ∷ fitting (most - event_octets d) later else []

-- the datagrams up to the first by whose records all are more than the limit
abbrev pub up_to_limit : Job → ℕ → List Datagram → List Datagram → List Datagram
up_to_limit job most earlier [] = []
up_to_limit job most earlier (d ∷ later) =
    let records = length (records_in job earlier d) in
    d ∷ (if nat_lt most records then [] else up_to_limit job (most - records) (d ∷ earlier) later)

-- Of the datagrams that an input hands out, those of the run: it ends before the one that would pass the limit of octets, and with
-- the one that passes the limit of records.
abbrev pub flows_in : Job → Most → List Datagram → List Datagram
flows_in job most handed = up_to_limit job most.records [] (fitting most.octets handed)

-- all of these datagrams are of the run, and no limit is passed
pub record AreWithin (job : Job) (most : Most) (handed : List Datagram) : Type 0 where
  pub octets : fitting most.octets handed ≡ handed
  pub records : length (records_of job handed) ≤ most.records

-- the last of these datagrams would pass the limit of octets, and the others pass no limit
pub record PassesOctets (job : Job) (most : Most) (handed : List Datagram) : Type 0 where
  pub octets : length (fitting most.octets handed) < length handed
  pub records : length (records_of job (fitting most.octets handed)) ≤ most.records

-- by the last of these datagrams the records are more than the limit
pub record PassesRecords (job : Job) (most : Most) (handed : List Datagram) : Type 0 where
  pub octets : fitting most.octets handed ≡ handed
  pub records : most.records < length (records_of job handed)
