-- Which courses a run may take.
use Rattle.std.specs.Prelude.{◌≡◌, ◌≤◌, ◌+◌, ℕ, false, IsTrue, List, [], ◌∷◌, ◌++◌, Contains, count_by, length, nat_le, reverse}
use Rattle.acct_types.specs.Updates.{Message}
use Rattle.acct_types.specs.declared.cell.Cell.{Cell}
use Rattle.acct_types.specs.declared.datagram.Datagram.{Datagram}
use Rattle.acct_types.specs.declared.flow.Counts.{Counts}
use Rattle.config_keys.specs.declared.plugin.PluginConfig.{PluginConfig}
use Rattle.plugin_cache.specs.Sums.{sums_of}
use Rattle.collect_core.specs.declared.job.Job.{Job}
use Rattle.collect_core.specs.Audit.{records_within}
use Rattle.collect_core.specs.Course.{Course, unrouted}
use Rattle.collect_core.specs.Due.{Entry, due, is_lost, lost, taken}
use Rattle.collect_core.specs.Ends.{counted}
use Rattle.collect_core.specs.Most.{Most}

-- An entry is dropped only where its plugin doesn't wait, and only behind as many entries that it took as its ring holds.
pub record MayDrop (course : Course) (plugin : PluginConfig) (earlier : List Entry) : Type 0 where
  pub passes : plugin.wait ≡ false
  pub full : plugin.ring ≤ length (taken course plugin earlier)

-- The course of a run of these datagrams is lawful. Routes never go back, no more messages are applied than there are, a datagram without
-- records within the limit is given no cut, and what is dropped may be.
pub record IsLawful (job : Job) (most : Most) (flows : List Datagram) (course : Course) : Type 0 where
  pub begins : course.cut 0 ≡ 0
  pub never_back : (datagram : ℕ) → course.cut datagram ≤ course.cut (datagram + 1)
  pub known : (datagram : ℕ) → course.cut datagram ≤ length course.messages
  pub still : (earlier later : List Datagram) (d : Datagram) → flows ≡ earlier ++ d ∷ later → records_within job most (reverse earlier) d ≡ []
      → course.cut (length earlier + 1) ≡ course.cut (length earlier)
  pub drops : (plugin : PluginConfig) → Contains job.config.plugins plugin → (earlier later : List Entry) (entry : Entry)
      → due job most course plugin flows ≡ earlier ++ entry ∷ later → IsTrue (is_lost course plugin entry) → MayDrop course plugin earlier

-- how many of these messages have come by a moment
abbrev pub come_by : ℕ → List Message → ℕ
come_by moment messages = count_by (λ message. nat_le message.moment moment) messages

-- A run on one thread: the messages up to a datagram's moment are applied before it, and nothing is dropped.
pub record IsExact (job : Job) (most : Most) (flows : List Datagram) (course : Course) : Type 0 where
  pub cuts : (earlier later : List Datagram) (d : Datagram) → flows ≡ earlier ++ d ∷ later → (records_within job most (reverse earlier) d ≡ [] → ⊥)
      → course.cut (length earlier + 1) ≡ come_by d.moment course.messages
  pub none_dropped : (plugin : List ℕ) (datagram row : ℕ) → course.is_dropped plugin datagram row ≡ false

-- Where rows have the sums of what a plugin took, rows and what its ring refused have together the sums of what it is owed.
abbrev pub DropsConserve : Type 0
DropsConserve = (course : Course) (plugin : PluginConfig) (entries : List Entry) (rows : List (List Cell × Counts))
    → ((key : List Cell) → sums_of rows key ≡ sums_of (counted (taken course plugin entries)) key)
    → (key : List Cell) → sums_of (rows ++ counted (lost course plugin entries)) key ≡ sums_of (counted entries) key

-- a run without routes, on one thread
abbrev pub UnroutedIsLawful : Type 0
UnroutedIsLawful = (job : Job) (most : Most) (flows : List Datagram) → IsLawful job most flows unrouted × IsExact job most flows unrouted
