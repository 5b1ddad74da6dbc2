-- From the answers of an input to what the octets of its capture say.
use Rattle.std.proofs.Common.{◌≡◌, ◌∙◌, ◌+◌, ◌-◌, ◌++◌, ◌≢◌, ◌<◌, ◌≤◌, [], ◌∷◌, ℕ, List, Bool, true, false, Option, Some, None, refl, sym, ap, subst, length, length-append, inl, inr, arith}
use Rattle.std.specs.Prelude.{IsSome, IsTrue, Ok, Err, map, sum, nat_lt, if◌then◌else◌}
use Rattle.std.specs.List.{sum_by}
use Rattle.std.proofs.lemmas.Bool.{le-leb, le-ltb, lt-ltb, ltb-false, ltb-true}
use Rattle.std.proofs.lemmas.List.{append-nil}
use Rattle.std.proofs.lemmas.List.Sums.{sum-map, sum_by-append, sum_by-cons}
use Rattle.acct_types.specs.declared.datagram.Datagram.{Datagram}
use Rattle.capture_file.specs.Capture.{datagrams_of, end_of}
use Rattle.capture_file.specs.Inputs.{flows_reader}
use Rattle.capture_file.specs.Reader.{IsFresh, source_of, standing_of}
use Rattle.capture_file.specs.Reading.{fault_of}
use Rattle.capture_file.specs.Taken.{FlowsHandOutTaken, HandsOutTaken}
use Rattle.capture_file.specs.declared.inputs.CaptureFlows.{CaptureFlows}
use Rattle.capture_file.specs.declared.reader.CaptureReader.{CaptureReader}
use Rattle.capture_file.specs.declared.flows.CaptureEnd.{CaptureEnd}
use Rattle.capture_file.specs.declared.flows.CaptureEnd.TheVariants as capture
use Rattle.collect_core.specs.declared.job.Job.{Job}
use Rattle.collect_core.specs.Audit.{audit_text}
use Rattle.collect_core.specs.Course.{unrouted}
use Rattle.collect_core.specs.Due.{all_behind, due, records_in, records_of, taken}
use Rattle.collect_core.specs.Ends.{Answer, EndsFlows, EndsPlugin, ForEachPlugin, PluginEnding}
use Rattle.collect_core.specs.Flows.{AreWithin, PassesOctets, PassesRecords, event_octets, fitting, flows_in, up_to_limit}
use Rattle.collect_core.specs.Most.{FULL}
use Rattle.config_keys.specs.declared.plugin.PluginConfig.{PluginConfig}
use Rattle.outside_io.specs.Calls.{Calls, EndWith, handed_out}
use Rattle.outside_io.specs.Inputs.{is_of_capture}
use Rattle.outside_io.specs.Octets.{Takes}
use Rattle.outside_io.specs.declared.ends.OutEnd.{OutEnd}
use Rattle.outside_io.specs.declared.ends.SideEnd.{SideEnd}
use Rattle.outside_io.specs.declared.ends.SideEnd.TheVariants as side
use Rattle.outside_io.specs.declared.ends.Which.TheVariants as which
use Rattle.outside_io.specs.declared.input_fault.InputFault.{InputFault}
use Rattle.outside_io.specs.declared.input_fault.InputFault.TheVariants as fault
use Rattle.plugin_work.specs.Sinks.{IsWritten}
use Rattle.outside_io.specs.States.{SinkState, SourceState}
use Rattle.acct_top.specs.Conservation.{flow_end, flows_of, side_end}
use Rattle.acct_top.specs.Run.{EndsAsTaken, SaysEnd}

-- ---- the limit of octets

-- a list of datagrams whose events fit has them all
all_fit : (most : ℕ) (flows : List Datagram) → sum_by event_octets flows ≤ most → fitting most flows ≡ flows
all_fit most [] fits = refl
all_fit most (d ∷ later) fits =
    let both : event_octets d + sum_by event_octets later ≤ most = subst (λ (n : ℕ). n ≤ most) (sum_by-cons event_octets d later) fits in
    let first : event_octets d ≤ most = omega arith in
    let others : sum_by event_octets later ≤ most - event_octets d = omega arith in
    ap (λ (b : Bool). if b then d ∷ fitting (most - event_octets d) later else []) (le-leb (event_octets d) most first)
    ∙ ap (λ (ds : List Datagram). d ∷ ds) (all_fit (most - event_octets d) later others)

-- a law of captures: the events of a capture's datagrams fit its limit
abbrev pub FitTheLimit : Type 0
FitTheLimit = (most : ℕ) (octets : List ℕ) → sum (map event_octets (datagrams_of most octets)) ≤ most

fits : FitTheLimit → (octets : List ℕ) → sum_by event_octets (datagrams_of FULL.octets octets) ≤ FULL.octets
fits law octets = subst (λ (n : ℕ). n ≤ FULL.octets) (sum-map event_octets (datagrams_of FULL.octets octets)) (law FULL.octets octets)

-- the first datagrams of a capture fit it too
first_fit : FitTheLimit → (octets : List ℕ) (handed ahead : List Datagram) → datagrams_of FULL.octets octets ≡ handed ++ ahead → sum_by event_octets handed ≤ FULL.octets
first_fit law octets handed ahead is =
    let all : sum_by event_octets (handed ++ ahead) ≤ FULL.octets = subst (λ (ds : List Datagram). sum_by event_octets ds ≤ FULL.octets) is (fits law octets) in
    let both : sum_by event_octets handed + sum_by event_octets ahead ≤ FULL.octets = subst (λ (n : ℕ). n ≤ FULL.octets) (sum_by-append event_octets handed ahead) all in
    at_most _ _ _ both
  where
    at_most : (a b most : ℕ) → a + b ≤ most → a ≤ most
    at_most a b most h = omega arith

-- so no limit of octets is passed by what a capture hands out
none_passes : FitTheLimit → (job : Job) (octets : List ℕ) (handed ahead : List Datagram) → datagrams_of FULL.octets octets ≡ handed ++ ahead → PassesOctets job FULL handed → ⊥
none_passes law job octets handed ahead is passes =
    let all : fitting FULL.octets handed ≡ handed = all_fit FULL.octets handed (first_fit law octets handed ahead is) in
    less (length handed) (subst (λ (ds : List Datagram). length ds < length handed) all passes.octets)
  where
    less : (n : ℕ) → n < n → ⊥
    less n h = omega arith

-- ---- the limit of records

module _ (job : Job) where
  records_first : (earlier : List Datagram) (d : Datagram) (later : List Datagram)
      → length (all_behind (records_in job) earlier (d ∷ later)) ≡ length (records_in job earlier d) + length (all_behind (records_in job) (d ∷ earlier) later)
  records_first earlier d later = length-append (records_in job earlier d) (all_behind (records_in job) (d ∷ earlier) later)

  -- datagrams whose records pass no limit are all within it
  all_within : (most : ℕ) (earlier flows : List Datagram) → length (all_behind (records_in job) earlier flows) ≤ most → up_to_limit job most earlier flows ≡ flows
  all_within most earlier [] few = refl
  all_within most earlier (d ∷ later) few =
      let count = length (records_in job earlier d) in
      let both : count + length (all_behind (records_in job) (d ∷ earlier) later) ≤ most = subst (λ (n : ℕ). n ≤ most) (records_first earlier d later) few in
      let first : count ≤ most = omega arith in
      let others : length (all_behind (records_in job) (d ∷ earlier) later) ≤ most - count = omega arith in
      ap (λ (b : Bool). d ∷ (if b then [] else up_to_limit job (most - count) (d ∷ earlier) later)) (le-ltb most count first)
      ∙ ap (λ (ds : List Datagram). d ∷ ds) (all_within (most - count) (d ∷ earlier) later others)

  -- what follows datagrams whose records pass the limit isn't within it
  others_pass : (most : ℕ) (earlier flows more : List Datagram) → most < length (all_behind (records_in job) earlier flows) → up_to_limit job most earlier (flows ++ more) ≡ up_to_limit job most earlier flows
  others_pass most earlier [] more many = absurd (none most many)
    where
      none : (n : ℕ) → n < 0 → ⊥
      none n h = omega arith
  others_pass most earlier (d ∷ later) more many =
      by (nat_lt most (length (records_in job earlier d))) refl (λ rest. others_pass (most - length (records_in job earlier d)) (d ∷ earlier) later more rest)
    where
      by : (b : Bool) → nat_lt most (length (records_in job earlier d)) ≡ b
          → (most - length (records_in job earlier d) < length (all_behind (records_in job) (d ∷ earlier) later)
          → up_to_limit job (most - length (records_in job earlier d)) (d ∷ earlier) (later ++ more) ≡ up_to_limit job (most - length (records_in job earlier d)) (d ∷ earlier) later)
          → up_to_limit job most earlier ((d ∷ later) ++ more) ≡ up_to_limit job most earlier (d ∷ later)
      by true is others =
          ap (λ (b : Bool). d ∷ (if b then [] else up_to_limit job (most - length (records_in job earlier d)) (d ∷ earlier) (later ++ more))) is
          ∙ sym (ap (λ (b : Bool). d ∷ (if b then [] else up_to_limit job (most - length (records_in job earlier d)) (d ∷ earlier) later)) is)
      by false is others =
          let both : most < length (records_in job earlier d) + length (all_behind (records_in job) (d ∷ earlier) later) = subst (λ (n : ℕ). most < n) (records_first earlier d later) many in
          let few : length (records_in job earlier d) ≤ most = ltb-false most (length (records_in job earlier d)) is in
          let rest : most - length (records_in job earlier d) < length (all_behind (records_in job) (d ∷ earlier) later) = omega arith in
          ap (λ (ds : List Datagram). d ∷ (if nat_lt most (length (records_in job earlier d)) then [] else ds)) (others rest)

  -- those within the limit pass it still
  still_pass : (most : ℕ) (earlier flows : List Datagram) → most < length (all_behind (records_in job) earlier flows) → most < length (all_behind (records_in job) earlier (up_to_limit job most earlier flows))
  still_pass most earlier [] many = many
  still_pass most earlier (d ∷ later) many =
      by (nat_lt most (length (records_in job earlier d))) refl (λ rest. still_pass (most - length (records_in job earlier d)) (d ∷ earlier) later rest)
    where
      by : (b : Bool) → nat_lt most (length (records_in job earlier d)) ≡ b
          → (most - length (records_in job earlier d) < length (all_behind (records_in job) (d ∷ earlier) later)
          → most - length (records_in job earlier d) < length (all_behind (records_in job) (d ∷ earlier) (up_to_limit job (most - length (records_in job earlier d)) (d ∷ earlier) later)))
          → most < length (all_behind (records_in job) earlier (d ∷ (if b then [] else up_to_limit job (most - length (records_in job earlier d)) (d ∷ earlier) later)))
      by true is others =
          let here : most < length (records_in job earlier d) = ltb-true most (length (records_in job earlier d)) is in
          let all : most < length (records_in job earlier d) + length (all_behind (records_in job) (d ∷ earlier) []) = omega arith in
          subst (λ (n : ℕ). most < n) (sym (records_first earlier d [])) all
      by false is others =
          let both : most < length (records_in job earlier d) + length (all_behind (records_in job) (d ∷ earlier) later) = subst (λ (n : ℕ). most < n) (records_first earlier d later) many in
          let few : length (records_in job earlier d) ≤ most = ltb-false most (length (records_in job earlier d)) is in
          let rest : most - length (records_in job earlier d) < length (all_behind (records_in job) (d ∷ earlier) later) = omega arith in
          let later_pass = others rest in
          let all : most < length (records_in job earlier d) + length (all_behind (records_in job) (d ∷ earlier) (up_to_limit job (most - length (records_in job earlier d)) (d ∷ earlier) later)) = omega (arith, later_pass) in
          subst (λ (n : ℕ). most < n) (sym (records_first earlier d (up_to_limit job (most - length (records_in job earlier d)) (d ∷ earlier) later))) all

-- ---- the datagrams of a capture

-- where the datagrams of a capture pass no limit, all are of the run
flows_within : FitTheLimit → (job : Job) (octets : List ℕ) (handed : List Datagram) → datagrams_of FULL.octets octets ≡ handed → length (records_of job handed) ≤ FULL.records → flows_of job octets ≡ handed
flows_within law job octets handed is few =
    ap (up_to_limit job FULL.records []) (all_fit FULL.octets (datagrams_of FULL.octets octets) (fits law octets) ∙ is) ∙ all_within job FULL.records [] handed few

-- where the first ones pass the limit of records, the others don't matter
flows_passing : FitTheLimit → (job : Job) (octets : List ℕ) (handed ahead : List Datagram) → datagrams_of FULL.octets octets ≡ handed ++ ahead → FULL.records < length (records_of job handed)
    → flows_of job octets ≡ up_to_limit job FULL.records [] handed
flows_passing law job octets handed ahead is many =
    ap (up_to_limit job FULL.records []) (all_fit FULL.octets (datagrams_of FULL.octets octets) (fits law octets) ∙ is) ∙ others_pass job FULL.records [] handed ahead many

end_within : FitTheLimit → (job : Job) (octets : List ℕ) (handed : List Datagram) → datagrams_of FULL.octets octets ≡ handed → length (records_of job handed) ≤ FULL.records → flow_end job octets ≡ side_end (end_of FULL.octets octets)
end_within law job octets handed is few =
    let same : flows_of job octets ≡ handed = flows_within law job octets handed is few in
    ap (λ (b : Bool). if b then side.TooMany which.Records else side_end (end_of FULL.octets octets))
    (ap (λ (ds : List Datagram). nat_lt FULL.records (length (records_of job ds))) same ∙ le-ltb FULL.records (length (records_of job handed)) few)

end_passing : FitTheLimit → (job : Job) (octets : List ℕ) (handed ahead : List Datagram) → datagrams_of FULL.octets octets ≡ handed ++ ahead → FULL.records < length (records_of job handed) → flow_end job octets ≡ side.TooMany which.Records
end_passing law job octets handed ahead is many =
    let same : flows_of job octets ≡ up_to_limit job FULL.records [] handed = flows_passing law job octets handed ahead is many in
    ap (λ (b : Bool). if b then side.TooMany which.Records else side_end (end_of FULL.octets octets))
    (ap (λ (ds : List Datagram). nat_lt FULL.records (length (records_of job ds))) same
    ∙ lt-ltb FULL.records (length (records_of job (up_to_limit job FULL.records [] handed))) (still_pass job FULL.records [] handed many))

-- ---- the answers of an input

-- what an input over a capture handed out, of which these octets were taken
abbrev pub IsHanded : List Answer → Option (List ℕ) → Option (List ℕ) → Type 0
IsHanded answers before after = HandsOutTaken (datagrams_of FULL.octets) (end_of FULL.octets) before after answers

-- the datagrams of the run are those of the octets taken
pub flows_same : FitTheLimit → (job : Job) (answers : List Answer) (before after : Option (List ℕ)) (end : SideEnd) (h : IsHanded answers before after) → EndsFlows job FULL answers end
    → flows_in job FULL (handed_out answers) ≡ flows_of job h.octets
flows_same law job answers before after end h ends = by end ends
  where
    within : AreWithin job FULL (handed_out answers) → h.ahead ≡ [] → flows_in job FULL (handed_out answers) ≡ flows_of job h.octets
    within are none =
        let all : datagrams_of FULL.octets h.octets ≡ handed_out answers = h.first ∙ ap (λ (ds : List Datagram). handed_out answers ++ ds) none ∙ append-nil (handed_out answers) in
        ap (up_to_limit job FULL.records []) are.octets ∙ all_within job FULL.records [] (handed_out answers) are.records ∙ sym (flows_within law job h.octets (handed_out answers) all are.records)

    passing : PassesRecords job FULL (handed_out answers) → flows_in job FULL (handed_out answers) ≡ flows_of job h.octets
    passing are = ap (up_to_limit job FULL.records []) are.octets ∙ sym (flows_passing law job h.octets (handed_out answers) h.ahead h.first are.records)

    fault_said : (by_fault : InputFault) → by_fault ≢ fault.NoMemory → EndWith answers (Err by_fault) → h.ahead ≡ []
    fault_said fault.NoMemory some last = absurd (some refl)
    fault_said fault.ReadFault some last = h.all (Err fault.ReadFault) last refl
    fault_said fault.BadMagic some last = h.all (Err fault.BadMagic) last refl
    fault_said (fault.BadKind place) some last = h.all (Err (fault.BadKind place)) last refl
    fault_said (fault.Torn place) some last = h.all (Err (fault.Torn place)) last refl
    fault_said (fault.TooLong place) some last = h.all (Err (fault.TooLong place)) last refl
    fault_said fault.TooMany some last = h.all (Err fault.TooMany) last refl

    by : (end : SideEnd) → EndsFlows job FULL answers end → flows_in job FULL (handed_out answers) ≡ flows_of job h.octets
    by side.Ended ends = within ends.1 (h.all (Ok None) ends.0 refl)
    by (side.Fault by_fault) ends = within ends.3 (fault_said by_fault ends.2 ends.0)
    by (side.TooMany which.Octets) (inl ends) = within ends.1 (fault_said fault.TooMany (λ e. cc e) ends.0)
    by (side.TooMany which.Octets) (inr ends) = absurd (none_passes law job h.octets (handed_out answers) h.ahead h.first ends)
    by (side.TooMany which.Records) ends = passing ends
    by (side.TooMany which.Messages) ends = absurd ends

-- the fault that ends a capture ends the flow side
side_of_fault : (end : CaptureEnd) (error : InputFault) → error ≢ fault.TooMany → fault_of end ≡ Some error → side_end end ≡ side.Fault error
side_of_fault capture.Ended error not is = cc is
side_of_fault capture.BadMagic error not is = let same : fault.BadMagic ≡ error = cc is in ap side.Fault same
side_of_fault (capture.BadKind place) error not is = let same : fault.BadKind place ≡ error = cc is in ap side.Fault same
side_of_fault (capture.Torn place) error not is = let same : fault.Torn place ≡ error = cc is in ap side.Fault same
side_of_fault (capture.TooLong place) error not is = let same : fault.TooLong place ≡ error = cc is in ap side.Fault same
side_of_fault capture.TooMany error not is = let same : fault.TooMany ≡ error = cc is in absurd (not (sym same))

side_of_too_many : (end : CaptureEnd) → fault_of end ≡ Some fault.TooMany → side_end end ≡ side.TooMany which.Octets
side_of_too_many capture.Ended is = cc is
side_of_too_many capture.BadMagic is = cc is
side_of_too_many (capture.BadKind place) is = cc is
side_of_too_many (capture.Torn place) is = cc is
side_of_too_many (capture.TooLong place) is = cc is
side_of_too_many capture.TooMany is = refl

-- the octets taken, and those that are left, say how the flow side ends
says : FitTheLimit → (job : Job) (answers : List Answer) (before : Option (List ℕ)) (later : List ℕ) (end : SideEnd) (h : IsHanded answers before (Some later)) → EndsFlows job FULL answers end → SaysEnd job h.octets later end
says law job answers before later end h ends = by end ends
  where
    bad : (error : InputFault) → error ≢ fault.TooMany → IsTrue (is_of_capture error) → EndWith answers (Err error) → AreWithin job FULL (handed_out answers)
        → (flow_end job h.octets ≡ side.Fault error) × (flow_end job (h.octets ++ later) ≡ side.Fault error)
    bad error not of_capture last are =
        let now = h.bad error last of_capture in
        let on = h.bad_on error later last of_capture refl in (
          end_within law job h.octets (handed_out answers) now.spelled are.records ∙ side_of_fault (end_of FULL.octets h.octets) error not now.fault,
          end_within law job (h.octets ++ later) (handed_out answers) on.spelled are.records ∙ side_of_fault (end_of FULL.octets (h.octets ++ later)) error not on.fault,
        )

    whole : EndWith answers (Ok None) → AreWithin job FULL (handed_out answers) → (later ≡ []) × (flow_end job h.octets ≡ side.Ended)
    whole last are =
        let is = h.whole last in
        let all : datagrams_of FULL.octets h.octets ≡ handed_out answers = h.first ∙ ap (λ (ds : List Datagram). handed_out answers ++ ds) (h.all (Ok None) last refl) ∙ append-nil (handed_out answers) in
        (is.last, end_within law job h.octets (handed_out answers) all are.records ∙ ap side_end is.end)

    by : (end : SideEnd) → EndsFlows job FULL answers end → SaysEnd job h.octets later end
    by side.Ended ends = whole ends.0 ends.1
    by (side.Fault fault.ReadFault) ends =
        let all : datagrams_of FULL.octets h.octets ≡ handed_out answers = h.first ∙ ap (λ (ds : List Datagram). handed_out answers ++ ds) (h.all (Err fault.ReadFault) ends.0 refl) ∙ append-nil (handed_out answers) in
        subst (λ (ds : List Datagram). length (records_of job ds) ≤ FULL.records) (sym (flows_within law job h.octets (handed_out answers) all ends.3.records)) ends.3.records
    by (side.Fault fault.BadMagic) ends = bad fault.BadMagic ends.1 refl ends.0 ends.3
    by (side.Fault (fault.BadKind place)) ends = bad (fault.BadKind place) ends.1 refl ends.0 ends.3
    by (side.Fault (fault.Torn place)) ends = bad (fault.Torn place) ends.1 refl ends.0 ends.3
    by (side.Fault (fault.TooLong place)) ends = bad (fault.TooLong place) ends.1 refl ends.0 ends.3
    by (side.Fault fault.TooMany) ends = absurd (ends.1 refl)
    by (side.Fault fault.NoMemory) ends = absurd (ends.2 refl)
    by (side.TooMany which.Octets) (inl ends) =
        let now = h.bad fault.TooMany ends.0 refl in
        let on = h.bad_on fault.TooMany later ends.0 refl refl in (
          end_within law job h.octets (handed_out answers) now.spelled ends.1.records ∙ side_of_too_many (end_of FULL.octets h.octets) now.fault,
          end_within law job (h.octets ++ later) (handed_out answers) on.spelled ends.1.records ∙ side_of_too_many (end_of FULL.octets (h.octets ++ later)) on.fault,
        )
    by (side.TooMany which.Octets) (inr ends) = absurd (none_passes law job h.octets (handed_out answers) h.ahead h.first ends)
    by (side.TooMany which.Records) ends =
        let on = h.first_on later in (
          end_passing law job h.octets (handed_out answers) h.ahead h.first ends.records,
          end_passing law job (h.octets ++ later) (handed_out answers) on.0 on.1 ends.records,
        )
    by (side.TooMany which.Messages) ends = absurd ends

no_octets : IsSome {T = List ℕ} None → ⊥
no_octets some = cc some

-- the same where a place tells the octets of the capture
pub ends_as : FitTheLimit → (job : Job) (answers : List Answer) (capture before after : Option (List ℕ)) (taken_before taken_after : List (List ℕ)) (end : SideEnd) (h : IsHanded answers before after) → IsSome capture → before ≡ capture
    → (Takes capture h.octets after → taken_after ≡ taken_before ++ h.octets ∷ []) → EndsFlows job FULL answers end → EndsAsTaken job capture taken_before taken_after h.octets end
ends_as law job answers capture before None taken_before taken_after end h some same took ends =
    let none : None ≡ capture = h.taken ∙ same in absurd (no_octets (subst (λ (o : Option (List ℕ)). IsSome o) (sym none) some))
ends_as law job answers capture before (Some later) taken_before taken_after end h some same took ends = record {
  rest = later;
  splits = sym (h.taken ∙ same);
  taken_is = took (h.taken ∙ same);
  says = says law job answers before later end h ends;
}

-- what an input over a reader of a capture handed out, by the octets that the source of the reader had and has
pub handed : {S : Type 0} (state : S → SourceState) (Call : CaptureFlows S → CaptureFlows S → Answer → Type 0) → FlowsHandOutTaken state Call
    → (reader : CaptureReader S) (before after : CaptureFlows S) (answers : List Answer) (input output : S) → flows_reader before ≡ reader → IsFresh true reader → (standing_of reader).most ≡ FULL.octets
    → source_of reader ≡ input → output ≡ source_of (flows_reader after) → Calls Call before after answers → IsHanded answers (state input).left (state output).left
handed {S = S} state Call law reader before after answers input output same fresh most had has calls =
    let left : S → Option (List ℕ) = λ s. (state s).left in
    let h = law before after answers (subst (λ (r : CaptureReader S). IsFresh true r) (sym same) fresh) calls in
    let by_most = subst (λ (m : ℕ). HandsOutTaken (datagrams_of m) (end_of m) (left (source_of (flows_reader before))) (left (source_of (flows_reader after))) answers) (ap (λ (r : CaptureReader S). (standing_of r).most) same ∙ most) h in
    subst (λ (o : Option (List ℕ)). IsHanded answers o (left output)) (ap (λ (r : CaptureReader S). left (source_of r)) same ∙ ap left had)
    (subst (λ (o : Option (List ℕ)). IsHanded answers (left (source_of (flows_reader before))) o) (ap left (sym has)) by_most)

-- what is written of datagrams is written of the same ones
pub plugins_of : (job : Job) (flows other : List Datagram) (plugins : List PluginConfig) (starts : List SinkState) (endings : List PluginEnding) → flows ≡ other
    → ForEachPlugin (λ plugin start ending. EndsPlugin plugin (taken unrouted plugin (due job FULL unrouted plugin flows)) start ending) plugins starts endings
    → ForEachPlugin (λ plugin start ending. EndsPlugin plugin (taken unrouted plugin (due job FULL unrouted plugin other)) start ending) plugins starts endings
plugins_of job flows other plugins starts endings same h =
    subst (λ (ds : List Datagram). ForEachPlugin (λ plugin start ending. EndsPlugin plugin (taken unrouted plugin (due job FULL unrouted plugin ds)) start ending) plugins starts endings) same h

pub audit_of : (job : Job) (flows other : List Datagram) (end : OutEnd) (start sink : SinkState) → flows ≡ other → IsWritten (audit_text job FULL unrouted flows) end start sink
    → IsWritten (audit_text job FULL unrouted other) end start sink
audit_of job flows other end start sink same h = subst (λ (ds : List Datagram). IsWritten (audit_text job FULL unrouted ds) end start sink) same h
