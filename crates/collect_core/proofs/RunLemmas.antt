-- A run, with one datagram more and at its end.
use Rattle.std.proofs.Common.{◌≡◌, ◌∙◌, ◌+◌, ◌-◌, ◌^◌, ◌≤◌, ◌<◌, ◌∷◌, ◌++◌, [], ℕ, List, refl, sym, ap, ap₂, drop, get_or, length, take, reverse, arith, length-append, subst}
use Rattle.std.specs.Prelude.{All, Bool, IsTrue, Result, Ok, Err, false, min, nat_lt, true, ◌↔◌}
use Rattle.std.proofs.lemmas.Bool.{ltb-false, ltb-true}
use Rattle.std.proofs.Math.Seq.{drop-length, take-length}
use Rattle.std.proofs.lemmas.Grind.{flat_map-append}
use Rattle.std.proofs.lemmas.List.{append-nil, length-map}
use Rattle.std.proofs.lemmas.List.Elements.{All-cons, All-nil}
use Rattle.acct_types.specs.declared.datagram.Datagram.{Datagram}
use Rattle.acct_types.specs.declared.flow.FlowRecord.{FlowRecord}
use Rattle.acct_types.specs.declared.item.Item.{Item}
use Rattle.flow_decode.specs.declared.decoder.Decoded.{Decoded}
use Rattle.flow_templates.specs.declared.refusal.Cause.{Cause}
use Rattle.config_keys.specs.declared.plugin.PluginConfig.{PluginConfig}
use Rattle.out_text.specs.declared.event.Event.{Event}
use Rattle.out_text.specs.declared.event.Event.TheVariants.{End}
use Rattle.out_text.specs.declared.event.Totals.{Totals}
use Rattle.out_text.specs.Events.{event_line, events_text}
use Rattle.outside_io.specs.declared.ends.OutEnd.{OutEnd}
use Rattle.outside_io.specs.declared.ends.OutEnd.TheVariants.{Whole}
use Rattle.outside_io.specs.declared.ends.Which.TheVariants.{Records, Octets}
use Rattle.plugin_work.specs.Plugins.{PluginState}
use Rattle.plugin_work.specs.Sinks.{IsWritten}
use Rattle.outside_io.specs.States.{SinkState}
use Rattle.collect_core.specs.Course.{unrouted}
use Rattle.collect_core.specs.declared.collector.Core.{Core}
use Rattle.collect_core.specs.declared.collector.CoreStep.{CoreStep}
use Rattle.collect_core.specs.declared.job.Job.{Job}
use Rattle.collect_core.specs.declared.log.Log.{Log}
use Rattle.collect_core.specs.Audit.{audit_text, causes_in, drops_in, refusals_in, told_in, totals_of}
use Rattle.collect_core.specs.Due.{Entry, all_behind, decoded_in, due, entries_in, entry_of, over_all, records_in, records_of}
use Rattle.collect_core.specs.Flows.{event_octets}
use Rattle.collect_core.specs.Given.{AreGiven, IsGiven, Take}
use Rattle.collect_core.specs.Loads.{given_to}
use Rattle.collect_core.specs.Most.{Most}
use Rattle.collect_core.specs.Running.{GoesOn, HasRoom, HasRun, Stops}
use Rattle.collect_core.specs.Seen.{HasSeen, IsStep}
use Rattle.collect_core.proofs.BehindLemmas.{due_length, due_more, due_none, over_all_more}
use Rattle.collect_core.proofs.CourseLemmas.{events_alone, nothing_dropped}
use Rattle.collect_core.proofs.FlowLemmas.{count_least, fits_more, fits_no_more, octets_more, within_limits_more, within_limits_no_more}
use Rattle.collect_core.proofs.GivenLemmas.{all_given}
use Rattle.collect_core.proofs.LoadLemmas.{given_entries, loads_are_entries}
use Rattle.collect_core.proofs.WrittenLemmas.{nothing_written}

-- ---- what was given

-- the same entries, said otherwise
given_so : (configs : List PluginConfig) (starts : List SinkState) (entries others : PluginConfig → List Entry) (states : List PluginState) → ((plugin : PluginConfig) → entries plugin ≡ others plugin)
    → AreGiven configs starts entries states → AreGiven configs starts others states
given_so configs starts entries others states same given =
    subst (λ (e : PluginConfig → List Entry). AreGiven configs starts e states) (λ i plugin. same plugin i) given

-- a plugin took as many items as it was given entries
taken_one : (plugin : PluginConfig) (start : SinkState) (entries : List Entry) (state : PluginState) (most : ℕ) → length entries ≤ most → IsGiven plugin start entries state → state.taken ≤ most
taken_one plugin start entries state most few given = omega (arith, given.taken.taken, length-map given.items entry_of, ap (λ (es : List Entry). length es) given.are)

taken_few : (configs : List PluginConfig) (starts : List SinkState) (entries : PluginConfig → List Entry) (states : List PluginState) (most : ℕ) → ((plugin : PluginConfig) → length (entries plugin) ≤ most)
    → AreGiven configs starts entries states → All (λ (state : PluginState). state.taken ≤ most) states
taken_few [] [] entries [] most few given = All-nil (λ (state : PluginState). state.taken ≤ most)
taken_few (plugin ∷ plugins) (start ∷ starts) entries (state ∷ states) most few given =
    All-cons (λ (state : PluginState). state.taken ≤ most) state states (taken_one plugin start (entries plugin) state most (few plugin) given.0) (taken_few plugins starts entries states most few given.1)
taken_few [] [] entries (state ∷ states) most few given = absurd given
taken_few [] (start ∷ starts) entries states most few given = absurd given
taken_few (plugin ∷ plugins) [] entries states most few given = absurd given
taken_few (plugin ∷ plugins) (start ∷ starts) entries [] most few given = absurd given

-- as many plugins as before are all of them
pub same_plugins : (n : ℕ) (old new : List PluginState) → n ≡ length old → length new ≡ length old → take n (new ++ drop (length new) old) ≡ new
same_plugins n old new all same =
    ap (λ (m : ℕ). take n (new ++ drop m old)) same
    ∙ ap (λ (rest : List PluginState). take n (new ++ rest)) (drop-length old)
    ∙ ap (take n) (append-nil new)
    ∙ ap (λ (m : ℕ). take m new) (all ∙ sym same)
    ∙ take-length new

-- ---- what was counted

pub totals_are : (job : Job) (most : Most) (flows : List Datagram) (totals : Totals) → totals.datagrams ≡ length flows → totals.refused ≡ length (over_all (refusals_in job) flows)
    → totals.records ≡ min most.records (length (records_of job flows)) → totals.dropped ≡ 0 → totals.messages ≡ 0 → totals.closed ≡ 0 → totals ≡ totals_of job most unrouted flows
totals_are job most flows totals datagrams refused records dropped messages closed =
    let dropped_so : totals.dropped ≡ length (over_all (drops_in job most unrouted) flows) = dropped ∙ sym (ap (λ (events : List Event). length events) (nothing_dropped job most flows)) in
    λ i. record { datagrams = datagrams i; refused = refused i; records = records i; dropped = dropped_so i; messages = messages i; closed = closed i }

-- a datagram is refused once or not at all
once : (answer : Result Decoded Cause) → length (causes_in answer) ≤ 1
once (Ok decoded) = omega arith
once (Err cause) = omega arith

refused_few : (job : Job) (earlier flows : List Datagram) → length (all_behind (refusals_in job) earlier flows) ≤ length flows
refused_few job earlier [] = omega arith
refused_few job earlier (d ∷ flows) =
    omega (arith, length-append (refusals_in job earlier d) (all_behind (refusals_in job) (d ∷ earlier) flows), once (decoded_in job earlier d), refused_few job (d ∷ earlier) flows)

-- ---- a run

-- the records of one datagram more
records_more : (job : Job) (flows : List Datagram) (d : Datagram) → length (records_of job (flows ++ d ∷ [])) ≡ length (records_of job flows) + length (records_in job (reverse flows) d)
records_more job flows d = ap (λ (rs : List FlowRecord). length rs) (over_all_more (records_in job) flows d) ∙ length-append (records_of job flows) (records_in job (reverse flows) d)

-- no datagram was taken
pub none_run : (job : Job) (most : Most) (starts : List SinkState) (audit : SinkState) (collector : Core) (plugins : List PluginState) (log : Log) (left : ℕ) → HasSeen job [] collector
    → collector.totals ≡ record { datagrams = 0; refused = 0; records = 0; dropped = 0; messages = 0; closed = 0 } → AreGiven job.config.plugins starts (λ _. []) plugins
    → log.text ≡ [] → log.end ≡ Whole → left ≡ most.octets → GoesOn job most starts audit [] collector plugins log audit left
none_run job most starts audit collector plugins log left seen totals given text end all = record {
  within = record { octets = refl; records = omega arith };
  run = record {
    seen = seen;
    totals = totals ∙ totals_are job most [] _ refl refl (omega arith) refl refl refl;
    given = given_so job.config.plugins starts (λ _. []) (λ plugin. due job most unrouted plugin []) plugins (λ plugin. due_none job most plugin) given;
    written = subst (λ (e : OutEnd). IsWritten [] e audit audit) (sym end) (nothing_written audit);
    no_lines = text;
  };
  octets = omega (arith, all);
}

-- each plugin was given its entries of one datagram more
step_given : (job : Job) (starts : List SinkState) (entries : PluginConfig → List Entry) (flows : List Datagram) (d : Datagram) (room : ℕ) (old new : Core) (step : CoreStep) (plugins now : List PluginState)
    → IsStep job flows d room old new step → Take plugins now (λ place. given_to place step.loads) → AreGiven job.config.plugins starts entries plugins
    → AreGiven job.config.plugins starts (λ plugin. entries plugin ++ take room (entries_in job unrouted plugin (reverse flows) d)) now
step_given job starts entries flows d room old new step plugins now is taken given =
    all_given job.config.plugins starts entries (λ plugin. take room (entries_in job unrouted plugin (reverse flows) d)) (λ place. given_to place step.loads) plugins now taken
    (λ place plugin there. given_entries place step.loads ∙ ap (given_to place) is.loads ∙ loads_are_entries job unrouted room (reverse flows) d place plugin there) given

-- one datagram more was taken
pub run_more : (job : Job) (most : Most) (starts : List SinkState) (start : SinkState) (flows : List Datagram) (d : Datagram) (old new : Core) (room : ℕ) (step : CoreStep) (plugins now : List PluginState)
    (before after : Log) (audit then : SinkState) (text : List ℕ) → HasRun job most starts start flows old plugins before audit → IsStep job flows d room old new step → room ≡ most.records - old.totals.records
    → (new.totals.dropped ≡ old.totals.dropped) × (new.totals.messages ≡ old.totals.messages) × (new.totals.closed ≡ old.totals.closed) → text ≡ before.text ++ events_text step.events
    → IsWritten (events_text (over_all (told_in job) flows) ++ text) after.end start then → after.text ≡ [] → Take plugins now (λ place. given_to place step.loads)
    → HasRun job most starts start (flows ++ d ∷ []) new now after then
run_more job most starts start flows d old new room step plugins now before after audit then text had is left others lines written no_lines taken = record {
  seen = is.seen;
  totals = totals_are job most (flows ++ d ∷ []) new.totals is.seen.datagrams is.seen.refused
      (omega (arith, is.records, left, so_far, sum))
      (others.0 ∙ ap (λ (t : Totals). t.dropped) had.totals ∙ ap (λ (events : List Event). length events) (nothing_dropped job most flows))
      (others.1 ∙ ap (λ (t : Totals). t.messages) had.totals)
      (others.2 ∙ ap (λ (t : Totals). t.closed) had.totals);
  given = given_so job.config.plugins starts _ (λ plugin. due job most unrouted plugin (flows ++ d ∷ [])) now
      (λ plugin. due_more job most plugin flows d room (omega (arith, left, so_far)))
      (step_given job starts (λ plugin. due job most unrouted plugin flows) flows d room old new step plugins now is taken had.given);
  written = subst (λ (t : List ℕ). IsWritten t after.end start then) all_lines written;
  no_lines = no_lines;
}
  where
    so_far : old.totals.records ≡ min most.records (length (records_of job flows))
    so_far = ap (λ (t : Totals). t.records) had.totals

    sum : length (records_of job (flows ++ d ∷ [])) ≡ length (records_of job flows) + length (records_in job (reverse flows) d)
    sum = records_more job flows d

    all_lines : events_text (over_all (told_in job) flows) ++ text ≡ events_text (over_all (told_in job) (flows ++ d ∷ []))
    all_lines =
        ap (λ (t : List ℕ). events_text (over_all (told_in job) flows) ++ t)
        (lines ∙ ap₂ (λ (t : List ℕ) (events : List Event). t ++ events_text events) had.no_lines is.events)
        ∙ sym (flat_map-append event_line (over_all (told_in job) flows) (told_in job (reverse flows) d))
        ∙ ap events_text (sym (over_all_more (told_in job) flows d))

-- the records are more than the limit by one datagram more exactly where the step says so
pub passes_if_full : (job : Job) (most : Most) (flows : List Datagram) (d : Datagram) (old new : Core) (room : ℕ) (step : CoreStep) → old.totals ≡ totals_of job most unrouted flows
    → IsStep job flows d room old new step → room ≡ most.records - old.totals.records → length (records_of job flows) ≤ most.records
    → IsTrue step.full ↔ most.records < length (records_of job (flows ++ d ∷ []))
passes_if_full job most flows d old new room step totals is left few =
    let so_far : old.totals.records ≡ min most.records (length (records_of job flows)) = ap (λ (t : Totals). t.records) totals in
    (λ yes. omega (arith, is.full.0 yes, left, so_far, records_more job flows d, few), λ more. is.full.1 (omega (arith, more, left, so_far, records_more job flows d, few)))

-- a plugin that took no more items than records were counted has room for those of a step
pub step_fits : (most : Most) (collector : Core) (plugins : List PluginState) (room : ℕ) (loads : List (ℕ × Item)) → most.records ≤ 2 ^ 32 - 1 → HasRoom most collector plugins
    → room ≡ most.records - collector.totals.records → ((number : ℕ) → length (given_to number loads) ≤ room)
    → (place : ℕ) (d : PluginState) → place < length plugins → (get_or plugins place d).taken + length (given_to place loads) ≤ 2 ^ 32 - 1
step_fits most collector plugins room loads least has left few place d within = omega (arith, least, has.taken place d within, has.records, left, few place)

-- there is room for one datagram more
pub has_room : (job : Job) (most : Most) (starts : List SinkState) (start : SinkState) (handed : List Datagram) (collector : Core) (plugins : List PluginState) (log : Log) (audit : SinkState) (left : ℕ)
    → most.octets ≤ 2 ^ 40 → GoesOn job most starts start handed collector plugins log audit left → HasRoom most collector plugins
has_room job most starts start handed collector plugins log audit left few on = record {
  datagrams = omega (arith, on.run.seen.datagrams, count_least handed, on.octets, few);
  refused = omega (arith, on.run.seen.datagrams, on.run.seen.refused, refused_few job [] handed);
  records = omega (arith, records);
  taken = taken_few job.config.plugins starts (λ plugin. due job most unrouted plugin handed) plugins collector.totals.records
      (λ plugin. omega (arith, due_length job most plugin handed, records)) on.run.given;
}
  where
    records : collector.totals.records ≡ min most.records (length (records_of job handed))
    records = ap (λ (t : Totals). t.records) on.run.totals

-- what a test that fails says of a limit
pub not_more : (most all : ℕ) (passes : Bool) → (most < all → IsTrue passes) → passes ≡ false → all ≤ most
not_more most all passes if_more is = by (nat_lt most all) refl
  where
    by : (b : Bool) → nat_lt most all ≡ b → all ≤ most
    by true lt =
        let yes : passes ≡ true = if_more (ltb-true most all lt) in
        absurd (cc)
    by false le = ltb-false most all le

-- one datagram more, which passes no limit
pub goes_on : (job : Job) (most : Most) (starts : List SinkState) (start : SinkState) (handed : List Datagram) (d : Datagram) (collector new : Core) (plugins now : List PluginState)
    (before after : Log) (audit then : SinkState) (left : ℕ) → GoesOn job most starts start handed collector plugins before audit left → event_octets d ≤ left
    → HasRun job most starts start (handed ++ d ∷ []) new now after then → length (records_of job (handed ++ d ∷ [])) ≤ most.records
    → GoesOn job most starts start (handed ++ d ∷ []) new now after then (left - event_octets d)
goes_on job most starts start handed d collector new plugins now before after audit then left on here run few = record {
  within = record { octets = fits_more most.octets left handed d on.within.octets on.octets here; records = few };
  run = run;
  octets = omega (arith, octets_more handed d, on.octets, here);
}

-- one datagram more, which passes the limit of records
pub stops_by_records : (job : Job) (most : Most) (starts : List SinkState) (start : SinkState) (handed : List Datagram) (d : Datagram) (collector new : Core) (plugins now : List PluginState)
    (before after : Log) (audit then : SinkState) (left : ℕ) → GoesOn job most starts start handed collector plugins before audit left → event_octets d ≤ left
    → HasRun job most starts start (handed ++ d ∷ []) new now after then → most.records < length (records_of job (handed ++ d ∷ []))
    → Stops job most starts start (handed ++ d ∷ []) Records new now after then
stops_by_records job most starts start handed d collector new plugins now before after audit then left on here run many =
    let fits = fits_more most.octets left handed d on.within.octets on.octets here in
    record {
      passes = record { octets = fits; records = many };
      run = subst (λ (flows : List Datagram). HasRun job most starts start flows new now after then) (sym (within_limits_more job most handed d fits on.within.records)) run;
    }

-- one datagram more, which passes the limit of octets
pub stops_by_octets : (job : Job) (most : Most) (starts : List SinkState) (start : SinkState) (handed : List Datagram) (d : Datagram) (collector : Core) (plugins : List PluginState)
    (log : Log) (audit : SinkState) (left : ℕ) → GoesOn job most starts start handed collector plugins log audit left → left < event_octets d
    → Stops job most starts start (handed ++ d ∷ []) Octets collector plugins log audit
stops_by_octets job most starts start handed d collector plugins log audit left on beyond =
    let fits = fits_no_more most.octets left handed d on.within.octets on.octets beyond in
    record {
      passes = record {
        octets = omega (arith, ap (λ (ds : List Datagram). length ds) fits, length-append handed (d ∷ []));
        records = subst (λ (ds : List Datagram). length (records_of job ds) ≤ most.records) (sym fits) on.within.records;
      };
      run = subst (λ (flows : List Datagram). HasRun job most starts start flows collector plugins log audit) (sym (within_limits_no_more job most handed d fits on.within)) on.run;
    }

-- the whole audit
pub audit_is : (job : Job) (most : Most) (flows : List Datagram) (totals : Totals) (text : List ℕ) → text ≡ event_line (End totals) → totals ≡ totals_of job most unrouted flows
    → events_text (over_all (told_in job) flows) ++ text ≡ audit_text job most unrouted flows
audit_is job most flows totals text is same =
    ap (λ (t : List ℕ). events_text (over_all (told_in job) flows) ++ t) (is ∙ ap (λ (t : Totals). event_line (End t)) same ∙ sym (append-nil (event_line (End (totals_of job most unrouted flows)))))
    ∙ sym (flat_map-append event_line (over_all (told_in job) flows) (End (totals_of job most unrouted flows) ∷ []))
    ∙ ap (λ (say : List Datagram → Datagram → List Event). events_text (over_all say flows ++ End (totals_of job most unrouted flows) ∷ [])) (sym (events_alone job most))
