-- One more notice, one more datagram.
use Rattle.std.proofs.Common.{◌≡◌, ◌∙◌, ◌+◌, ◌<◌, ◌∷◌, ◌++◌, [], ℕ, List, Bool, sym, ap, ap₂, length, take, get_or, map, reverse, arith, append_assoc, length-append, subst}
use Rattle.std.specs.Prelude.{All, IsTrue, Result, Ok, Err, ◌↔◌, min}
use Rattle.std.proofs.lemmas.Grind.{flat_map-append}
use Rattle.std.proofs.lemmas.List.{append-nil, length-reverse, map-append, reverse-append, take_more}
use Rattle.std.proofs.lemmas.List.Elements.{All-cons, All-nil}
use Rattle.acct_types.specs.declared.datagram.Datagram.{Datagram}
use Rattle.acct_types.specs.declared.flow.FlowRecord.{FlowRecord}
use Rattle.config_keys.specs.declared.tool.Tool.{Tool}
use Rattle.flow_decode.specs.Counting.{answer_of}
use Rattle.flow_decode.specs.History.{DecoderState, Knows, decoded_behind}
use Rattle.flow_decode.specs.declared.decoder.Decoded.{Decoded}
use Rattle.flow_templates.specs.declared.decoded.Notice.{Notice}
use Rattle.flow_templates.specs.declared.refusal.Cause.{Cause}
use Rattle.out_text.specs.declared.event.Event.TheVariants.{Refused}
use Rattle.out_text.specs.declared.event.Event.TheVariants as event
use Rattle.out_text.specs.declared.event.Event.{Event}
use Rattle.out_text.specs.declared.event.Totals.{Totals}
use Rattle.out_text.specs.Events.{IsNamed, event_line, events_text}
use Rattle.collect_core.specs.declared.collector.Core.{Core}
use Rattle.collect_core.specs.declared.collector.CoreStep.{CoreStep}
use Rattle.collect_core.specs.declared.job.Job.{Job}
use Rattle.collect_core.specs.Audit.{causes_in, refusals_in, told}
use Rattle.collect_core.specs.Due.{decoded_in, over_all, records_in, rows_in}
use Rattle.collect_core.specs.Course.{unrouted}
use Rattle.collect_core.specs.Loads.{load_entry, loads_from}
use Rattle.collect_core.specs.Job.{renormalises}
use Rattle.collect_core.specs.Seen.{HasSeen, IsFed, IsStep}
use Rattle.collect_core.proofs.BehindLemmas.{over_all_more, take_min}

-- one more notice
pub notice_added : (number : ℕ) (now next : List Event) (notices : List Notice) (i : ℕ) (d : Notice) → i < length notices → now ≡ map (event.Notice number) (take i notices)
    → next ≡ now ++ event.Notice number (get_or notices i d) ∷ [] → next ≡ map (event.Notice number) (take (i + 1) notices)
notice_added number now next notices i d lt so_far pushed =
    pushed ∙ ap (λ (events : List Event). events ++ event.Notice number (get_or notices i d) ∷ []) so_far
    ∙ sym (ap (map (event.Notice number)) (take_more notices i d lt) ∙ map-append (event.Notice number) (take i notices) (get_or notices i d ∷ []))

-- notices have lines
pub notices_named : (number : ℕ) (notices : List Notice) → All IsNamed (map (event.Notice number) notices)
notices_named number [] = All-nil IsNamed
notices_named number (notice ∷ notices) = All-cons IsNamed (event.Notice number notice) (map (event.Notice number) notices) tt (notices_named number notices)

-- a refusal has a line
pub refusal_named : (number : ℕ) (cause : Cause) → All IsNamed (Refused number cause ∷ [])
refusal_named number cause = All-cons IsNamed (Refused number cause) [] tt (All-nil IsNamed)

-- one event more
pub line_added : (first now next : List ℕ) (events : List Event) (i : ℕ) (event : Event) → i < length events → event ≡ get_or events i event → now ≡ first ++ events_text (take i events)
    → next ≡ now ++ event_line event → next ≡ first ++ events_text (take (i + 1) events)
line_added first now next events i event lt there so_far line =
    line
    ∙ ap (λ (t : List ℕ). t ++ event_line event) so_far
    ∙ append_assoc first (events_text (take i events)) (event_line event)
    ∙ ap (λ (t : List ℕ). first ++ t)
    (ap (λ (t : List ℕ). events_text (take i events) ++ t) (sym (append-nil (event_line event)))
    ∙ sym (flat_map-append event_line (take i events) (event ∷ []))
    ∙ ap events_text (ap (λ (e : Event). take i events ++ e ∷ []) there ∙ sym (take_more events i event lt)))

-- what a datagram is decoded to, as the core's decoder has it
pub decoded_so : (job : Job) (flows : List Datagram) (collector : Core) (d : Datagram) (answer : Result Decoded Cause) → HasSeen job flows collector
    → answer_of collector.decoder.renormalise job.samplings (decoded_behind collector.decoder.tool (reverse flows) d) ≡ answer → decoded_in job (reverse flows) d ≡ answer
decoded_so job flows collector d answer seen is =
    ap₂ (λ (t : Tool) (r : Bool). answer_of r job.samplings (decoded_behind t (reverse flows) d)) (sym seen.tool) (sym seen.renormalises) ∙ is

-- What a core is after one datagram more, whatever it is decoded to.
fed : (job : Job) (flows : List Datagram) (d : Datagram) (old new : Core) (answer : Result Decoded Cause) (rows : List FlowRecord) (events : List Event) → HasSeen job flows old
    → decoded_in job (reverse flows) d ≡ answer → new.decoder.tool ≡ old.decoder.tool → new.decoder.renormalise ≡ old.decoder.renormalise → Knows new.decoder (d ∷ reverse flows)
    → new.totals.datagrams ≡ old.totals.datagrams + 1 → new.totals.refused ≡ old.totals.refused + length (causes_in answer) → rows ≡ rows_in answer
    → events ≡ told (old.totals.datagrams + 1) answer → IsFed job flows d new rows events
fed job flows d old new answer rows events seen is tool renormalises knows datagrams refused rows_are told_so = record {
  seen = record {
    tool = tool ∙ seen.tool;
    renormalises = renormalises ∙ seen.renormalises;
    knows = subst (λ (earlier : List Datagram). Knows new.decoder earlier) (sym (reverse-append flows (d ∷ []))) knows;
    datagrams = omega (arith, datagrams, seen.datagrams, length-append flows (d ∷ []));
    refused = refused
        ∙ ap₂ (λ (m n : ℕ). m + n) seen.refused (sym (ap (λ (a : Result Decoded Cause). length (causes_in a)) is))
        ∙ sym (length-append (over_all (refusals_in job) flows) (refusals_in job (reverse flows) d))
        ∙ ap (λ (causes : List Cause). length causes) (sym (over_all_more (refusals_in job) flows d));
  };
  rows_are = rows_are ∙ sym (ap rows_in is);
  events_are = told_so
      ∙ ap (λ (n : ℕ). told n answer) number
      ∙ ap (λ (a : Result Decoded Cause). told (length (reverse flows) + 1) a) (sym is);
}
  where
    number : old.totals.datagrams + 1 ≡ length (reverse flows) + 1
    number = omega (arith, seen.datagrams, length-reverse flows)

-- one more datagram that is decoded
pub fed_decoded : (job : Job) (flows : List Datagram) (d : Datagram) (old new : Core) (decoded : Decoded) (rows : List FlowRecord) (events : List Event) → HasSeen job flows old
    → decoded_in job (reverse flows) d ≡ Ok decoded → new.decoder.tool ≡ old.decoder.tool → new.decoder.renormalise ≡ old.decoder.renormalise → Knows new.decoder (d ∷ reverse flows)
    → new.totals.datagrams ≡ old.totals.datagrams + 1 → new.totals.refused ≡ old.totals.refused → rows ≡ decoded.rows
    → events ≡ map (event.Notice (old.totals.datagrams + 1)) decoded.notices → IsFed job flows d new rows events
fed_decoded job flows d old new decoded rows events seen is tool renormalises knows datagrams refused rows_are told_so =
    fed job flows d old new (Ok decoded) rows events seen is tool renormalises knows datagrams (omega (arith, refused)) rows_are told_so

-- one more datagram that is refused
pub fed_refused : (job : Job) (flows : List Datagram) (d : Datagram) (old new : Core) (cause : Cause) (rows : List FlowRecord) (events : List Event) → HasSeen job flows old
    → decoded_in job (reverse flows) d ≡ Err cause → new.decoder.tool ≡ old.decoder.tool → new.decoder.renormalise ≡ old.decoder.renormalise → Knows new.decoder (d ∷ reverse flows)
    → new.totals.datagrams ≡ old.totals.datagrams + 1 → new.totals.refused ≡ old.totals.refused + 1 → rows ≡ []
    → events ≡ Refused (old.totals.datagrams + 1) cause ∷ [] → IsFed job flows d new rows events
fed_refused job flows d old new cause rows events seen is tool renormalises knows datagrams refused rows_are told_so =
    fed job flows d old new (Err cause) rows events seen is tool renormalises knows datagrams refused rows_are told_so

-- ---- a step

-- The step of a datagram whose records were fed, of which so many were asked for.
pub stepped : (job : Job) (flows : List Datagram) (d : Datagram) (most count : ℕ) (old fed new : Core) (rows : List FlowRecord) (step : CoreStep) → HasSeen job flows old
    → IsFed job flows d fed rows step.events → fed.totals.records ≡ old.totals.records → fed.totals.datagrams ≡ old.totals.datagrams + 1 → count ≡ min (length rows) most
    → new.decoder ≡ fed.decoder → new.totals ≡ record fed.totals { records = fed.totals.records + count }
    → map load_entry step.loads ≡ loads_from job unrouted fed.totals.datagrams d.moment 1 (take count rows) → (IsTrue step.full ↔ count < length rows)
    → IsStep job flows d most old new step
stepped job flows d most count old fed new rows step had is kept numbered few decoder totals made full = record {
  seen = record {
    tool = ap (λ (s : DecoderState). s.tool) decoder ∙ is.seen.tool;
    renormalises = ap (λ (s : DecoderState). s.renormalise) decoder ∙ is.seen.renormalises;
    knows = subst (λ (s : DecoderState). Knows s (reverse (flows ++ d ∷ []))) (sym decoder) is.seen.knows;
    datagrams = ap (λ (t : Totals). t.datagrams) totals ∙ is.seen.datagrams;
    refused = ap (λ (t : Totals). t.refused) totals ∙ is.seen.refused;
  };
  events = is.events_are;
  loads = made ∙ ap₂ (λ (n : ℕ) (front : List FlowRecord). loads_from job unrouted n d.moment 1 front) number front;
  full = (λ yes. omega (arith, full.0 yes, few, all), λ more. full.1 (omega (arith, more, few, all)));
  records = ap (λ (t : Totals). t.records) totals ∙ omega (arith, kept, few, all);
}
  where
    all : length rows ≡ length (records_in job (reverse flows) d)
    all = ap (λ (rs : List FlowRecord). length rs) is.rows_are

    number : fed.totals.datagrams ≡ length (reverse flows) + 1
    number = omega (arith, numbered, had.datagrams, length-reverse flows)

    front : take count rows ≡ take most (records_in job (reverse flows) d)
    front = ap (λ (n : ℕ). take n rows) few ∙ take_min most rows ∙ ap (take most) is.rows_are
