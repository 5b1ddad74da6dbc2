-- What the samples so far say, and those that are left.
use Rattle.std.proofs.Common.{◌≡◌, ◌+◌, ◌-◌, ◌<◌, ◌≤◌, ◌++◌, ◌^◌, ◌∙◌, ℕ, List, All, length, refl, sym, ap, arith, append_assoc, append-nil}
use Rattle.std.proofs.lemmas.List.Elements.{All-push}
use Rattle.std.specs.Prelude.{[], IsOk, Result, Ok, Err, false}
use Rattle.acct_types.specs.Counts.{IsBelow}
use Rattle.acct_types.specs.declared.addr.Addr.{Addr}
use Rattle.flow_templates.specs.Changes.{nothing_staged}
use Rattle.flow_templates.specs.Decoding.{Said}
use Rattle.flow_templates.specs.declared.decoded.Notice.{Notice}
use Rattle.flow_templates.specs.declared.decoded.RawRecord.{RawRecord}
use Rattle.flow_templates.specs.declared.refusal.Cause.{Cause}
use Rattle.flow_templates.specs.declared.refusal.Cause.TheVariants.{SampleCut}
use Rattle.sflow_in.specs.declared.sample.Sample.{Sample}
use Rattle.sflow_in.specs.declared.sample.Sample.TheVariants.{Row, Note, Nothing}
use Rattle.sflow_in.specs.Samples.{GivesSmall, notices_in, notices_of, rows_in, rows_of, said_in, sample_of, samples_of}
use Rattle.sflow_in.specs.Xdr.{before, body_of, format_of, is_cut, rest_of}
use Rattle.sflow_in.proofs.PieceLemmas.{pieces_next}

-- what is said so far, and by samples after that
abbrev pub with_said : List RawRecord → List Notice → ℕ → Result (List Sample) Cause → Result Said Cause
with_said rows notices passed (Err cause) = Err cause
with_said rows notices passed (Ok samples) = Ok (record {
  rows = rows ++ rows_of samples;
  notices = notices ++ notices_of passed samples;
  changes = nothing_staged;
})

said_next : (rows : List RawRecord) (notices : List Notice) (passed : ℕ) (sample : Sample) (others : Result (List Sample) Cause)
    → with_said rows notices passed (before (Ok sample) others) ≡ with_said (rows ++ rows_in sample) (notices ++ notices_in (passed + 1) sample) (passed + 1) others
said_next rows notices passed sample (Ok others) =
    rw (append_assoc rows (rows_in sample) (rows_of others), append_assoc notices (notices_in (passed + 1) sample) (notices_of (passed + 1) others)) refl
said_next rows notices passed sample (Err cause) = refl

-- one sample more is said
pub said_step : (exporter : Addr) (source : ℕ) (rows : List RawRecord) (notices : List Notice) (sample : Sample) (count i : ℕ) (octets : List ℕ) (all : Result Said Cause)
    → i < count → is_cut octets ≡ false → Ok sample ≡ sample_of exporter source (format_of octets) (body_of octets)
    → with_said rows notices i (samples_of exporter source (count - i) octets) ≡ all
    → with_said (rows ++ rows_in sample) (notices ++ notices_in (i + 1) sample) (i + 1) (samples_of exporter source (count - (i + 1)) (rest_of octets)) ≡ all
said_step exporter source rows notices sample count i octets all h whole is kept =
    let next = pieces_next SampleCut (sample_of exporter source) count i octets h whole in
    let left = samples_of exporter source (count - (i + 1)) (rest_of octets) in
    sym (said_next rows notices i sample left)
    ∙ ap (λ (first : Result Sample Cause). with_said rows notices i (before first left)) is ∙ sym (ap (with_said rows notices i) next) ∙ kept

-- a sample that is refused refuses all
pub said_refused : (exporter : Addr) (source : ℕ) (rows : List RawRecord) (notices : List Notice) (cause : Cause) (count i : ℕ) (octets : List ℕ) (all : Result Said Cause)
    → i < count → is_cut octets ≡ false → Err cause ≡ sample_of exporter source (format_of octets) (body_of octets)
    → with_said rows notices i (samples_of exporter source (count - i) octets) ≡ all → all ≡ Err cause
said_refused exporter source rows notices cause count i octets all h whole is kept =
    let next = pieces_next SampleCut (sample_of exporter source) count i octets h whole in
    let left = samples_of exporter source (count - (i + 1)) (rest_of octets) in
    sym kept ∙ ap (with_said rows notices i) next ∙ sym (ap (λ (first : Result Sample Cause). with_said rows notices i (before first left)) is)

before_all : (samples : Result (List Sample) Cause) → with_said [] [] 0 samples ≡ said_in samples
before_all (Ok samples) = refl
before_all (Err cause) = refl

pub nothing_before : (exporter : Addr) (source left count : ℕ) (octets : List ℕ) → left ≡ count
    → with_said [] [] 0 (samples_of exporter source left octets) ≡ said_in (samples_of exporter source count octets)
nothing_before exporter source left count octets same =
    before_all (samples_of exporter source left octets) ∙ ap (λ (n : ℕ). said_in (samples_of exporter source n octets)) same

-- no sample is left, and none was refused
pub none_left : (rows : List RawRecord) (notices : List Notice) (passed left : ℕ) (exporter : Addr) (source : ℕ) (octets : List ℕ) (all : Result Said Cause) → left ≡ 0
    → with_said rows notices passed (samples_of exporter source left octets) ≡ all → IsOk all
none_left rows notices passed left exporter source octets all none is =
    by all (sym is ∙ ap (λ (n : ℕ). with_said rows notices passed (samples_of exporter source n octets)) none)
  where
    by : (all : Result Said Cause) → all ≡ with_said rows notices passed (Ok []) → IsOk all
    by (Ok said) h = refl
    by (Err cause) h = cc h

-- a sample gives at most one row
pub few_in : (sample : Sample) → length (rows_in sample) ≤ 1
few_in (Row row) = omega arith
few_in (Note cause) = omega arith
few_in Nothing = omega arith

pub small_in : (rows : List RawRecord) (sample : Sample) → All (λ row. IsBelow (2 ^ 64) row.flow.counts) rows → GivesSmall sample
    → All (λ row. IsBelow (2 ^ 64) row.flow.counts) (rows ++ rows_in sample)
small_in rows (Row row) all small = All-push (λ row. IsBelow (2 ^ 64) row.flow.counts) _ _ all small
small_in rows (Note cause) all small = rw (append-nil rows) all
small_in rows Nothing all small = rw (append-nil rows) all
