-- What is said of an accepted datagram.
use Rattle.std.proofs.Common.{◌≡◌, ◌≤◌, ◌<◌, ◌+◌, ◌++◌, ◌∷◌, ◌∙◌, ◌%◌, ℕ, List, [], zero, suc, All, length, drop, refl, sym, ap, arith, length-append, length-drop}
use Rattle.std.proofs.lemmas.Bool.Decides.{nat_tests}
use Rattle.std.proofs.lemmas.Bool.{eq-eqb, le-ltb}
use Rattle.std.proofs.lemmas.List.Elements.{All-cons, All-nil}
use Rattle.std.proofs.lemmas.List.{drop-append-le, take-append-le}
use Rattle.std.specs.Prelude.{◌==◌, ◌||◌, Bool, Result, Ok, Err, false, true, nat_lt, if◌then◌else◌}
use Rattle.byteorder.specs.Numbers.{big_from-append}
use Rattle.acct_types.specs.Numbers.{number_at}
use Rattle.acct_types.specs.declared.addr.Addr.{Addr}
use Rattle.flow_templates.specs.Decoding.{Said}
use Rattle.flow_templates.specs.declared.decoded.Notice.{Notice}
use Rattle.flow_templates.specs.declared.decoded.RawRecord.{RawRecord}
use Rattle.flow_templates.specs.declared.refusal.Cause.{Cause}
use Rattle.flow_templates.specs.declared.refusal.Cause.TheVariants.{SampleCut}
use Rattle.sflow_in.specs.declared.sample.Sample.{Sample}
use Rattle.sflow_in.specs.declared.sample.Sample.TheVariants.{Row, Note, Nothing}
use Rattle.sflow_in.specs.Datagram.{after_agent, agent_type, decoded_sflow, has_agent, header_length, sample_count, sub_agent, version_of}
use Rattle.sflow_in.specs.Samples.{notices_of, rows_of, said_in, sample_of, samples_of}
use Rattle.sflow_in.specs.Xdr.{address_width, before, body_length, body_of, format_of, is_cut, padded, pieces, rest_of}

-- A piece that is whole stays the same, whatever follows.
number_at-append : (octets more : List ℕ) (place width : ℕ) → place + width ≤ length octets → number_at (octets ++ more) place width ≡ number_at octets place width
unfolding number_at
number_at-append octets more place width h =
    rw (drop-append-le place octets more (omega arith)) (big_from-append width (drop place octets) more (rw length-drop (omega arith)))

-- where a piece isn't cut, its octets are there
whole : (octets : List ℕ) → is_cut octets ≡ false → (8 ≤ length octets) × (8 + padded (body_length octets) ≤ length octets)
unfolding is_cut
whole octets h = (grind (arith, nat_tests, h), grind (arith, nat_tests, h))

not_cut : (octets : List ℕ) → 8 ≤ length octets → 8 + padded (body_length octets) ≤ length octets → is_cut octets ≡ false
unfolding is_cut
not_cut octets eight all = rw (le-ltb (length octets) 8 eight, le-ltb (length octets) (8 + padded (body_length octets)) all) refl

is_cut-append : (octets more : List ℕ) → is_cut octets ≡ false → is_cut (octets ++ more) ≡ false
is_cut-append octets more h =
    let there = whole octets h in
    let same : body_length (octets ++ more) ≡ body_length octets = number_at-append octets more 4 4 (omega arith) in
    not_cut (octets ++ more) (omega (arith, length-append octets more)) (rw same (omega (arith, length-append octets more)))

format_of-append : (octets more : List ℕ) → is_cut octets ≡ false → format_of (octets ++ more) ≡ format_of octets
format_of-append octets more h = let there = whole octets h in number_at-append octets more 0 4 (omega arith)

body_of-append : (octets more : List ℕ) → is_cut octets ≡ false → body_of (octets ++ more) ≡ body_of octets
unfolding body_of
body_of-append octets more h =
    let there = whole octets h in
    rw (number_at-append octets more 4 4 (omega arith), drop-append-le 8 octets more (omega arith))
    (take-append-le (body_length octets) (drop 8 octets) more (rw length-drop (omega arith)))

rest_of-append : (octets more : List ℕ) → is_cut octets ≡ false → rest_of (octets ++ more) ≡ rest_of octets ++ more
unfolding rest_of
rest_of-append octets more h =
    let there = whole octets h in
    rw (number_at-append octets more 4 4 (omega arith)) (drop-append-le (8 + padded (body_length octets)) octets more (omega arith))

if_ok : {T : Type 0} (test : Bool) (cause : Cause) (other : Result T Cause) (answer : T) → (if test then Err cause else other) ≡ Ok answer
    → (test ≡ false) × (other ≡ Ok answer)
if_ok true cause other answer is = absurd (cc)
if_ok false cause other answer is = (refl, is)

-- what stands before others where neither is refused
pub record Begins {T : Type 0} (first : Result T Cause) (others : Result (List T) Cause) (all : List T) : Type 0 where
  pub one : T
  pub rest : List T
  pub first_is : first ≡ Ok one
  pub others_are : others ≡ Ok rest
  pub all_are : one ∷ rest ≡ all

before_ok : {T : Type 0} (first : Result T Cause) (others : Result (List T) Cause) (all : List T) → before first others ≡ Ok all → Begins first others all
before_ok (Ok one) (Ok rest) all is = record { one = one; rest = rest; first_is = refl; others_are = refl; all_are = cc }
before_ok (Ok one) (Err cause) all is = absurd (cc)
before_ok (Err cause) others all is = absurd (cc)

length-pieces : {T : Type 0} (cut : Cause) (read : ℕ → List ℕ → Result T Cause) (count : ℕ) (octets : List ℕ) (all : List T)
    → pieces cut read count octets ≡ Ok all → length all ≡ count
length-pieces cut read zero octets all is = ap length (let none : all ≡ [] = cc in none)
length-pieces cut read (suc count) octets all is =
    let begins = before_ok _ _ all (if_ok (is_cut octets) cut _ all is).1 in
    let rest = length-pieces cut read count (rest_of octets) begins.rest begins.others_are in
    sym (ap length begins.all_are) ∙ ap suc rest

pieces-append : {T : Type 0} (cut : Cause) (read : ℕ → List ℕ → Result T Cause) (count : ℕ) (octets more : List ℕ) (all : List T)
    → pieces cut read count octets ≡ Ok all → pieces cut read count (octets ++ more) ≡ Ok all
pieces-append cut read zero octets more all is = is
pieces-append cut read (suc count) octets more all is =
    let there = if_ok (is_cut octets) cut _ all is in
    let begins = before_ok _ _ all there.1 in
    let rest = pieces-append cut read count (rest_of octets) more begins.rest begins.others_are in
    rw (is_cut-append octets more there.0, format_of-append octets more there.0, body_of-append octets more there.0, rest_of-append octets more there.0, begins.first_is, rest)
    (ap Ok begins.all_are)

-- no rule refuses the datagram
pub record IsSflow (exporter : Addr) (octets : List ℕ) (said : Said) : Type 0 where
  pub version : version_of octets ≡ 5
  pub agent : has_agent octets ≡ true
  pub header : header_length octets ≤ length octets
  pub samples : said_in (samples_of exporter (sub_agent octets) (sample_count octets) (drop (header_length octets) octets)) ≡ Ok said

accepted : (exporter : Addr) (octets : List ℕ) (said : Said) → decoded_sflow exporter octets ≡ Ok said → IsSflow exporter octets said
unfolding decoded_sflow
accepted exporter octets said is = record {
  version = grind (arith, nat_tests, is);
  agent = grind (arith, nat_tests, is);
  header = grind (arith, nat_tests, is);
  samples = grind (arith, nat_tests, is);
}

decoded_whole : (exporter : Addr) (octets : List ℕ) → version_of octets ≡ 5 → has_agent octets ≡ true → header_length octets ≤ length octets
    → decoded_sflow exporter octets ≡ said_in (samples_of exporter (sub_agent octets) (sample_count octets) (drop (header_length octets) octets))
unfolding decoded_sflow
decoded_whole exporter octets version agent header =
    let four : nat_lt (length octets) 4 ≡ false = le-ltb _ _ (omega arith) in
    let five : (version_of octets == 5) ≡ true = eq-eqb _ _ version in
    let eight : nat_lt (length octets) 8 ≡ false = le-ltb _ _ (omega arith) in
    let all : nat_lt (length octets) (header_length octets) ≡ false = le-ltb _ _ header in
    rw (four, five, eight, agent, all) refl

-- samples of which none is refused
pub record SaidBy (samples : Result (List Sample) Cause) (said : Said) : Type 0 where
  pub all : List Sample
  pub samples_are : samples ≡ Ok all
  pub rows_are : said.rows ≡ rows_of all
  pub notices_are : said.notices ≡ notices_of 0 all

said_ok : (samples : Result (List Sample) Cause) (said : Said) → said_in samples ≡ Ok said → SaidBy samples said
said_ok (Ok all) said is = record { all = all; samples_are = refl; rows_are = cc; notices_are = cc }
said_ok (Err cause) said is = absurd (cc)

length-rows_of-notices_of : (passed : ℕ) (samples : List Sample) → length (rows_of samples) + length (notices_of passed samples) ≤ length samples
length-rows_of-notices_of passed [] = omega arith
length-rows_of-notices_of passed (Row row ∷ others) = let rest = length-rows_of-notices_of (passed + 1) others in omega (arith, rest)
length-rows_of-notices_of passed (Note cause ∷ others) = let rest = length-rows_of-notices_of (passed + 1) others in omega (arith, rest)
length-rows_of-notices_of passed (Nothing ∷ others) = let rest = length-rows_of-notices_of (passed + 1) others in omega (arith, rest)

-- notices after so many samples number those that follow
numbered : (passed limit : ℕ) (samples : List Sample) → passed + length samples ≤ limit
    → All (λ notice. (1 ≤ notice.set) × (notice.set ≤ limit)) (notices_of passed samples)
numbered passed limit [] h = All-nil (λ notice. (1 ≤ notice.set) × (notice.set ≤ limit))
numbered passed limit (Row row ∷ others) h = numbered (passed + 1) limit others (omega arith)
numbered passed limit (Nothing ∷ others) h = numbered (passed + 1) limit others (omega arith)
numbered passed limit (Note cause ∷ others) h =
    All-cons (λ (notice : Notice). (1 ≤ notice.set) × (notice.set ≤ limit)) (record { set = passed + 1; cause = cause }) (notices_of (passed + 1) others)
    (omega arith, omega arith) (numbered (passed + 1) limit others (omega arith))

each_of : (rows : List RawRecord) (notices : List Notice) (all : List Sample) (limit : ℕ) → rows ≡ rows_of all → notices ≡ notices_of 0 all → length all ≡ limit
    → (length rows + length notices ≤ limit) × All (λ notice. (1 ≤ notice.set) × (notice.set ≤ limit)) notices
each_of rows notices all limit rows_are notices_are count =
    let few = length-rows_of-notices_of 0 all in
    let first = ap length rows_are in
    let second = ap length notices_are in
    (omega (arith, few, first, second), rw notices_are (numbered 0 limit all (omega arith)))

pub each_once : (exporter : Addr) (octets : List ℕ) (said : Said) → decoded_sflow exporter octets ≡ Ok said
    → (length said.rows + length said.notices ≤ sample_count octets) × All (λ notice. (1 ≤ notice.set) × (notice.set ≤ sample_count octets)) said.notices
each_once exporter octets said is =
    let body = drop (header_length octets) octets in
    let by = said_ok (samples_of exporter (sub_agent octets) (sample_count octets) body) said (accepted exporter octets said is).samples in
    let count : length by.all ≡ sample_count octets = length-pieces SampleCut (sample_of exporter (sub_agent octets)) (sample_count octets) body by.all by.samples_are in
    each_of said.rows said.notices by.all (sample_count octets) by.rows_are by.notices_are count

pub ignored : (exporter : Addr) (octets more : List ℕ) (said : Said) → decoded_sflow exporter octets ≡ Ok said → decoded_sflow exporter (octets ++ more) ≡ Ok said
ignored exporter octets more said is =
    let sflow = accepted exporter octets said is in
    let header = sflow.header in
    let agent : agent_type (octets ++ more) ≡ agent_type octets = number_at-append octets more 4 4 (omega arith) in
    let place : after_agent (octets ++ more) ≡ after_agent octets = ap (λ (kind : ℕ). 8 + address_width kind) agent in
    let version : version_of (octets ++ more) ≡ version_of octets = number_at-append octets more 0 4 (omega arith) in
    let source : sub_agent (octets ++ more) ≡ sub_agent octets = ap (λ (from : ℕ). number_at (octets ++ more) from 4) place ∙ number_at-append octets more (after_agent octets) 4 (omega arith) in
    let count : sample_count (octets ++ more) ≡ sample_count octets = ap (λ (from : ℕ). number_at (octets ++ more) (from + 12) 4) place ∙ number_at-append octets more (after_agent octets + 12) 4 (omega arith) in
    let samples : drop (header_length (octets ++ more)) (octets ++ more) ≡ drop (header_length octets) octets ++ more =
    ap (λ (from : ℕ). drop (from + 16) (octets ++ more)) place ∙ drop-append-le (header_length octets) octets more header in
    let body = drop (header_length octets) octets in
    let by = said_ok (samples_of exporter (sub_agent octets) (sample_count octets) body) said sflow.samples in
    let kept = pieces-append SampleCut (sample_of exporter (sub_agent octets)) (sample_count octets) body more by.all by.samples_are in
    decoded_whole exporter (octets ++ more) (version ∙ sflow.version) (ap (λ (kind : ℕ). kind == 1 || kind == 2) agent ∙ sflow.agent)
    (omega (arith, place, length-append octets more))
    ∙ ap said_in (same_samples exporter source count samples ∙ kept ∙ sym by.samples_are)
    ∙ sflow.samples
  where
    same_samples : (by : Addr) {source from : ℕ} → source ≡ from → {count number : ℕ} → count ≡ number → {body samples : List ℕ} → body ≡ samples
        → samples_of by source count body ≡ samples_of by from number samples
    same_samples by source count body = rw (source, count, body) refl

pub padding : (count : ℕ) → (padded count % 4 ≡ 0) × (count ≤ padded count) × (padded count < count + 4)
padding count = (grind arith, omega arith, omega arith)
