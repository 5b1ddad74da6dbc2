-- The datagrams of a run, with one handed out more.
use Rattle.std.proofs.Common.{◌≡◌, ◌∙◌, ◌+◌, ◌-◌, ◌≤◌, ◌<◌, ◌∷◌, ◌++◌, [], ℕ, List, Bool, true, false, refl, sym, ap, length, arith, length-append}
use Rattle.std.specs.Prelude.{if◌then◌else◌, nat_le, nat_lt, sum_by}
use Rattle.std.proofs.lemmas.Bool.{le-leb, le-ltb, lt-leb}
use Rattle.std.proofs.lemmas.List.{append-nil}
use Rattle.std.proofs.lemmas.List.Sums.{sum_by-cons, sum_by_push}
use Rattle.acct_types.specs.declared.addr.Addr.{Addr}
use Rattle.acct_types.specs.declared.addr.Addr.TheVariants.{V4, V6}
use Rattle.acct_types.specs.declared.datagram.Datagram.{Datagram}
use Rattle.capture_file.specs.Event.{event_spelling}
use Rattle.collect_core.specs.declared.job.Job.{Job}
use Rattle.collect_core.specs.Due.{all_behind, records_in, records_of}
use Rattle.collect_core.specs.Flows.{AreWithin, event_octets, fitting, flows_in, up_to_limit}
use Rattle.collect_core.specs.Most.{Most}

-- ---- octets

-- the octets of an event before those of its datagram
abbrev pub header : Addr → ℕ
header (V4 number) = 19
header (V6 number) = 31

spelling_length : (stamp : ℕ) (address : Addr) (port : ℕ) (own : List ℕ) → length (event_spelling 0 stamp address port own) ≡ header address + length own
spelling_length stamp (V4 number) port own = omega arith
spelling_length stamp (V6 number) port own = omega arith

pub event_length : (d : Datagram) → event_octets d ≡ header d.exporter + length d.octets
event_length d = spelling_length d.moment d.exporter d.port d.octets

header_least : (address : Addr) → 19 ≤ header address
header_least (V4 number) = omega arith
header_least (V6 number) = omega arith

pub event_least : (d : Datagram) → 19 ≤ event_octets d
event_least d = omega (arith, event_length d, header_least d.exporter)

-- each datagram takes octets
pub count_least : (flows : List Datagram) → length flows ≤ sum_by event_octets flows
count_least [] = omega arith
count_least (d ∷ flows) = omega (arith, sum_by-cons event_octets d flows, event_least d, count_least flows)

pub octets_more : (flows : List Datagram) (d : Datagram) → sum_by event_octets (flows ++ d ∷ []) ≡ sum_by event_octets flows + event_octets d
octets_more flows d = sum_by_push event_octets flows d

-- ---- those that fit

-- where all of these fit, the others fit in what is left
fitting_over : (most : ℕ) (handed rest : List Datagram) → fitting most handed ≡ handed → fitting most (handed ++ rest) ≡ handed ++ fitting (most - sum_by event_octets handed) rest
fitting_over most [] rest is = ap (λ (n : ℕ). fitting n rest) same
  where
    same : most ≡ most - sum_by event_octets []
    same = omega arith
fitting_over most (h ∷ handed) rest is = by (nat_le (event_octets h) most) is
    (λ inner. ap (λ (ds : List Datagram). h ∷ ds) (fitting_over (most - event_octets h) handed rest inner ∙ ap (λ (n : ℕ). handed ++ fitting n rest) same))
  where
    same : (most - event_octets h) - sum_by event_octets handed ≡ most - sum_by event_octets (h ∷ handed)
    same = omega (arith, sum_by-cons event_octets h handed)

    by : (b : Bool) → (if b then h ∷ fitting (most - event_octets h) handed else []) ≡ h ∷ handed
        → (fitting (most - event_octets h) handed ≡ handed → h ∷ fitting (most - event_octets h) (handed ++ rest) ≡ h ∷ (handed ++ fitting (most - sum_by event_octets (h ∷ handed)) rest))
        → (if b then h ∷ fitting (most - event_octets h) (handed ++ rest) else []) ≡ h ∷ (handed ++ fitting (most - sum_by event_octets (h ∷ handed)) rest)
    by true e more =
        let inner : fitting (most - event_octets h) handed ≡ handed = cc in
        more inner
    by false e more = cc

-- one more that fits
pub fits_more : (most left : ℕ) (handed : List Datagram) (d : Datagram) → fitting most handed ≡ handed → sum_by event_octets handed + left ≡ most → event_octets d ≤ left
    → fitting most (handed ++ d ∷ []) ≡ handed ++ d ∷ []
fits_more most left handed d is sum here =
    fitting_over most handed (d ∷ []) is
    ∙ ap (λ (b : Bool). handed ++ (if b then d ∷ [] else [])) (le-leb (event_octets d) (most - sum_by event_octets handed) (omega arith))

-- one more that doesn't fit
pub fits_no_more : (most left : ℕ) (handed : List Datagram) (d : Datagram) → fitting most handed ≡ handed → sum_by event_octets handed + left ≡ most → left < event_octets d
    → fitting most (handed ++ d ∷ []) ≡ handed
fits_no_more most left handed d is sum beyond =
    fitting_over most handed (d ∷ []) is
    ∙ ap (λ (b : Bool). handed ++ (if b then d ∷ [] else [])) (lt-leb (event_octets d) (most - sum_by event_octets handed) (omega arith))
    ∙ append-nil handed

-- ---- those up to the limit of records

-- where the records of these are within the limit, those behind them are judged alone
up_to_over : (job : Job) (most : ℕ) (earlier flows rest : List Datagram) → length (all_behind (records_in job) earlier flows) ≤ most
    → ((m : ℕ) (before : List Datagram) → up_to_limit job m before rest ≡ rest) → up_to_limit job most earlier (flows ++ rest) ≡ flows ++ rest
up_to_over job most earlier [] rest within alone = alone most earlier
up_to_over job most earlier (x ∷ flows) rest within alone =
    ap (λ (b : Bool). x ∷ (if b then [] else up_to_limit job (most - length (records_in job earlier x)) (x ∷ earlier) (flows ++ rest))) (le-ltb most (length (records_in job earlier x)) few)
    ∙ ap (λ (ds : List Datagram). x ∷ ds) (up_to_over job (most - length (records_in job earlier x)) (x ∷ earlier) flows rest fewer alone)
  where
    all : length (all_behind (records_in job) earlier (x ∷ flows)) ≡ length (records_in job earlier x) + length (all_behind (records_in job) (x ∷ earlier) flows)
    all = length-append (records_in job earlier x) (all_behind (records_in job) (x ∷ earlier) flows)

    few : length (records_in job earlier x) ≤ most
    few = omega (arith, all, within)

    fewer : length (all_behind (records_in job) (x ∷ earlier) flows) ≤ most - length (records_in job earlier x)
    fewer = omega (arith, all, within)

one_up_to : (job : Job) (m : ℕ) (before : List Datagram) (d : Datagram) → up_to_limit job m before (d ∷ []) ≡ d ∷ []
one_up_to job m before d = by (nat_lt m (length (records_in job before d)))
  where
    by : (b : Bool) → d ∷ (if b then [] else []) ≡ d ∷ []
    by true = refl
    by false = refl

-- those within the limits are of the run
pub within_limits : (job : Job) (most : Most) (handed : List Datagram) → AreWithin job most handed → flows_in job most handed ≡ handed
within_limits job most handed within =
    ap (up_to_limit job most.records []) (within.octets ∙ sym (append-nil handed))
    ∙ up_to_over job most.records [] handed [] within.records (λ m before. refl)
    ∙ append-nil handed

-- one more that fits is of the run
pub within_limits_more : (job : Job) (most : Most) (handed : List Datagram) (d : Datagram) → fitting most.octets (handed ++ d ∷ []) ≡ handed ++ d ∷ []
    → length (records_of job handed) ≤ most.records → flows_in job most (handed ++ d ∷ []) ≡ handed ++ d ∷ []
within_limits_more job most handed d fits few =
    ap (up_to_limit job most.records []) fits ∙ up_to_over job most.records [] handed (d ∷ []) few (λ m before. one_up_to job m before d)

-- one more that doesn't fit isn't
pub within_limits_no_more : (job : Job) (most : Most) (handed : List Datagram) (d : Datagram) → fitting most.octets (handed ++ d ∷ []) ≡ handed → AreWithin job most handed
    → flows_in job most (handed ++ d ∷ []) ≡ handed
within_limits_no_more job most handed d fits within =
    ap (up_to_limit job most.records []) (fits ∙ sym within.octets) ∙ within_limits job most handed within
