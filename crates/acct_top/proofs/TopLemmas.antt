-- From what holds of a job to what holds of the words, and the answers that are owed.
use Rattle.std.proofs.Common.{◌≡◌, ◌∙◌, ◌≢◌, ◌++◌, [], ◌∷◌, ℕ, List, Bool, Some, refl, sym, ap, subst, length, inl, inr}
use Rattle.std.specs.Prelude.{◌-◌, IsTrue, nat_lt, if◌then◌else◌, unwrap_or}
use Rattle.std.proofs.lemmas.List.{append-nil}
use Rattle.acct_types.specs.declared.datagram.Datagram.{Datagram}
use Rattle.capture_file.specs.Capture.{datagrams_of, end_of}
use Rattle.collect_core.specs.declared.job.Job.{Job}
use Rattle.collect_core.specs.Due.{decoded_in, over_all, records_in, records_of, rows_in}
use Rattle.collect_core.specs.Flows.{fitting, up_to_limit}
use Rattle.collect_core.specs.Job.{renormalises}
use Rattle.collect_core.specs.Most.{FULL}
use Rattle.config_keys.specs.Reading.{ConfigSays}
use Rattle.config_keys.specs.declared.tool.Tool.{Tool}
use Rattle.flow_decode.specs.Counting.{answer_of}
use Rattle.flow_decode.specs.History.{decoded_behind}
use Rattle.outside_io.specs.Causes.{Rose}
use Rattle.outside_io.specs.Names.{Names}
use Rattle.outside_io.specs.declared.ends.SideEnd.{SideEnd}
use Rattle.outside_io.specs.declared.ends.SideEnd.TheVariants as side
use Rattle.outside_io.specs.declared.ends.Which.TheVariants as which
use Rattle.acct_top.specs.declared.answer.AnyCause.{AnyCause}
use Rattle.acct_top.specs.declared.answer.Answer.{Answer}
use Rattle.acct_top.specs.declared.answer.Answer.TheVariants.{Done, Usage, ConfigRefused, OpenFault, FlowFault, CaptureTorn, CaptureBad, WriteFault, SayFault, TooMany, NoMemory}
use Rattle.acct_top.specs.Answers.{Accepts, Begins, HasReason, HaveOneJob, Holds, HoldsOfJob, IsConfigRefused, IsSameJob, IsStopped, JobReason, NamesFile, OfJob, OfRun, RunReason, side_answer}
use Rattle.acct_top.specs.Complete.{HasCapture, IsOwed}
use Rattle.acct_top.specs.Conservation.{IsTaken, flow_end, flows_of, side_end}
use Rattle.acct_top.specs.Job.{capture_of}
use Rattle.acct_top.specs.Reading.{GivesNoJob, IsJob}
use Rattle.acct_top.specs.Said.{IsSaidAs}
use Rattle.outside_io.specs.States.{OnlyRead, PlaceState}
use Rattle.acct_top.proofs.ReadingLemmas.{one_refusal, refused_or_not, rose_earlier, same_job, same_octets}

-- ---- from a job to the words

-- what holds of a job whose run begins so holds of the words
pub holds_of_words : (answer : Answer) (tool : Tool) (words : List (List ℕ)) (job : Job) (before begun after : PlaceState) → (accepts : Accepts tool words before.names job) → Begins accepts.file job before begun → HoldsOfJob answer job begun after
    → Holds answer tool words before after
holds_of_words Done tool words job before begun after a b h = (job, a, begun, b, h)
holds_of_words FlowFault tool words job before begun after a b h = (job, a, begun, b, h)
holds_of_words (CaptureTorn flows place) tool words job before begun after a b h = (job, a, begun, b, h)
holds_of_words (CaptureBad flows place cause) tool words job before begun after a b h = (job, a, begun, b, h)
holds_of_words (TooMany which) tool words job before begun after a b h = (job, a, begun, b, h)
holds_of_words (WriteFault name) tool words job before begun after a b h = (job, a, begun, b, h)
holds_of_words (OpenFault name) tool words job before begun after a b h = inr (job, a, begun, b, h)
holds_of_words NoMemory tool words job before begun after a b h = tt
holds_of_words Usage tool words job before begun after a b h = absurd h
holds_of_words (ConfigRefused file line cause) tool words job before begun after a b h = absurd h
holds_of_words SayFault tool words job before begun after a b h = absurd h

-- a reason of a job is one of the words
pub reason_of_words : (answer : Answer) (tells : Bool) (tool : Tool) (words : List (List ℕ)) (job : Job) (before middle after : PlaceState) → OnlyRead before middle → (IsTrue tells → Accepts tool words before.names job) → JobReason answer job middle after
    → RunReason answer tells tool words before after
reason_of_words Done tells tool words job before middle after b a h = tt
reason_of_words FlowFault tells tool words job before middle after b a h = (capture_of job, λ told. (job, a told, refl), rose_earlier _ _ _ (b.reads (capture_of job)) h)
reason_of_words (CaptureTorn flows place) tells tool words job before middle after b a h = tt
reason_of_words (CaptureBad flows place cause) tells tool words job before middle after b a h = tt
reason_of_words (TooMany which) tells tool words job before middle after b a h = tt
reason_of_words (WriteFault name) tells tool words job before middle after b a h = subst (λ (f : List ℕ → ℕ). Rose (f name) (after.writes name)) b.writes h
reason_of_words (OpenFault name) tells tool words job before middle after b a h = inl (rose_earlier _ _ _ (b.opens name) h)
reason_of_words NoMemory tells tool words job before middle after b a h = tt
reason_of_words Usage tells tool words job before middle after b a h = absurd h
reason_of_words (ConfigRefused file line cause) tells tool words job before middle after b a h = absurd h
reason_of_words SayFault tells tool words job before middle after b a h = absurd h

-- ---- jobs that ask for the same

same_file : (tool : Tool) (words : List (List ℕ)) (a b : List ℕ) → NamesFile tool words a → NamesFile tool words b → a ≡ b
same_file tool words a b h k = let found : Some a ≡ Some b = sym h.1 ∙ k.1 in cc found

pub one_job : HaveOneJob
one_job tool words names some other a b =
    same_job some other tool a.file names a.is_job (subst (λ (f : List ℕ). IsJob other tool f names) (sym (same_file tool words a.file b.file a.named b.named)) b.is_job)

module _ (some other : Job) (same : IsSameJob some other) where
  pub same_capture : capture_of some ≡ capture_of other
  same_capture = ap (λ (c : ConfigSays). unwrap_or c.acct_flow_capture []) same.config

  pub same_decoded : (earlier : List Datagram) (d : Datagram) → decoded_in some earlier d ≡ decoded_in other earlier d
  same_decoded earlier d = λ i. answer_of (renormalises (same.config i)) (same.samplings i) (decoded_behind (same.config i).tool earlier d)

  pub same_records_in : (earlier : List Datagram) (d : Datagram) → records_in some earlier d ≡ records_in other earlier d
  same_records_in earlier d = ap rows_in (same_decoded earlier d)

  pub same_records_of : (flows : List Datagram) → records_of some flows ≡ records_of other flows
  same_records_of flows = λ i. over_all (λ earlier d. same_records_in earlier d i) flows

  same_limit : (most : ℕ) (earlier flows : List Datagram) → up_to_limit some most earlier flows ≡ up_to_limit other most earlier flows
  same_limit most earlier [] = refl
  same_limit most earlier (d ∷ later) =
      ap (λ (ds : List Datagram). d ∷ (if nat_lt most (length (records_in some earlier d)) then [] else ds)) (same_limit (most - length (records_in some earlier d)) (d ∷ earlier) later)
      ∙ ap (λ (count : ℕ). d ∷ (if nat_lt most count then [] else up_to_limit other (most - count) (d ∷ earlier) later)) (ap length (same_records_in earlier d))

  pub same_flows : (octets : List ℕ) → flows_of some octets ≡ flows_of other octets
  same_flows octets = same_limit FULL.records [] (fitting FULL.octets (datagrams_of FULL.octets octets))

  same_end : (octets : List ℕ) → flow_end some octets ≡ flow_end other octets
  same_end octets =
      ap (λ (count : ℕ). if nat_lt FULL.records count then side.TooMany which.Records else side_end (end_of FULL.octets octets))
      (ap (λ (ds : List Datagram). length (records_of some ds)) (same_flows octets) ∙ ap length (same_records_of (flows_of other octets)))

-- ---- the answers that are owed

not_both : (tool : Tool) (words : List (List ℕ)) (names : Names) (name : List ℕ) (line : ℕ) (cause : AnyCause) (job : Job) → IsConfigRefused tool words name line cause names → Accepts tool words names job → ⊥
not_both tool words names name line cause job r a =
    refused_or_not job tool r.file names name line cause r.refused (subst (λ (f : List ℕ). IsJob job tool f names) (sym (same_file tool words r.file a.file r.named a.named)) a.is_job)

-- the capture of the words ends so
abbrev Ends : Tool → List (List ℕ) → Names → SideEnd → Type 0
Ends tool words names end = OfJob tool words names (λ job. HasCapture names job (λ octets. flow_end job octets ≡ end))

-- the octets of a job's capture end as those of the words' capture do
one_end : (tool : Tool) (words : List (List ℕ)) (names : Names) (job : Job) (octets : List ℕ) (end : SideEnd) → Accepts tool words names job → names (capture_of job) ≡ Some octets → Ends tool words names end → flow_end job octets ≡ end
one_end tool words names job octets end a there e =
    let same = one_job tool words names job e.0 a e.1 in
    let one : octets ≡ e.2.0 = same_octets (names (capture_of job)) octets e.2.0 there (ap names (same_capture job e.0 same) ∙ e.2.1) in
    same_end job e.0 same octets ∙ ap (flow_end e.0) one ∙ e.2.2

-- what the capture had before the words were read
pub capture_was : (job : Job) (before begun after : PlaceState) (octets rest : List ℕ) → begun.names ≡ before.names → IsTaken job begun after octets rest → before.names (capture_of job) ≡ Some (octets ++ rest)
capture_was job before begun after octets rest same taken = sym (ap (λ (n : Names). n (capture_of job)) same) ∙ taken.capture

-- a run that took a whole capture, which ended
ended_or_not : (tool : Tool) (words : List (List ℕ)) (before begun after : PlaceState) (job : Job) (octets : List ℕ) (end : SideEnd) → (a : Accepts tool words before.names job) → Begins a.file job before begun → IsTaken job begun after octets []
    → flow_end job octets ≡ side.Ended → end ≢ side.Ended → Ends tool words before.names end → ⊥
ended_or_not tool words before begun after job octets end a b taken ended not e =
    not (sym (one_end tool words before.names job (octets ++ []) end a (capture_was job before begun after octets [] b.names taken) e) ∙ ap (flow_end job) (append-nil octets) ∙ ended)

-- one that stopped answers as the whole capture says
stopped_so : (tool : Tool) (words : List (List ℕ)) (before begun after : PlaceState) (job : Job) (answer : Answer) (end : SideEnd) → (a : Accepts tool words before.names job) → Begins a.file job before begun → IsStopped job answer begun after
    → Ends tool words before.names end → answer ≡ side_answer end
stopped_so tool words before begun after job answer end a b h e =
    sym h.whole_says ∙ ap side_answer (one_end tool words before.names job (h.octets ++ h.rest) end a (capture_was job before begun after h.octets h.rest b.names h.taken) e)

refused_once : (tool : Tool) (words : List (List ℕ)) (names : Names) (name other : List ℕ) (line number : ℕ) (cause reason : AnyCause) → IsConfigRefused tool words name line cause names → IsConfigRefused tool words other number reason names
    → ConfigRefused name line cause ≡ ConfigRefused other number reason
refused_once tool words names name other line number cause reason a b =
    one_refusal tool a.file names name other line number cause reason a.refused
    (subst (λ (f : List ℕ). GivesNoJob tool f names other number reason) (sym (same_file tool words a.file b.file a.named b.named)) b.refused)

-- a run that stopped at what the capture says
owed_stopped : (answer : Answer) (tool : Tool) (words : List (List ℕ)) (before after : PlaceState) (s t : ℕ) → answer ≢ Done → OfRun tool words before (λ job begun. IsStopped job answer begun after) → IsOwed answer tool words before after s t
owed_stopped answer tool words before after s t not h = record {
  complete = λ none whole. absurd (not (stopped_so tool words before h.2 after h.0 answer side.Ended h.1 h.3 h.4 whole));
  usage = λ none. absurd (none h.1.file h.1.named);
  refused = λ file line cause k. absurd (not_both tool words before.names file line cause h.0 k h.1);
  stopped = λ end open_end e. inl (stopped_so tool words before h.2 after h.0 answer end h.1 h.3 h.4 e);
}

pub owed : (answer : Answer) (tells : Bool) (tool : Tool) (words : List (List ℕ)) (before after : PlaceState) (says_before says_after : ℕ) → Holds answer tool words before after → HasReason answer tells tool words before after says_before says_after
    → IsOwed answer tool words before after says_before says_after
owed Done tells tool words before after s t h r = record {
  complete = λ none whole. inl refl;
  usage = λ none. absurd (none h.1.file h.1.named);
  refused = λ file line cause k. absurd (not_both tool words before.names file line cause h.0 k h.1);
  stopped = λ end not e. absurd (ended_or_not tool words before h.2 after h.0 h.4.octets end h.1 h.3 h.4.taken h.4.ended not e);
}
owed SayFault tells tool words before after s t h r = record {
  complete = λ none whole. absurd (none.says r);
  usage = λ none. absurd (none h.1.file h.1.named);
  refused = λ file line cause k. absurd (not_both tool words before.names file line cause h.0 k h.1);
  stopped = λ end not e. absurd (ended_or_not tool words before h.2 after h.0 h.4.octets end h.1 h.3 h.4.taken h.4.ended not e);
}
owed FlowFault tells tool words before after s t h r = record {
  complete = λ none whole. absurd (none.reads r.0 r.2);
  usage = λ none. absurd (none h.1.file h.1.named);
  refused = λ file line cause k. absurd (not_both tool words before.names file line cause h.0 k h.1);
  stopped = λ end not e. inr (inl refl);
}
owed (CaptureTorn flows place) tells tool words before after s t h r = owed_stopped (CaptureTorn flows place) tool words before after s t (λ e. cc e) h
owed (CaptureBad flows place cause) tells tool words before after s t h r = owed_stopped (CaptureBad flows place cause) tool words before after s t (λ e. cc e) h
owed (TooMany which) tells tool words before after s t h r = owed_stopped (TooMany which) tool words before after s t (λ e. cc e) h
owed (WriteFault name) tells tool words before after s t h r = record {
  complete = λ none whole. absurd (none.writes name r);
  usage = λ none. absurd (none h.1.file h.1.named);
  refused = λ file line cause k. absurd (not_both tool words before.names file line cause h.0 k h.1);
  stopped = λ end not e. absurd (ended_or_not tool words before h.2 after h.0 h.4.octets end h.1 h.3 h.4.taken h.4.ended not e);
}
owed (OpenFault name) tells tool words before after s t h r = record {
  complete = λ none whole. absurd (elim r [ inl o ↦ none.opens name o | inr n ↦ none.reads name n.1 ]);
  usage = λ none. absurd (elim h [ inl n ↦ none n.0.file n.0.named | inr j ↦ none j.1.file j.1.named ]);
  refused = λ file line cause k. elim h [
    | inl n ↦ inr (inl (name, n.0, refl))
    | inr j ↦ absurd (not_both tool words before.names file line cause j.0 k j.1)
  ];
  stopped = λ end not e. inr (inr (inl (name, refl)));
}
owed (ConfigRefused file line cause) tells tool words before after s t h r = record {
  complete = λ none whole. absurd (not_both tool words before.names file line cause whole.0 h.0 whole.1);
  usage = λ none. absurd (none h.0.file h.0.named);
  refused = λ f l c k. inl (refused_once tool words before.names file f line l cause c h.0 k);
  stopped = λ end not e. absurd (not_both tool words before.names file line cause e.0 h.0 e.1);
}
owed Usage tells tool words before after s t h r = record {
  complete = λ none whole. absurd (h.0 whole.1.file whole.1.named);
  usage = λ none. inl refl;
  refused = λ file line cause k. absurd (h.0 k.file k.named);
  stopped = λ end not e. absurd (h.0 e.1.file e.1.named);
}
owed NoMemory tells tool words before after s t h r = record {
  complete = λ none whole. inr refl;
  usage = λ none. inr refl;
  refused = λ file line cause k. inr (inr refl);
  stopped = λ end not e. inr (inr (inr refl));
}

-- ---- what holds of an answer holds after its line was said

pub said_holds : (answer said : Answer) (tool : Tool) (words : List (List ℕ)) (before after : PlaceState) (s t : ℕ) → IsSaidAs answer said s t → Holds answer tool words before after → Holds said tool words before after
said_holds answer said tool words before after s t is h =
    elim is [
      | inl same ↦ subst (λ (a : Answer). Holds a tool words before after) (sym same) h
      | inr (inl none) ↦ subst (λ (a : Answer). Holds a tool words before after) (sym none) tt
      | inr (inr unsaid) ↦ subst (λ (a : Answer). Holds a tool words before after) (sym unsaid.1) (subst (λ (a : Answer). Holds a tool words before after) unsaid.0 h)
    ]

run_reason : (answer : Answer) (tells : Bool) (tool : Tool) (words : List (List ℕ)) (before after : PlaceState) (s t : ℕ) → RunReason answer tells tool words before after → HasReason answer tells tool words before after s t
run_reason Done tells tool words before after s t h = h
run_reason Usage tells tool words before after s t h = h
run_reason (ConfigRefused file line cause) tells tool words before after s t h = h
run_reason (OpenFault name) tells tool words before after s t h = h
run_reason FlowFault tells tool words before after s t h = h
run_reason (CaptureTorn flows place) tells tool words before after s t h = h
run_reason (CaptureBad flows place cause) tells tool words before after s t h = h
run_reason (TooMany which) tells tool words before after s t h = h
run_reason (WriteFault name) tells tool words before after s t h = h
run_reason SayFault tells tool words before after s t h = absurd h
run_reason NoMemory tells tool words before after s t h = h

pub said_reason : (answer said : Answer) (tells : Bool) (tool : Tool) (words : List (List ℕ)) (before after : PlaceState) (s t : ℕ) → IsSaidAs answer said s t → RunReason answer tells tool words before after → HasReason said tells tool words before after s t
said_reason answer said tells tool words before after s t is h =
    elim is [
      | inl same ↦ subst (λ (a : Answer). HasReason a tells tool words before after s t) (sym same) (run_reason answer tells tool words before after s t h)
      | inr (inl none) ↦ subst (λ (a : Answer). HasReason a tells tool words before after s t) (sym none) tt
      | inr (inr unsaid) ↦ subst (λ (a : Answer). HasReason a tells tool words before after s t) (sym unsaid.1) unsaid.2
    ]
