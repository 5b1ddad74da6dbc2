-- From the parts of a run to its answer.
use Rattle.std.proofs.Common.{◌≡◌, ◌∙◌, ◌++◌, [], ℕ, List, Bool, Option, Some, None, unwrap_or, refl, sym, ap, subst, inl, inr, arith}
use Rattle.std.specs.Prelude.{All, IfSome, IsTrue, option_map, slice_index_or}
use Rattle.std.proofs.lemmas.List.Elements.{All-weaker}
use Rattle.acct_types.specs.declared.datagram.Datagram.{Datagram}
use Rattle.collect_core.specs.declared.job.Job.{Job}
use Rattle.collect_core.specs.Course.{unrouted}
use Rattle.collect_core.specs.Lawful.{UnroutedIsLawful}
use Rattle.collect_core.specs.Most.{FULL}
use Rattle.collect_core.specs.Ends.{PluginEnding}
use Rattle.outside_io.specs.Causes.{Rose}
use Rattle.outside_io.specs.Names.{Names}
use Rattle.outside_io.specs.declared.ends.OutEnd.{OutEnd}
use Rattle.outside_io.specs.declared.ends.SideEnd.{SideEnd}
use Rattle.outside_io.specs.declared.ends.SideEnd.TheVariants as side
use Rattle.outside_io.specs.declared.input_fault.InputFault.TheVariants as fault
use Rattle.outside_io.specs.States.{SinkState}
use Rattle.acct_top.specs.declared.answer.Answer.{Answer}
use Rattle.acct_top.specs.Answers.{HoldsOfJob, IsDone, IsStopped, IsUnwritten, JobReason, side_answer}
use Rattle.acct_top.specs.Conservation.{IsAccountedButFor, IsCourse, IsNoOutput, IsTaken, KeepsOthers, flow_end, flows_of}
use Rattle.acct_top.specs.Job.{capture_of}
use Rattle.acct_top.specs.Run.{AreBegunAll, EndsAsTaken, IsAnswer, IsNewSink, IsRunClosed, IsRunWritten, RunsOver, unless_unwritten}
use Rattle.outside_io.specs.States.{NoneFell, PlaceState}
use Rattle.acct_top.proofs.CloseLemmas.{rose_within}

-- What is known of a run when its outputs are closed.
pub record RunFacts (job : Job) (before after : PlaceState) (flow : SideEnd) (unwritten : Option (List ℕ)) : Type 0 where
  pub octets : List ℕ
  pub ends : EndsAsTaken job (before.names (capture_of job)) (before.taken (capture_of job)) (after.taken (capture_of job)) octets flow
  pub failed : flow ≡ side.Fault fault.ReadFault → Rose (before.reads (capture_of job)) (after.reads (capture_of job))
  pub closed : IsRunClosed job unrouted (flows_of job octets) before after unwritten
  pub others : KeepsOthers job before.names after.names

-- The parts of a run: the outputs were opened, it ran over the capture, and the outputs were closed.
pub record RunParts (job : Job) (tells : Bool) (before opened over after : PlaceState) (capture : List ℕ) (starts : List SinkState) (audit_start audit_sink : SinkState) (flow : SideEnd) (endings : List PluginEnding) (audit_end : OutEnd) (unwritten : Option (List ℕ)) : Type 0 where
  pub is_capture : capture ≡ capture_of job
  pub apart : IsNoOutput job (capture_of job)
  pub begun : AreBegunAll job job.config.plugins before.names opened.names
  pub before_opened : NoneFell before opened
  pub opened_over : NoneFell opened over
  pub over_after : NoneFell over after
  pub names_over : over.names ≡ opened.names
  pub new : All (IsNewSink tells) starts
  pub audit_new : IsNewSink tells audit_start
  pub run : RunsOver job tells (opened.names capture) (opened.taken capture) (over.taken capture) starts audit_start audit_sink flow endings audit_end
  pub failed : flow ≡ side.Fault fault.ReadFault → Rose (opened.reads capture) (over.reads capture)
  pub taken_opened : opened.taken ≡ before.taken
  pub taken_after : after.taken ≡ over.taken
  pub others_after : KeepsOthers job over.names after.names
  pub closed : (flows : List Datagram) → IsRunWritten job unrouted flows before over starts endings audit_end audit_start audit_sink → IsRunClosed job unrouted flows before after unwritten

pub run_failed : (job : Job) (before opened over after : PlaceState) (capture : List ℕ) (flow : SideEnd) → capture ≡ capture_of job → NoneFell before opened → NoneFell over after
    → (flow ≡ side.Fault fault.ReadFault → Rose (opened.reads capture) (over.reads capture)) → flow ≡ side.Fault fault.ReadFault → Rose (before.reads (capture_of job)) (after.reads (capture_of job))
run_failed job before opened over after capture flow is first last failed e =
    subst (λ (name : List ℕ). Rose (before.reads name) (after.reads name)) is (rose_within _ _ _ _ (first.reads capture) (failed e) (last.reads capture))

pub run_facts : (job : Job) (tells : Bool) (before opened over after : PlaceState) (capture : List ℕ) (starts : List SinkState) (audit_start audit_sink : SinkState) (flow : SideEnd) (endings : List PluginEnding) (audit_end : OutEnd) (unwritten : Option (List ℕ)) → IsTrue tells
    → RunParts job tells before opened over after capture starts audit_start audit_sink flow endings audit_end unwritten → RunFacts job before after flow unwritten
run_facts job tells before opened over after capture starts audit_start audit_sink flow endings audit_end unwritten told p =
    let this = capture_of job in
    let octets = p.run.octets in
    let ends : EndsAsTaken job (opened.names this) (opened.taken this) (over.taken this) octets flow =
    subst (λ (name : List ℕ). EndsAsTaken job (opened.names name) (opened.taken name) (over.taken name) octets flow) p.is_capture (p.run.ends told) in
    record {
      octets = octets;
      ends = subst (λ (o : Option (List ℕ)). EndsAsTaken job o (before.taken this) (after.taken this) octets flow) (p.begun.others this p.apart.plugins p.apart.audit)
          (subst (λ (t : List ℕ → List (List ℕ)). EndsAsTaken job (opened.names this) (t this) (after.taken this) octets flow) p.taken_opened
          (subst (λ (t : List ℕ → List (List ℕ)). EndsAsTaken job (opened.names this) (opened.taken this) (t this) octets flow) (sym p.taken_after) ends));
      failed = run_failed job before opened over after capture flow p.is_capture p.before_opened p.over_after p.failed;
      closed = p.closed (flows_of job octets) (record {
        plugins = record {
          written = p.run.plugins;
          empty = All-weaker (IsNewSink tells) (λ (s : SinkState). s.held ≡ Some []) (λ s new. new.empty told) starts p.new;
          begun = λ k d lt. ap (λ (n : Names). n (slice_index_or job.config.plugins k d).file) p.names_over ∙ p.begun.plugins_have k d lt;
          writes = λ name. let first = p.before_opened.writes name in let last = p.opened_over.writes name in omega arith;
        };
        audit = p.run.audit;
        audit_empty = p.audit_new.empty told;
      });
      others = λ name none. p.others_after name none ∙ ap (λ (n : Names). n name) p.names_over ∙ p.begun.others name none.plugins none.audit;
    }

-- a name that an option has
pub named : {N : Type 0} (now : N → List ℕ) (P : List ℕ → Type 0) (o : Option N) → IfSome o (λ name. P (now name)) → (other : List ℕ) → option_map now o ≡ Some other → P other
named now P None h other is = cc is
named now P (Some name) h other is = let same : now name ≡ other = cc is in subst P same h

-- a capture's name that was lent
pub lent_name : {N : Type 0} (now : N → List ℕ) (o : Option N) (found : Option (List ℕ)) (name : N) → option_map now o ≡ found → o ≡ Some name → now name ≡ unwrap_or found []
lent_name now o found name copied is = ap (λ (p : Option (List ℕ)). unwrap_or p []) (sym (ap (option_map now) is) ∙ copied)

module _ (law : UnroutedIsLawful) (job : Job) (before after : PlaceState) where
  course : (octets : List ℕ) → IsCourse job (flows_of job octets) unrouted
  course octets = let on = law job FULL (flows_of job octets) in record { lawful = on.0; exact = on.1; without_routes = refl }

  accounted : (flow : SideEnd) (unwritten : Option (List ℕ)) (f : RunFacts job before after flow unwritten) → IsAccountedButFor job unrouted (flows_of job f.octets) before after
  accounted flow unwritten f = record { audit = f.closed.audit; plugins = f.closed.plugins; others = f.others }

  taken : (flow : SideEnd) (unwritten : Option (List ℕ)) (f : RunFacts job before after flow unwritten) → IsTaken job before after f.octets f.ends.rest
  taken flow unwritten f = record { capture = f.ends.splits; taken = f.ends.taken_is }

  all_taken : (flow : SideEnd) (unwritten : Option (List ℕ)) (f : RunFacts job before after flow unwritten) → f.ends.rest ≡ [] → IsTaken job before after f.octets []
  all_taken flow unwritten f none = subst (λ (rest : List ℕ). IsTaken job before after f.octets rest) none (taken flow unwritten f)

  -- the octets say that the run ends so
  stopped : (flow : SideEnd) (unwritten : Option (List ℕ)) (f : RunFacts job before after flow unwritten) → flow_end job f.octets ≡ flow → flow_end job (f.octets ++ f.ends.rest) ≡ flow → IsStopped job (side_answer flow) before after
  stopped flow unwritten f now whole = record {
    octets = f.octets;
    rest = f.ends.rest;
    taken = taken flow unwritten f;
    says = ap side_answer now;
    whole_says = ap side_answer whole;
    course = unrouted;
    is_course = course f.octets;
    accounted = accounted flow unwritten f;
  }

  -- all outputs are whole
  done : (f : RunFacts job before after side.Ended None) → IsDone job before after
  done f = record {
    octets = f.octets;
    taken = all_taken side.Ended None f f.ends.says.0;
    ended = f.ends.says.1;
    course = unrouted;
    is_course = course f.octets;
    accounted = record { audit = f.closed.first.audit; plugins = f.closed.first.plugins; others = f.others };
  }

  unwritten : (name : List ℕ) (f : RunFacts job before after side.Ended (Some name)) → IsUnwritten job name before after
  unwritten name f = record {
    octets = f.octets;
    taken = all_taken side.Ended (Some name) f f.ends.says.0;
    ended = f.ends.says.1;
    first = f.closed.first.first;
    others = f.closed.first.others;
    splits = f.closed.first.splits;
    which = f.closed.first.which;
    whole = f.closed.first.whole;
    failed = f.closed.first.failed;
    course = unrouted;
    is_course = course f.octets;
    accounted = accounted side.Ended (Some name) f;
  }

  holds : (flow : SideEnd) (name : Option (List ℕ)) → RunFacts job before after flow name → HoldsOfJob (unless_unwritten (side_answer flow) name) job before after
  holds side.Ended None f = done f
  holds side.Ended (Some name) f = unwritten name f
  holds (side.Fault fault.ReadFault) name f = record {
    octets = f.octets;
    rest = f.ends.rest;
    taken = taken (side.Fault fault.ReadFault) name f;
    failed = f.failed refl;
    few = f.ends.says;
    course = unrouted;
    is_course = course f.octets;
    accounted = accounted (side.Fault fault.ReadFault) name f;
  }
  holds (side.Fault fault.BadMagic) name f = stopped (side.Fault fault.BadMagic) name f f.ends.says.0 f.ends.says.1
  holds (side.Fault (fault.BadKind place)) name f = stopped (side.Fault (fault.BadKind place)) name f f.ends.says.0 f.ends.says.1
  holds (side.Fault (fault.Torn place)) name f = stopped (side.Fault (fault.Torn place)) name f f.ends.says.0 f.ends.says.1
  holds (side.Fault (fault.TooLong place)) name f = stopped (side.Fault (fault.TooLong place)) name f f.ends.says.0 f.ends.says.1
  holds (side.Fault fault.TooMany) name f = stopped (side.Fault fault.TooMany) name f f.ends.says.0 f.ends.says.1
  holds (side.Fault fault.NoMemory) name f = tt
  holds (side.TooMany which) name f = stopped (side.TooMany which) name f f.ends.says.0 f.ends.says.1

  pub job_holds : (answer : Answer) (flow : SideEnd) (name : Option (List ℕ)) → IsAnswer answer flow name → RunFacts job before after flow name → HoldsOfJob answer job before after
  job_holds answer flow name (inl none) f = subst (λ (a : Answer). HoldsOfJob a job before after) (sym none) tt
  job_holds answer flow name (inr is) f = subst (λ (a : Answer). HoldsOfJob a job before after) (sym is) (holds flow name f)

  -- a fault is answered only where its number rose
  reason : (flow : SideEnd) (name : Option (List ℕ)) → (flow ≡ side.Fault fault.ReadFault → Rose (before.reads (capture_of job)) (after.reads (capture_of job)))
      → ((other : List ℕ) → name ≡ Some other → Rose (before.writes other) (after.writes other)) → JobReason (unless_unwritten (side_answer flow) name) job before after
  reason side.Ended None failed wrote = tt
  reason side.Ended (Some name) failed wrote = wrote name refl
  reason (side.Fault fault.ReadFault) name failed wrote = failed refl
  reason (side.Fault fault.BadMagic) name failed wrote = tt
  reason (side.Fault (fault.BadKind place)) name failed wrote = tt
  reason (side.Fault (fault.Torn place)) name failed wrote = tt
  reason (side.Fault (fault.TooLong place)) name failed wrote = tt
  reason (side.Fault fault.TooMany) name failed wrote = tt
  reason (side.Fault fault.NoMemory) name failed wrote = tt
  reason (side.TooMany which) name failed wrote = tt

  pub job_reason : (answer : Answer) (flow : SideEnd) (name : Option (List ℕ)) → IsAnswer answer flow name → (flow ≡ side.Fault fault.ReadFault → Rose (before.reads (capture_of job)) (after.reads (capture_of job)))
      → ((other : List ℕ) → name ≡ Some other → Rose (before.writes other) (after.writes other)) → JobReason answer job before after
  job_reason answer flow name (inl none) failed wrote = subst (λ (a : Answer). JobReason a job before after) (sym none) tt
  job_reason answer flow name (inr is) failed wrote = subst (λ (a : Answer). JobReason a job before after) (sym is) (reason flow name failed wrote)
