-- On the outputs as they begin.
use Rattle.std.proofs.Common.{◌≡◌, ◌∙◌, ◌++◌, ◌≢◌, ◌≤◌, ◌-◌, [], ◌∷◌, ℕ, List, false, Option, None, Some, unwrap_or, refl, sym, ap, subst, length, get_or, take, drop, inl, inr, arith}
use Rattle.std.specs.Prelude.{◌⊎◌, All, OnOk, Result, Ok, Err, is_err, slice_index_or, IsSome}
use Rattle.std.specs.Io.KnownBytes.{prepend_known}
use Rattle.std.proofs.lemmas.List.{append-nil, take_all}
use Rattle.std.proofs.lemmas.List.Elements.{All-cons, All-head, All-nil, All-tail}
use Rattle.collect_core.specs.declared.job.Job.{Job}
use Rattle.config_keys.specs.declared.plugin.PluginConfig.{PluginConfig}
use Rattle.outside_io.specs.Names.{Names, Puts, PutsFront, begun}
use Rattle.outside_io.specs.declared.fault.Begin.{Begin}
use Rattle.outside_io.specs.declared.fault.Begin.TheVariants.{Append, Anew}
use Rattle.acct_top.specs.declared.answer.Answer.{Answer}
use Rattle.acct_top.specs.declared.answer.Answer.TheVariants.{OpenFault, NoMemory}
use Rattle.acct_top.specs.Conservation.{AreBegun, KeepsOthers, begin_of, next_output, start_of}
use Rattle.acct_top.specs.Job.{capture_of}
use Rattle.acct_top.specs.Run.{AreApart, AreBegunAll, HaveOwnFiles, IsOpenFault, IsOutputFault, IsUnopenedAmong, KeepsAllBut}

-- ---- what an output begins with

-- an output that begins with what it began with before
pub begun_again : (begin : Begin) (old new : Names) (name : List ℕ) → new name ≡ Some (begun begin old name) → begun begin new name ≡ begun begin old name
begun_again Append old new name h = ap (λ (o : Option (List ℕ)). unwrap_or o []) h
begun_again Anew old new name h = refl

pub begun_same : (begin : Begin) (old new : Names) (name : List ℕ) → new name ≡ old name → begun begin new name ≡ begun begin old name
begun_same Append old new name h = ap (λ (o : Option (List ℕ)). unwrap_or o []) h
begun_same Anew old new name h = refl

nil_front : (a b : List ℕ) → a ++ b ≡ [] → a ≡ []
nil_front [] b h = refl
nil_front (x ∷ a) b h = cc h

-- a front of nothing is nothing
pub front_of_nothing : (old new : Names) (name start : List ℕ) (held : Option (List ℕ)) → held ≡ Some [] → PutsFront old new name start held → Puts old new name (Some start)
front_of_nothing old new name start held empty p =
    let same : Some (p.0 ++ p.1) ≡ Some [] = sym p.2 ∙ empty in
    let both : p.0 ++ p.1 ≡ [] = cc same in
    let none : p.0 ≡ [] = nil_front p.0 p.1 both in
    record { here = p.3.here ∙ ap (λ (front : List ℕ). Some (start ++ front)) none ∙ ap Some (append-nil start); others = p.3.others }

-- what holds of all holds of the first ones
pub all_first : {X : Type 0} (P : X → Type 0) (first others : List X) → All P (first ++ others) → All P first
all_first P [] others h = All-nil P
all_first P (x ∷ first) others h = All-cons P x first (All-head P x (first ++ others) h) (all_first P first others (All-tail P x (first ++ others) h))

-- a list is its first item, and then the others
pub first_item : {X : Type 0} (xs : List X) (x : X) → 1 ≤ length xs → x ≡ get_or xs 0 x → xs ≡ x ∷ take (length xs - 1) (drop 1 xs)
first_item [] x some is = absurd (none some)
  where
    none : 1 ≤ 0 → ⊥
    none h = omega arith
first_item {X = X} (y ∷ ys) x some is =
    let enough : length ys ≤ length (y ∷ ys) - 1 = omega arith in
    ap (λ (z : X). z ∷ ys) (sym is) ∙ ap (λ (zs : List X). x ∷ zs) (sym (take_all (length (y ∷ ys) - 1) ys enough))

-- the last one of a list
abbrev last_or : {X : Type 0} → X → List X → X
last_or other [] = other
last_or other (x ∷ xs) = last_or x xs

last_or-append : {X : Type 0} (other : X) (xs : List X) (x : X) → last_or other (xs ++ x ∷ []) ≡ x
last_or-append other [] x = refl
last_or-append other (y ∷ xs) x = last_or-append y xs x

pub same_last : {X : Type 0} (xs ys : List X) (x y : X) → xs ++ x ∷ [] ≡ ys ++ y ∷ [] → x ≡ y
same_last xs ys x y same = sym (last_or-append x xs x) ∙ ap (last_or x) same ∙ last_or-append x ys y

pub on_ok_of : {E : Type 0} (r : Result (Unit {0}) E) (P : Type 0) → is_err r ≡ false → OnOk r P → P
on_ok_of (Ok u) P fine h = h
on_ok_of (Err e) P fine h = cc fine

-- ---- all outputs are open

pub begun_all : (job : Job) (plugin : PluginConfig) (plugins : List PluginConfig) (old mid new : Names) → All (λ (other : PluginConfig). plugin.file ≢ other.file) plugins → (plugin.file ≢ job.config.acct_audit_file)
    → Puts old mid plugin.file (Some (start_of old plugin)) → AreBegunAll job plugins mid new → AreBegunAll job (plugin ∷ plugins) old new
begun_all job plugin plugins old mid new apart not_audit put all = record {
  plugins_have = All-cons (λ (p : PluginConfig). new p.file ≡ Some (start_of old p)) plugin plugins
      (all.others plugin.file apart not_audit ∙ put.here)
      (λ k d lt.
      let other = slice_index_or plugins k d in
      all.plugins_have k d lt ∙ ap Some (begun_same (begin_of other.kind) old mid other.file (put.others other.file (λ same. apart k d lt (sym same)))));
  audit = all.audit;
  others = λ name none not.
      all.others name (All-tail (λ (p : PluginConfig). name ≢ p.file) plugin plugins none) not
      ∙ put.others name (All-head (λ (p : PluginConfig). name ≢ p.file) plugin plugins none);
}

pub audit_begun : (job : Job) (old new : Names) → Puts old new job.config.acct_audit_file (Some []) → AreBegunAll job [] old new
audit_begun job old new put = record {
  plugins_have = All-nil (λ (p : PluginConfig). new p.file ≡ Some (start_of old p));
  audit = put.here;
  others = λ name none not. put.others name not;
}

-- ---- one of them isn't

-- the first couldn't be opened
pub fault_here : (job : Job) (plugins : List PluginConfig) (answer : Answer) (old new : Names) → (answer ≡ NoMemory) ⊎ (answer ≡ OpenFault (next_output job plugins)) → new ≡ old → IsOutputFault job plugins answer old new
fault_here job plugins answer old new (inl none) same = subst (λ (a : Answer). IsOutputFault job plugins a old new) (sym none) tt
fault_here job plugins answer old new (inr is) same =
    subst (λ (a : Answer). IsOutputFault job plugins a old new) (sym is) (record {
      first = [];
      others = plugins;
      splits = refl;
      which = refl;
      begun = record { plugins_have = All-nil (λ (p : PluginConfig). new p.file ≡ Some (start_of old p)); others = λ name none. ap (λ (n : Names). n name) same };
    })

-- An output was opened, and closed with nothing in it when one behind it couldn't be opened.
unopened_behind : (job : Job) (plugin : PluginConfig) (plugins : List PluginConfig) (name : List ℕ) (old mid new after : Names) → All (λ (other : PluginConfig). plugin.file ≢ other.file) plugins
    → Puts old mid plugin.file (Some (start_of old plugin)) → IsUnopenedAmong job plugins name mid new → Puts new after plugin.file (Some (start_of new plugin)) → IsUnopenedAmong job (plugin ∷ plugins) name old after
unopened_behind job plugin plugins name old mid new after apart put unopened closed =
    let first = unopened.first in
    let apart_first : All (λ (other : PluginConfig). plugin.file ≢ other.file) first =
    all_first (λ (other : PluginConfig). plugin.file ≢ other.file) first unopened.others (subst (λ (ps : List PluginConfig). All (λ (other : PluginConfig). plugin.file ≢ other.file) ps) unopened.splits apart) in
    let kept : new plugin.file ≡ Some (start_of old plugin) = unopened.begun.others plugin.file apart_first ∙ put.here in
    record {
      first = plugin ∷ first;
      others = unopened.others;
      splits = ap (λ (ps : List PluginConfig). plugin ∷ ps) unopened.splits;
      which = unopened.which;
      begun = record {
        plugins_have = All-cons (λ (p : PluginConfig). after p.file ≡ Some (start_of old p)) plugin first
            (closed.here ∙ ap Some (begun_again (begin_of plugin.kind) old new plugin.file kept))
            (λ k d lt.
            let other = slice_index_or first k d in
            closed.others other.file (λ same. apart_first k d lt (sym same)) ∙ unopened.begun.plugins_have k d lt
            ∙ ap Some (begun_same (begin_of other.kind) old mid other.file (put.others other.file (λ same. apart_first k d lt (sym same)))));
        others = λ other none.
            let not = All-head (λ (p : PluginConfig). other ≢ p.file) plugin first none in
            closed.others other not ∙ unopened.begun.others other (All-tail (λ (p : PluginConfig). other ≢ p.file) plugin first none) ∙ put.others other not;
      };
    }

pub fault_behind : (job : Job) (plugin : PluginConfig) (plugins : List PluginConfig) (answer : Answer) (old mid new after : Names) → All (λ (other : PluginConfig). plugin.file ≢ other.file) plugins
    → Puts old mid plugin.file (Some (start_of old plugin)) → IsOutputFault job plugins answer mid new → Puts new after plugin.file (Some (start_of new plugin)) → IsOutputFault job (plugin ∷ plugins) answer old after
fault_behind job plugin plugins (OpenFault name) old mid new after apart put unopened closed = unopened_behind job plugin plugins name old mid new after apart put unopened closed
fault_behind job plugin plugins NoMemory old mid new after apart put unopened closed = tt
fault_behind job plugin plugins answer old mid new after apart put unopened closed = unopened

-- ---- by steps

-- the first of these outputs was opened
pub record OpensFirst (job : Job) (all : List PluginConfig) (plugin : PluginConfig) (plugins : List PluginConfig) (begin : Begin) (old mid : Names) : Type 0 where
  pub splits : all ≡ plugin ∷ plugins
  pub apart : AreApart job.config.acct_audit_file all
  pub is_begin : begin ≡ begin_of plugin.kind
  pub put : Puts old mid plugin.file (Some (begun begin old plugin.file))

module _ (job : Job) (all : List PluginConfig) (plugin : PluginConfig) (plugins : List PluginConfig) (begin : Begin) (old mid : Names) (opens : OpensFirst job all plugin plugins begin old mid) where
  own : All (λ (other : PluginConfig). plugin.file ≢ other.file) plugins
  own = (subst HaveOwnFiles opens.splits opens.apart.own).0

  not_audit : plugin.file ≢ job.config.acct_audit_file
  not_audit = All-head (λ (p : PluginConfig). p.file ≢ job.config.acct_audit_file) plugin plugins
      (subst (λ (ps : List PluginConfig). All (λ (p : PluginConfig). p.file ≢ job.config.acct_audit_file) ps) opens.splits opens.apart.not_audit)

  put : Puts old mid plugin.file (Some (start_of old plugin))
  put = subst (λ (b : Begin). Puts old mid plugin.file (Some (begun b old plugin.file))) opens.is_begin opens.put

  pub all_begun : (new : Names) → AreBegunAll job plugins mid new → AreBegunAll job all old new
  all_begun new begun_others = subst (λ (ps : List PluginConfig). AreBegunAll job ps old new) (sym opens.splits) (begun_all job plugin plugins old mid new own not_audit put begun_others)

  pub all_fault : (answer : Answer) (new after : Names) → IsOutputFault job plugins answer mid new → Puts new after plugin.file (Some (begun begin new plugin.file)) → IsOutputFault job all answer old after
  all_fault answer new after fault closed =
      subst (λ (ps : List PluginConfig). IsOutputFault job ps answer old after) (sym opens.splits)
      (fault_behind job plugin plugins answer old mid new after own put fault
      (subst (λ (b : Begin). Puts new after plugin.file (Some (begun b new plugin.file))) opens.is_begin closed))

  pub all_kept : (new : Names) → KeepsAllBut job plugins mid new → KeepsAllBut job all old new
  all_kept new keeps name none not =
      let apart : All (λ (p : PluginConfig). name ≢ p.file) (plugin ∷ plugins) = subst (λ (ps : List PluginConfig). All (λ (p : PluginConfig). name ≢ p.file) ps) opens.splits none in
      keeps name (All-tail (λ (p : PluginConfig). name ≢ p.file) plugin plugins apart) not ∙ opens.put.others name (All-head (λ (p : PluginConfig). name ≢ p.file) plugin plugins apart)

  pub all_kept_closed : (new after : Names) → KeepsAllBut job plugins mid new → ((name : List ℕ) → name ≢ plugin.file → after name ≡ new name) → KeepsAllBut job all old after
  all_kept_closed new after keeps closed name none not =
      let apart : All (λ (p : PluginConfig). name ≢ p.file) (plugin ∷ plugins) = subst (λ (ps : List PluginConfig). All (λ (p : PluginConfig). name ≢ p.file) ps) opens.splits none in
      closed name (All-head (λ (p : PluginConfig). name ≢ p.file) plugin plugins apart) ∙ all_kept new keeps name none not

-- ---- the capture is opened first

pub capture_unopened : (job : Job) (capture : List ℕ) (answer : Answer) (old new : Names) → capture ≡ capture_of job → (answer ≡ NoMemory) ⊎ (answer ≡ OpenFault capture) → new ≡ old → IsOpenFault job answer old new
capture_unopened job capture answer old new is (inl none) same = subst (λ (a : Answer). IsOpenFault job a old new) (sym none) tt
capture_unopened job capture answer old new is (inr fault) same = subst (λ (a : Answer). IsOpenFault job a old new) (sym fault) (inl (is, same))

pub output_unopened : (job : Job) (answer : Answer) (old new after : Names) → IsSome (old (capture_of job)) → after ≡ new → IsOutputFault job job.config.plugins answer old new → IsOpenFault job answer old after
output_unopened job (OpenFault name) old new after there same h =
    inr (there, record { first = h.first; others = h.others; splits = h.splits; which = h.which; begun = subst (λ (n : Names). AreBegun h.first old n) (sym same) h.begun })
output_unopened job NoMemory old new after there same h = tt
output_unopened job answer old new after there same h = h

pub keeps_others : (job : Job) (old new : Names) → KeepsAllBut job job.config.plugins old new → KeepsOthers job old new
keeps_others job old new keeps name none = keeps name none.plugins none.audit

-- nothing was taken of what is left still
pub nothing_taken : (left : Option (List ℕ)) → prepend_known [] left ≡ left
nothing_taken None = refl
nothing_taken (Some octets) = refl
