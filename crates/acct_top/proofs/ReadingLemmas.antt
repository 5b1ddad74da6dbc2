-- What is read before a run is one thing: a job, or one refusal.
use Rattle.std.proofs.Common.{◌≡◌, ◌∙◌, ◌≤◌, [], ℕ, List, Option, None, Some, refl, sym, ap, subst, length, inl, inr, arith}
use Rattle.std.specs.Prelude.{◌⊎◌, Err, Ok, Result, true, false, is_some}
use Rattle.outside_io.specs.Causes.{Rose}
use Rattle.outside_io.specs.Names.{Names}
use Rattle.acct_top.specs.declared.answer.AnyCause.{AnyCause}
use Rattle.acct_top.specs.declared.answer.AnyCause.TheVariants.{Config, Map, TooLong}
use Rattle.acct_top.specs.declared.answer.Answer.{Answer}
use Rattle.acct_top.specs.declared.answer.Answer.TheVariants.{Done, Usage, ConfigRefused, OpenFault, FlowFault, CaptureTorn, CaptureBad, WriteFault, SayFault, TooMany, NoMemory}
use Rattle.collect_core.specs.declared.job.Job.{Job}
use Rattle.acct_top.specs.Answers.{IsSameJob}
use Rattle.acct_top.specs.Job.{built_config}
use Rattle.acct_top.specs.Reading.{AreSamplings, AreTags, GivesNoJob, HasConfigCause, HasMapCause, IsJob, IsMap, IsMapRefusal, IsMapRefused, IsNoJob, IsRefused, IsRefusedLater, MOST_TEXT, Says}
use Rattle.config_keys.specs.Reading.{ConfigSays}
use Rattle.config_keys.specs.declared.fault.ConfigCause.TheVariants.{MissingKey}
use Rattle.config_keys.specs.declared.fault.ConfigFault.TheVariants as config
use Rattle.config_keys.specs.declared.tool.Tool.{Tool}
use Rattle.pretag_map.specs.SamplingLines.{SamplingLine, sampling_map_of}
use Rattle.pretag_map.specs.TagRules.{TagRule, tag_map_of}
use Rattle.pretag_map.specs.declared.fault.MapFault.{MapFault}
use Rattle.pretag_map.specs.declared.fault.MapFault.TheVariants as map

-- ---- a text says one thing

pub same_octets : {X : Type 0} (o : Option X) (a b : X) → o ≡ Some a → o ≡ Some b → a ≡ b
same_octets o a b h k = let found : Some a ≡ Some b = sym h ∙ k in cc found

same_said : {S E : Type 0} (said : List ℕ → Result S E) (names : Names) (name : List ℕ) (a b : S) → Says said names name a → Says said names name b → a ≡ b
same_said said names name a b h k =
    let both : Ok a ≡ Ok b = sym h.says ∙ ap said (same_octets (names name) h.text k.text h.there k.there) ∙ k.says in
    cc both

config_fault_or_not : (tool : Tool) (file text : List ℕ) (line : ℕ) (cause : AnyCause) (this : ConfigSays) → HasConfigCause tool file text line cause → length text ≤ MOST_TEXT → built_config tool file text ≡ Ok this → ⊥
config_fault_or_not tool file text line TooLong this h short says = omega (arith, h.0, short)
config_fault_or_not tool file text line (Config cause) this h short says = let no : Err (config.At line cause) ≡ Ok this = sym h.1 ∙ says in cc no
config_fault_or_not tool file text line (Map cause) this h short says = h

map_fault_or_not : {M : Type 0} (said : List ℕ → Result M MapFault) (text : List ℕ) (line : ℕ) (cause : AnyCause) (this : M) → HasMapCause said text line cause → length text ≤ MOST_TEXT → said text ≡ Ok this → ⊥
map_fault_or_not said text line TooLong this h short says = omega (arith, h.0, short)
map_fault_or_not said text line (Config cause) this h short says = h
map_fault_or_not said text line (Map cause) this h short says = let no : Err (map.At line cause) ≡ Ok this = sym h.1 ∙ says in cc no

config_refused_or_not : (tool : Tool) (file : List ℕ) (names : Names) (line : ℕ) (cause : AnyCause) (this : ConfigSays) → IsRefused (HasConfigCause tool file) names file line cause → Says (built_config tool file) names file this → ⊥
config_refused_or_not tool file names line cause this r s =
    config_fault_or_not tool file s.text line cause this (subst (λ (t : List ℕ). HasConfigCause tool file t line cause) (same_octets (names file) r.text s.text r.there s.there) r.has) s.short s.says

text_refused_or_not : {M : Type 0} (said : List ℕ → Result M MapFault) (names : Names) (name : List ℕ) (line : ℕ) (cause : AnyCause) (this : M) → IsRefused (HasMapCause said) names name line cause → Says said names name this → ⊥
text_refused_or_not said names name line cause this r s =
    map_fault_or_not said s.text line cause this (subst (λ (t : List ℕ). HasMapCause said t line cause) (same_octets (names name) r.text s.text r.there s.there) r.has) s.short s.says

-- ---- a text has one cause

one_config_cause : (tool : Tool) (file text : List ℕ) (line other : ℕ) (a b : AnyCause) → HasConfigCause tool file text line a → HasConfigCause tool file text other b → (line ≡ other) × (a ≡ b)
one_config_cause tool file text line other TooLong TooLong h k = (h.1 ∙ sym k.1, refl)
one_config_cause tool file text line other TooLong (Config b) h k = absurd (omega (arith, h.0, k.0))
one_config_cause tool file text line other TooLong (Map b) h k = absurd k
one_config_cause tool file text line other (Config a) TooLong h k = absurd (omega (arith, h.0, k.0))
one_config_cause tool file text line other (Config a) (Config b) h k =
    let both : Err (config.At line a) ≡ Err (config.At other b) = sym h.1 ∙ k.1 in
    let same : a ≡ b = cc both in
    (cc both, ap Config same)
one_config_cause tool file text line other (Config a) (Map b) h k = absurd k
one_config_cause tool file text line other (Map a) b h k = absurd h

one_map_cause : {M : Type 0} (said : List ℕ → Result M MapFault) (text : List ℕ) (line other : ℕ) (a b : AnyCause) → HasMapCause said text line a → HasMapCause said text other b → (line ≡ other) × (a ≡ b)
one_map_cause said text line other TooLong TooLong h k = (h.1 ∙ sym k.1, refl)
one_map_cause said text line other TooLong (Config b) h k = absurd k
one_map_cause said text line other TooLong (Map b) h k = absurd (omega (arith, h.0, k.0))
one_map_cause said text line other (Map a) TooLong h k = absurd (omega (arith, h.0, k.0))
one_map_cause said text line other (Map a) (Config b) h k = absurd k
one_map_cause said text line other (Map a) (Map b) h k =
    let both : Err (map.At line a) ≡ Err (map.At other b) = sym h.1 ∙ k.1 in
    let same : a ≡ b = cc both in
    (cc both, ap Map same)
one_map_cause said text line other (Config a) b h k = absurd h

refused_so : (name other : List ℕ) (line number : ℕ) (a b : AnyCause) → name ≡ other → (line ≡ number) × (a ≡ b) → ConfigRefused name line a ≡ ConfigRefused other number b
refused_so name other line number a b names same = λ i. ConfigRefused (names i) (same.0 i) (same.1 i)

one_config_refusal : (tool : Tool) (file : List ℕ) (names : Names) (line number : ℕ) (a b : AnyCause) → IsRefused (HasConfigCause tool file) names file line a → IsRefused (HasConfigCause tool file) names file number b → (line ≡ number) × (a ≡ b)
one_config_refusal tool file names line number a b h k =
    one_config_cause tool file k.text line number a b (subst (λ (t : List ℕ). HasConfigCause tool file t line a) (same_octets (names file) h.text k.text h.there k.there) h.has) k.has

one_text_refusal : {M : Type 0} (said : List ℕ → Result M MapFault) (names : Names) (name : List ℕ) (line number : ℕ) (a b : AnyCause) → IsRefused (HasMapCause said) names name line a → IsRefused (HasMapCause said) names name number b → (line ≡ number) × (a ≡ b)
one_text_refusal said names name line number a b h k =
    one_map_cause said k.text line number a b (subst (λ (t : List ℕ). HasMapCause said t line a) (same_octets (names name) h.text k.text h.there k.there) h.has) k.has

-- ---- a map says one thing, or is refused once

same_map : {M : Type 0} (said : List ℕ → Result M MapFault) (nothing : M) (names : Names) (named : Option (List ℕ)) (a b : M) → IsMap said nothing names named a → IsMap said nothing names named b → a ≡ b
same_map said nothing names None a b h k = h ∙ sym k
same_map said nothing names (Some name) a b h k = same_said said names name a b h k

map_refused_or_not : {M : Type 0} (said : List ℕ → Result M MapFault) (nothing : M) (names : Names) (named : Option (List ℕ)) (name : List ℕ) (line : ℕ) (cause : AnyCause) (this : M)
    → IsMapRefused said names named name line cause → IsMap said nothing names named this → ⊥
map_refused_or_not said nothing names None name line cause this r m = cc r.0
map_refused_or_not said nothing names (Some other) name line cause this r m =
    let both : Some other ≡ Some name = r.0 in
    let same : other ≡ name = cc both in
    text_refused_or_not said names name line cause this r.1 (subst (λ (n : List ℕ). Says said names n this) same m)

one_map_refusal : {M : Type 0} (said : List ℕ → Result M MapFault) (names : Names) (named : Option (List ℕ)) (name other : List ℕ) (line number : ℕ) (a b : AnyCause)
    → IsMapRefused said names named name line a → IsMapRefused said names named other number b → ConfigRefused name line a ≡ ConfigRefused other number b
one_map_refusal said names named name other line number a b h k =
    let same : name ≡ other = same_octets named name other h.0 k.0 in
    refused_so name other line number a b same (one_text_refusal said names other line number a b (subst (λ (n : List ℕ). IsRefused (HasMapCause said) names n line a) same h.1) k.1)

-- ---- a file gives one job, or is refused once

one_later_refusal : (this : ConfigSays) (file : List ℕ) (names : Names) (name other : List ℕ) (line number : ℕ) (a b : AnyCause)
    → IsRefusedLater this file names name line a → IsRefusedLater this file names other number b → ConfigRefused name line a ≡ ConfigRefused other number b
one_later_refusal this file names name other line number a b (inl h) (inl k) = one_map_refusal tag_map_of names this.pre_tag_map name other line number a b h k
one_later_refusal this file names name other line number a b (inl h) (inr k) = absurd (map_refused_or_not tag_map_of [] names this.pre_tag_map name line a k.0 h k.1)
one_later_refusal this file names name other line number a b (inr h) (inl k) = absurd (map_refused_or_not tag_map_of [] names this.pre_tag_map other number b h.0 k h.1)
one_later_refusal this file names name other line number a b (inr (t, are, inl h)) (inr (u, they, inl k)) = one_map_refusal sampling_map_of names this.sampling_map name other line number a b h k
one_later_refusal this file names name other line number a b (inr (t, are, inl h)) (inr (u, they, inr k)) = absurd (map_refused_or_not sampling_map_of [] names this.sampling_map name line a k.0 h k.1)
one_later_refusal this file names name other line number a b (inr (t, are, inr h)) (inr (u, they, inl k)) = absurd (map_refused_or_not sampling_map_of [] names this.sampling_map other number b h.0 k h.1)
one_later_refusal this file names name other line number a b (inr (t, are, inr h)) (inr (u, they, inr k)) =
    refused_so name other line number a b (h.2.name_is ∙ sym k.2.name_is) (h.2.line_is ∙ sym k.2.line_is, h.2.cause_is ∙ sym k.2.cause_is)

pub one_refusal : (tool : Tool) (file : List ℕ) (names : Names) (name other : List ℕ) (line number : ℕ) (a b : AnyCause) → GivesNoJob tool file names name line a → GivesNoJob tool file names other number b
    → ConfigRefused name line a ≡ ConfigRefused other number b
one_refusal tool file names name other line number a b (inl h) (inl k) = refused_so name other line number a b (h.0 ∙ sym k.0) (one_config_refusal tool file names line number a b h.1 k.1)
one_refusal tool file names name other line number a b (inl h) (inr k) = absurd (config_refused_or_not tool file names line a k.0 h.1 k.1)
one_refusal tool file names name other line number a b (inr h) (inl k) = absurd (config_refused_or_not tool file names number b h.0 k.1 h.1)
one_refusal tool file names name other line number a b (inr h) (inr k) =
    one_later_refusal k.0 file names name other line number a b (subst (λ (c : ConfigSays). IsRefusedLater c file names name line a) (same_said (built_config tool file) names file h.0 k.0 h.1 k.1) h.2) k.2

refused_later_or_not : (job : Job) (tool : Tool) (file : List ℕ) (names : Names) (name : List ℕ) (line : ℕ) (cause : AnyCause) (j : IsJob job tool file names) → IsRefusedLater j.config file names name line cause → ⊥
refused_later_or_not job tool file names name line cause j (inl r) = map_refused_or_not tag_map_of [] names j.config.pre_tag_map name line cause job.tags r j.tags
refused_later_or_not job tool file names name line cause j (inr (tags, are, inl r)) = map_refused_or_not sampling_map_of [] names j.config.sampling_map name line cause job.samplings r j.samplings
refused_later_or_not job tool file names name line cause j (inr (tags, are, inr (samplings, they, r))) =
    let none : job.config.acct_flow_capture ≡ None = ap (λ (c : ConfigSays). c.acct_flow_capture) j.is.config_is ∙ r.lacks in
    let no : true ≡ false = sym j.is.replay.captured ∙ ap (λ (o : Option (List ℕ)). is_some o) none in
    cc no

pub refused_or_not : (job : Job) (tool : Tool) (file : List ℕ) (names : Names) (name : List ℕ) (line : ℕ) (cause : AnyCause) → GivesNoJob tool file names name line cause → IsJob job tool file names → ⊥
refused_or_not job tool file names name line cause (inl r) j = config_refused_or_not tool file names line cause j.config r.1 j.said
refused_or_not job tool file names name line cause (inr r) j =
    refused_later_or_not job tool file names name line cause j (subst (λ (c : ConfigSays). IsRefusedLater c file names name line cause) (same_said (built_config tool file) names file r.0 j.config r.1 j.said) r.2)

-- a configuration whose maps say the same has one job
pub same_job : (some other : Job) (tool : Tool) (file : List ℕ) (names : Names) → IsJob some tool file names → IsJob other tool file names → IsSameJob some other
same_job some other tool file names h k =
    let same : h.config ≡ k.config = same_said (built_config tool file) names file h.config k.config h.said k.said in
    record {
      config = h.is.config_is ∙ same ∙ sym k.is.config_is;
      tags = same_map tag_map_of [] names k.config.pre_tag_map some.tags other.tags (subst (λ (c : ConfigSays). IsMap tag_map_of [] names c.pre_tag_map some.tags) same h.tags) k.tags;
      agents = h.agents ∙ sym k.agents;
      samplings = same_map sampling_map_of [] names k.config.sampling_map some.samplings other.samplings (subst (λ (c : ConfigSays). IsMap sampling_map_of [] names c.sampling_map some.samplings) same h.samplings) k.samplings;
    }

-- ---- the steps of reading

pub rose_earlier : (before between now : ℕ) → before ≤ between → Rose between now → Rose before now
rose_earlier before between now le rose = omega arith

-- the map of tags wasn't read
pub tags_refused : (answer : Answer) (tool : Tool) (file : List ℕ) (names : Names) (this : ConfigSays) → Says (built_config tool file) names file this → IsMapRefusal tag_map_of names this.pre_tag_map answer → IsNoJob answer tool file names
tags_refused (OpenFault name) tool file names this s h = inr (this, s, inl h)
tags_refused (ConfigRefused name line cause) tool file names this s h = inr (this, s, inl h)
tags_refused NoMemory tool file names this s h = tt
tags_refused Done tool file names this s h = h
tags_refused Usage tool file names this s h = h
tags_refused FlowFault tool file names this s h = h
tags_refused (CaptureTorn flows place) tool file names this s h = h
tags_refused (CaptureBad flows place cause) tool file names this s h = h
tags_refused (TooMany which) tool file names this s h = h
tags_refused (WriteFault name) tool file names this s h = h
tags_refused SayFault tool file names this s h = h

-- the map of sampling rates wasn't read
pub samplings_refused : (answer : Answer) (tool : Tool) (file : List ℕ) (names : Names) (this : ConfigSays) (tags : List TagRule) → Says (built_config tool file) names file this → AreTags names this tags
    → IsMapRefusal sampling_map_of names this.sampling_map answer → IsNoJob answer tool file names
samplings_refused (OpenFault name) tool file names this tags s t h = inr (this, s, inr (tags, t, h))
samplings_refused (ConfigRefused name line cause) tool file names this tags s t h = inr (this, s, inr (tags, t, inl h))
samplings_refused NoMemory tool file names this tags s t h = tt
samplings_refused Done tool file names this tags s t h = h
samplings_refused Usage tool file names this tags s t h = h
samplings_refused FlowFault tool file names this tags s t h = h
samplings_refused (CaptureTorn flows place) tool file names this tags s t h = h
samplings_refused (CaptureBad flows place cause) tool file names this tags s t h = h
samplings_refused (TooMany which) tool file names this tags s t h = h
samplings_refused (WriteFault name) tool file names this tags s t h = h
samplings_refused SayFault tool file names this tags s t h = h

-- the refusal was answered, unless memory ran out
pub is_no_job : (answer : Answer) (tool : Tool) (file : List ℕ) (names : Names) (name : List ℕ) (line : ℕ) (cause : AnyCause) → (answer ≡ NoMemory) ⊎ (answer ≡ ConfigRefused name line cause)
    → GivesNoJob tool file names name line cause → IsNoJob answer tool file names
is_no_job answer tool file names name line cause (inl none) h = subst (λ (a : Answer). IsNoJob a tool file names) (sym none) tt
is_no_job answer tool file names name line cause (inr is) h = subst (λ (a : Answer). IsNoJob a tool file names) (sym is) h

-- a text that was read gives this configuration
pub read_text_says : (tool : Tool) (file : List ℕ) (names : Names) (text read : List ℕ) (this : ConfigSays) → read ≡ text → names file ≡ Some text → length text ≤ MOST_TEXT → built_config tool file read ≡ Ok this
    → Says (built_config tool file) names file this
read_text_says tool file names text read this same there short says = record { text = text; there = there; short = short; says = ap (built_config tool file) (sym same) ∙ says }

-- there is no capture to replay
pub lacks_capture : (answer : Answer) (tool : Tool) (file : List ℕ) (names : Names) (this : ConfigSays) (tags : List TagRule) (samplings : List SamplingLine) → Says (built_config tool file) names file this
    → AreTags names this tags → AreSamplings names this samplings → this.acct_flow_capture ≡ None
    → (answer ≡ NoMemory) ⊎ (answer ≡ ConfigRefused file 0 (Config MissingKey)) → IsNoJob answer tool file names
lacks_capture answer tool file names this tags samplings s t u none is =
    is_no_job answer tool file names file 0 (Config MissingKey) is
    (inr (this, s, inr (tags, t, inr (samplings, u, record { lacks = none; name_is = refl; line_is = refl; cause_is = refl }))))
