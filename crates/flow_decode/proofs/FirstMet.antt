-- Going backwards, the first change or rate that is met decides.
use Rattle.std.proofs.Common.{◌≡◌, ◌∙◌, ◌++◌, ◌∷◌, [], ℕ, List, Bool, true, false, cond, Option, Some, None, refl, sym, ap, subst}
use Rattle.std.specs.Prelude.{◌&&◌, if◌then◌else◌}
use Rattle.std.specs.Bool.{beq}
use Rattle.flow_templates.specs.declared.change.TemplateChange.{TemplateChange}
use Rattle.flow_templates.specs.declared.change.TemplateChange.TheVariants.{Put, Withdraw, WithdrawAll}
use Rattle.flow_templates.specs.declared.rate.LearnedRate.{LearnedRate}
use Rattle.flow_templates.specs.declared.rate.RateKey.{RateKey}
use Rattle.flow_templates.specs.declared.template.Template.{Template}
use Rattle.flow_templates.specs.declared.template.TemplateKey.{TemplateKey}
use Rattle.flow_templates.specs.Changes.{after, same_domain, same_key, without_kind}
use Rattle.flow_templates.specs.Known.{rate_learned, same_rate_key}
use Rattle.flow_templates.proofs.ChangeLemmas.{exact_keys, same_key_self}
use Rattle.flow_templates.proofs.RateLemmas.{exact_rate_keys, same_rate_key_self}
use Rattle.flow_decode.specs.History.{IsLearnedLast, IsPutLast, decides, in_force, learned_last, none_of, puts, teaches}

-- ---- templates

-- a change that doesn't decide leaves a template of its kind
passes : (change : TemplateChange) (key : TemplateKey) (template : Template) → decides key template.options change ≡ false → after change key (Some template) ≡ Some template
passes (Put put other) key template h = rw h refl
passes (Withdraw withdrawn) key template h = rw h refl
passes (WithdrawAll domain kind) key template h = by (same_domain domain key.domain) (beq template.options kind) h
  where
    by : (same of : Bool) → (same && of) ≡ false → cond same (cond of None (Some template)) (Some template) ≡ Some template
    by true true h = cc h
    by true false h = refl
    by false of h = refl

pub found_where_put : (changes : List TemplateChange) (key : TemplateKey) (template : Template) → IsPutLast changes key template → in_force changes key ≡ Some template
found_where_put changes key template is = ap (λ (all : List TemplateChange). in_force all key) is.are ∙ by is.newer is.first
  where
    by : (newer : List TemplateChange) → none_of (decides key template.options) newer → in_force (newer ++ Put key template ∷ is.earlier) key ≡ Some template
    by [] first = rw (same_key_self key) refl
    by (change ∷ newer) first = ap (after change key) (by newer first.1) ∙ passes change key template first.0

-- what is found behind a change was put by it, or was there before and isn't its subject
data Found (change : TemplateChange) (earlier : List TemplateChange) (key : TemplateKey) (template : Template) : Type 0 where
  here : change ≡ Put key template → Found change earlier key template
  behind : decides key template.options change ≡ false → in_force earlier key ≡ Some template → Found change earlier key template

found : (change : TemplateChange) (earlier : List TemplateChange) (key : TemplateKey) (template : Template) → after change key (in_force earlier key) ≡ Some template
    → Found change earlier key template
found (Put put other) earlier key template h = by (same_key put key) refl h
  where
    by : (same : Bool) → same_key put key ≡ same → cond same (Some other) (in_force earlier key) ≡ Some template → Found (Put put other) earlier key template
    by true same h =
        let one : other ≡ template = cc h in
        let keys = exact_keys put key same in
        here (λ i. Put (keys i) (one i))
    by false same h = behind same h
found (Withdraw withdrawn) earlier key template h = by (same_key withdrawn key) refl h
  where
    by : (same : Bool) → same_key withdrawn key ≡ same → cond same None (in_force earlier key) ≡ Some template → Found (Withdraw withdrawn) earlier key template
    by true same h = cc h
    by false same h = behind same h
found (WithdrawAll domain kind) earlier key template h = by (same_domain domain key.domain) (in_force earlier key) refl refl h
  where
    kept : (there : Template) (same : Bool) → same_domain domain key.domain ≡ same → in_force earlier key ≡ Some there → (of : Bool) → beq there.options kind ≡ of
        → cond of None (Some there) ≡ Some template → Found (WithdrawAll domain kind) earlier key template
    kept there same is was true of h = cc h
    kept there same is was false of h =
        let one : there ≡ template = cc h in
        behind (ap (λ (t : Template). same_domain domain key.domain && beq t.options kind) (sym one) ∙ ap (λ (o : Bool). same_domain domain key.domain && o) of ∙ never (same_domain domain key.domain)) (was ∙ ap Some one)
      where
        never : (b : Bool) → (b && false) ≡ false
        never true = refl
        never false = refl

    by : (same : Bool) (was : Option Template) → same_domain domain key.domain ≡ same → in_force earlier key ≡ was → cond same (without_kind kind was) was ≡ Some template
        → Found (WithdrawAll domain kind) earlier key template
    by false was same is h = behind (ap (λ (s : Bool). s && beq template.options kind) same) (is ∙ h)
    by true None same is h = cc h
    by true (Some there) same is h = kept there true same is (beq there.options kind) refl h

pub put_where_found : (changes : List TemplateChange) (key : TemplateKey) (template : Template) → in_force changes key ≡ Some template → IsPutLast changes key template
put_where_found [] key template h = cc h
put_where_found (change ∷ earlier) key template h = by (found change earlier key template h) (λ was. put_where_found earlier key template was)
  where
    by : Found change earlier key template → (in_force earlier key ≡ Some template → IsPutLast earlier key template) → IsPutLast (change ∷ earlier) key template
    by (here is) more = record { newer = []; earlier = earlier; are = ap (λ (one : TemplateChange). one ∷ earlier) is; first = tt }
    by (behind passed was) more =
        let rest = more was in
        record { newer = change ∷ rest.newer; earlier = rest.earlier; are = ap (λ (all : List TemplateChange). change ∷ all) rest.are; first = (passed, rest.first) }

nothing_after : (change : TemplateChange) (key : TemplateKey) (before : Option Template) → puts key change ≡ false → before ≡ None → after change key before ≡ None
nothing_after (Put put template) key before h none = rw h none
nothing_after (Withdraw withdrawn) key before h none = by (same_key withdrawn key)
  where
    by : (b : Bool) → cond b None before ≡ None
    by true = refl
    by false = none
nothing_after (WithdrawAll domain kind) key before h none = rw none (by (same_domain domain key.domain))
  where
    by : (b : Bool) → ◌≡◌ {A = Option Template} (cond b None None) None
    by true = refl
    by false = refl

pub nothing_put : (changes : List TemplateChange) (key : TemplateKey) → none_of (puts key) changes → in_force changes key ≡ None
nothing_put [] key h = refl
nothing_put (change ∷ changes) key h = nothing_after change key (in_force changes key) h.0 (nothing_put changes key h.1)

pub withdrawn : (newer earlier : List TemplateChange) (key : TemplateKey) → none_of (puts key) newer → in_force (newer ++ Withdraw key ∷ earlier) key ≡ None
withdrawn [] earlier key h = rw (same_key_self key) refl
withdrawn (change ∷ newer) earlier key h = nothing_after change key (in_force (newer ++ Withdraw key ∷ earlier) key) h.0 (withdrawn newer earlier key h.1)

-- ---- rates

pub learned_where_first : (rates : List LearnedRate) (key : RateKey) (rate : ℕ) → IsLearnedLast rates key rate → learned_last rates key ≡ Some rate
learned_where_first rates key rate is = ap (λ (all : List LearnedRate). learned_last all key) is.are ∙ by is.newer is.first
  where
    by : (newer : List LearnedRate) → none_of (teaches key) newer → learned_last (newer ++ record { key = key; rate = rate } ∷ is.earlier) key ≡ Some rate
    by [] first = rw (same_rate_key_self key) refl
    by (learned ∷ newer) first = rw first.0 (by newer first.1)

pub first_where_learned : (rates : List LearnedRate) (key : RateKey) (rate : ℕ) → learned_last rates key ≡ Some rate → IsLearnedLast rates key rate
first_where_learned [] key rate h = cc h
first_where_learned (learned ∷ earlier) key rate h = by (same_rate_key learned.key key) refl h (λ was. first_where_learned earlier key rate was)
  where
    by : (same : Bool) → same_rate_key learned.key key ≡ same → cond same (Some learned.rate) (learned_last earlier key) ≡ Some rate
        → (learned_last earlier key ≡ Some rate → IsLearnedLast earlier key rate) → IsLearnedLast (learned ∷ earlier) key rate
    by true same h more =
        let one : learned.rate ≡ rate = cc h in
        let keys = exact_rate_keys learned.key key same in
        record { newer = []; earlier = earlier; are = λ i. record { key = keys i; rate = one i } ∷ earlier; first = tt }
    by false same h more =
        let rest = more h in
        record { newer = learned ∷ rest.newer; earlier = rest.earlier; are = ap (λ (all : List LearnedRate). learned ∷ all) rest.are; first = (same, rest.first) }

pub nothing_learned : (rates : List LearnedRate) (key : RateKey) → learned_last rates key ≡ None → none_of (teaches key) rates
nothing_learned [] key h = tt
nothing_learned (learned ∷ earlier) key h = by (same_rate_key learned.key key) refl h (λ was. nothing_learned earlier key was)
  where
    by : (same : Bool) → same_rate_key learned.key key ≡ same → cond same (Some learned.rate) (learned_last earlier key) ≡ None
        → (learned_last earlier key ≡ None → none_of (teaches key) earlier) → none_of (teaches key) (learned ∷ earlier)
    by true same h more = cc h
    by false same h more = (same, more h)

pub nothing_where_none : (rates : List LearnedRate) (key : RateKey) → none_of (teaches key) rates → learned_last rates key ≡ None
nothing_where_none [] key h = refl
nothing_where_none (learned ∷ earlier) key h = rw h.0 (nothing_where_none earlier key h.1)
