-- What the derived test of rates' keys finds the same is the same.
use Rattle.std.proofs.Common.{◌≡◌, refl, ◌∷◌, [], List, Bool, Option, Some, None, ℕ, true, cond, ap, subst}
use Rattle.std.proofs.lemmas.Bool.{and_from, and_parts, eq-eqb, eqb-true}
use Rattle.std.specs.Prelude.{◌&&◌}
use Rattle.std.specs.Map.{lookup}
use Rattle.flow_templates.specs.declared.rate.RateKey.{RateKey}
use Rattle.flow_templates.specs.declared.template.Domain.{Domain}
use Rattle.flow_templates.specs.contracts.rate.RateKeyPartialEq.TheImpl as key_equality
use Rattle.flow_templates.specs.Changes.{same_domain}
use Rattle.flow_templates.specs.Known.{RatesAddUp, rate_found, rate_key_of, rate_learned, same_rate_key, same_sampler}
use Rattle.flow_templates.proofs.ChangeLemmas.{domains_same, exact_domains, same_domain_self}

by_sampler : (d e : Domain) (a b : Option ℕ) → (key_equality.eq-value).it (rate_key_of d a) (rate_key_of e b) ≡ same_rate_key (rate_key_of d a) (rate_key_of e b)
by_sampler d e None None = ap (λ (first : Bool). first && same_sampler None None) (domains_same d e)
by_sampler d e None (Some b) = ap (λ (first : Bool). first && same_sampler None (Some b)) (domains_same d e)
by_sampler d e (Some a) None = ap (λ (first : Bool). first && same_sampler (Some a) None) (domains_same d e)
by_sampler d e (Some a) (Some b) = ap (λ (first : Bool). first && same_sampler (Some a) (Some b)) (domains_same d e)

pub rate_keys_same : (a b : RateKey) → (key_equality.eq-value).it a b ≡ same_rate_key a b
rate_keys_same a b = by_sampler a.domain b.domain a.sampler b.sampler

exact_samplers : (a b : Option ℕ) → same_sampler a b ≡ true → a ≡ b
exact_samplers None None h = refl
exact_samplers None (Some b) h = cc h
exact_samplers (Some a) None h = cc h
exact_samplers (Some a) (Some b) h = ap Some (eqb-true a b h)

pub exact_rate_keys : (a b : RateKey) → same_rate_key a b ≡ true → a ≡ b
exact_rate_keys a b h =
    let parts = and_parts (same_domain a.domain b.domain) (same_sampler a.sampler b.sampler) h in
    λ i. record { domain = exact_domains a.domain b.domain parts.0 i; sampler = exact_samplers a.sampler b.sampler parts.1 i }

same_sampler_self : (a : Option ℕ) → same_sampler a a ≡ true
same_sampler_self None = refl
same_sampler_self (Some a) = eq-eqb a a refl

pub same_rate_key_self : (a : RateKey) → same_rate_key a a ≡ true
same_rate_key_self a = and_from _ _ (same_domain_self a.domain) (same_sampler_self a.sampler)

-- the derived test whole
pub rate_tests_same : (key_equality.eq-value).it ≡ same_rate_key
rate_tests_same = λ i a b. rate_keys_same a b i

-- what is said by the derived test of keys
abbrev pub UpdatedRate : (RateKey → RateKey → Bool) → List (RateKey × ℕ) → List (RateKey × ℕ) → RateKey → ℕ → Type 0
UpdatedRate eq old new key rate = (other : RateKey) → lookup (eq other) new ≡ cond (eq key other) (Some rate) (lookup (eq other) old)

pub updated_rate : (old new : List (RateKey × ℕ)) (key : RateKey) (rate : ℕ) → UpdatedRate (key_equality.eq-value).it old new key rate → UpdatedRate same_rate_key old new key rate
updated_rate old new key rate h = subst (λ (eq : RateKey → RateKey → Bool). UpdatedRate eq old new key rate) rate_tests_same h

pub rate_found_by : (entries : List (RateKey × ℕ)) (key : RateKey) → lookup ((key_equality.eq-value).it key) entries ≡ rate_found entries key
rate_found_by entries key = ap (λ (eq : RateKey → RateKey → Bool). lookup (eq key) entries) rate_tests_same

-- ---- rates behind one another

pub rates_up : RatesAddUp
rates_up [] last key before = refl
rates_up (learned ∷ later) last key before = rates_up later last key (rate_learned learned key before)
