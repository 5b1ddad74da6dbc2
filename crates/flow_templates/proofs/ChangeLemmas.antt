-- What the derived tests find the same is the same, and what changes leave.
use Rattle.std.specs.Option.{option_copied}
use Rattle.std.proofs.Common.{Bor, ◌≡◌, ◌==◌, ◌∷◌, [], List, Bool, true, false, Option, Some, None, refl, ap, subst}
use Rattle.std.specs.Prelude.{◌&&◌, IfSome, if◌then◌else◌}
use Rattle.std.proofs.lemmas.Bool.{and_from, and_parts, eq-eqb, eqb-true}
use Rattle.acct_types.specs.declared.addr.Addr.{Addr}
use Rattle.acct_types.specs.declared.addr.Addr.TheVariants.{V4, V6}
use Rattle.acct_types.specs.contracts.addr.AddrPartialEq.TheImpl as address_equality
use Rattle.flow_templates.specs.declared.template.Domain.{Domain}
use Rattle.flow_templates.specs.declared.template.Template.{Template}
use Rattle.flow_templates.specs.declared.template.TemplateKey.{TemplateKey}
use Rattle.flow_templates.specs.declared.change.TemplateChange.{TemplateChange}
use Rattle.flow_templates.specs.declared.change.TemplateChange.TheVariants.{Put, Withdraw, WithdrawAll}
use Rattle.flow_templates.specs.contracts.template.DomainPartialEq.TheImpl as domain_equality
use Rattle.flow_templates.specs.contracts.template.TemplateKeyPartialEq.TheImpl as key_equality
use Rattle.flow_templates.specs.Changes.{after, after_all, ChangesAddUp, PutDefined, PutsDefined, same_address, same_domain, same_key, without_kind}
use Rattle.flow_templates.specs.Templates.{IsDefined}

same_addresses : (a b : Addr) → (address_equality.eq-value).it a b ≡ same_address a b
same_addresses (V4 a) (V4 b) = refl
same_addresses (V4 a) (V6 b) = refl
same_addresses (V6 a) (V4 b) = refl
same_addresses (V6 a) (V6 b) = refl

pub domains_same : (a b : Domain) → (domain_equality.eq-value).it a b ≡ same_domain a b
domains_same a b = ap (λ (first : Bool). first && (a.version == b.version && a.id == b.id)) (same_addresses a.exporter b.exporter)

pub keys_same : (a b : TemplateKey) → (key_equality.eq-value).it a b ≡ same_key a b
keys_same a b = ap (λ (first : Bool). first && a.id == b.id) (domains_same a.domain b.domain)

-- the derived tests whole
pub domain_tests_same : (domain_equality.eq-value).it ≡ same_domain
domain_tests_same = λ i a b. domains_same a b i

pub key_tests_same : (key_equality.eq-value).it ≡ same_key
key_tests_same = λ i a b. keys_same a b i

exact_addresses : (a b : Addr) → same_address a b ≡ true → a ≡ b
exact_addresses (V4 a) (V4 b) h = ap V4 (eqb-true a b h)
exact_addresses (V4 a) (V6 b) h = cc h
exact_addresses (V6 a) (V4 b) h = cc h
exact_addresses (V6 a) (V6 b) h = ap V6 (eqb-true a b h)

pub exact_domains : (a b : Domain) → same_domain a b ≡ true → a ≡ b
exact_domains a b h =
    let first = and_parts (same_address a.exporter b.exporter) (a.version == b.version && a.id == b.id) h in
    let others = and_parts (a.version == b.version) (a.id == b.id) first.1 in
    λ i. record {
      exporter = exact_addresses a.exporter b.exporter first.0 i;
      version = eqb-true a.version b.version others.0 i;
      id = eqb-true a.id b.id others.1 i;
    }

pub exact_keys : (a b : TemplateKey) → same_key a b ≡ true → a ≡ b
exact_keys a b h =
    let parts = and_parts (same_domain a.domain b.domain) (a.id == b.id) h in
    λ i. record { domain = exact_domains a.domain b.domain parts.0 i; id = eqb-true a.id b.id parts.1 i }

same_address_self : (a : Addr) → same_address a a ≡ true
same_address_self (V4 a) = eq-eqb a a refl
same_address_self (V6 a) = eq-eqb a a refl

pub same_domain_self : (a : Domain) → same_domain a a ≡ true
same_domain_self a = and_from _ _ (same_address_self a.exporter) (and_from _ _ (eq-eqb a.version a.version refl) (eq-eqb a.id a.id refl))

pub same_key_self : (a : TemplateKey) → same_key a a ≡ true
same_key_self a = and_from _ _ (same_domain_self a.domain) (eq-eqb a.id a.id refl)

-- ---- what is found after changes is what an accepted record defines

abbrev pub DefinedAt : TemplateKey → Option Template → Type 0
DefinedAt key found = IfSome found (λ template. IsDefined key.domain.version template)

none_or : (key : TemplateKey) (gone : Bool) (before : Option Template) → DefinedAt key before → DefinedAt key (if gone then None else before)
none_or key true before h = tt
none_or key false before h = h

without : (key : TemplateKey) (options : Bool) (before : Option Template) → DefinedAt key before → DefinedAt key (without_kind options before)
without key options None h = tt
without key options (Some template) h = none_or key _ (Some template) h

either : (key : TemplateKey) (one : Bool) (new before : Option Template) → (one ≡ true → DefinedAt key new) → DefinedAt key before → DefinedAt key (if one then new else before)
either key true new before p h = p refl
either key false new before p h = h

pub defined_after : (change : TemplateChange) (key : TemplateKey) (before : Option Template) → PutsDefined change → DefinedAt key before → DefinedAt key (after change key before)
defined_after (Put put template) key before ok h =
    either key (same_key put key) (Some template) before
    (λ same. subst (λ (k : TemplateKey). IsDefined k.domain.version template) (exact_keys put key same) ok) h
defined_after (Withdraw withdrawn) key before ok h = none_or key (same_key withdrawn key) before h
defined_after (WithdrawAll domain options) key before ok h =
    either key (same_domain domain key.domain) (without_kind options before) before (λ same. without key options before h) h

pub defined_after_all : (changes : List TemplateChange) (key : TemplateKey) (before : Option Template) → PutDefined changes → DefinedAt key before
    → DefinedAt key (after_all changes key before)
defined_after_all [] key before ok h = h
defined_after_all (change ∷ changes) key before ok h =
    defined_after_all changes key (after change key before) ok.1 (defined_after change key before ok.0 h)

-- what is said of a template is said of it behind its reference
pub if_found : (P : Template → Type 0) (found : Option (Bor Template)) → IfSome (option_copied found) P → IfSome found (λ template. P template.now)
if_found P None h = tt
if_found P (Some template) h = h

pub found_if : (P : Template → Type 0) (found : Option (Bor Template)) → IfSome found (λ template. P template.now) → IfSome (option_copied found) P
found_if P None h = tt
found_if P (Some template) h = h

-- ---- changes behind one another

pub add_up : ChangesAddUp
add_up [] last key before = refl
add_up (change ∷ changes) last key before = add_up changes last key (after change key before)
