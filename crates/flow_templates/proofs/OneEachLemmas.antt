-- Each id of a domain, and each key, has one template.
use Rattle.std.proofs.Common.{◌≡◌, ◌==◌, ◌++◌, ◌∷◌, [], ℕ, List, Bool, true, false, cond, Option, Some, None, refl}
use Rattle.std.proofs.lemmas.Bool.{and_left, and_right, eq-eqb}
use Rattle.std.proofs.lemmas.Map.{NonePasses, none_passes_from_lookup}
use Rattle.std.specs.Prelude.{IfSome}
use Rattle.std.specs.List.{AllByRecursion, IsDistinct}
use Rattle.std.specs.Map.{keys_of, set_value}
use Rattle.indexmap.specs.IndexMap.{insert_entry}
use Rattle.flow_templates.specs.declared.template.Domain.{Domain}
use Rattle.flow_templates.specs.declared.template.Template.{Template}
use Rattle.flow_templates.specs.declared.template.TemplateKey.{TemplateKey}
use Rattle.flow_templates.specs.Changes.{HasOneEach, same_domain, same_key}
use Rattle.flow_templates.specs.Domains.{AreParted, Domains, HasOneAnId, HaveOneAnId, Numbered, entries_of, keyed, numbered}
use Rattle.flow_templates.specs.Keys.{key_of}

-- ---- keys behind one another

module _ {K X : Type 0} where
  all_keys : (P : K → Type 0) (a b : List (K × X)) → AllByRecursion P (keys_of a) → AllByRecursion P (keys_of b) → AllByRecursion P (keys_of (a ++ b))
  all_keys P [] b in_a in_b = in_b
  all_keys P (e ∷ a) b in_a in_b = (in_a.0, all_keys P a b in_a.1 in_b)

  -- two lists of entries that share no key
  distinct_both : (eq : K → K → Bool) (a b : List (K × X)) → IsDistinct eq (keys_of a) → IsDistinct eq (keys_of b)
      → AllByRecursion (λ e. AllByRecursion (λ key. eq e.0 key ≡ false) (keys_of b)) a → IsDistinct eq (keys_of (a ++ b))
  unfolding IsDistinct
  distinct_both eq [] b in_a in_b apart = in_b
  distinct_both eq (e ∷ a) b in_a in_b apart = (all_keys (λ key. eq e.0 key ≡ false) a b in_a.0 apart.0, distinct_both eq a b in_a.1 in_b apart.1)

  no_key : (test : K → Bool) (entries : List (K × X)) → NonePasses test entries → AllByRecursion (λ key. test key ≡ false) (keys_of entries)
  no_key test [] h = tt
  no_key test (e ∷ entries) h = (h.0, no_key test entries h.1)

-- ---- the templates of one domain

always : (P : Type 0) (x : Option Template) → P → IfSome x (λ template. P)
always P None h = tt
always P (Some template) h = h

ids_apart : (a b : List (ℕ × Template)) → ((id : ℕ) → IfSome (numbered a id) (λ template. numbered b id ≡ None))
    → AllByRecursion (λ e. AllByRecursion (λ id. (e.0 == id) ≡ false) (keys_of b)) a
ids_apart [] b one = tt
ids_apart (e ∷ a) b one = (
  no_key (λ id. e.0 == id) b (none_passes_from_lookup _ b (first (e.0 == e.0) (eq-eqb e.0 e.0 refl) (one e.0))),
  ids_apart a b (λ id. rest id (id == e.0) (one id)),
)
  where
    first : (c : Bool) → c ≡ true → IfSome (cond c (Some e.1) (numbered a e.0)) (λ template. numbered b e.0 ≡ None) → numbered b e.0 ≡ None
    first true is h = h
    first false is h = cc is

    rest : (id : ℕ) (c : Bool) → IfSome (cond c (Some e.1) (numbered a id)) (λ template. numbered b id ≡ None) → IfSome (numbered a id) (λ template. numbered b id ≡ None)
    rest id true h = always (numbered b id ≡ None) (numbered a id) h
    rest id false h = h

pub one_an_id : (others options : List (ℕ × Template)) → HasOneAnId others → HasOneAnId options → AreParted others options → HasOneAnId (others ++ options)
one_an_id others options in_others in_options parted = distinct_both (λ a b. a == b) others options in_others in_options (ids_apart others options parted.one)

pub one_of_none : HasOneAnId []
unfolding IsDistinct
one_of_none = tt

-- ---- the domain that is written

pub one_an_id_written : (test : Domain → Bool) (domains : Domains) (kept : Numbered) → HasOneAnId kept.templates → HaveOneAnId domains → HaveOneAnId (set_value test domains kept)
one_an_id_written test [] kept one h = tt
one_an_id_written test (e ∷ domains) kept one h = by (test e.0) (one_an_id_written test domains kept one h.1)
  where
    by : (c : Bool) → HaveOneAnId (set_value test domains kept) → HaveOneAnId (cond c ((e.0, kept) ∷ domains) (e ∷ set_value test domains kept))
    by true rest = (one, h.1)
    by false rest = (h.0, rest)

pub one_an_id_inserted : (eq : Domain → Domain → Bool) (domains : Domains) (domain : Domain) (kept : Numbered) → HasOneAnId kept.templates → HaveOneAnId domains
    → HaveOneAnId (insert_entry eq domains domain kept)
one_an_id_inserted eq [] domain kept one h = (one, tt)
one_an_id_inserted eq (e ∷ domains) domain kept one h = by (eq domain e.0) (one_an_id_inserted eq domains domain kept one h.1)
  where
    by : (c : Bool) → HaveOneAnId (insert_entry eq domains domain kept) → HaveOneAnId (cond c ((e.0, kept) ∷ domains) (e ∷ insert_entry eq domains domain kept))
    by true rest = (one, h.1)
    by false rest = (h.0, rest)

-- ---- the templates of all domains

other_ids : (domain : Domain) (id : ℕ) (templates : List (ℕ × Template)) → AllByRecursion (λ other. (id == other) ≡ false) (keys_of templates)
    → AllByRecursion (λ other. same_key (key_of domain id) other ≡ false) (keys_of (keyed domain templates))
other_ids domain id [] h = tt
other_ids domain id (e ∷ templates) h = (and_right (same_domain domain domain) (id == e.0) h.0, other_ids domain id templates h.1)

keyed_once : (domain : Domain) (templates : List (ℕ × Template)) → HasOneAnId templates → HasOneEach (keyed domain templates)
unfolding IsDistinct
keyed_once domain [] h = tt
keyed_once domain (e ∷ templates) h = (other_ids domain e.0 templates h.0, keyed_once domain templates h.1)

of_other_domain : (key : TemplateKey) (domain : Domain) (templates : List (ℕ × Template)) → same_domain key.domain domain ≡ false
    → AllByRecursion (λ other. same_key key other ≡ false) (keys_of (keyed domain templates))
of_other_domain key domain [] other = tt
of_other_domain key domain (e ∷ templates) other = (and_left (same_domain key.domain domain) (key.id == e.0) other, of_other_domain key domain templates other)

of_other_domains : (key : TemplateKey) (domains : Domains) → AllByRecursion (λ other. same_domain key.domain other ≡ false) (keys_of domains)
    → AllByRecursion (λ other. same_key key other ≡ false) (keys_of (entries_of domains))
of_other_domains key [] others = tt
of_other_domains key (e ∷ domains) others =
    all_keys (λ other. same_key key other ≡ false) (keyed e.0 e.1.templates) (entries_of domains) (of_other_domain key e.0 e.1.templates others.0) (of_other_domains key domains others.1)

keyed_apart : (domain : Domain) (templates : List (ℕ × Template)) (domains : Domains) → AllByRecursion (λ other. same_domain domain other ≡ false) (keys_of domains)
    → AllByRecursion (λ e. AllByRecursion (λ other. same_key e.0 other ≡ false) (keys_of (entries_of domains))) (keyed domain templates)
keyed_apart domain [] domains others = tt
keyed_apart domain (e ∷ templates) domains others = (of_other_domains (key_of domain e.0) domains others, keyed_apart domain templates domains others)

pub one_each : (domains : Domains) → IsDistinct same_domain (keys_of domains) → HaveOneAnId domains → HasOneEach (entries_of domains)
unfolding IsDistinct
one_each [] apart h = tt
one_each (e ∷ domains) apart h =
    distinct_both same_key (keyed e.0 e.1.templates) (entries_of domains) (keyed_once e.0 e.1.templates h.0) (one_each domains apart.1 h.1)
    (keyed_apart e.0 e.1.templates domains apart.0)
