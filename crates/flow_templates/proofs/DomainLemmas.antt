-- What is found in templates that are kept domain by domain, after each change.
use Rattle.std.proofs.Common.{◌≡◌, ◌∙◌, ◌==◌, ◌++◌, ◌∷◌, ◌≤◌, ℕ, [], List, Bool, true, false, cond, Option, Some, None, arith, refl, sym, ap, ap₂, subst}
use Rattle.std.specs.Prelude.{◌&&◌, if◌then◌else◌, IfSome, MatchOption}
use Rattle.std.specs.List.{AllByRecursion, IsDistinct}
use Rattle.std.specs.Map.{lookup, keys_of, set_value}
use Rattle.std.specs.Option.{option_or}
use Rattle.indexmap.specs.IndexMap.{insert_entry}
use Rattle.flow_templates.specs.declared.template.Domain.{Domain}
use Rattle.flow_templates.specs.declared.template.Template.{Template}
use Rattle.flow_templates.specs.declared.template.TemplateKey.{TemplateKey}
use Rattle.flow_templates.specs.declared.change.TemplateChange.{TemplateChange}
use Rattle.flow_templates.specs.declared.change.TemplateChange.TheVariants.{Put, Withdraw, WithdrawAll}
use Rattle.flow_templates.specs.Changes.{Entries, found, same_domain, same_key, without_kind}
use Rattle.flow_templates.specs.Domains.{AreParted, Domains, HasRoom, HasRoomFor, Numbered, Renumbers, entries_of, keyed, numbered}
use Rattle.flow_templates.specs.contracts.template.DomainPartialEq.TheImpl as domain_equality
use Rattle.flow_templates.proofs.ChangeLemmas.{domain_tests_same, exact_domains}

pub in_either : {K X : Type 0} (test : K → Bool) (a b : List (K × X)) → lookup test (a ++ b) ≡ option_or (lookup test a) (lookup test b)
in_either test [] b = refl
in_either test (e ∷ a) b = by (test e.0) (in_either test a b)
  where
    by : (c : Bool) → lookup test (a ++ b) ≡ option_or (lookup test a) (lookup test b)
        → cond c (Some e.1) (lookup test (a ++ b)) ≡ option_or (cond c (Some e.1) (lookup test a)) (lookup test b)
    by true rest = refl
    by false rest = rest

-- ---- the templates of one domain

pub renumbered : (a b new_a new_b : List (ℕ × Template)) (id : ℕ) (x y : Option Template) → Renumbers a new_a id x → Renumbers b new_b id y
    → Renumbers (a ++ b) (new_a ++ new_b) id (option_or x y)
renumbered a b new_a new_b id x y in_a in_b other =
    in_either _ new_a new_b ∙ ap₂ option_or (in_a other) (in_b other) ∙ by (id == other)
  where
    by : (c : Bool) → option_or (if c then x else numbered a other) (if c then y else numbered b other) ≡ (if c then option_or x y else numbered (a ++ b) other)
    by true = refl
    by false = sym (in_either _ a b)

if_kept : (P : Template → Type 0) (gone : Bool) (found : Option Template) → IfSome found P → IfSome (if gone then None else found) P
if_kept P true found h = tt
if_kept P false found h = h

none_kept : (gone : Bool) (found : Option Template) → found ≡ None → (if gone then None else found) ≡ None
none_kept true found h = refl
none_kept false found h = h

pub still_parted : (a b new_a new_b : List (ℕ × Template)) (id : ℕ) → Renumbers a new_a id None → Renumbers b new_b id None → AreParted a b → AreParted new_a new_b
still_parted a b new_a new_b id in_a in_b parted = record {
  others_kind = λ other. rw (in_a other) (if_kept _ (id == other) (numbered a other) (parted.others_kind other));
  options_kind = λ other. rw (in_b other) (if_kept _ (id == other) (numbered b other) (parted.options_kind other));
  one = λ other. rw (in_a other, in_b other) (both (id == other) (numbered a other) (numbered b other) (parted.one other));
}
  where
    both : (gone : Bool) (x y : Option Template) → IfSome x (λ template. y ≡ None) → IfSome (if gone then None else x) (λ template. (if gone then None else y) ≡ None)
    both true x y h = tt
    both false x y h = h

-- without the options templates the others are left
pub without_options : (a b new_b : List (ℕ × Template)) → new_b ≡ [] → AreParted a b → (id : ℕ) → numbered (a ++ new_b) id ≡ without_kind true (numbered (a ++ b) id)
without_options a b new_b none parted id =
    in_either _ a new_b ∙ ap (λ (left : List (ℕ × Template)). option_or (numbered a id) (numbered left id)) none
    ∙ by (numbered a id) (numbered b id) (parted.others_kind id) (parted.options_kind id)
    ∙ ap (without_kind true) (sym (in_either _ a b))
  where
    by : (x y : Option Template) → IfSome x (λ template. template.options ≡ false) → IfSome y (λ template. template.options ≡ true) → option_or x None ≡ without_kind true (option_or x y)
    by None None other option = refl
    by None (Some template) other option = rw option refl
    by (Some template) y other option = rw other refl

pub without_others : (a b new_a : List (ℕ × Template)) → new_a ≡ [] → AreParted a b → (id : ℕ) → numbered (new_a ++ b) id ≡ without_kind false (numbered (a ++ b) id)
without_others a b new_a none parted id =
    ap (λ (left : List (ℕ × Template)). numbered (left ++ b) id) none
    ∙ by (numbered a id) (numbered b id) (parted.others_kind id) (parted.options_kind id) (parted.one id)
    ∙ ap (without_kind false) (sym (in_either _ a b))
  where
    by : (x y : Option Template) → IfSome x (λ template. template.options ≡ false) → IfSome y (λ template. template.options ≡ true) → IfSome x (λ template. y ≡ None)
        → y ≡ without_kind false (option_or x y)
    by None None other option one = refl
    by None (Some template) other option one = rw option refl
    by (Some template) y other option one = rw other one

-- ---- the templates of all domains

abbrev pub held : Option Numbered → ℕ → Option Template
held None id = None
held (Some kept) id = numbered kept.templates id

found_keyed : (domain : Domain) (templates : List (ℕ × Template)) (key : TemplateKey)
    → found (keyed domain templates) key ≡ (if same_domain key.domain domain then numbered templates key.id else None)
found_keyed domain [] key = by (same_domain key.domain domain)
  where
    by : (c : Bool) → ◌≡◌ {A = Option Template} None (if c then None else None)
    by true = refl
    by false = refl
found_keyed domain (e ∷ templates) key = by (same_domain key.domain domain) (found_keyed domain templates key)
  where
    by : (c : Bool) → found (keyed domain templates) key ≡ (if c then numbered templates key.id else None)
        → cond (c && key.id == e.0) (Some e.1) (found (keyed domain templates) key) ≡ (if c then cond (key.id == e.0) (Some e.1) (numbered templates key.id) else None)
    by true h = ap (cond (key.id == e.0) (Some e.1)) h
    by false h = h

none_of : (domain : Domain) (domains : Domains) → AllByRecursion (λ other. same_domain domain other ≡ false) (keys_of domains) → lookup (same_domain domain) domains ≡ None
none_of domain [] h = refl
none_of domain (e ∷ domains) h = rw h.0 (none_of domain domains h.1)

pub found_held : (domains : Domains) → IsDistinct same_domain (keys_of domains) → (key : TemplateKey)
    → found (entries_of domains) key ≡ held (lookup (same_domain key.domain) domains) key.id
unfolding IsDistinct
found_held [] apart key = refl
found_held (e ∷ domains) apart key =
    in_either (same_key key) (keyed e.0 e.1.templates) (entries_of domains)
    ∙ ap₂ option_or (found_keyed e.0 e.1.templates key) (found_held domains apart.1 key)
    ∙ by (same_domain key.domain e.0) (λ same. none_of key.domain domains (subst (λ (d : Domain). AllByRecursion (λ other. same_domain d other ≡ false) (keys_of domains)) (sym (exact_domains key.domain e.0 same)) apart.0))
  where
    alone : (x : Option Template) → option_or x None ≡ x
    alone None = refl
    alone (Some template) = refl

    by : (c : Bool) → (c ≡ true → lookup (same_domain key.domain) domains ≡ None)
        → option_or (if c then numbered e.1.templates key.id else None) (held (lookup (same_domain key.domain) domains) key.id)
        ≡ held (cond c (Some e.1) (lookup (same_domain key.domain) domains)) key.id
    by true none = ap (λ (rest : Option Numbered). option_or (numbered e.1.templates key.id) (held rest key.id)) (none refl) ∙ alone (numbered e.1.templates key.id)
    by false none = refl

-- one domain's value is another, and the others stay
abbrev pub Writes : Domains → Domains → Domain → Numbered → Type 0
Writes old new domain kept = (other : Domain) → lookup (same_domain other) new ≡ cond (same_domain domain other) (Some kept) (lookup (same_domain other) old)

module _ (old new : Domains) (domain : Domain) (was kept : Numbered) (there : lookup (same_domain domain) old ≡ Some was) (writes : Writes old new domain kept) where
  pub one_changes : IsDistinct same_domain (keys_of old) → IsDistinct same_domain (keys_of new) → (effect : ℕ → Option Template → Option Template)
      → ((id : ℕ) → numbered kept.templates id ≡ effect id (numbered was.templates id)) → (key : TemplateKey)
      → found (entries_of new) key ≡ (if same_domain domain key.domain then effect key.id (found (entries_of old) key) else found (entries_of old) key)
  one_changes old_apart new_apart effect changed key =
      found_held new new_apart key ∙ ap (λ (one : Option Numbered). held one key.id) (writes key.domain)
      ∙ by (same_domain domain key.domain) (λ same. subst (λ (d : Domain). lookup (same_domain d) old ≡ Some was) (exact_domains domain key.domain same) there)
      ∙ ap (λ (before : Option Template). if same_domain domain key.domain then effect key.id before else before) (sym (found_held old old_apart key))
    where
      by : (c : Bool) → (c ≡ true → lookup (same_domain key.domain) old ≡ Some was)
          → held (cond c (Some kept) (lookup (same_domain key.domain) old)) key.id
          ≡ (if c then effect key.id (held (lookup (same_domain key.domain) old) key.id) else held (lookup (same_domain key.domain) old) key.id)
      by true is = changed key.id ∙ ap (λ (one : Option Numbered). effect key.id (held one key.id)) (sym (is refl))
      by false is = refl

  pub keeps_room : (n m : ℕ) → (n ≤ was.room → m ≤ kept.room) → m ≤ n → (other : Domain) → HasRoom old other n → HasRoom new other m
  keeps_room n m less down other room =
      rw (writes other) (by (same_domain domain other) (lookup (same_domain other) old) (λ same. subst (λ (d : Domain). lookup (same_domain d) old ≡ Some was) (exact_domains domain other same) there) room)
    where
      by : (c : Bool) (before : Option Numbered) → (c ≡ true → before ≡ Some was) → MatchOption before (n ≤ 0) (λ one. n ≤ one.room)
          → MatchOption (cond c (Some kept) before) (m ≤ 0) (λ one. m ≤ one.room)
      by true before is h = less (subst (λ (one : Option Numbered). MatchOption one (n ≤ 0) (λ one. n ≤ one.room)) (is refl) h)
      by false None is h = omega (arith, h, down)
      by false (Some one) is h = omega (arith, h, down)

pub less_room : (domains : Domains) (domain : Domain) (n m : ℕ) → m ≤ n → HasRoom domains domain n → HasRoom domains domain m
less_room domains domain n m down h = by (lookup (same_domain domain) domains) h
  where
    by : (one : Option Numbered) → MatchOption one (n ≤ 0) (λ kept. n ≤ kept.room) → MatchOption one (m ≤ 0) (λ kept. m ≤ kept.room)
    by None h = omega (arith, h, down)
    by (Some kept) h = omega (arith, h, down)

-- nothing is found of a domain that has no templates
pub nothing_held : (domains : Domains) → IsDistinct same_domain (keys_of domains) → (domain : Domain) → lookup (same_domain domain) domains ≡ None
    → (effect : Option Template → Option Template) → effect None ≡ None → (key : TemplateKey)
    → found (entries_of domains) key ≡ (if same_domain domain key.domain then effect (found (entries_of domains) key) else found (entries_of domains) key)
nothing_held domains apart domain none effect nothing key = by (same_domain domain key.domain) (λ same. found_held domains apart key ∙ ap (λ (one : Option Numbered). held one key.id) (subst (λ (d : Domain). lookup (same_domain d) domains ≡ None) (exact_domains domain key.domain same) none))
  where
    by : (c : Bool) → (c ≡ true → found (entries_of domains) key ≡ None)
        → found (entries_of domains) key ≡ (if c then effect (found (entries_of domains) key) else found (entries_of domains) key)
    by true is = is refl ∙ sym nothing ∙ ap effect (sym (is refl))
    by false is = refl

pub in_both : {X : Type 0} (a b : Bool) (x y : X) → (if a then (if b then x else y) else y) ≡ (if a && b then x else y)
in_both true b x y = refl
in_both false b x y = refl

-- ---- the entries where no template changes

pub same_written : (test : Domain → Bool) (domains : Domains) (was kept : Numbered) → lookup test domains ≡ Some was → kept.templates ≡ was.templates
    → entries_of (set_value test domains kept) ≡ entries_of domains
same_written test [] was kept there same = refl
same_written test (e ∷ domains) was kept there same = by (test e.0) there (λ is. same_written test domains was kept is same)
  where
    by : (c : Bool) → cond c (Some e.1) (lookup test domains) ≡ Some was
        → (lookup test domains ≡ Some was → entries_of (set_value test domains kept) ≡ entries_of domains)
        → entries_of (cond c ((e.0, kept) ∷ domains) (e ∷ set_value test domains kept)) ≡ keyed e.0 e.1.templates ++ entries_of domains
    by true is rest =
        let first : e.1 ≡ was = cc is in
        ap (λ (templates : List (ℕ × Template)). keyed e.0 templates ++ entries_of domains) (same ∙ sym (ap (λ (one : Numbered). one.templates) first))
    by false is rest = ap (λ (others : Entries). keyed e.0 e.1.templates ++ others) (rest is)

pub same_inserted : (eq : Domain → Domain → Bool) (domains : Domains) (domain : Domain) (kept : Numbered) → lookup (eq domain) domains ≡ None → kept.templates ≡ []
    → entries_of (insert_entry eq domains domain kept) ≡ entries_of domains
same_inserted eq [] domain kept none empty = ap (λ (templates : List (ℕ × Template)). keyed domain templates ++ []) empty
same_inserted eq (e ∷ domains) domain kept none empty = by (eq domain e.0) none (λ is. same_inserted eq domains domain kept is empty)
  where
    by : (c : Bool) → cond c (Some e.1) (lookup (eq domain) domains) ≡ None
        → (lookup (eq domain) domains ≡ None → entries_of (insert_entry eq domains domain kept) ≡ entries_of domains)
        → entries_of (cond c ((e.0, kept) ∷ domains) (e ∷ insert_entry eq domains domain kept)) ≡ keyed e.0 e.1.templates ++ entries_of domains
    by true is rest = cc is
    by false is rest = ap (λ (others : Entries). keyed e.0 e.1.templates ++ others) (rest is)

-- ---- what is said with the derived test of domains

pub apart_by : (domains : Domains) → IsDistinct (domain_equality.eq-value).it (keys_of domains) → IsDistinct same_domain (keys_of domains)
apart_by domains h = subst (λ (eq : Domain → Domain → Bool). IsDistinct eq (keys_of domains)) domain_tests_same h

pub held_by : (domains : Domains) (domain : Domain) (one : Option Numbered) → one ≡ lookup ((domain_equality.eq-value).it domain) domains → lookup (same_domain domain) domains ≡ one
held_by domains domain one h = sym (subst (λ (eq : Domain → Domain → Bool). one ≡ lookup (eq domain) domains) domain_tests_same h)

pub writes_by : (old new : Domains) (domain : Domain) (kept : Numbered)
    → ((other : Domain) → lookup ((domain_equality.eq-value).it other) new ≡ cond ((domain_equality.eq-value).it domain other) (Some kept) (lookup ((domain_equality.eq-value).it other) old))
    → Writes old new domain kept
writes_by old new domain kept h =
    subst (λ (eq : Domain → Domain → Bool). (other : Domain) → lookup (eq other) new ≡ cond (eq domain other) (Some kept) (lookup (eq other) old)) domain_tests_same h

-- a domain that had no templates has them now
pub room_inserted : (old new : Domains) (domain : Domain) (kept : Numbered) → lookup (same_domain domain) old ≡ None → Writes old new domain kept
    → (other : Domain) (most : ℕ) → HasRoom old other most → HasRoom new other most
room_inserted old new domain kept none writes other most room =
    rw (writes other) (by (same_domain domain other) (lookup (same_domain other) old) (λ same. subst (λ (d : Domain). lookup (same_domain d) old ≡ None) (exact_domains domain other same) none) room)
  where
    by : (c : Bool) (before : Option Numbered) → (c ≡ true → before ≡ None) → MatchOption before (most ≤ 0) (λ one. most ≤ one.room)
        → MatchOption (cond c (Some kept) before) (most ≤ 0) (λ one. most ≤ one.room)
    by true before is h =
        let few : most ≤ 0 = subst (λ (one : Option Numbered). MatchOption one (most ≤ 0) (λ one. most ≤ one.room)) (is refl) h in
        omega (arith, few)
    by false before is h = h

-- ---- room for changes

pub more_room_for : (old new : Domains) (n m : ℕ) → ((domain : Domain) → HasRoom old domain n → HasRoom new domain m) → (change : TemplateChange) → HasRoomFor old n change → HasRoomFor new m change
more_room_for old new n m more (Put key template) h = more key.domain h
more_room_for old new n m more (Withdraw key) h = tt
more_room_for old new n m more (WithdrawAll domain options) h = tt

pub room_for_none : (domains : Domains) (count : ℕ) (change : TemplateChange) → ((key : TemplateKey) (template : Template) → change ≡ Put key template → ⊥) → HasRoomFor domains count change
room_for_none domains count (Put key template) other = absurd (other key template refl)
room_for_none domains count (Withdraw key) other = tt
room_for_none domains count (WithdrawAll domain options) other = tt
