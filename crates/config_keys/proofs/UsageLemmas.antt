-- The commands are simple, so their matches and their refusals are known.
use Rattle.std.proofs.Common.{◌≡◌, ◌∙◌, ◌⊎◌, [], ◌∷◌, List, ap, refl, subst, true, inl, inr}
use Rattle.std.proofs.Common.{◌<◌, ℕ, Option, Some, None, get_or, map, option_map, codes, sym, arith}
use Rattle.std.specs.Prelude.{IfSome, slice_get, option_and_then, pos}
use Rattle.std.specs.Borrow.{Bor}
use Rattle.std.specs.List.{All, AllByRecursion}
use Rattle.std.specs.Str.{bytes_eq}
use Rattle.std.proofs.lemmas.List.{get_or-map, length-map}
use Rattle.std.proofs.lemmas.List.Elements.{All-from_recursion, All-get_or}
use Rattle.std.proofs.lemmas.Slice.Eq.{bytes_eq-Decides}
use Rattle.clap.proofs.OnLiterals.{clap_on_literals}
use Rattle.clap.proofs.CallerLemmas.{entry_by_id}
use Rattle.clap.specs.Facts.{Entry, EntryPasses, PassesArg, ValuesPass, parser_of_value}
use Rattle.clap.specs.Words.{Accepts, Rule, IsSignedIn, args_of, groups_of, app_of, built, first_value, is_buildable, matched_of, rule_of, shape_of}
use Rattle.clap.specs.declared.builder.command.Command.{Command}
use Rattle.clap.specs.declared.builder.value_parser.ValueParser.{ValueParser}
use Rattle.clap.specs.declared.builder.value_parser.ValueParser.TheVariants as parser
use Rattle.clap.specs.declared.parser.matches.Found.{Found}
use Rattle.clap.specs.declared.parser.matches.MatchedArg.{MatchedArg}
use Rattle.clap.specs.Words.{App, Kinds, HasKind, is_simple, is_simple_and_free, kind_of}
use Rattle.clap.specs.declared.error.Error.{Error}
use Rattle.clap.specs.declared.error.ErrorKind.TheVariants.{OutOfMemory}
use Rattle.config_keys.specs.declared.tool.Tool.{Tool}
use Rattle.config_keys.specs.declared.tool.Tool.TheVariants.{Nfacctd, Sfacctd, Pmbgpd}
use Rattle.config_keys.specs.Usage.{usage}

pub is_exact : (t : Tool) → is_simple_and_free (usage t) ≡ true
unfolding clap_on_literals
is_exact Nfacctd = refl
is_exact Sfacctd = refl
is_exact Pmbgpd = refl

pub has_rows : (t : Tool) → is_simple (usage t) ≡ true
unfolding clap_on_literals
has_rows Nfacctd = refl
has_rows Sfacctd = refl
has_rows Pmbgpd = refl

-- an error without a cause is one of memory
pub only_memory : (kinds : Kinds) (e : Error) → HasKind kinds e → kinds ≡ [] → kind_of e ≡ OutOfMemory
only_memory [] e h none = elim h [ inl memory ↦ memory | inr among ↦ absurd among ]
only_memory (k ∷ ks) e h none = cc none

abbrev pub range : ValueParser
range = parser.Signed (pos 1) (pos 100000)

-- a rule of that name has the range
abbrev pub HasRange : Rule → Type 0
HasRange r = bytes_eq r.id (codes "generate") ≡ true → parser_of_value r.parser ≡ range

-- the command as it was made, or as it is built
pub rules_before : (t : Tool) → AllByRecursion HasRange (usage t).top.rules
rules_before Nfacctd = ((λ e. cc e), ((λ e. refl), tt))
rules_before Sfacctd = ((λ e. cc e), tt)
rules_before Pmbgpd = ((λ e. cc e), tt)

pub rules_after : (t : Tool) → AllByRecursion HasRange (built (usage t)).top.rules
unfolding clap_on_literals
rules_after Nfacctd = ((λ e. cc e), ((λ e. refl), tt))
rules_after Sfacctd = ((λ e. cc e), tt)
rules_after Pmbgpd = ((λ e. cc e), tt)

passes : (c : Command) (value : List ℕ) → AllByRecursion HasRange (map rule_of (args_of c)) → PassesArg c (codes "generate") value → IsSignedIn (pos 1) (pos 100000) value
passes c value rules h =
    let size = length-map (args_of c) rule_of in
    let all : All HasRange (map rule_of (args_of c)) = All-from_recursion HasRange _ rules in
    let at : get_or (map rule_of (args_of c)) h.0 (rule_of h.1) ≡ rule_of h.1 = get_or-map rule_of (args_of c) h.0 h.1 (rule_of h.1) h.2 ∙ ap rule_of h.3 in
    let has : HasRange (rule_of h.1) = subst HasRange at (all h.0 (rule_of h.1) (omega (arith, size, h.2))) in
    subst (λ (q : ValueParser). Accepts h.1.ignore_case q value) (has h.4.0) h.4.1

head_of : (vs : List (Bor (List ℕ))) (t : List ℕ) → option_map (λ s. s.now) (slice_get vs 0) ≡ Some t → (P : List ℕ → Type 0) → All (λ v. P v.now) vs → P t
head_of [] t e P h = cc e
head_of (v ∷ vs) t e P h =
    let same : v.now ≡ t = cc e in
    subst P same (All-get_or (λ (w : Bor (List ℕ)). P w.now) (v ∷ vs) 0 v (omega arith) h)

-- a value of the option is in the range
pub in_range : (c : Command) (f : Found) (t : List ℕ) → AllByRecursion HasRange (map rule_of (args_of c)) → groups_of c ≡ [] → ValuesPass c f
    → first_value f (codes "generate") ≡ Some t → IsSignedIn (pos 1) (pos 100000) t
in_range c f t rules no_groups values first = by (matched_of f (codes "generate")) refl first
  where
    of_entry : (x : MatchedArg) → option_map (λ s. s.now) (slice_get x.vals.items 0) ≡ Some t
        → ((e : Entry) × (e.1 ≡ x) × (bytes_eq e.0.now (codes "generate") ≡ true) × EntryPasses c e) → IsSignedIn (pos 1) (pos 100000) t
    of_entry x first got =
        let e = got.0 in
        let name : e.0.now ≡ codes "generate" = (bytes_eq-Decides e.0.now (codes "generate")).0 got.2 in
        let pass = got.3 in
        elim pass.0 [
          | inl group ↦ elim (pass.3 group) [
            | inl empty ↦ cc (name, empty)
            | inr some ↦
                let bad : 0 < 0 = rw no_groups at some in
                absurd (omega arith)
          ]
          | inr all ↦
              let vals : option_map (λ s. s.now) (slice_get e.1.vals.items 0) ≡ Some t = rw got.1 first in
              passes c t rules (subst (λ (id : List ℕ). PassesArg c id t) name (head_of e.1.vals.items t vals (λ v. PassesArg c e.0.now v) all))
        ]

    by : (o : Option MatchedArg) → matched_of f (codes "generate") ≡ o → option_and_then (λ a. option_map (λ s. s.now) (slice_get a.vals.items 0)) o ≡ Some t → IsSignedIn (pos 1) (pos 100000) t
    by None found first = cc first
    by (Some x) found first = of_entry x first (entry_by_id (EntryPasses c) f.entries.items (codes "generate") x values found)

-- what is known of the command after a parse
pub record Known (c : Command) : Type 0 where
  pub rules : AllByRecursion HasRange (map rule_of (args_of c))
  pub plain : (shape_of c).is_plain ≡ true

can_build : (t : Tool) → is_buildable (usage t) ≡ true
unfolding clap_on_literals
can_build Nfacctd = refl
can_build Sfacctd = refl
can_build Pmbgpd = refl

plain_before : (t : Tool) → (usage t).top.is_plain ≡ true
plain_before Nfacctd = refl
plain_before Sfacctd = refl
plain_before Pmbgpd = refl

plain_after : (t : Tool) → (built (usage t)).top.is_plain ≡ true
unfolding clap_on_literals
plain_after Nfacctd = refl
plain_after Sfacctd = refl
plain_after Pmbgpd = refl

pub known : (t : Tool) (old new : Command) → app_of old ≡ usage t
    → ((app_of new ≡ app_of old) ⊎ (is_buildable (app_of old) ≡ true → app_of new ≡ built (app_of old))) → Known new
known t old new app after = elim after [
  | inl same ↦
      let is = same ∙ app in
      record {
        rules = subst (λ (a : App). AllByRecursion HasRange a.top.rules) (sym is) (rules_before t);
        plain = ap (λ (a : App). a.top.is_plain) is ∙ plain_before t;
      }
  | inr whole ↦
      let is = whole (ap is_buildable app ∙ can_build t) ∙ ap built app in
      record {
        rules = subst (λ (a : App). AllByRecursion HasRange a.top.rules) (sym is) (rules_after t);
        plain = ap (λ (a : App). a.top.is_plain) is ∙ plain_after t;
      }
]

pub if_some : (o : Option (Bor (List ℕ))) (v : Option (List ℕ)) (P : List ℕ → Type 0) → option_map (λ s. s.now) o ≡ v → ((t : List ℕ) → v ≡ Some t → P t) → IfSome o (λ s. P s.now)
if_some None v P e h = tt
if_some (Some s) v P e h = h s.now (sym e)
