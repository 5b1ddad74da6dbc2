-- How templates are kept: domain by domain, and in a domain by their ids.
use Rattle.std.specs.Prelude.{ℕ, ⊤, ◌≡◌, ◌==◌, ◌≤◌, ◌++◌, All, Bool, true, false, List, [], ◌∷◌, Option, None, if◌then◌else◌, IfSome, MatchOption}
use Rattle.std.specs.List.{AllByRecursion, IsDistinct}
use Rattle.std.specs.Map.{lookup, keys_of}
use Rattle.flow_templates.specs.declared.template.Domain.{Domain}
use Rattle.flow_templates.specs.declared.template.Template.{Template}
use Rattle.flow_templates.specs.declared.change.TemplateChange.{TemplateChange}
use Rattle.flow_templates.specs.declared.change.TemplateChange.TheVariants.{Put, Withdraw, WithdrawAll}
use Rattle.flow_templates.specs.Changes.{AreDefined, Entries, same_domain}
use Rattle.flow_templates.specs.Keys.{key_of}

-- the templates of a domain by their ids, and for how many more there is room
pub record Numbered : Type 0 where
  pub templates : List (ℕ × Template)
  pub room : ℕ

-- the template with an id
abbrev pub numbered : List (ℕ × Template) → ℕ → Option Template
numbered templates id = lookup (λ other. id == other) templates

-- the templates are those before, but for what this id has
abbrev pub Renumbers : List (ℕ × Template) → List (ℕ × Template) → ℕ → Option Template → Type 0
Renumbers old new changed template = (id : ℕ) → numbered new id ≡ (if changed == id then template else numbered old id)

abbrev pub AreOfKind : Bool → List (ℕ × Template) → Type 0
AreOfKind options templates = (id : ℕ) → IfSome (numbered templates id) (λ template. template.options ≡ options)

-- options templates are apart from the others, and no id has both
pub record AreParted (others options : List (ℕ × Template)) : Type 0 where
  pub others_kind : AreOfKind false others
  pub options_kind : AreOfKind true options
  pub one : (id : ℕ) → IfSome (numbered others id) (λ template. numbered options id ≡ None)

-- each id has one template
abbrev pub HasOneAnId : List (ℕ × Template) → Type 0
HasOneAnId templates = IsDistinct (λ a b. a == b) (keys_of templates)

abbrev pub Domains : Type 0
Domains = List (Domain × Numbered)

-- a domain's templates, each under its key
abbrev pub keyed : Domain → List (ℕ × Template) → Entries
keyed domain [] = []
keyed domain (e ∷ templates) = (key_of domain e.0, e.1) ∷ keyed domain templates

-- the templates of all domains
abbrev pub entries_of : Domains → Entries
entries_of [] = []
entries_of (e ∷ domains) = keyed e.0 e.1.templates ++ entries_of domains

-- in each domain each id has one template
abbrev pub HaveOneAnId : Domains → Type 0
HaveOneAnId domains = AllByRecursion (λ e. HasOneAnId e.1.templates) domains

-- there is room for as many more templates of a domain
abbrev pub HasRoom : Domains → Domain → ℕ → Type 0
HasRoom domains domain count = MatchOption (lookup (same_domain domain) domains) (count ≤ 0) (λ kept. count ≤ kept.room)

-- there is room for what a change puts, and for so many behind it
abbrev pub HasRoomFor : Domains → ℕ → TemplateChange → Type 0
HasRoomFor domains count (Put key template) = HasRoom domains key.domain count
HasRoomFor domains count (Withdraw key) = ⊤
HasRoomFor domains count (WithdrawAll domain options) = ⊤

abbrev pub HaveRoom : Domains → ℕ → List TemplateChange → Type 0
HaveRoom domains count changes = All (HasRoomFor domains count) changes

-- no domain comes twice, in none an id, and each template is one that an accepted record defines
pub record AreKept (domains : Domains) : Type 0 where
  pub apart : IsDistinct same_domain (keys_of domains)
  pub one : HaveOneAnId domains
  pub defined : AreDefined (entries_of domains)
