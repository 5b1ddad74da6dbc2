-- Template records as an exporter writes them (RFC 3954, 5.2 and 6.1, and RFC 7011, 3.2, 3.4.1 and 3.4.2.2).
use Rattle.std.specs.Prelude.{ℕ, ◌≡◌, ◌≤◌, ◌<◌, ◌+◌, ◌-◌, ◌*◌, ◌^◌, ◌==◌, true, false, List, ◌++◌, length, flat_map, Option, Some, None, IfSome, Ok, if◌then◌else◌, not, ◌⊎◌}
use Rattle.std.specs.List.{AllByRecursion}
use Rattle.byteorder.specs.Endian.{big_bytes}
use Rattle.flow_templates.specs.declared.template.FieldSpec.{FieldSpec}
use Rattle.flow_templates.specs.declared.template.Template.{Template}
use Rattle.flow_templates.specs.declared.template.TemplateWhat.TheVariants.{Defined}
use Rattle.flow_templates.specs.Templates.{is_accepted, template_record}

-- element (2 octets), width (2)
abbrev pub specifier_spelling : ℕ → ℕ → List ℕ
specifier_spelling element width = big_bytes 2 element ++ big_bytes 2 width

-- Where an enterprise defined the element its first bit is set, and the number of the enterprise (4 octets) comes last.
abbrev pub spelling_by : Option ℕ → ℕ → ℕ → List ℕ
spelling_by None element width = specifier_spelling element width
spelling_by (Some enterprise) element width = specifier_spelling (32768 + element) width ++ big_bytes 4 enterprise

abbrev pub field_spelling : FieldSpec → List ℕ
field_spelling field = spelling_by field.enterprise field.element field.width

-- the octets of the fields of the scope in version 9, and of the other fields
abbrev pub scope_octets : Template → ℕ
scope_octets template = 4 * template.scope_fields

abbrev pub other_octets : Template → ℕ
other_octets template = 4 * (length template.fields - template.scope_fields)

-- How many fields there are (2 octets). In an options template of IPFIX how many of them are the scope (2) comes next. One of version 9
-- has the octets of the fields of the scope (2) and of the other fields (2).
abbrev pub counts_spelling : ℕ → Template → List ℕ
counts_spelling version template =
    if not template.options then big_bytes 2 (length template.fields)
    else (if version == 9 then big_bytes 2 (scope_octets template) ++ big_bytes 2 (other_octets template)
    else big_bytes 2 (length template.fields) ++ big_bytes 2 template.scope_fields)

-- id (2 octets), counts, and the fields
abbrev pub template_spelling : ℕ → ℕ → Template → List ℕ
template_spelling version id template = big_bytes 2 id ++ (counts_spelling version template ++ flat_map field_spelling template.fields)

-- the elements below this one have a spelling: in IPFIX the first bit is that of enterprises
abbrev pub element_end : ℕ → ℕ
element_end version = if version == 9 then 65536 else 32768

-- a field that has a spelling
pub record FitsField (version : ℕ) (field : FieldSpec) : Type 0 where
  pub element : field.element < element_end version
  pub width : field.width < 65536
  pub enterprise : IfSome field.enterprise (λ number. (version ≡ 10) × (number < 2 ^ 32))

-- a template that has a spelling under an id, and is one that is accepted
pub record FitsTemplate (version id : ℕ) (template : Template) : Type 0 where
  pub known : (version ≡ 9) ⊎ (version ≡ 10)
  pub least_id : 256 ≤ id
  pub most_id : id < 65536
  pub each : AllByRecursion (FitsField version) template.fields
  pub no_scope : template.options ≡ false → template.scope_fields ≡ 0
  pub some_scope : template.options ≡ true → version ≡ 10 → 1 ≤ template.scope_fields
  pub few_scope : template.options ≡ true → version ≡ 9 → scope_octets template < 65536
  pub few_others : template.options ≡ true → version ≡ 9 → other_octets template < 65536
  pub accepted : is_accepted version template ≡ true

-- A written template, whatever follows, is read as that template, and takes its own octets.
abbrev pub ReadsTemplates : Type 0
ReadsTemplates = (version id : ℕ) (template : Template) (more : List ℕ) → FitsTemplate version id template
    → template_record version template.options (template_spelling version id template ++ more)
    ≡ Ok (record { id = id; used = length (template_spelling version id template); what = Defined template })
