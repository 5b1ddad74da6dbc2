-- Template records, as RFC 3954 lays them out in 5.2 and 6.1, and RFC 7011 in 3.2 and 3.4.
use Rattle.std.specs.Prelude.{ℕ, zero, suc, ◌≡◌, ◌+◌, ◌-◌, ◌/◌, ◌%◌, ◌==◌, ◌||◌, ◌&&◌, nat_lt, nat_le, List, [], ◌∷◌, length, drop, sum_by, Some, None, Result, Ok, Err, if◌then◌else◌, not, Bool, IsOk, ◌<◌, ◌⊎◌, slice_index}
use Rattle.std.specs.List.{list_all}
use Rattle.acct_types.specs.Numbers.{number_at}
use Rattle.flow_templates.specs.declared.template.FieldSpec.{FieldSpec}
use Rattle.flow_templates.specs.declared.template.Template.{Template}
use Rattle.flow_templates.specs.declared.template.TemplateTurn.{TemplateTurn}
use Rattle.flow_templates.specs.declared.template.TemplateWhat.{TemplateWhat}
use Rattle.flow_templates.specs.declared.template.TemplateWhat.TheVariants.{Defined, Withdrawn, AllWithdrawn}
use Rattle.flow_templates.specs.declared.template.TemplateFault.{TemplateFault}
use Rattle.flow_templates.specs.declared.template.TemplateFault.TheVariants.{TemplateId, TemplateCut, TemplateEmpty, FieldWidth, ScopeCount, NoMemory}
use Rattle.flow_templates.specs.Elements.{is_allowed}

-- the fewest octets of a field: in IPFIX the width 65535 stands for a width that each record tells, in one octet at least
abbrev pub least_width : ℕ → FieldSpec → ℕ
least_width version field = if version == 10 && field.width == 65535 then 1 else field.width

-- the fewest octets of a record
abbrev pub least_length : ℕ → List FieldSpec → ℕ
least_length version fields = sum_by (least_width version) fields

-- the fields whose widths are judged: in version 9 those of the scope are skipped by their place
abbrev pub judged_fields : ℕ → ℕ → List FieldSpec → List FieldSpec
judged_fields version scope_fields fields = if version == 9 then drop scope_fields fields else fields

abbrev pub has_allowed_widths : ℕ → Template → Bool
has_allowed_widths version template = list_all (is_allowed version) (judged_fields version template.scope_fields template.fields)

-- What each accepted template has: only widths that are allowed, and records of one octet at least.
abbrev pub is_accepted : ℕ → Template → Bool
is_accepted version template =
    nat_le template.scope_fields (length template.fields) && nat_le (length template.fields) 65535
    && has_allowed_widths version template && nat_le 1 (least_length version template.fields)

-- in IPFIX the first bit of a field says that an enterprise defined its element
abbrev pub has_enterprise : ℕ → List ℕ → Bool
has_enterprise version octets = version == 10 && nat_le 32768 (number_at octets 0 2)

-- the field at the front: element (2 octets), width (2), and behind them the number of the enterprise (4) where one defined it
abbrev pub field_of : ℕ → List ℕ → FieldSpec
field_of version octets =
    if has_enterprise version octets
    then record { enterprise = Some (number_at octets 4 4); element = number_at octets 0 2 - 32768; width = number_at octets 2 2 }
    else record { enterprise = None; element = number_at octets 0 2; width = number_at octets 2 2 }

-- its octets
abbrev pub field_length : ℕ → List ℕ → ℕ
field_length version octets = if has_enterprise version octets then 8 else 4

-- that many fields, one after another
abbrev pub fields_of : ℕ → ℕ → List ℕ → List FieldSpec
fields_of version zero octets = []
fields_of version (suc count) octets = field_of version octets ∷ fields_of version count (drop (field_length version octets) octets)

-- their octets
abbrev pub fields_length : ℕ → ℕ → List ℕ → ℕ
fields_length version zero octets = 0
fields_length version (suc count) octets = field_length version octets + fields_length version count (drop (field_length version octets) octets)

-- Before the fields: id (2 octets), and how many fields there are (2). In an options template of IPFIX how many of them are the scope (2)
-- comes next. One of version 9 has the octets of the fields of the scope (2) and of the other ones (2) in place of the two counts.
abbrev pub head_length : Bool → ℕ
head_length options = if options then 6 else 4

abbrev pub first_count : List ℕ → ℕ
first_count octets = number_at octets 2 2

abbrev pub second_count : List ℕ → ℕ
second_count octets = number_at octets 4 2

abbrev pub counts_octets : ℕ → Bool → Bool
counts_octets version options = version == 9 && options

-- in version 9, that there is no field
abbrev pub has_no_field : ℕ → Bool → List ℕ → Bool
has_no_field version options octets = version == 9 && first_count octets == 0 && (not options || second_count octets == 0)

-- in an options template of IPFIX, a scope of no field or of more than there are
abbrev pub has_faulty_scope : ℕ → Bool → List ℕ → Bool
has_faulty_scope version options octets = version == 10 && options && (second_count octets == 0 || nat_lt (first_count octets) (second_count octets))

-- octets that are counted are those of whole fields
abbrev pub has_whole_fields : ℕ → Bool → List ℕ → Bool
has_whole_fields version options octets = not (counts_octets version options) || first_count octets % 4 == 0 && second_count octets % 4 == 0

abbrev pub scope_count : ℕ → Bool → List ℕ → ℕ
scope_count version options octets =
    if not options then 0
    else (if version == 9 then first_count octets / 4
    else second_count octets)

abbrev pub field_count : ℕ → Bool → List ℕ → ℕ
field_count version options octets = if counts_octets version options then first_count octets / 4 + second_count octets / 4 else first_count octets

abbrev pub record_length : ℕ → Bool → List ℕ → ℕ
record_length version options octets = head_length options + fields_length version (field_count version options octets) (drop (head_length options) octets)

-- the template of a record that defines one
abbrev pub template_of : ℕ → Bool → List ℕ → Template
template_of version options octets = record {
  options = options;
  scope_fields = scope_count version options octets;
  fields = fields_of version (field_count version options octets) (drop (head_length options) octets);
}

-- in IPFIX, a record that withdraws
abbrev pub is_withdrawal : ℕ → List ℕ → Bool
is_withdrawal version octets = version == 10 && first_count octets == 0

-- the id that stands for all options templates, or for all others: that of the set
abbrev pub all_of_kind : Bool → ℕ
all_of_kind options = if options then 3 else 2

-- a record whose octets are whole
abbrev pub judged : ℕ → ℕ → ℕ → Template → Result TemplateTurn TemplateFault
judged version id used template =
    if not (has_allowed_widths version template) then Err FieldWidth
    else (if least_length version template.fields == 0 then Err TemplateEmpty
    else Ok (record { id = id; used = used; what = Defined template }))

-- a record that defines a template, and whose head is whole
unfoldable pub definition_record : ℕ → Bool → List ℕ → Result TemplateTurn TemplateFault
definition_record version options octets =
    if has_no_field version options octets then Err TemplateEmpty
    else (if has_faulty_scope version options octets then Err ScopeCount
    else (if not (has_whole_fields version options octets) || nat_lt (length octets) (record_length version options octets) then Err TemplateCut
    else judged version (number_at octets 0 2) (record_length version options octets) (template_of version options octets)))

-- The record at the front of a set's octets, of a template or of an options template, or the first fault. Each part is judged where its
-- octets are there.
unfoldable pub template_record : ℕ → Bool → List ℕ → Result TemplateTurn TemplateFault
template_record version options octets =
    if nat_lt (length octets) 4 then Err TemplateCut
    else (if is_withdrawal version octets && number_at octets 0 2 == all_of_kind options then Ok (record { id = number_at octets 0 2; used = 4; what = AllWithdrawn })
    else (if nat_lt (number_at octets 0 2) 256 then Err TemplateId
    else (if is_withdrawal version octets then Ok (record { id = number_at octets 0 2; used = 4; what = Withdrawn })
    else (if nat_lt (length octets) (head_length options) then Err TemplateCut
    else definition_record version options octets))))

-- the octets of a record, or its fault
abbrev pub length_or_fault : Result TemplateTurn TemplateFault → Result ℕ TemplateFault
length_or_fault (Ok turn) = Ok turn.used
length_or_fault (Err fault) = Err fault

-- what a record without a fault says of its id
abbrev pub what_of : ℕ → Bool → List ℕ → TemplateWhat
what_of version options octets =
    if is_withdrawal version octets then (if number_at octets 0 2 == all_of_kind options then AllWithdrawn else Withdrawn)
    else Defined (template_of version options octets)

-- A reader answers the record, or its fault; it wants memory only where there is no fault.
abbrev pub Reads : Result TemplateTurn TemplateFault → Result TemplateTurn TemplateFault → Type 0
Reads (Ok turn) wanted = wanted ≡ Ok turn
Reads (Err NoMemory) wanted = IsOk wanted
Reads (Err fault) wanted = wanted ≡ Err fault

-- A template as an accepted record of this version defines it: there are octets of a record that is read as this template.
pub record IsDefined (version : ℕ) (template : Template) : Type 0 where
  pub known : (version ≡ 9) ⊎ (version ≡ 10)
  pub octets : List ℕ
  pub each : (place : ℕ) → slice_index octets place < 256
  pub id : ℕ
  pub used : ℕ
  pub read : template_record version template.options octets ≡ Ok (record { id = id; used = used; what = Defined template })

-- a template that a record defines is one that an accepted record defines
abbrev pub DefinesAccepted : ℕ → TemplateWhat → Type 0
DefinesAccepted version (Defined template) = IsDefined version template
DefinesAccepted version Withdrawn = Unit {0}
DefinesAccepted version AllWithdrawn = Unit {0}
