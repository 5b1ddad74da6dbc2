-- A written template is read back.
use Rattle.std.proofs.Common.{◌≡◌, ◌∙◌, ◌≤◌, ◌<◌, ◌+◌, ◌-◌, ◌*◌, ◌/◌, ◌%◌, ◌^◌, ◌++◌, ◌∷◌, [], ℕ, Bool, true, false, cond, Option, Some, None, List, length, drop, refl, inl, inr, sym, ap, subst, append_assoc, length-append, arith}
use Rattle.std.proofs.Math.Seq.{drop-append_seam}
use Rattle.std.proofs.lemmas.Bool.{and_from, and_parts, and_right, eq-eqb, eqb-true, le-leb, le-ltb, leb-true, lt-leb, ne_eqb, or_from}
use Rattle.std.specs.Prelude.{◌==◌, ◌&&◌, ◌||◌, ◌⊎◌, flat_map, nat_le, nat_lt, not, Ok}
use Rattle.std.specs.List.{AllByRecursion}
use Rattle.byteorder.specs.Endian.{big_bytes, big_number}
use Rattle.byteorder.specs.Numbers.{big_number-reads_back}
use Rattle.acct_types.specs.Numbers.{number_at}
use Rattle.flow_templates.specs.declared.template.FieldSpec.{FieldSpec}
use Rattle.flow_templates.specs.declared.template.Template.{Template}
use Rattle.flow_templates.specs.declared.template.TemplateWhat.TheVariants.{Defined}
use Rattle.flow_templates.specs.Templates.{definition_record, field_count, field_length, field_of, fields_length, fields_of, has_allowed_widths, has_enterprise, has_faulty_scope, has_no_field, has_whole_fields, head_length, is_accepted, is_withdrawal, least_length, record_length, scope_count, template_of, template_record}
use Rattle.flow_templates.specs.Spellings.{FitsField, FitsTemplate, ReadsTemplates, element_end, field_spelling, specifier_spelling, template_spelling}
use Rattle.flow_templates.proofs.RecordLemmas.{least_head}

-- the number that was written behind some octets
pub number_written : (before after : List ℕ) (place width number : ℕ) → length before ≡ place → number < 256 ^ width
    → number_at (before ++ (big_bytes width number ++ after)) place width ≡ number
unfolding number_at
number_written before after place width number at fits =
    ap (λ (n : ℕ). big_number width (drop n (before ++ (big_bytes width number ++ after)))) (sym at)
    ∙ ap (big_number width) (drop-append_seam before (big_bytes width number ++ after))
    ∙ big_number-reads_back width number after fits

-- ---- fields

-- the field at the front is this one, and takes its own octets
record IsReadAs (version : ℕ) (field : FieldSpec) (rest : List ℕ) : Type 0 where
  same : field_of version (field_spelling field ++ rest) ≡ field
  takes : field_length version (field_spelling field ++ rest) ≡ length (field_spelling field)

field_by : (version : ℕ) (octets : List ℕ) (b : Bool) → has_enterprise version octets ≡ b
    → field_of version octets ≡ cond b (record { enterprise = Some (number_at octets 4 4); element = number_at octets 0 2 - 32768; width = number_at octets 2 2 })
    (record { enterprise = None; element = number_at octets 0 2; width = number_at octets 2 2 })
field_by version octets b h = rw h refl

few_elements : (version element : ℕ) → element < element_end version → element < 65536
few_elements version element h = by (version == 9) h
  where
    by : (b : Bool) → element < cond b 65536 32768 → element < 65536
    by true h = h
    by false h = omega (arith, h)

unset_bit : (version element : ℕ) → (version ≡ 9) ⊎ (version ≡ 10) → element < element_end version → (version == 10 && nat_le 32768 element) ≡ false
unset_bit version element (inl nine) h = rw nine refl
unset_bit version element (inr ten) h = rw ten (lt-leb 32768 element (rw ten at h))

plain_field : (version element width : ℕ) (rest : List ℕ) → (version ≡ 9) ⊎ (version ≡ 10) → element < element_end version → width < 65536
    → IsReadAs version (record { enterprise = None; element = element; width = width }) rest
plain_field version element width rest known low fits =
    let octets = specifier_spelling element width ++ rest in
    let first : number_at octets 0 2 ≡ element = number_written [] (big_bytes 2 width ++ rest) 0 2 element refl (few_elements version element low) in
    let second : number_at octets 2 2 ≡ width = number_written (big_bytes 2 element) rest 2 2 width refl fits in
    let none : has_enterprise version octets ≡ false = ap (λ (n : ℕ). version == 10 && nat_le 32768 n) first ∙ unset_bit version element known low in
    record {
      same = field_by version octets false none ∙ (λ i. record { enterprise = None; element = first i; width = second i });
      takes = ap (λ (b : Bool). cond b 8 4) none;
    }

enterprise_field : (version enterprise element width : ℕ) (rest : List ℕ) → version ≡ 10 → enterprise < 2 ^ 32 → element < element_end version → width < 65536
    → IsReadAs version (record { enterprise = Some enterprise; element = element; width = width }) rest
enterprise_field version enterprise element width rest ten few low fits =
    let octets = specifier_spelling (32768 + element) width ++ big_bytes 4 enterprise ++ rest in
    let least : element < 32768 = rw ten at low in
    let first : number_at octets 0 2 ≡ 32768 + element = number_written [] (big_bytes 2 width ++ (big_bytes 4 enterprise ++ rest)) 0 2 (32768 + element) refl (omega (arith, least)) in
    let second : number_at octets 2 2 ≡ width = number_written (big_bytes 2 (32768 + element)) (big_bytes 4 enterprise ++ rest) 2 2 width refl fits in
    let third : number_at octets 4 4 ≡ enterprise = number_written (specifier_spelling (32768 + element) width) rest 4 4 enterprise refl few in
    let some : has_enterprise version octets ≡ true =
    (λ i. ten i == 10 && nat_le 32768 (first i)) ∙ le-leb 32768 (32768 + element) (omega arith) in
    let back : number_at octets 0 2 - 32768 ≡ element = omega (arith, first) in
    record {
      same = field_by version octets true some ∙ (λ i. record { enterprise = Some (third i); element = back i; width = second i });
      takes = ap (λ (b : Bool). cond b 8 4) some;
    }

field_back : (version : ℕ) (enterprise : Option ℕ) (element width : ℕ) (rest : List ℕ) → (version ≡ 9) ⊎ (version ≡ 10)
    → FitsField version (record { enterprise = enterprise; element = element; width = width }) → IsReadAs version (record { enterprise = enterprise; element = element; width = width }) rest
field_back version None element width rest known fits = plain_field version element width rest known fits.element fits.width
field_back version (Some enterprise) element width rest known fits =
    enterprise_field version enterprise element width rest fits.enterprise.0 fits.enterprise.1 fits.element fits.width

-- the fields at the front are these, and take their own octets
record AreReadAs (version : ℕ) (fields : List FieldSpec) (rest : List ℕ) : Type 0 where
  same : fields_of version (length fields) (flat_map field_spelling fields ++ rest) ≡ fields
  takes : fields_length version (length fields) (flat_map field_spelling fields ++ rest) ≡ length (flat_map field_spelling fields)

fields_back : (version : ℕ) (fields : List FieldSpec) (rest : List ℕ) → (version ≡ 9) ⊎ (version ≡ 10) → AllByRecursion (FitsField version) fields → AreReadAs version fields rest
fields_back version [] rest known fit = record { same = refl; takes = refl }
fields_back version (field ∷ fields) rest known fit =
    let one = field_spelling field in
    let others = flat_map field_spelling fields in
    let count = length fields in
    let parts : (one ++ others) ++ rest ≡ one ++ (others ++ rest) = append_assoc one others rest in
    let front = field_back version field.enterprise field.element field.width (others ++ rest) known fit.0 in
    let left : drop (field_length version (one ++ (others ++ rest))) (one ++ (others ++ rest)) ≡ others ++ rest =
    ap (λ (n : ℕ). drop n (one ++ (others ++ rest))) front.takes ∙ drop-append_seam one (others ++ rest) in
    let behind = fields_back version fields rest known fit.1 in
    record {
      same = ap (λ (octets : List ℕ). field_of version octets ∷ fields_of version count (drop (field_length version octets) octets)) parts
          ∙ (λ i. front.same i ∷ fields_of version count (left i))
          ∙ ap (λ (fields : List FieldSpec). field ∷ fields) behind.same;
      takes = ap (λ (octets : List ℕ). field_length version octets + fields_length version count (drop (field_length version octets) octets)) parts
          ∙ (λ i. front.takes i + fields_length version count (left i))
          ∙ ap (λ (n : ℕ). length one + n) behind.takes
          ∙ sym (length-append one others);
    }

-- ---- what an accepted template has

record HasParts (version : ℕ) (template : Template) : Type 0 where
  scope : template.scope_fields ≤ length template.fields
  few : length template.fields < 65536
  allowed : has_allowed_widths version template ≡ true
  some : 1 ≤ least_length version template.fields

parts_of : (version : ℕ) (template : Template) → is_accepted version template ≡ true → HasParts version template
parts_of version template h =
    let scope = nat_le template.scope_fields (length template.fields) in
    let few = nat_le (length template.fields) 65535 in
    let allowed = has_allowed_widths version template in
    let last = and_parts (scope && few && allowed) (nat_le 1 (least_length version template.fields)) h in
    let third = and_parts (scope && few) allowed last.0 in
    let first = and_parts scope few third.0 in
    record {
      scope = leb-true template.scope_fields (length template.fields) first.0;
      few = omega (arith, leb-true (length template.fields) 65535 first.1);
      allowed = third.1;
      some = leb-true 1 (least_length version template.fields) last.1;
    }

some_field : (version : ℕ) (fields : List FieldSpec) → 1 ≤ least_length version fields → 1 ≤ length fields
some_field version [] h = absurd (omega (arith, h))
some_field version (field ∷ fields) h = omega arith

-- ---- heads

-- the octets before the fields say what comes
record HasHead (version id : ℕ) (template : Template) (octets : List ℕ) : Type 0 where
  named : number_at octets 0 2 ≡ id
  count : field_count version template.options octets ≡ length template.fields
  scope : scope_count version template.options octets ≡ template.scope_fields
  kept : is_withdrawal version octets ≡ false
  some : has_no_field version template.options octets ≡ false
  fair : has_faulty_scope version template.options octets ≡ false
  whole : has_whole_fields version template.options octets ≡ true

reads : (version id : ℕ) (template : Template) (octets : List ℕ) (used : ℕ) → HasHead version id template octets → 256 ≤ id → HasParts version template
    → head_length template.options ≤ used → used ≤ length octets → template_of version template.options octets ≡ template → record_length version template.options octets ≡ used
    → template_record version template.options octets ≡ Ok (record { id = id; used = used; what = Defined template })
unfolding template_record definition_record
reads version id template octets used has least parts head long is takes =
    let options = template.options in
    let four : nat_lt (length octets) 4 ≡ false = le-ltb (length octets) 4 (omega (arith, long, head, least_head options)) in
    let high : nat_lt (number_at octets 0 2) 256 ≡ false = le-ltb (number_at octets 0 2) 256 (omega (arith, has.named, least)) in
    let there : nat_lt (length octets) (head_length options) ≡ false = le-ltb (length octets) (head_length options) (omega (arith, long, head)) in
    let within : nat_lt (length octets) (record_length version options octets) ≡ false = le-ltb (length octets) (record_length version options octets) (omega (arith, takes, long)) in
    let allowed : has_allowed_widths version (template_of version options octets) ≡ true = ap (has_allowed_widths version) is ∙ parts.allowed in
    let octet : (least_length version (template_of version options octets).fields == 0) ≡ false =
    ap (λ (template : Template). least_length version template.fields == 0) is ∙ ne_eqb (least_length version template.fields) 0 (λ e. omega (arith, e, parts.some)) in
    rw (four, has.kept, high, there, has.some, has.fair, has.whole, within, allowed, octet)
    (λ i. Ok (record { id = has.named i; used = takes i; what = Defined (is i) }))

-- a head, and behind it the fields and anything
written : (version id : ℕ) (template : Template) (head more : List ℕ) → (version ≡ 9) ⊎ (version ≡ 10) → 256 ≤ id → HasParts version template
    → AllByRecursion (FitsField version) template.fields → length head ≡ head_length template.options
    → HasHead version id template (head ++ (flat_map field_spelling template.fields ++ more))
    → template_record version template.options (head ++ (flat_map field_spelling template.fields ++ more))
    ≡ Ok (record { id = id; used = length (head ++ flat_map field_spelling template.fields); what = Defined template })
written version id template head more known least parts each size has =
    let spelled = flat_map field_spelling template.fields in
    let octets = head ++ (spelled ++ more) in
    let left : drop (head_length template.options) octets ≡ spelled ++ more =
    ap (λ (n : ℕ). drop n octets) (sym size) ∙ drop-append_seam head (spelled ++ more) in
    let back = fields_back version template.fields more known each in
    let fields : fields_of version (field_count version template.options octets) (drop (head_length template.options) octets) ≡ template.fields =
    (λ i. fields_of version (has.count i) (left i)) ∙ back.same in
    let own = length-append head spelled in
    let long = length-append head (spelled ++ more) in
    let rest = length-append spelled more in
    reads version id template octets (length (head ++ spelled)) has least parts (omega (arith, own, size)) (omega (arith, own, long, rest))
    (λ i. record { options = template.options; scope_fields = has.scope i; fields = fields i })
    ((λ i. sym size i + fields_length version (has.count i) (left i)) ∙ ap (λ (n : ℕ). length head + n) back.takes ∙ sym own)

-- ---- the layouts

plain_count : (b : Bool) (n m : ℕ) → cond (b && false) n m ≡ m
plain_count true n m = refl
plain_count false n m = refl

plain_whole : (b c : Bool) → (not (b && false) || c) ≡ true
plain_whole true c = refl
plain_whole false c = refl

plain_scope : (b c : Bool) → (b && false && c) ≡ false
plain_scope true c = refl
plain_scope false c = refl

-- a number that isn't 0, among other tests
counted : (a b c : Bool) → b ≡ false → (a && b && c) ≡ false
counted a true c h = cc h
counted true false c h = refl
counted false false c h = refl

is_some : (number written : ℕ) → number ≡ written → 1 ≤ written → (number == 0) ≡ false
is_some number written is some = ne_eqb number 0 (λ e. omega (arith, e, is, some))

-- of a template, in both versions
template_head : (version id : ℕ) (fields : List FieldSpec) (rest : List ℕ) → id < 65536 → 1 ≤ length fields → length fields < 65536
    → HasHead version id (record { options = false; scope_fields = 0; fields = fields }) (big_bytes 2 id ++ (big_bytes 2 (length fields) ++ rest))
template_head version id fields rest most some few =
    let count = length fields in
    let octets = big_bytes 2 id ++ (big_bytes 2 count ++ rest) in
    let first : number_at octets 2 2 ≡ count = number_written (big_bytes 2 id) rest 2 2 count refl few in
    record {
      named = number_written [] (big_bytes 2 count ++ rest) 0 2 id refl most;
      count = plain_count (version == 9) (number_at octets 2 2 / 4 + number_at octets 4 2 / 4) (number_at octets 2 2) ∙ first;
      scope = refl;
      kept = and_right (version == 10) (number_at octets 2 2 == 0) (is_some (number_at octets 2 2) count first some);
      some = counted (version == 9) (number_at octets 2 2 == 0) true (is_some (number_at octets 2 2) count first some);
      fair = plain_scope (version == 10) (number_at octets 4 2 == 0 || nat_lt (number_at octets 2 2) (number_at octets 4 2));
      whole = plain_whole (version == 9) (number_at octets 2 2 % 4 == 0 && number_at octets 4 2 % 4 == 0);
    }

-- of an options template in version 9
options_head : (id scope : ℕ) (fields : List FieldSpec) (rest : List ℕ) → id < 65536 → scope ≤ length fields → 1 ≤ length fields → 4 * scope < 65536 → 4 * (length fields - scope) < 65536
    → HasHead 9 id (record { options = true; scope_fields = scope; fields = fields }) (big_bytes 2 id ++ (big_bytes 2 (4 * scope) ++ (big_bytes 2 (4 * (length fields - scope)) ++ rest)))
options_head id scope fields rest most within some few few_others =
    let others = length fields - scope in
    let octets = big_bytes 2 id ++ (big_bytes 2 (4 * scope) ++ (big_bytes 2 (4 * others) ++ rest)) in
    let first : number_at octets 2 2 ≡ 4 * scope = number_written (big_bytes 2 id) (big_bytes 2 (4 * others) ++ rest) 2 2 (4 * scope) refl few in
    let second : number_at octets 4 2 ≡ 4 * others = number_written (big_bytes 2 id ++ big_bytes 2 (4 * scope)) rest 4 2 (4 * others) refl few_others in
    record {
      named = number_written [] (big_bytes 2 (4 * scope) ++ (big_bytes 2 (4 * others) ++ rest)) 0 2 id refl most;
      count = omega (arith, first, second, within);
      scope = omega (arith, first);
      kept = refl;
      some = by (number_at octets 2 2 == 0) (number_at octets 4 2 == 0)
          (λ none nothing. omega (arith, first, second, within, some, eqb-true (number_at octets 2 2) 0 none, eqb-true (number_at octets 4 2) 0 nothing));
      fair = refl;
      whole = and_from (number_at octets 2 2 % 4 == 0) (number_at octets 4 2 % 4 == 0) (eq-eqb (number_at octets 2 2 % 4) 0 (omega (arith, first)))
          (eq-eqb (number_at octets 4 2 % 4) 0 (omega (arith, second)));
    }
  where
    by : (a b : Bool) → (a ≡ true → b ≡ true → ⊥) → (a && b) ≡ false
    by true true apart = absurd (apart refl refl)
    by true false apart = refl
    by false b apart = refl

-- of an options template in IPFIX
ipfix_options_head : (id scope : ℕ) (fields : List FieldSpec) (rest : List ℕ) → id < 65536 → 1 ≤ scope → scope ≤ length fields → length fields < 65536
    → HasHead 10 id (record { options = true; scope_fields = scope; fields = fields }) (big_bytes 2 id ++ (big_bytes 2 (length fields) ++ (big_bytes 2 scope ++ rest)))
ipfix_options_head id scope fields rest most some within few =
    let count = length fields in
    let octets = big_bytes 2 id ++ (big_bytes 2 count ++ (big_bytes 2 scope ++ rest)) in
    let first : number_at octets 2 2 ≡ count = number_written (big_bytes 2 id) (big_bytes 2 scope ++ rest) 2 2 count refl few in
    let second : number_at octets 4 2 ≡ scope = number_written (big_bytes 2 id ++ big_bytes 2 count) rest 4 2 scope refl (omega (arith, within, few)) in
    record {
      named = number_written [] (big_bytes 2 count ++ (big_bytes 2 scope ++ rest)) 0 2 id refl most;
      count = first;
      scope = second;
      kept = is_some (number_at octets 2 2) count first (omega (arith, some, within));
      some = refl;
      fair = or_from (number_at octets 4 2 == 0) (nat_lt (number_at octets 2 2) (number_at octets 4 2)) (is_some (number_at octets 4 2) scope second some)
          (le-ltb (number_at octets 2 2) (number_at octets 4 2) (omega (arith, first, second, within)));
      whole = refl;
    }

-- ---- the law

abbrev ReadsBack : ℕ → ℕ → Template → List ℕ → Type 0
ReadsBack version id template more =
    template_record version template.options (template_spelling version id template ++ more)
    ≡ Ok (record { id = id; used = length (template_spelling version id template); what = Defined template })

plain_back : (version id : ℕ) (fields : List FieldSpec) (more : List ℕ) → FitsTemplate version id (record { options = false; scope_fields = 0; fields = fields })
    → ReadsBack version id (record { options = false; scope_fields = 0; fields = fields }) more
plain_back version id fields more fits =
    let parts = parts_of version (record { options = false; scope_fields = 0; fields = fields }) fits.accepted in
    written version id (record { options = false; scope_fields = 0; fields = fields }) (big_bytes 2 id ++ big_bytes 2 (length fields)) more fits.known fits.least_id parts fits.each refl
    (template_head version id fields (flat_map field_spelling fields ++ more) fits.most_id (some_field version fields parts.some) parts.few)

options_back : (id scope : ℕ) (fields : List FieldSpec) (more : List ℕ) → FitsTemplate 9 id (record { options = true; scope_fields = scope; fields = fields })
    → ReadsBack 9 id (record { options = true; scope_fields = scope; fields = fields }) more
options_back id scope fields more fits =
    let parts = parts_of 9 (record { options = true; scope_fields = scope; fields = fields }) fits.accepted in
    written 9 id (record { options = true; scope_fields = scope; fields = fields })
    (big_bytes 2 id ++ (big_bytes 2 (4 * scope) ++ big_bytes 2 (4 * (length fields - scope)))) more fits.known fits.least_id parts fits.each refl
    (options_head id scope fields (flat_map field_spelling fields ++ more) fits.most_id parts.scope (some_field 9 fields parts.some) (fits.few_scope refl refl) (fits.few_others refl refl))

ipfix_options_back : (id scope : ℕ) (fields : List FieldSpec) (more : List ℕ) → FitsTemplate 10 id (record { options = true; scope_fields = scope; fields = fields })
    → ReadsBack 10 id (record { options = true; scope_fields = scope; fields = fields }) more
ipfix_options_back id scope fields more fits =
    let parts = parts_of 10 (record { options = true; scope_fields = scope; fields = fields }) fits.accepted in
    written 10 id (record { options = true; scope_fields = scope; fields = fields })
    (big_bytes 2 id ++ (big_bytes 2 (length fields) ++ big_bytes 2 scope)) more fits.known fits.least_id parts fits.each refl
    (ipfix_options_head id scope fields (flat_map field_spelling fields ++ more) fits.most_id (fits.some_scope refl refl) parts.scope parts.few)

by_kind : (version id : ℕ) (options : Bool) (scope : ℕ) (fields : List FieldSpec) (more : List ℕ) → FitsTemplate version id (record { options = options; scope_fields = scope; fields = fields })
    → ReadsBack version id (record { options = options; scope_fields = scope; fields = fields }) more
by_kind version id false scope fields more fits =
    subst (λ (scope : ℕ). FitsTemplate version id (record { options = false; scope_fields = scope; fields = fields }) → ReadsBack version id (record { options = false; scope_fields = scope; fields = fields }) more)
    (sym (fits.no_scope refl)) (plain_back version id fields more) fits
by_kind version id true scope fields more fits = by fits.known
  where
    by : (version ≡ 9) ⊎ (version ≡ 10) → ReadsBack version id (record { options = true; scope_fields = scope; fields = fields }) more
    by (inl nine) =
        subst (λ (version : ℕ). FitsTemplate version id (record { options = true; scope_fields = scope; fields = fields }) → ReadsBack version id (record { options = true; scope_fields = scope; fields = fields }) more)
        (sym nine) (options_back id scope fields more) fits
    by (inr ten) =
        subst (λ (version : ℕ). FitsTemplate version id (record { options = true; scope_fields = scope; fields = fields }) → ReadsBack version id (record { options = true; scope_fields = scope; fields = fields }) more)
        (sym ten) (ipfix_options_back id scope fields more) fits

pub reads_templates : ReadsTemplates
reads_templates version id template more fits = by_kind version id template.options template.scope_fields template.fields more fits
