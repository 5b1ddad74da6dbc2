-- What a template record without a fault has.
use Rattle.std.proofs.Common.{Bor, Option, Some, None, ◌≡◌, ◌+◌, ◌/◌, ◌<◌, ◌≤◌, ◌∙◌, ℕ, zero, suc, List, Bool, true, false, cond, drop, get_or, length, arith, refl, ap, subst, sym, inl, inr}
use Rattle.std.proofs.lemmas.List.{get_or-drop}
use Rattle.flow_templates.specs.declared.template.Template.{Template}
use Rattle.std.specs.Prelude.{◌==◌, ◌&&◌, ◌||◌, IfOk, IfSome, IsOk, Result, Ok, Err, nat_le, nat_lt, not, ◌⊎◌, slice_index}
use Rattle.std.proofs.lemmas.Bool.{and_from, le-leb, ltb-false}
use Rattle.acct_types.specs.Numbers.{number_at}
use Rattle.flow_templates.specs.declared.template.TemplateTurn.{TemplateTurn}
use Rattle.flow_templates.specs.declared.template.TemplateFault.{TemplateFault}
use Rattle.flow_templates.specs.declared.template.TemplateFault.TheVariants.{TemplateId, TemplateCut, TemplateEmpty, FieldWidth, ScopeCount, NoMemory}
use Rattle.flow_templates.specs.declared.template.TemplateWhat.{TemplateWhat}
use Rattle.flow_templates.specs.declared.template.TemplateWhat.TheVariants.{Defined, Withdrawn, AllWithdrawn}
use Rattle.flow_templates.specs.Templates.{DefinesAccepted, IsDefined, Reads, all_of_kind, definition_record, field_count, field_length, fields_of, has_allowed_widths, has_faulty_scope, has_no_field, has_whole_fields, head_length, is_accepted, is_withdrawal, least_length, length_or_fault, record_length, scope_count, template_of, template_record, what_of}

-- what isn't refused goes on
not_err : {X : Type 0} (b : Bool) (fault : TemplateFault) (rest : Result X TemplateFault) (x : X) → cond b (Err fault) rest ≡ Ok x → (b ≡ false) × (rest ≡ Ok x)
not_err true fault rest x h = cc h
not_err false fault rest x h = (refl, h)

or_parts : (a b : Bool) → (a || b) ≡ false → (a ≡ false) × (b ≡ false)
or_parts true b h = cc h
or_parts false b h = (refl, h)

pub least_head : (options : Bool) → 4 ≤ head_length options
least_head true = omega arith
least_head false = omega arith

-- the parts of a record that defines a template
pub record IsDefinition (version : ℕ) (options : Bool) (octets : List ℕ) (turn : TemplateTurn) : Type 0 where
  pub id : turn.id ≡ number_at octets 0 2
  pub what : turn.what ≡ Defined (template_of version options octets)
  pub used : turn.used ≡ record_length version options octets
  pub within : record_length version options octets ≤ length octets
  pub scope : has_faulty_scope version options octets ≡ false
  pub allowed : not (has_allowed_widths version (template_of version options octets)) ≡ false
  pub some : (least_length version (template_of version options octets).fields == 0) ≡ false

pub definition : (version : ℕ) (options : Bool) (octets : List ℕ) (turn : TemplateTurn) → definition_record version options octets ≡ Ok turn → IsDefinition version options octets turn
unfolding definition_record
definition version options octets turn h =
    let template = template_of version options octets in
    let used = record_length version options octets in
    let cut = not (has_whole_fields version options octets) || nat_lt (length octets) used in
    let answer : Result TemplateTurn TemplateFault = Ok (record { id = number_at octets 0 2; used = used; what = Defined template }) in
    let some : Result TemplateTurn TemplateFault = cond (least_length version template.fields == 0) (Err TemplateEmpty) answer in
    let allowed : Result TemplateTurn TemplateFault = cond (not (has_allowed_widths version template)) (Err FieldWidth) some in
    let whole : Result TemplateTurn TemplateFault = cond cut (Err TemplateCut) allowed in
    let scope : Result TemplateTurn TemplateFault = cond (has_faulty_scope version options octets) (Err ScopeCount) whole in
    let a = not_err (has_no_field version options octets) TemplateEmpty scope turn h in
    let b = not_err (has_faulty_scope version options octets) ScopeCount whole turn a.1 in
    let c = not_err cut TemplateCut allowed turn b.1 in
    let d = not_err (not (has_allowed_widths version template)) FieldWidth some turn c.1 in
    let e = not_err (least_length version template.fields == 0) TemplateEmpty answer turn d.1 in
    let same : ◌≡◌ {A = TemplateTurn} (record { id = number_at octets 0 2; used = used; what = Defined template }) turn = cc e.1 in
    record {
      id = sym (ap (λ (one : TemplateTurn). one.id) same);
      what = sym (ap (λ (one : TemplateTurn). one.what) same);
      used = sym (ap (λ (one : TemplateTurn). one.used) same);
      within = ltb-false (length octets) (record_length version options octets) (or_parts (not (has_whole_fields version options octets)) (nat_lt (length octets) used) c.0).1;
      scope = b.0;
      allowed = d.0;
      some = e.0;
    }

-- the record's octets are there, and this is what it says
pub record IsRecord (version : ℕ) (options : Bool) (octets : List ℕ) (turn : TemplateTurn) : Type 0 where
  pub four : 4 ≤ length octets
  pub id : turn.id ≡ number_at octets 0 2
  pub what : turn.what ≡ what_of version options octets
  pub least : 4 ≤ turn.used
  pub within : turn.used ≤ length octets
  pub defined : is_withdrawal version octets ≡ false → IsDefinition version options octets turn

pub accepted_record : (version : ℕ) (options : Bool) (octets : List ℕ) (turn : TemplateTurn) → template_record version options octets ≡ Ok turn → IsRecord version options octets turn
unfolding template_record
accepted_record version options octets turn h =
    let id = number_at octets 0 2 in
    let defines : Result TemplateTurn TemplateFault = cond (nat_lt (length octets) (head_length options)) (Err TemplateCut) (definition_record version options octets) in
    let one : Result TemplateTurn TemplateFault = cond (is_withdrawal version octets) (Ok (record { id = id; used = 4; what = Withdrawn })) defines in
    let all : Result TemplateTurn TemplateFault = cond (is_withdrawal version octets && id == all_of_kind options) (Ok (record { id = id; used = 4; what = AllWithdrawn }))
    (cond (nat_lt id 256) (Err TemplateId) one) in
    let first = not_err (nat_lt (length octets) 4) TemplateCut all turn h in
    by (ltb-false (length octets) 4 first.0) (is_withdrawal version octets) (id == all_of_kind options) refl refl first.1
  where
    withdrawn : (what : TemplateWhat) → 4 ≤ length octets → is_withdrawal version octets ≡ true → what ≡ what_of version options octets
        → ◌≡◌ {A = TemplateTurn} (record { id = number_at octets 0 2; used = 4; what = what }) turn → IsRecord version options octets turn
    withdrawn what four w is same = record {
      four = four;
      id = sym (ap (λ (one : TemplateTurn). one.id) same);
      what = sym (ap (λ (one : TemplateTurn). one.what) same) ∙ is;
      least = omega (arith, ap (λ (one : TemplateTurn). one.used) same);
      within = omega (arith, ap (λ (one : TemplateTurn). one.used) same, four);
      defined = λ no. cc (w, no);
    }

    by : 4 ≤ length octets → (w k : Bool) → is_withdrawal version octets ≡ w → (number_at octets 0 2 == all_of_kind options) ≡ k
        → cond (w && k) (Ok (record { id = number_at octets 0 2; used = 4; what = AllWithdrawn }))
        (cond (nat_lt (number_at octets 0 2) 256) (Err TemplateId)
        (cond w (Ok (record { id = number_at octets 0 2; used = 4; what = Withdrawn }))
        (cond (nat_lt (length octets) (head_length options)) (Err TemplateCut) (definition_record version options octets)))) ≡ Ok turn
        → IsRecord version options octets turn
    by four true true w k h = withdrawn AllWithdrawn four w (rw (w, k) refl) (cc h)
    by four true false w k h =
        let id = not_err (nat_lt (number_at octets 0 2) 256) TemplateId (Ok (record { id = number_at octets 0 2; used = 4; what = Withdrawn })) turn h in
        withdrawn Withdrawn four w (rw (w, k) refl) (cc id.1)
    by four false k w same h =
        let defines : Result TemplateTurn TemplateFault = cond (nat_lt (length octets) (head_length options)) (Err TemplateCut) (definition_record version options octets) in
        let id = not_err (nat_lt (number_at octets 0 2) 256) TemplateId defines turn h in
        let head = not_err (nat_lt (length octets) (head_length options)) TemplateCut (definition_record version options octets) turn id.1 in
        let is = definition version options octets turn head.1 in
        record {
          four = four;
          id = is.id;
          what = is.what ∙ rw w refl;
          least = omega (arith, is.used, least_head options);
          within = omega (arith, is.used, is.within);
          defined = λ no. is;
        }

-- what a reader may lean on
pub record CanBeRead (version : ℕ) (options : Bool) (octets : List ℕ) : Type 0 where
  pub four : 4 ≤ length octets
  pub within : is_withdrawal version octets ≡ false → record_length version options octets ≤ length octets

pub can_be_read : (version : ℕ) (options : Bool) (octets : List ℕ) → IsOk (template_record version options octets) → CanBeRead version options octets
can_be_read version options octets h = by (template_record version options octets) refl h
  where
    by : (answer : Result TemplateTurn TemplateFault) → template_record version options octets ≡ answer → IsOk answer → CanBeRead version options octets
    by (Ok turn) is h =
        let parts = accepted_record version options octets turn is in
        record { four = parts.four; within = λ no. (parts.defined no).within }
    by (Err fault) is h = cc h

-- ---- what is judged, and then read

pub judged_bounds : (version : ℕ) (options : Bool) (octets : List ℕ) (judged : Result ℕ TemplateFault) → judged ≡ length_or_fault (template_record version options octets)
    → IfOk judged (λ used. (4 ≤ used) × (used ≤ length octets))
judged_bounds version options octets judged h = rw h (by (template_record version options octets) refl)
  where
    by : (answer : Result TemplateTurn TemplateFault) → template_record version options octets ≡ answer → IfOk (length_or_fault answer) (λ used. (4 ≤ used) × (used ≤ length octets))
    by (Ok turn) is = let parts = accepted_record version options octets turn is in (parts.least, parts.within)
    by (Err fault) is = tt

pub judged_ok : (version : ℕ) (options : Bool) (octets : List ℕ) (used : ℕ) → Ok used ≡ length_or_fault (template_record version options octets) → IsOk (template_record version options octets)
judged_ok version options octets used h = by (template_record version options octets) h
  where
    by : (answer : Result TemplateTurn TemplateFault) → Ok used ≡ length_or_fault answer → IsOk answer
    by (Ok turn) h = refl
    by (Err fault) h = cc h

pub judged_err : (answer : Result TemplateTurn TemplateFault) (fault : TemplateFault) → Err fault ≡ length_or_fault answer → answer ≡ Err fault
judged_err (Ok turn) fault h = cc h
judged_err (Err other) fault h = let same : fault ≡ other = cc h in ap Err (sym same)

pub read_turn : (version : ℕ) (options : Bool) (octets : List ℕ) (id used : ℕ) (what : TemplateWhat) → Ok used ≡ length_or_fault (template_record version options octets)
    → id ≡ number_at octets 0 2 → what ≡ what_of version options octets → template_record version options octets ≡ Ok (record { id = id; used = used; what = what })
read_turn version options octets id used what judged at is = by (template_record version options octets) refl judged
  where
    by : (answer : Result TemplateTurn TemplateFault) → template_record version options octets ≡ answer → Ok used ≡ length_or_fault answer
        → answer ≡ Ok (record { id = id; used = used; what = what })
    by (Ok turn) same h =
        let parts = accepted_record version options octets turn same in
        let long : used ≡ turn.used = cc h in
        λ i. Ok (record { id = (parts.id ∙ sym at) i; used = sym long i; what = (parts.what ∙ sym is) i })
    by (Err fault) same h = cc h

pub reads_err : (version : ℕ) (options : Bool) (octets : List ℕ) (fault : TemplateFault) → Err fault ≡ length_or_fault (template_record version options octets)
    → (◌≡◌ {A = Result ℕ TemplateFault} (Err fault) (Err NoMemory) → ⊥) → Reads (Err fault) (template_record version options octets)
reads_err version options octets fault h other = by fault (judged_err (template_record version options octets) fault h) other
  where
    by : (fault : TemplateFault) → template_record version options octets ≡ Err fault → (◌≡◌ {A = Result ℕ TemplateFault} (Err fault) (Err NoMemory) → ⊥) → Reads (Err fault) (template_record version options octets)
    by TemplateId is other = is
    by TemplateCut is other = is
    by TemplateEmpty is other = is
    by FieldWidth is other = is
    by ScopeCount is other = is
    by NoMemory is other = absurd (other refl)

-- ---- what is defined is defined by a record

by_options : (version : ℕ) (options : Bool) (octets : List ℕ) (what : TemplateWhat) → what ≡ what_of version options octets → (version ≡ 9) ⊎ (version ≡ 10)
    → ((place : ℕ) → slice_index octets place < 256) → (id used : ℕ) → template_record version options octets ≡ Ok (record { id = id; used = used; what = what })
    → DefinesAccepted version what
by_options version options octets Withdrawn is known each id used read = tt
by_options version options octets AllWithdrawn is known each id used read = tt
by_options version options octets (Defined template) is known each id used read =
    let same : template.options ≡ options = by (is_withdrawal version octets) (number_at octets 0 2 == all_of_kind options) is in
    record {
      known = known;
      octets = octets;
      each = each;
      id = id;
      used = used;
      read = ap (λ (kind : Bool). template_record version kind octets) same ∙ read;
    }
  where
    by : (w k : Bool) → Defined template ≡ cond w (cond k AllWithdrawn Withdrawn) (Defined (template_of version options octets)) → template.options ≡ options
    by true true h = cc h
    by true false h = cc h
    by false k h = let one : template ≡ template_of version options octets = cc h in ap (λ (t : Template). t.options) one

pub turn_defines : (version : ℕ) (options : Bool) (octets : List ℕ) (turn : TemplateTurn) → (version ≡ 9) ⊎ (version ≡ 10) → ((place : ℕ) → slice_index octets place < 256)
    → template_record version options octets ≡ Ok turn → DefinesAccepted version turn.what
turn_defines version options octets turn known each read =
    by_options version options octets turn.what (accepted_record version options octets turn read).what known each turn.id turn.used read

-- ---- what each accepted template has

count_of_fields : (version count : ℕ) (octets : List ℕ) → length (fields_of version count octets) ≡ count
count_of_fields version zero octets = refl
count_of_fields version (suc count) octets =
    let rest = count_of_fields version count (drop (field_length version octets) octets) in
    omega (arith, rest)

two_octets : (octets : List ℕ) (place : ℕ) → ((place : ℕ) → slice_index octets place < 256) → number_at octets place 2 < 65536
unfolding number_at
two_octets octets place each =
    let first : get_or (drop place octets) 0 0 < 256 = rw (get_or-drop place octets 0 0) (each (place + 0)) in
    let second : get_or (drop place octets) 1 0 < 256 = rw (get_or-drop place octets 1 0) (each (place + 1)) in
    omega (arith, first, second)

few_fields : (version : ℕ) (options : Bool) (octets : List ℕ) → ((place : ℕ) → slice_index octets place < 256) → field_count version options octets ≤ 65535
few_fields version options octets each = by (version == 9 && options)
  where
    by : (b : Bool) → cond b (number_at octets 2 2 / 4 + number_at octets 4 2 / 4) (number_at octets 2 2) ≤ 65535
    by true = omega (arith, two_octets octets 2 each, two_octets octets 4 each)
    by false = omega (arith, two_octets octets 2 each)

few_scope : (version : ℕ) (options : Bool) (octets : List ℕ) → (version ≡ 9) ⊎ (version ≡ 10) → has_faulty_scope version options octets ≡ false
    → scope_count version options octets ≤ field_count version options octets
few_scope version true octets (inl nine) h = rw nine (omega arith)
few_scope version false octets known h = by (version == 9)
  where
    by : (b : Bool) → 0 ≤ cond (b && false) (number_at octets 2 2 / 4 + number_at octets 4 2 / 4) (number_at octets 2 2)
    by true = omega arith
    by false = omega arith
few_scope version true octets (inr ten) h =
    let two = or_parts (number_at octets 4 2 == 0) (nat_lt (number_at octets 2 2) (number_at octets 4 2)) (rw ten at h) in
    rw ten (ltb-false (number_at octets 2 2) (number_at octets 4 2) two.1)

from_template : (version : ℕ) (options : Bool) (octets : List ℕ) (w k : Bool) (template : Template) → is_withdrawal version octets ≡ w
    → Defined template ≡ cond w (cond k AllWithdrawn Withdrawn) (Defined (template_of version options octets))
    → (is_withdrawal version octets ≡ false) × (template ≡ template_of version options octets)
from_template version options octets true true template w h = cc h
from_template version options octets true false template w h = cc h
from_template version options octets false k template w h = (w, cc h)

not_false : (b : Bool) → not b ≡ false → b ≡ true
not_false true h = refl
not_false false h = cc h

some_octet : (n : ℕ) → (n == 0) ≡ false → nat_le 1 n ≡ true
some_octet zero h = cc h
some_octet (suc n) h = le-leb 1 (suc n) (omega arith)

pub accepted_template : (version : ℕ) (template : Template) → IsDefined version template → is_accepted version template ≡ true
accepted_template version template is =
    let turn : TemplateTurn = record { id = is.id; used = is.used; what = Defined template } in
    let parts = accepted_record version template.options is.octets turn is.read in
    let from = from_template version template.options is.octets (is_withdrawal version is.octets) (number_at is.octets 0 2 == all_of_kind template.options) template refl parts.what in
    let has = parts.defined from.0 in
    let read = template_of version template.options is.octets in
    let count = count_of_fields version (field_count version template.options is.octets) (drop (head_length template.options) is.octets) in
    let scope = few_scope version template.options is.octets is.known has.scope in
    subst (λ (t : Template). is_accepted version t ≡ true) (sym from.1)
    (and_from _ _ (and_from _ _ (and_from _ _ (le-leb read.scope_fields (length read.fields) (omega (arith, count, scope)))
    (le-leb (length read.fields) 65535 (omega (arith, count, few_fields version template.options is.octets is.each))))
    (not_false (has_allowed_widths version read) has.allowed)) (some_octet (least_length version read.fields) has.some))

pub if_accepted : (version : ℕ) (found : Option (Bor Template)) → IfSome found (λ template. IsDefined version template.now) → IfSome found (λ template. is_accepted version template.now ≡ true)
if_accepted version None h = tt
if_accepted version (Some template) h = accepted_template version template.now h
