-- What the records so far tell, and those that are left.
use Rattle.std.proofs.Common.{◌≡◌, ◌+◌, ◌-◌, ◌<◌, ◌∙◌, ℕ, List, Option, refl, sym, ap}
use Rattle.std.specs.Prelude.{Result, Ok, Err, Some, None, false}
use Rattle.std.specs.Option.{option_or}
use Rattle.flow_templates.specs.declared.refusal.Cause.{Cause}
use Rattle.flow_templates.specs.declared.refusal.Cause.TheVariants.{RecordCut}
use Rattle.sflow_in.specs.declared.flow_record.RecordData.{RecordData}
use Rattle.sflow_in.specs.declared.flow_record.Told.{Told}
use Rattle.sflow_in.specs.FlowRecords.{also, first, masks_of, packet_of, record_of, records_of, vlan_of}
use Rattle.sflow_in.specs.Xdr.{before, body_of, format_of, is_cut, rest_of}
use Rattle.sflow_in.proofs.PieceLemmas.{pieces_next}

-- what is told so far, and by records after that
abbrev pub with_told : Told → Result (List RecordData) Cause → Result Told Cause
with_told told (Err cause) = Err cause
with_told told (Ok records) = Ok (record {
  packet = option_or told.packet (first packet_of records);
  vlan = option_or told.vlan (first vlan_of records);
  masks = option_or told.masks (first masks_of records);
})

or_assoc : {T : Type 0} (a b c : Option T) → option_or a (option_or b c) ≡ option_or (option_or a b) c
or_assoc None b c = refl
or_assoc (Some a) b c = refl

pub told_next : (told : Told) (one : RecordData) (records : Result (List RecordData) Cause) → with_told told (before (Ok one) records) ≡ with_told (also told one) records
told_next told one (Ok records) =
    rw (or_assoc told.packet (packet_of one) (first packet_of records), or_assoc told.vlan (vlan_of one) (first vlan_of records), or_assoc told.masks (masks_of one) (first masks_of records)) refl
told_next told one (Err cause) = refl

-- one record more is told
pub told_step : (told : Told) (one : RecordData) (count i : ℕ) (octets : List ℕ) (all : Result Told Cause) → i < count → is_cut octets ≡ false
    → Ok one ≡ record_of (format_of octets) (body_of octets) → with_told told (records_of (count - i) octets) ≡ all
    → with_told (also told one) (records_of (count - (i + 1)) (rest_of octets)) ≡ all
told_step told one count i octets all h whole is kept =
    let next = pieces_next RecordCut record_of count i octets h whole in
    let left = records_of (count - (i + 1)) (rest_of octets) in
    sym (told_next told one left) ∙ ap (λ (first : Result RecordData Cause). with_told told (before first left)) is ∙ sym (ap (with_told told) next) ∙ kept

-- a record that is refused refuses all
pub told_refused : (told : Told) (cause : Cause) (count i : ℕ) (octets : List ℕ) (all : Result Told Cause) → i < count → is_cut octets ≡ false
    → Err cause ≡ record_of (format_of octets) (body_of octets) → with_told told (records_of (count - i) octets) ≡ all → Err cause ≡ all
told_refused told cause count i octets all h whole is kept =
    let next = pieces_next RecordCut record_of count i octets h whole in
    let left = records_of (count - (i + 1)) (rest_of octets) in
    ap (λ (first : Result RecordData Cause). with_told told (before first left)) is ∙ sym (ap (with_told told) next) ∙ kept
