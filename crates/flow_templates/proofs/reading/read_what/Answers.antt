use Rattle.std.proofs.Common.{◌≡◌, ◌∙◌, ℕ, drop, length, length-drop, ap, ap₂, arith, sym}
use Rattle.flow_templates.specs.Templates.{field_count, fields_length, head_length}
use Rattle.flow_templates.proofs.RecordLemmas.{can_be_read}
use Rattle.flow_templates.proofs.reading.read_what.Goals as goal

pub is_withdrawal-requires : goal.is_withdrawal-requires
is_withdrawal-requires c = (can_be_read c.args.version c.args.options c.args.octets.now c.requires).four

pub u16_at-requires : goal.u16_at-requires
u16_at-requires c = omega (arith, (can_be_read c.args.version c.args.options c.args.octets.now c.requires).four)

pub field_count-count-requires : goal.field_count-count-requires
field_count-count-requires c =
    omega (arith, (can_be_read c.args.version c.args.options c.args.octets.now c.requires).within (sym c.is_withdrawal.ensures ∙ c.if-is_withdrawal.false))

pub after-rest-requires : goal.after-rest-requires
after-rest-requires c =
    omega (arith, (can_be_read c.args.version c.args.options c.args.octets.now c.requires).within (sym c.is_withdrawal.ensures ∙ c.if-is_withdrawal.false), c.from.ensures, c.head_length.ensures)

pub read_fields-requires : goal.read_fields-requires
read_fields-requires c =
    let version = c.args.version in
    let octets = c.args.octets.now in
    let within = (can_be_read version c.args.options octets c.requires).within (sym c.is_withdrawal.ensures ∙ c.if-is_withdrawal.false) in
    let rest : c.after-rest.result.now ≡ drop (head_length c.args.options) octets = c.after-rest.ensures ∙ ap (λ (n : ℕ). drop n octets) (c.from.ensures ∙ c.head_length.ensures) in
    let same : fields_length version c.field_count-count.result c.after-rest.result.now ≡ fields_length version (field_count version c.args.options octets) (drop (head_length c.args.options) octets) =
    ap₂ (fields_length version) c.field_count-count.ensures rest in
    omega (arith, within, same, ap length rest ∙ length-drop (head_length c.args.options) octets)

pub scope_count-requires : goal.scope_count-requires
scope_count-requires c =
    omega (arith, (can_be_read c.args.version c.args.options c.args.octets.now c.requires).within (sym c.is_withdrawal.ensures ∙ c.if-is_withdrawal.false))
