use Rattle.std.proofs.Common.{◌≡◌, ◌∙◌, ◌==◌, ◌+◌, Bool, true, false, Option, None, arith, sym, ap, is_some, refl, subst}
use Rattle.std.specs.Prelude.{if◌then◌else◌}
use Rattle.flow_templates.specs.declared.template.Template.{Template}
use Rattle.flow_templates.specs.Changes.{found, same_domain}
use Rattle.flow_templates.specs.Domains.{HaveOneAnId, entries_of}
use Rattle.flow_templates.proofs.DomainLemmas.{apart_by, held_by, in_both, keeps_room, nothing_held, one_changes, writes_by}
use Rattle.flow_templates.proofs.OneEachLemmas.{one_an_id_written}
use Rattle.flow_templates.proofs.store.withdraw.Goals as goal

pub returns-in-Some-clause-changed : goal.returns-in-Some-clause-changed
returns-in-Some-clause-changed c key =
    let old = c.args.domains.now.entries in
    let domain = c.args.key.domain in
    let new = (c.get_mut.follows.lender c.withdraw.new.self).entries in
    let written = c.get_mut.follows.holds c.withdraw.new.self in
    one_changes old new domain c.in-Some.templates.now c.withdraw.new.self
    (held_by old domain _ c.in-Some.ensures.value) (writes_by old new domain c.withdraw.new.self (written.3 (sym (ap is_some c.in-Some.ensures.value))).0)
    (apart_by old c.len-count.ensures.unique) (apart_by new written.4) (λ id before. if c.args.key.id == id then None else before) c.withdraw.ensures.withdrawn key
    ∙ in_both (same_domain domain key.domain) (c.args.key.id == key.id) None (found (entries_of old) key)

pub returns-in-Some-clause-room : goal.returns-in-Some-clause-room
returns-in-Some-clause-room c other most =
    let old = c.args.domains.now.entries in
    let domain = c.args.key.domain in
    let new = (c.get_mut.follows.lender c.withdraw.new.self).entries in
    let written = c.get_mut.follows.holds c.withdraw.new.self in
    keeps_room old new domain c.in-Some.templates.now c.withdraw.new.self
    (held_by old domain _ c.in-Some.ensures.value) (writes_by old new domain c.withdraw.new.self (written.3 (sym (ap is_some c.in-Some.ensures.value))).0)
    (most + 1) most (λ h. omega (arith, h, c.withdraw.ensures.room)) (omega arith) other

pub returns-in_default-clause-changed : goal.returns-in_default-clause-changed
returns-in_default-clause-changed c key =
    let old = c.args.domains.now.entries in
    let domain = c.args.key.domain in
    ap (λ m. found (entries_of m.entries) key) c.get_mut.follows.holds-at-none
    ∙ nothing_held old (apart_by old c.len-count.ensures.unique) domain (held_by old domain None c.in_default.ensures.value) (λ before. if c.args.key.id == key.id then None else before) (none_either (c.args.key.id == key.id)) key
    ∙ in_both (same_domain domain key.domain) (c.args.key.id == key.id) None (found (entries_of old) key)
  where
    none_either : (c : Bool) → ◌≡◌ {A = Option Template} (if c then None else None) None
    none_either true = refl
    none_either false = refl

pub returns-in-Some-clause-one : goal.returns-in-Some-clause-one
returns-in-Some-clause-one c h =
    subst HaveOneAnId (sym (c.get_mut.follows.holds c.withdraw.new.self).0) (one_an_id_written _ c.args.domains.now.entries c.withdraw.new.self c.has_one_each.ensures h)
