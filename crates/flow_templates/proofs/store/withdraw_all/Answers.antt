use Rattle.std.proofs.Common.{◌∙◌, ◌+◌, arith, sym, ap, is_some, None, refl, subst}
use Rattle.flow_templates.specs.Changes.{found, without_kind}
use Rattle.flow_templates.specs.Domains.{HaveOneAnId, entries_of}
use Rattle.flow_templates.proofs.DomainLemmas.{apart_by, held_by, keeps_room, nothing_held, one_changes, writes_by}
use Rattle.flow_templates.proofs.OneEachLemmas.{one_an_id_written}
use Rattle.flow_templates.proofs.store.withdraw_all.Goals as goal

pub returns-in-Some-clause-changed : goal.returns-in-Some-clause-changed
returns-in-Some-clause-changed c =
    let old = c.args.domains.now.entries in
    let domain = c.args.domain in
    let new = (c.get_mut.follows.lender c.withdraw_all.new.self).entries in
    let written = c.get_mut.follows.holds c.withdraw_all.new.self in
    one_changes old new domain c.in-Some.templates.now c.withdraw_all.new.self
    (held_by old domain _ c.in-Some.ensures.value) (writes_by old new domain c.withdraw_all.new.self (written.3 (sym (ap is_some c.in-Some.ensures.value))).0)
    (apart_by old c.len-count.ensures.unique) (apart_by new written.4) (λ id. without_kind c.args.options) c.withdraw_all.ensures.withdrawn

pub returns-in-Some-clause-room : goal.returns-in-Some-clause-room
returns-in-Some-clause-room c other most =
    let old = c.args.domains.now.entries in
    let domain = c.args.domain in
    let new = (c.get_mut.follows.lender c.withdraw_all.new.self).entries in
    let written = c.get_mut.follows.holds c.withdraw_all.new.self in
    keeps_room old new domain c.in-Some.templates.now c.withdraw_all.new.self
    (held_by old domain _ c.in-Some.ensures.value) (writes_by old new domain c.withdraw_all.new.self (written.3 (sym (ap is_some c.in-Some.ensures.value))).0)
    (most + 1) most (λ h. omega (arith, h, c.withdraw_all.ensures.room)) (omega arith) other

pub returns-in_default-clause-changed : goal.returns-in_default-clause-changed
returns-in_default-clause-changed c key =
    let old = c.args.domains.now.entries in
    let domain = c.args.domain in
    ap (λ m. found (entries_of m.entries) key) c.get_mut.follows.holds-at-none
    ∙ nothing_held old (apart_by old c.len-count.ensures.unique) domain (held_by old domain None c.in_default.ensures.value) (without_kind c.args.options) refl key

pub returns-in-Some-clause-one : goal.returns-in-Some-clause-one
returns-in-Some-clause-one c h =
    subst HaveOneAnId (sym (c.get_mut.follows.holds c.withdraw_all.new.self).0) (one_an_id_written _ c.args.domains.now.entries c.withdraw_all.new.self c.has_one_each.ensures h)
