use Rattle.std.proofs.Common.{◌≡◌, ◌∙◌, None, arith, sym, ap, is_some, subst}
use Rattle.std.specs.Map.{lookup}
use Rattle.flow_templates.specs.contracts.template.DomainPartialEq.TheImpl as domain_equality
use Rattle.flow_templates.specs.Domains.{Domains, HasOneAnId, HasRoom, HaveOneAnId, entries_of}
use Rattle.flow_templates.proofs.DomainLemmas.{held_by, keeps_room, room_inserted, same_inserted, same_written, writes_by}
use Rattle.flow_templates.proofs.OneEachLemmas.{one_an_id_inserted, one_an_id_written, one_of_none}
use Rattle.flow_templates.proofs.store.make_room.Goals as goal

pub returns-in-Some-clause-entries : goal.returns-in-Some-clause-entries
returns-in-Some-clause-entries c =
    let old = c.args.domains.now.entries in
    ap entries_of (c.get_mut.follows.holds c.reserve.new.self).0
    ∙ same_written ((domain_equality.eq-value).it c.args.domain.now) old c.in-Some.templates.now c.reserve.new.self (sym c.in-Some.ensures.value) c.reserve.ensures.templates

pub returns-in-Some-clause-room : goal.returns-in-Some-clause-room
returns-in-Some-clause-room c other most =
    let old = c.args.domains.now.entries in
    let written = c.get_mut.follows.holds c.reserve.new.self in
    keeps_room old (c.get_mut.follows.lender c.reserve.new.self).entries c.args.domain.now c.in-Some.templates.now c.reserve.new.self
    (held_by old c.args.domain.now _ c.in-Some.ensures.value) (writes_by old _ c.args.domain.now c.reserve.new.self (written.3 (sym (ap is_some c.in-Some.ensures.value))).0)
    most most (λ h. omega (arith, h, c.reserve.ensures.room)) (omega arith) other

pub returns-clause-entries : goal.returns-clause-entries
returns-clause-entries c =
    let same = ap (λ m. m.entries) c.get_mut.follows.holds-at-none in
    let none = sym (subst (λ (domains : Domains). None ≡ lookup ((domain_equality.eq-value).it c.args.domain.now) domains) (sym same) c.in_default.ensures.value) in
    ap entries_of c.in_ok-_none.ensures.entries
    ∙ same_inserted (domain_equality.eq-value).it c.get_mut.follows.lender-at-none.entries c.args.domain.now c.reserve-2.new.self none (c.reserve-2.ensures.templates ∙ c.new-templates.ensures)
    ∙ ap entries_of same

pub returns-clause-room : goal.returns-clause-room
returns-clause-room c other most room =
    let same = ap (λ m. m.entries) c.get_mut.follows.holds-at-none in
    let before = c.get_mut.follows.lender-at-none.entries in
    let none = subst (λ (domains : Domains). None ≡ lookup ((domain_equality.eq-value).it c.args.domain.now) domains) (sym same) c.in_default.ensures.value in
    room_inserted before c.insert.new.self.entries c.args.domain.now c.reserve-2.new.self (held_by before c.args.domain.now None none)
    (writes_by before c.insert.new.self.entries c.args.domain.now c.reserve-2.new.self c.in_ok-_none.ensures.updates.0) other most
    (subst (λ (domains : Domains). HasRoom domains other most) (sym same) room)

pub returns-in-Some-clause-one : goal.returns-in-Some-clause-one
returns-in-Some-clause-one c h =
    let kept = c.reserve.new.self in
    let one : HasOneAnId kept.templates = subst HasOneAnId (sym c.reserve.ensures.templates) c.has_one_each.ensures in
    subst HaveOneAnId (sym (c.get_mut.follows.holds kept).0) (one_an_id_written _ c.args.domains.now.entries kept one h)

pub returns-clause-one : goal.returns-clause-one
returns-clause-one c h =
    let kept = c.reserve-2.new.self in
    let same = ap (λ m. m.entries) c.get_mut.follows.holds-at-none in
    let one : HasOneAnId kept.templates = subst HasOneAnId (sym (c.reserve-2.ensures.templates ∙ c.new-templates.ensures)) one_of_none in
    subst HaveOneAnId (sym c.in_ok-_none.ensures.entries)
    (one_an_id_inserted (domain_equality.eq-value).it c.get_mut.follows.lender-at-none.entries c.args.domain.now kept one (subst HaveOneAnId (sym same) h))
