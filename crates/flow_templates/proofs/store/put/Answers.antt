use Rattle.std.proofs.Common.{◌≡◌, ◌∙◌, ◌==◌, ◌+◌, ◌≤◌, Option, Some, arith, sym, ap, is_some, subst}
use Rattle.std.specs.Prelude.{if◌then◌else◌, MatchOption}
use Rattle.std.specs.Map.{lookup}
use Rattle.std.specs.Option.{option_copied_mut}
use Rattle.flow_templates.specs.Changes.{found, same_domain}
use Rattle.flow_templates.specs.Domains.{HaveOneAnId, Numbered, entries_of}
use Rattle.flow_templates.proofs.DomainLemmas.{apart_by, held_by, in_both, keeps_room, one_changes, writes_by}
use Rattle.flow_templates.proofs.OneEachLemmas.{one_an_id_written}
use Rattle.flow_templates.proofs.store.put.Goals as goal

pub put-requires : goal.put-requires
put-requires c =
    let there = held_by c.args.domains.now.entries c.args.key.domain _ c.get_mut.ensures.value ∙ ap option_copied_mut c.unwrap-templates.ensures in
    let room : 1 ≤ c.unwrap-templates.result.now.room = subst (λ (one : Option Numbered). MatchOption one (1 ≤ 0) (λ kept. 1 ≤ kept.room)) there c.requires in
    room

pub returns-clause-changed : goal.returns-clause-changed
returns-clause-changed c key =
    let old = c.args.domains.now.entries in
    let domain = c.args.key.domain in
    let new = (c.get_mut.follows.lender c.put.new.self).entries in
    let written = c.get_mut.follows.holds c.put.new.self in
    let there : lookup (same_domain domain) old ≡ Some c.unwrap-templates.result.now = held_by old domain _ c.get_mut.ensures.value ∙ ap option_copied_mut c.unwrap-templates.ensures in
    one_changes old new domain c.unwrap-templates.result.now c.put.new.self there
    (writes_by old new domain c.put.new.self (written.3 (sym (ap is_some (sym (ap option_copied_mut c.unwrap-templates.ensures) ∙ c.get_mut.ensures.value)))).0)
    (apart_by old c.get_mut.ensures.unique) (apart_by new written.4) (λ id before. if c.args.key.id == id then Some c.args.template else before) c.put.ensures.put key
    ∙ in_both (same_domain domain key.domain) (c.args.key.id == key.id) (Some c.args.template) (found (entries_of old) key)

pub returns-clause-room : goal.returns-clause-room
returns-clause-room c other most =
    let old = c.args.domains.now.entries in
    let domain = c.args.key.domain in
    let new = (c.get_mut.follows.lender c.put.new.self).entries in
    let written = c.get_mut.follows.holds c.put.new.self in
    let there : lookup (same_domain domain) old ≡ Some c.unwrap-templates.result.now = held_by old domain _ c.get_mut.ensures.value ∙ ap option_copied_mut c.unwrap-templates.ensures in
    keeps_room old new domain c.unwrap-templates.result.now c.put.new.self there
    (writes_by old new domain c.put.new.self (written.3 (sym (ap is_some (sym (ap option_copied_mut c.unwrap-templates.ensures) ∙ c.get_mut.ensures.value)))).0)
    (most + 1) most (λ h. omega (arith, h, c.put.ensures.room)) (omega arith) other

pub returns-clause-one : goal.returns-clause-one
returns-clause-one c h =
    subst HaveOneAnId (sym (c.get_mut.follows.holds c.put.new.self).0) (one_an_id_written _ c.args.domains.now.entries c.put.new.self c.has_one_each.ensures h)
