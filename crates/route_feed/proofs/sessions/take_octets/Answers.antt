use Rattle.std.proofs.Common.{◌≡◌, Bool, ap, subst, sym, refl}
use Rattle.std.specs.Prelude.{◌&&◌, IsSome, Option, Some, None, cond, is_some, if◌then◌else◌}
use Rattle.std.specs.BTreeMap.{BTreeMap, is_at}
use Rattle.std.specs.Map.{lookup}
use Rattle.std.specs.declared.cmp.Ordering.{Ordering}
use Rattle.acct_types.specs.Order.{addr_cmp}
use Rattle.acct_types.specs.declared.addr.Addr.{Addr}
use Rattle.acct_types.specs.declared.route_event.Act.TheVariants.{Bytes}
use Rattle.bgp_session.specs.Sessions.{SessionState}
use Rattle.route_feed.specs.Routings.{Sessions, session_at}
use Rattle.route_feed.specs.Steps.{Acted}
use Rattle.route_feed.proofs.SessionLemmas.{Told, acted_nowhere, acted_octets, always, go_on_at, go_on_if, go_on_updated, in_order, on_ok, updated_settled}
use Rattle.route_feed.proofs.sessions.take_octets.Goals as goal

pub returns-in_default-clause-acted : goal.returns-in_default-clause-acted
returns-in_default-clause-acted c = λ local lives h.
    let derived = in_order _ c.addresses_are_ordered.ensures.derived in
    let sessions = c.args.sessions.now.entries in
    let none = subst (λ (cmp : Addr → Addr → Ordering). None ≡ lookup (is_at (cmp c.args.address)) sessions) derived c.in_default.ensures.value in
    let same = c.get_mut.follows.holds-at-none in
    subst (λ (now : Sessions). Acted local c.args.moment c.args.address (Bytes c.args.octets.now) lives now c.args.turn.now c.args.turn.now)
    (sym (ap (λ (map : BTreeMap Addr SessionState). map.entries) same))
    (acted_nowhere (λ a b. (c.addresses_are_ordered.ensures.equal a b).0) local c.args.moment c.args.address c.args.octets.now lives sessions c.args.turn.now h none)

pub on-requires-clause-live : goal.on-requires-clause-live
on-requires-clause-live c =
    let derived = in_order _ c.addresses_are_ordered.ensures.derived in
    let sessions = c.args.sessions.now.entries in
    let found = subst (λ (cmp : Addr → Addr → Ordering). Some c.in-Some.session.now ≡ lookup (is_at (cmp c.args.address)) sessions) derived c.in-Some.ensures.value in
    (go_on_at c.args.moment c.args.address c.in-Some.session.now sessions c.requires.go_on found).live

pub on-requires-clause-later : goal.on-requires-clause-later
on-requires-clause-later c =
    let derived = in_order _ c.addresses_are_ordered.ensures.derived in
    let sessions = c.args.sessions.now.entries in
    let found = subst (λ (cmp : Addr → Addr → Ordering). Some c.in-Some.session.now ≡ lookup (is_at (cmp c.args.address)) sessions) derived c.in-Some.ensures.value in
    (go_on_at c.args.moment c.args.address c.in-Some.session.now sessions c.requires.go_on found).earlier

pub returns-clause-go_on : goal.returns-clause-go_on
returns-clause-go_on c =
    let derived = in_order _ c.addresses_are_ordered.ensures.derived in
    let sessions = c.args.sessions.now.entries in
    let mid = (c.get_mut.follows.lender c.on.new.self).entries in
    let now = c.settle.new.sessions.entries in
    let written = ((c.get_mut.follows.holds c.on.new.self).3 (subst (λ (state : Option SessionState). IsSome state) c.in-Some.ensures.value refl)).0 in
    let updated = subst (λ (cmp : Addr → Addr → Ordering). (other : Addr) → lookup (is_at (cmp other)) mid ≡ cond (is_at (cmp c.args.address) other) (Some c.on.new.self) (lookup (is_at (cmp other)) sessions))
    derived written in
    let settled = subst (λ (over : Bool). (other : Addr) → session_at other now ≡ (if over && is_at (addr_cmp c.args.address) other then None else session_at other mid)) c.is_some.ensures c.settle.ensures in
    let goes_on = go_on_updated c.args.moment c.args.address (if is_some c.in-Ok.given.closed then None else Some c.on.new.self) sessions now c.requires.go_on
    (go_on_if c.args.moment c.on.new.self c.in-Ok.given.closed c.in-Ok.ensures.ends c.on.ensures.moment)
    (updated_settled c.args.address c.on.new.self (is_some c.in-Ok.given.closed) sessions mid now updated settled) in
    always c.take.result goes_on

pub returns-clause-acted : goal.returns-clause-acted
returns-clause-acted c = λ local lives h.
    let derived = in_order _ c.addresses_are_ordered.ensures.derived in
    let sessions = c.args.sessions.now.entries in
    let mid = (c.get_mut.follows.lender c.on.new.self).entries in
    let now = c.settle.new.sessions.entries in
    let found = subst (λ (cmp : Addr → Addr → Ordering). Some c.in-Some.session.now ≡ lookup (is_at (cmp c.args.address)) sessions) derived c.in-Some.ensures.value in
    let written = ((c.get_mut.follows.holds c.on.new.self).3 (subst (λ (state : Option SessionState). IsSome state) c.in-Some.ensures.value refl)).0 in
    let updated = subst (λ (cmp : Addr → Addr → Ordering). (other : Addr) → lookup (is_at (cmp other)) mid ≡ cond (is_at (cmp c.args.address) other) (Some c.on.new.self) (lookup (is_at (cmp other)) sessions))
    derived written in
    let settled = subst (λ (over : Bool). (other : Addr) → session_at other now ≡ (if over && is_at (addr_cmp c.args.address) other then None else session_at other mid)) c.is_some.ensures c.settle.ensures in
    let told : Told c.args.moment c.args.octets.now c.in-Some.session.now c.on.new.self c.in-Ok.given =
    record { hears = c.in-Ok.ensures.hears; replies = c.in-Ok.ensures.replies; updates = c.in-Ok.ensures.updates; closed = c.in-Ok.ensures.closed; same = c.on.ensures.local } in
    on_ok c.take.result (λ messages replies closures.
    acted_octets local c.args.moment c.args.address c.args.octets.now lives c.in-Some.session.now c.on.new.self c.in-Ok.given sessions now c.args.turn.now c.take.new.self h found told
    (updated_settled c.args.address c.on.new.self (is_some c.in-Ok.given.closed) sessions mid now updated settled) messages replies closures)
    c.take.ensures.messages c.take.ensures.replies c.take.ensures.closures
