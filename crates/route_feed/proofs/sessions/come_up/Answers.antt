use Rattle.std.proofs.Common.{◌≡◌, ◌∙◌, ◌++◌, [], arith, ap, map, subst, refl}
use Rattle.std.specs.Prelude.{Option, Some, cond}
use Rattle.std.specs.BTreeMap.{is_at}
use Rattle.std.specs.Map.{lookup}
use Rattle.std.specs.declared.cmp.Ordering.{Ordering}
use Rattle.acct_types.specs.Updates.{message_view}
use Rattle.acct_types.specs.declared.addr.Addr.{Addr}
use Rattle.acct_types.specs.declared.route_event.Act.TheVariants.{Up}
use Rattle.bgp_session.specs.declared.why.Why.{Why}
use Rattle.bgp_session.specs.declared.why.Why.TheVariants.{Replaced}
use Rattle.route_feed.specs.Told.{closures_for, resets_by}
use Rattle.route_feed.proofs.SessionLemmas.{acted_end, are_of_updated, go_on_updated, in_order, on_ok, always}
use Rattle.route_feed.proofs.sessions.come_up.Goals as goal

pub returns-clause-go_on : goal.returns-clause-go_on
returns-clause-go_on c =
    let derived = in_order _ c.addresses_are_ordered.ensures.derived in
    let before = c.args.sessions.now.entries in
    let now = c.insert.new.self.entries in
    let updated = subst (λ (cmp : Addr → Addr → Ordering). (other : Addr) → lookup (is_at (cmp other)) now ≡ cond (is_at (cmp c.args.address) other) (Some c.new-session.result) (lookup (is_at (cmp other)) before))
    derived c.in-Ok.ensures.updates.0 in
    let goes_on = go_on_updated c.args.moment c.args.address (Some c.new-session.result) before now c.requires.go_on
    (record { live = c.new-session.ensures.live; earlier = omega (arith, c.new-session.ensures.moment) }) updated in
    on_ok c.close.result (λ _ _ _. goes_on) c.close.ensures.messages c.close.ensures.messages c.close.ensures.messages

pub returns-clause-acted : goal.returns-clause-acted
returns-clause-acted c = λ lives h.
    let derived = in_order _ c.addresses_are_ordered.ensures.derived in
    let before = c.args.sessions.now.entries in
    let now = c.insert.new.self.entries in
    let updated = subst (λ (cmp : Addr → Addr → Ordering). (other : Addr) → lookup (is_at (cmp other)) now ≡ cond (is_at (cmp c.args.address) other) (Some c.new-session.result) (lookup (is_at (cmp other)) before))
    derived c.in-Ok.ensures.updates.0 in
    let found = subst (λ (cmp : Addr → Addr → Ordering). c.in-Ok.before ≡ lookup (is_at (cmp c.args.address)) before) derived c.in-Ok.ensures.old in
    let lives_now = are_of_updated c.args.local c.args.address (Some c.new-session.result) (Some []) before now lives h
    (record { of_side = λ i. record { id = c.new-session.ensures.id i; hold = c.new-session.ensures.hold i }; heard = c.new-session.ensures.hears }) updated in
    let reason = c.reason_of.ensures in
    on_ok c.close.result (λ messages replies closures.
    acted_end c.args.local c.args.moment c.args.address Up Replaced lives c.in-Ok.before before now c.args.turn.now c.close.new.self (λ _. refl) (λ _. refl) (λ _. refl) h found lives_now
    (messages ∙ ap (λ (reason : Option Why). map message_view c.args.turn.now.messages ++ resets_by c.args.moment c.args.address reason) reason) replies
    (closures ∙ ap (λ (reason : Option Why). c.args.turn.now.closures ++ closures_for c.args.moment c.args.address reason) reason))
    c.close.ensures.messages (always c.close.result c.close.ensures.replies) c.close.ensures.closures
