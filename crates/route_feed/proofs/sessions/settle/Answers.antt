use Rattle.std.proofs.Common.{◌≡◌, ◌∙◌, Bool, ap, subst, sym}
use Rattle.std.specs.Prelude.{◌&&◌, None, cond, if◌then◌else◌}
use Rattle.std.specs.BTreeMap.{is_at}
use Rattle.std.specs.Map.{lookup}
use Rattle.std.specs.declared.cmp.Ordering.{Ordering}
use Rattle.acct_types.specs.Order.{addr_cmp}
use Rattle.acct_types.specs.declared.addr.Addr.{Addr}
use Rattle.route_feed.specs.Routings.{session_at}
use Rattle.route_feed.proofs.SessionLemmas.{in_order}
use Rattle.route_feed.proofs.sessions.settle.Goals as goal

pub returns-then-over : goal.returns-then-over
returns-then-over c = λ other.
    let derived = in_order _ c.addresses_are_ordered.ensures.derived in
    let before = c.args.sessions.now.entries in
    let now = c.remove.new.self.entries in
    let updated = subst (λ (cmp : Addr → Addr → Ordering). (other : Addr) → lookup (is_at (cmp other)) now ≡ cond (is_at (cmp c.args.address) other) None (lookup (is_at (cmp other)) before))
    derived c.remove.ensures.updates.0 in
    updated other ∙ sym (ap (λ (over : Bool). if over && is_at (addr_cmp c.args.address) other then None else session_at other before) c.if-over.true)
