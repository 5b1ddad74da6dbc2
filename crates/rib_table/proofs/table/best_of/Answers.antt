use Rattle.std.proofs.Common.{◌∙◌, ◌&&◌, true, ap, cond, option_map, subst, sym}
use Rattle.std.specs.List.Sorted.{IsStrictlySortedBy}
use Rattle.std.specs.Map.{keys_of}
use Rattle.std.specs.Ordering.{is_le}
use Rattle.std.specs.declared.cmp.Ordering.{Ordering}
use Rattle.acct_types.specs.declared.rib.RibSource.{RibSource}
use Rattle.acct_types.specs.declared.rib.RibSource.TheVariants.{Bmp}
use Rattle.rib_table.specs.Longest.{best, longest, route_seen}
use Rattle.rib_table.proofs.PeerLemmas.{begins, ends, goes_on, is_from, least, stops, to_the_end}
use Rattle.rib_table.proofs.TableLemmas.{in_order}
use Rattle.rib_table.proofs.table.best_of.Goals as goal

pub loop-source-init : goal.loop-source-init
loop-source-init c =
    let derived = c.sources_are_ordered.ensures.derived in
    let sources = c.args.sources.now.entries in
    let ordered = subst (λ (cmp : RibSource → RibSource → Ordering). IsStrictlySortedBy cmp (keys_of sources)) (in_order _ derived) c.range-entries.ensures.ordered in
    begins c.args.router.now c.args.peer c.args.address.now _ (λ entry. (λ i. is_le (derived (Bmp c.args.router.now least) entry.0 i) && true) ∙ to_the_end (is_from c.args.router.now entry.0)) c.range-entries.result sources (c.range-entries.ensures.between tt) ordered

pub returns-then-not-is_peer_of : goal.returns-then-not-is_peer_of
returns-then-not-is_peer_of c =
    stops c.addresses_are_ordered.ensures.total (λ a b. (c.addresses_are_ordered.ensures.equal a b).0) c.args.router.now c.args.peer c.args.address.now (option_map route_seen c.loop-source.found)
    (c.in-Some.source.now, c.in-Some.routes.now) c.loop-source.entries c.next.new.self c.args.sources.now.entries c.loop-source.invariant c.in-Some.ensures.steps (sym c.if-not-is_peer_of.ensures)

pub loop-source-preserved-then-is_taken : goal.loop-source-preserved-then-is_taken
loop-source-preserved-then-is_taken c =
    let found = option_map route_seen c.loop-source.found in
    goes_on c.args.router.now c.args.peer c.args.address.now found (c.in-Some.source.now, c.in-Some.routes.now) c.loop-source.entries c.next.new.self c.args.sources.now.entries c.loop-source.invariant
    c.in-Some.ensures.steps (option_map route_seen c.best-found.result)
    (c.best-found.ensures ∙ ap (best found) c.longest.ensures ∙ ap (λ b. cond b (best found (longest c.args.address.now c.in-Some.routes.now)) found) c.if-is_taken.ensures)

pub loop-source-preserved : goal.loop-source-preserved
loop-source-preserved c =
    let found = option_map route_seen c.loop-source.found in
    goes_on c.args.router.now c.args.peer c.args.address.now found (c.in-Some.source.now, c.in-Some.routes.now) c.loop-source.entries c.next.new.self c.args.sources.now.entries c.loop-source.invariant
    c.in-Some.ensures.steps found
    (ap (λ b. cond b (best found (longest c.args.address.now c.in-Some.routes.now)) found) c.if-is_taken.ensures)

pub returns : goal.returns
returns c =
    ends c.args.router.now c.args.peer c.args.address.now (option_map route_seen c.loop-source.found) c.loop-source.entries c.args.sources.now.entries c.loop-source.invariant c.in_default.ensures.steps.0
