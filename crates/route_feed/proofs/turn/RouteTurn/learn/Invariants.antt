use Rattle.std.proofs.Common.{◌≡◌, ◌++◌, length, map}
use Rattle.std.specs.Vec.Iter.{into_iter_items, into_iter_len}
use Rattle.acct_types.specs.Updates.{message_view, update_view}
use Rattle.route_feed.specs.Told.{update}
use Rattle.route_feed.proofs.turn.RouteTurn.learn.Given as goal

-- the UPDATEs so far were learned, and the others are left
abbrev pub invariant-loop-update : goal.invariant-loop-update
invariant-loop-update l = record {
  messages : map message_view l.self.messages ++ map (update l.moment l.address) (map update_view (into_iter_items l.update-iterator))
      ≡ map message_view l.initial.self.messages ++ map (update l.moment l.address) (map update_view l.fn.updates);
  left : into_iter_len l.update-iterator ≡ length (into_iter_items l.update-iterator);
  replies : l.self.replies ≡ l.initial.self.replies;
  closures : l.self.closures ≡ l.initial.self.closures;
}
