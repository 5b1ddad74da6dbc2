use Rattle.std.proofs.Common.{◌≡◌, ◌∙◌, ℕ, append_assoc, drop, ap}
use Rattle.bgp_msg.specs.Paths.{number_width}
use Rattle.bgp_msg.proofs.SegmentLemmas.{numbers_next, room_next}
use Rattle.bgp_msg.proofs.paths.push_ones.Goals as goal

pub number_at-requires : goal.number_at-requires
number_at-requires c = (room_next (number_width c.args.wide) c.args.count c.loop.counter c.loop.rest.now c.loop-test.true c.loop.invariant.room).0

pub after-rest-requires : goal.after-rest-requires
after-rest-requires c =
    rw c.number_width.ensures (room_next (number_width c.args.wide) c.args.count c.loop.counter c.loop.rest.now c.loop-test.true c.loop.invariant.room).0

pub loop-preserved : goal.loop-preserved
loop-preserved c =
    let rest : c.after-rest.result.now ≡ drop (number_width c.args.wide) c.loop.rest.now = c.after-rest.ensures ∙ ap (λ (n : ℕ). drop n c.loop.rest.now) c.number_width.ensures in
    record {
      all = rw (rest, c.in_ok-push.ensures.items, append_assoc, c.number_at.ensures)
          (rw (numbers_next (number_width c.args.wide) c.args.count c.loop.counter c.loop.rest.now c.loop-test.true) at c.loop.invariant.all);
      room = rw rest (room_next (number_width c.args.wide) c.args.count c.loop.counter c.loop.rest.now c.loop-test.true c.loop.invariant.room).1;
    }
