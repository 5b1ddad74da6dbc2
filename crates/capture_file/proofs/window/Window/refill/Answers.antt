use Rattle.std.proofs.Common.{length, take, drop, sym, ap, ◌∙◌, ◌++◌, ◌+◌, List, ℕ}
use Rattle.capture_file.proofs.Windows.{refilled, written_over}
use Rattle.capture_file.proofs.window.Window.refill.Goals as goal

pub returns-clause-octets : goal.returns-clause-octets
returns-clause-octets g c =
    let window = c.make_room.new.self in
    let octets = take c.in_ok-count.count (drop window.end c.read_at_end.new.buffer) in (
      octets,
      sym c.in_ok-count.ensures.bound.1,
      ap (λ (xs : List ℕ). drop window.start (take (window.end + c.in_ok-count.count) xs)) (written_over window.buffer.items c.read_at_end.new.buffer _ (sym c.as_mut_slice.ensures.len ∙ ap length c.as_mut_slice.ensures.value) (c.read_at_end.auto.buffer ∙ ap length c.as_mut_slice.ensures.value)) ∙ refilled window.buffer.items c.read_at_end.new.buffer window.start window.end c.in_ok-count.count window.ordered window.within (c.read_at_end.ensures.kept ∙ ap (take window.end) c.as_mut_slice.ensures.value) ∙ ap (λ (xs : List ℕ). xs ++ octets) c.make_room.ensures.ahead,
      c.in_ok-count.ensures.octets,
    )
