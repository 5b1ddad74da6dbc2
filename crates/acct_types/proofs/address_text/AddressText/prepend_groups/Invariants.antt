use Rattle.std.proofs.Common.{◌≡◌, ◌+◌, ◌-◌, ◌*◌, ◌≤◌, ◌∷◌, ◌++◌, length, drop, flat_map}
use Rattle.std.specs.Net.Text.{hex}
use Rattle.acct_types.proofs.address_text.AddressText.prepend_groups.Given as goal

abbrev pub invariant-loop-place : goal.invariant-loop-place
invariant-loop-place l = record {
  written : l.self ≡ flat_map (λ group. 58 ∷ hex group) (drop l.place l.rest) ++ l.fn.self;
  short : length l.self ≤ length l.fn.self + 5 * (length l.rest - l.place);
}
