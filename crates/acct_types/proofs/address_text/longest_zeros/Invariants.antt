use Rattle.std.proofs.Common.{◌≡◌, ◌+◌, ◌≤◌, length, drop}
use Rattle.std.specs.Net.Text.{zero_run, longest_zero_run}
use Rattle.acct_types.proofs.address_text.longest_zeros.Given as goal

abbrev pub invariant-loop-place : goal.invariant-loop-place
invariant-loop-place l = record {
  zeros : l.zeros ≡ zero_run (drop l.place l.groups);
  zeros_within : l.place + l.zeros ≤ length l.groups;
  longest : l.longest ≡ (longest_zero_run (drop l.place l.groups)).1;
  first : l.first ≡ l.place + (longest_zero_run (drop l.place l.groups)).0;
  longest_within : l.first + l.longest ≤ length l.groups;
}
