-- Clearing bits leaves none of them.
use Rattle.std.proofs.Common.{◌≡◌, ◌-◌, ◌^◌, ℕ}
use Rattle.std.proofs.Math.Nat.{mul-mod_left}
use Rattle.acct_types.specs.Prefixes.{cleared_after, first_bits, last_bits}

pub no_last_bits : (count width n m : ℕ) → m ≡ cleared_after count width n → last_bits count width m ≡ 0
no_last_bits count width n m same = rw same (mul-mod_left (first_bits count width n) (2 ^ (width - count)))
