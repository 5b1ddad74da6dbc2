-- One more record of those that are left.
use Rattle.std.proofs.Common.{◌≡◌, ◌+◌, ◌-◌, ◌<◌, ◌∷◌, ℕ, List, suc, drop, refl, arith}
use Rattle.std.specs.Prelude.{None}
use Rattle.acct_types.specs.declared.addr.Addr.{Addr}
use Rattle.netflow_in.specs.Version5.{flow_of, records_of}

pub records_next : (exporter : Addr) (source rate count i : ℕ) (octets : List ℕ) → i < count
    → records_of exporter source rate (count - i) octets
    ≡ record { flow = flow_of exporter source octets; own_rate = None; learned_rate = None; header_rate = rate } ∷ records_of exporter source rate (count - (i + 1)) (drop 48 octets)
records_next exporter source rate count i octets h =
    let left : count - i ≡ suc (count - (i + 1)) = omega arith in
    rw left refl
