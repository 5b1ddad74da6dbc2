-- Counts add up in any order.
use Rattle.std.proofs.Common.{◌≡◌, arith}
use Rattle.acct_types.specs.declared.flow.Counts.{Counts}
use Rattle.acct_types.specs.Counts.{plus, nothing, AddUp}

-- counts are the same where each part is
pub same_counts : (a b : Counts) → a.bytes ≡ b.bytes → a.packets ≡ b.packets → a.flows ≡ b.flows → a ≡ b
same_counts a b x y z = λ i. record { bytes = x i; packets = y i; flows = z i }

pub plus-assoc : (a b c : Counts) → plus (plus a b) c ≡ plus a (plus b c)
plus-assoc a b c = same_counts _ _ (omega arith) (omega arith) (omega arith)

pub plus-comm : (a b : Counts) → plus a b ≡ plus b a
plus-comm a b = same_counts _ _ (omega arith) (omega arith) (omega arith)

pub plus-nothing : (c : Counts) → plus c nothing ≡ c
plus-nothing c = same_counts _ _ (omega arith) (omega arith) (omega arith)

pub nothing-plus : (c : Counts) → plus nothing c ≡ c
nothing-plus c = same_counts _ _ (omega arith) (omega arith) (omega arith)

pub add_up : AddUp
add_up = record { grouped = plus-assoc; swapped = plus-comm; nothing_added = plus-nothing }
