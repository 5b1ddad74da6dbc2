-- What a reader knows once it has read as far as it must.
use Rattle.std.specs.Prelude.{◌≡◌, ℕ, List, IsTrue, Option, Result, IfOk, OnErr}
use Rattle.std.specs.Io.KnownBytes.{IsAtEnd}
use Rattle.outside_io.specs.Octets.{Takes}
use Rattle.outside_io.specs.declared.fault.IoFault.{IoFault}
use Rattle.capture_file.specs.declared.flows.CaptureEnd.{CaptureEnd}
use Rattle.capture_file.specs.Standing.{Standing, with_octets, judged_at, is_open, ReadsWhileOpen}

-- It took some octets, and judges by them and those ahead; it says so where they decide or none is left, and fails where they don't.
pub record Looked (before now : Standing) (left_before left_now : Option (List ℕ)) (result : Result (Result ℕ CaptureEnd) IoFault) : Type 0 where
  pub octets : List ℕ
  pub taken : Takes left_before octets left_now
  pub while_open : ReadsWhileOpen before octets
  pub there : now ≡ with_octets before octets
  pub judged : IfOk result (λ judged. judged ≡ judged_at now)
  pub last : IfOk result (λ _. IsTrue (is_open now) → IsAtEnd left_now)
  pub unread : OnErr result (IsTrue (is_open now))
