use Rattle.std.proofs.Common.{sym, ap, ◌∙◌, arith}
use Rattle.capture_file.specs.Standing.{is_open}
use Rattle.capture_file.proofs.Looking.{not_idle, reaching_more, reaching_start}
use Rattle.capture_file.proofs.Standing.{open_is_short}
use Rattle.capture_file.proofs.reading.Reading.look.Goals as goal

pub loop-judged-init : goal.loop-judged-init
loop-judged-init g c = record { reaching = reaching_start _ _ _; later = omega arith }

pub refill-requires : goal.refill-requires
refill-requires g c = open_is_short c.pass_magic.new.self (sym c.is_open.ensures ∙ c.if-not-is_open.false)

pub returns-in_err-refill-clause-idle : goal.returns-in_err-refill-clause-idle
returns-in_err-refill-clause-idle g c =
    λ closed. absurd (not_idle _ _ _ _ _ _ c.loop-judged.invariant.reaching (sym (ap is_open c.pass_magic.ensures) ∙ sym c.is_open.ensures ∙ c.if-not-is_open.false) closed)

pub returns-then-branch-eq0-clause-idle : goal.returns-then-branch-eq0-clause-idle
returns-then-branch-eq0-clause-idle g c =
    λ closed. absurd (not_idle _ _ _ _ _ _ c.loop-judged.invariant.reaching (sym (ap is_open c.pass_magic.ensures) ∙ sym c.is_open.ensures ∙ c.if-not-is_open.false) closed)

pub loop-judged-preserved : goal.loop-judged-preserved
loop-judged-preserved g c =
    let read = c.in_ok-refill.ensures.octets in
    record {
      reaching = reaching_more c.args.self.now c.loop-judged.self c.pass_magic.new.self c.refill.new.self _ _ _ _ _ _ read.0
          c.loop-judged.invariant.reaching c.pass_magic.ensures (sym c.is_open.ensures ∙ c.if-not-is_open.false) read.2 read.3;
      later = omega (arith, c.loop-judged.invariant.later, c.in_ok-refill.ensures.cause.later);
    }
