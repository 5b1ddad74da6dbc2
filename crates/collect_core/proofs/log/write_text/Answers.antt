use Rattle.std.proofs.Common.{Err, ap, refl}
use Rattle.outside_io.specs.declared.ends.OutEnd.TheVariants.{Failed, Memory}
use Rattle.collect_core.proofs.WrittenLemmas.{all_written, front_written}
use Rattle.collect_core.proofs.log.write_text.Goals as goal

pub returns-in-Ok : goal.returns-in-Ok
returns-in-Ok g c = λ start before so_far. all_written before c.args.text.now start _ _ so_far c.in-Ok.ensures.ok (c.in-Ok.ensures.still (λ failed. cc failed))

pub returns-in-Err-Failed : goal.returns-in-Err-Failed
returns-in-Err-Failed g c = λ start before so_far.
    front_written before c.args.text.now Failed start _ _ so_far c.in-Err-Failed.ensures.err (λ e. cc e) (λ _. c.in-Err-Failed.ensures.cause.failed (ap Err c.in-Err-Failed.field-0-is)) (λ apart. absurd (apart refl)) c.in-Err-Failed.ensures.cause.later

pub returns-in-Err-NoMemory : goal.returns-in-Err-NoMemory
returns-in-Err-NoMemory g c = λ start before so_far.
    front_written before c.args.text.now Memory start _ _ so_far c.in-Err-NoMemory.ensures.err (λ e. cc e) (λ e. cc e) (λ _. c.in-Err-NoMemory.ensures.still (λ failed. cc (failed, c.in-Err-NoMemory.field-0-is))) c.in-Err-NoMemory.ensures.cause.later
