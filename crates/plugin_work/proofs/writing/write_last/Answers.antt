use Rattle.std.proofs.Common.{subst}
use Rattle.plugin_cache.specs.Slices.{AnswersEnd}
use Rattle.outside_io.specs.declared.ends.OutEnd.TheVariants.{Whole, Memory}
use Rattle.plugin_work.proofs.TakenLemmas.{none_last, nothing_left, one_last, one_text}
use Rattle.plugin_work.proofs.writing.write_last.Goals as goal

pub returns-in_default-finish-clause-written : goal.returns-in_default-finish-clause-written
returns-in_default-finish-clause-written g c _ config _ _ =
    none_last config c.args.cache Memory (g.W.Sink.state c.args.out.now) (λ e. cc e) (λ e. cc e)

pub returns-in_default-left-clause-written : goal.returns-in_default-left-clause-written
returns-in_default-left-clause-written g c _ config _ _ =
    none_last config c.args.cache Whole (g.W.Sink.state c.args.out.now) (λ _. nothing_left c.args.cache c.in-Ok.left c.in_default-left.not-Some c.in-Ok.ensures) (λ e. cc e)

pub returns-clause-written : goal.returns-clause-written
returns-clause-written g c _ config primitives layout =
    one_last config c.args.cache c.in-Some.purge c.write_purge.result _ _ (subst (AnswersEnd c.args.cache) c.in-Some.is c.in-Ok.ensures)
    (one_text config c.args.printer.now.primitives c.args.printer.now.layout c.in-Some.purge c.write_purge.result _ _ primitives layout c.write_purge.ensures.written)
