use Rattle.std.proofs.Common.{refl}
use Rattle.collect_core.proofs.RunLemmas.{none_run}
use Rattle.collect_core.specs.Most.{most_in}
use Rattle.collect_core.proofs.running.begin.Goals as goal

pub returns : goal.returns
returns g c = λ audit.
    none_run c.args.job.now (most_in c.args.limits.now) _ audit c.new.result c.in_ok-plugins.plugins.items c.new-2.result c.args.limits.now.octets
    c.new.ensures.seen c.new.ensures.totals (rw c.as_slice.ensures at c.in_ok-plugins.ensures) c.new-2.ensures.text c.new-2.ensures.end refl
