use Rattle.config_keys.specs.ConfigViews.{says}
use Rattle.acct_top.proofs.JobLemmas.{accepted_apart}
use Rattle.acct_top.proofs.read_job.read_built.Goals as goal

pub returns-clause-apart : goal.returns-clause-apart
returns-clause-apart c = accepted_apart c.args.tool c.args.text.now (says c.in_ok-config.config) c.in_ok-config.ensures
