use Rattle.std.proofs.Common.{◌≤◌, ℕ, length, Result, Ok, Err}
use Rattle.std.specs.Prelude.{IfOk}
use Rattle.flow_templates.specs.declared.template.TemplateFault.{TemplateFault}
use Rattle.flow_templates.proofs.RecordLemmas.{judged_bounds}
use Rattle.flow_templates.proofs.reading.judge_template.Goals as goal

first_of : (n : ℕ) (judged : Result ℕ TemplateFault) → IfOk judged (λ used. (4 ≤ used) × (used ≤ n)) → IfOk judged (λ used. 4 ≤ used)
first_of n (Ok used) h = h.0
first_of n (Err fault) h = tt

second_of : (n : ℕ) (judged : Result ℕ TemplateFault) → IfOk judged (λ used. (4 ≤ used) × (used ≤ n)) → IfOk judged (λ used. used ≤ n)
second_of n (Ok used) h = h.1
second_of n (Err fault) h = tt

pub returns-clause-least : goal.returns-clause-least
returns-clause-least c =
    first_of (length c.args.octets.now) c.judge_record.result (judged_bounds c.args.version c.args.options c.args.octets.now c.judge_record.result c.judge_record.ensures.judged)

pub returns-clause-within : goal.returns-clause-within
returns-clause-within c =
    second_of (length c.args.octets.now) c.judge_record.result (judged_bounds c.args.version c.args.options c.args.octets.now c.judge_record.result c.judge_record.ensures.judged)
