use Rattle.out_text.specs.Rows.{row_entries}
use Rattle.out_text.proofs.OrderLemmas.{by_name_sorted, members_are_entries}
use Rattle.out_text.proofs.json_lines.members_are_in_order.Goals as goal

pub returns-clause-ascend : goal.returns-clause-ascend
returns-clause-ascend c = λ p row. by_name_sorted (row_entries p row)

pub returns-clause-entries : goal.returns-clause-entries
returns-clause-entries c = λ p row. members_are_entries p row
