use Rattle.outside_io.proofs.SpanLemmas.{spans_are_unique}
use Rattle.outside_io.proofs.spans.what_is_handed_out_is_unique.Goals as goal

pub returns : goal.returns
returns g c = spans_are_unique
