use Rattle.flow_decode.proofs.FirstMet.{learned_where_first, first_where_learned, nothing_learned, nothing_where_none}
use Rattle.flow_decode.proofs.laws.the_first_rate_met_counts.Goals as goal

pub returns : goal.returns
returns c = record {
  learned = λ rates key rate. (first_where_learned rates key rate, learned_where_first rates key rate);
  nothing = λ rates key. (nothing_learned rates key, nothing_where_none rates key);
}
