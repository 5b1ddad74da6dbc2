use Rattle.flow_decode.proofs.FirstMet.{found_where_put, nothing_put, put_where_found, withdrawn}
use Rattle.flow_decode.proofs.laws.the_first_change_met_decides.Goals as goal

pub returns : goal.returns
returns c = record {
  put = λ changes key template. (put_where_found changes key template, found_where_put changes key template);
  withdrawn = withdrawn;
  nothing = nothing_put;
}
