-- What rules of tags are asked of.
use Rattle.std.specs.Prelude.{Option}
use Rattle.acct_types.specs.StandingRoutes.{StandingRoute}
use Rattle.acct_types.specs.declared.choice.AsFrom.{AsFrom}
use Rattle.acct_types.specs.declared.flow.FlowRecord.{FlowRecord}
use Rattle.pretag_map.specs.declared.facts.TagFacts.{TagFacts}
use Rattle.primitive_keys.specs.Routing.{system_of}
use Rattle.primitive_keys.specs.Values.{address_in, number_in}

-- the parts of a record, and the systems of its source and destination as they are counted
abbrev pub facts_of : FlowRecord → AsFrom → Option StandingRoute → Option StandingRoute → TagFacts
facts_of r from src dst = record {
  exporter = r.exporter;
  source_id = r.source_id;
  in_iface = number_in r.in_iface;
  out_iface = number_in r.out_iface;
  src_as = system_of from r.src_as src;
  dst_as = system_of from r.dst_as dst;
  src = address_in r.src;
  dst = address_in r.dst;
}
