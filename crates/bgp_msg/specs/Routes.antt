-- Routes to announced prefixes.
use Rattle.std.specs.Prelude.{List, map}
use Rattle.acct_types.specs.Updates.{Named, Route}
use Rattle.acct_types.specs.declared.addr.Addr.{Addr}

abbrev pub routes : Addr → List Named → List Route
routes hop names = map (λ name. record { named = name; next_hop = hop }) names
