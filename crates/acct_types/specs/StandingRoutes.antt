-- Routes that stand.
use Rattle.acct_types.specs.Updates.{Named}
use Rattle.acct_types.specs.declared.addr.Addr.{Addr}
use Rattle.acct_types.specs.declared.route.RouteAttrs.{RouteAttrs}
use Rattle.acct_types.specs.declared.route.RouteRef.{RouteRef}

-- a prefix that stands, with its next hop and its attributes
pub record StandingRoute : Type 0 where
  pub named : Named
  pub next_hop : Addr
  pub attrs : RouteAttrs

-- what is read of a route where it is kept
abbrev pub route_ref_view : RouteRef → StandingRoute
route_ref_view route = record {
  named = record { addr = route.prefix.addr; len = route.prefix.len; path_id = route.path_id };
  next_hop = route.next_hop;
  attrs = route.attrs.now;
}
