-- What sessions of which nothing comes tell.
use Rattle.std.specs.Prelude.{[], Bool, false, Some, None}
use Rattle.acct_types.specs.declared.route_event.RouteEvent.{RouteEvent}
use Rattle.outside_io.specs.States.{InputState, RepliesState}
use Rattle.outside_io.specs.declared.no_routes.NoRoutes.{NoRoutes}

-- it said that none is left
abbrev pub no_routes_ended : NoRoutes → Bool
no_routes_ended routes = routes.ended

abbrev pub no_routes_state : NoRoutes → InputState RouteEvent
no_routes_state routes = record { left = Some []; ending = None; handed = Some []; ended = routes.ended; moment = 0; faults = 0; captured = false }

-- what is replied is dropped
abbrev pub no_replies : NoRoutes → RepliesState
no_replies routes = record { sent = None; faults = 0 }
