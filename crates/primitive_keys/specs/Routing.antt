-- The routing parts of a record.
use Rattle.std.specs.Prelude.{ℕ, ◌-◌, List, [], Option, None, Some, length}
use Rattle.std.specs.List.{slice_get}
use Rattle.acct_types.specs.Routes.{communities_text, path_text}
use Rattle.acct_types.specs.StandingRoutes.{StandingRoute}
use Rattle.acct_types.specs.declared.addr.Addr.{Addr}
use Rattle.acct_types.specs.declared.addr.Addr.TheVariants.{V4}
use Rattle.acct_types.specs.declared.choice.AsFrom.{AsFrom}
use Rattle.acct_types.specs.declared.choice.AsFrom.TheVariants.{Export, Bgp, Bmp}
use Rattle.acct_types.specs.declared.route.Hop.{Hop}
use Rattle.acct_types.specs.declared.route.Hop.TheVariants.{One, Set}
use Rattle.primitive_keys.specs.Values.{number_in}

-- what was exported or what the route says, by where such parts come from
abbrev pub chosen : {X : Type 0} → AsFrom → X → X → X
chosen Export exported routed = exported
chosen Bgp exported routed = routed
chosen Bmp exported routed = routed

-- the number of a single system, 0 of a set or of no hop
abbrev pub system_in : Option Hop → ℕ
system_in None = 0
system_in (Some (One number)) = number
system_in (Some (Set numbers)) = 0

-- the system where a route's prefix is: the last hop
abbrev pub last_system : Option StandingRoute → ℕ
last_system None = 0
last_system (Some route) = system_in (slice_get route.attrs.path (length route.attrs.path - 1))

-- the neighbour that a route goes through: the first hop
abbrev pub first_system : Option StandingRoute → ℕ
first_system None = 0
first_system (Some route) = system_in (slice_get route.attrs.path 0)

abbrev pub prefix_length : Option StandingRoute → ℕ
prefix_length None = 0
prefix_length (Some route) = route.named.len

abbrev pub next_hop_of : Option StandingRoute → Addr
next_hop_of None = V4 0
next_hop_of (Some route) = route.next_hop

abbrev pub local_pref_of : Option StandingRoute → ℕ
local_pref_of None = 0
local_pref_of (Some route) = number_in route.attrs.local_pref

abbrev pub med_of : Option StandingRoute → ℕ
med_of None = 0
med_of (Some route) = number_in route.attrs.med

abbrev pub path_of : Option StandingRoute → List ℕ
path_of None = []
path_of (Some route) = path_text route.attrs.path

abbrev pub communities_of : Option StandingRoute → List ℕ
communities_of None = []
communities_of (Some route) = communities_text route.attrs.communities

-- the system of an address, by the route to that address
abbrev pub system_of : AsFrom → Option ℕ → Option StandingRoute → ℕ
system_of from exported route = chosen from (number_in exported) (last_system route)

-- the mask of an address, by the route to that address
abbrev pub mask_of : AsFrom → Option ℕ → Option StandingRoute → ℕ
mask_of from exported route = chosen from (number_in exported) (prefix_length route)
