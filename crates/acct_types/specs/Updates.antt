-- What messages say of prefixes.
use Rattle.std.specs.Prelude.{ℕ, List, map, Option, Some, None}
use Rattle.acct_types.specs.declared.addr.Addr.{Addr}
use Rattle.acct_types.specs.declared.rib.RouteScope.{RouteScope}
use Rattle.acct_types.specs.declared.route.RouteAttrs.{RouteAttrs}
use Rattle.acct_types.specs.declared.update.Announce.{Announce}
use Rattle.acct_types.specs.declared.update.Change.{Change}
use Rattle.acct_types.specs.declared.update.Change.TheVariants as change
use Rattle.acct_types.specs.declared.update.Nlri.{Nlri}
use Rattle.acct_types.specs.declared.update.RouteMessage.{RouteMessage}
use Rattle.acct_types.specs.declared.update.Update.{Update}

-- A prefix that a message names. Its bits past the length are 0.
pub record Named : Type 0 where
  pub addr : Addr
  pub len : ℕ
  pub path_id : ℕ

-- what the code keeps of it
abbrev pub nlri_view : Nlri → Named
nlri_view nlri = record { addr = nlri.prefix.addr; len = nlri.prefix.len; path_id = nlri.path_id }

-- an announced prefix, and its next hop
pub record Route : Type 0 where
  pub named : Named
  pub next_hop : Addr

-- what the code keeps of it
abbrev pub route_view : Announce → Route
route_view announce = record { named = nlri_view announce.nlri; next_hop = announce.next_hop }

-- what an UPDATE says
pub record Said : Type 0 where
  pub withdrawn : List Named
  pub announced : List Route
  pub attrs : RouteAttrs

-- what the code keeps of it
abbrev pub update_view : Update → Said
update_view update = record { withdrawn = map nlri_view update.withdrawn; announced = map route_view update.announced; attrs = update.attrs }

-- a message: what an UPDATE says, or, where that is None, a reset
pub record Message : Type 0 where
  pub scope : RouteScope
  pub moment : ℕ
  pub said : Option Said

abbrev pub change_view : Change → Option Said
change_view (change.Update update) = Some (update_view update)
change_view change.Reset = None

-- what the code keeps of it
abbrev pub message_view : RouteMessage → Message
message_view message = record { scope = message.scope; moment = message.moment; said = change_view message.change }
