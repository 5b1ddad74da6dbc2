-- The code's values, as the definitions see them.
use Rattle.std.specs.Prelude.{◌≡◌, List, map, Result, Ok, Err, Vec}
use Rattle.acct_types.specs.Primitives.{columns_of}
use Rattle.acct_types.specs.declared.primitives.Primitives.{Primitives}
use Rattle.config_keys.specs.Values.{Asked, Member, LeftOut, Malformed, Taken, NamedPlugin, Primitive}
use Rattle.config_keys.specs.declared.fault.ConfigCause.{ConfigCause}
use Rattle.config_keys.specs.declared.value.Member.{Member as ReadMember}
use Rattle.config_keys.specs.declared.value.Member.TheVariants as read
use Rattle.config_keys.specs.declared.value.NamedPlugin.{NamedPlugin as ReadPlugin}
use Rattle.config_keys.specs.declared.value.Primitive.{Primitive as ReadPrimitive}

abbrev pub named_view : ReadPlugin → NamedPlugin
named_view plugin = record { kind = plugin.kind; name = plugin.name.now }

abbrev pub member_view : ReadMember → Member
member_view read.LeftOut = LeftOut
member_view read.Malformed = Malformed
member_view (read.Taken plugin) = Taken (named_view plugin)

abbrev pub primitive_view : ReadPrimitive → Primitive
primitive_view row = record { name = row.name.now; column = row.column }

abbrev pub asked_view : Primitives → Asked
asked_view primitives = record { columns = columns_of primitives; flows = primitives.flows }

-- the plugins that were read, or what is wrong with them
abbrev pub PluginsAre : {Z : Type 0} → Result (Vec ReadPlugin Z) ConfigCause → Result (List NamedPlugin) ConfigCause → Type 0
PluginsAre (Ok plugins) said = said ≡ Ok (map named_view plugins.items)
PluginsAre (Err cause) said = said ≡ Err cause
