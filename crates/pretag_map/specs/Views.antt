-- What the code reads of lines, as the definitions see it.
use Rattle.std.specs.Prelude.{◌≡◌, List, map, Result, Ok, Err, Vec}
use Rattle.acct_types.specs.declared.prefix.Prefix.{Prefix}
use Rattle.pretag_map.specs.Members.{Member}
use Rattle.pretag_map.specs.Networks.{Network}
use Rattle.pretag_map.specs.declared.fault.MapCause.{MapCause}
use Rattle.pretag_map.specs.declared.member.Member.{Member as ReadMember}

abbrev pub member_view : ReadMember → Member
member_view member = record { key = member.key.now; value = member.value.now }

abbrev pub network_view : Prefix → Network
network_view prefix = record { addr = prefix.addr; len = prefix.len }

-- the members that were read, or what is wrong with them
abbrev pub MembersAre : {Z : Type 0} → Result (Vec ReadMember Z) MapCause → Result (List Member) MapCause → Type 0
MembersAre (Ok members) said = said ≡ Ok (map member_view members.items)
MembersAre (Err cause) said = said ≡ Err cause
