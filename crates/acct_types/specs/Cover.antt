-- Which addresses a prefix covers.
use Rattle.std.specs.Prelude.{Bool}
use Rattle.acct_types.specs.declared.addr.Addr.{Addr}
use Rattle.acct_types.specs.declared.prefix.Prefix.{Prefix}
use Rattle.acct_types.specs.Prefixes.{same_start}

-- whether the address is of the prefix's family and begins with its bits
abbrev pub covers : Prefix → Addr → Bool
covers prefix address = same_start prefix.len prefix.addr address
