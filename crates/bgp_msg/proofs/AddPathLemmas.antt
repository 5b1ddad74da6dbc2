-- Tuples, one after another.
use Rattle.std.proofs.Common.{arith}
use Rattle.bgp_msg.specs.AddPaths.{tuple_size}
use Rattle.bgp_msg.proofs.PieceLemmas.{HasSize}

pub has_size : HasSize tuple_size
has_size octets = omega arith
