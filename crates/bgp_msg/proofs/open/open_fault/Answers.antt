use Rattle.std.proofs.Common.{ap, arith, length, length-drop}
use Rattle.bgp_msg.proofs.open.open_fault.Goals as goal

pub parameters_fault-requires : goal.parameters_fault-requires
parameters_fault-requires c =
    let left = ap length c.after.ensures in
    let dropped = length-drop 29 c.args.octets.now in
    omega (arith, left, dropped, c.requires.whole, c.requires.short)
