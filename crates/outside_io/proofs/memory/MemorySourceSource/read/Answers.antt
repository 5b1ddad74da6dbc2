use Rattle.std.proofs.Common.{◌≡◌, arith, ◌≤◌, length, take, drop}
use Rattle.std.proofs.lemmas.Grind.{common_steps}
use Rattle.outside_io.proofs.Octets.{Takes-front}
use Rattle.outside_io.proofs.memory.MemorySourceSource.read.Goals as goal

pub returns-clause-octets : goal.returns-clause-octets
returns-clause-octets c =
    let short : c.min-count.result ≤ length c.split_at.result.1.now = grind (arith, common_steps) in
    let left : c.split_at.result.1.now ≡ drop c.args.self.now.at c.args.self.now.octets = grind (arith, common_steps) in
    let piece : c.copy_from_slice.new.self ≡ take c.min-count.result c.split_at.result.1.now = grind (arith, common_steps) in
    Takes-front c.args.self.now.octets c.copy_from_slice.new.self c.split_at.result.1.now _ c.args.self.now.at c.min-count.result left piece short
