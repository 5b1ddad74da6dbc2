use Rattle.std.proofs.Common.{length, arith, length-drop, ap}
use Rattle.acct_types.proofs.TextLemmas.{short_decimal}
use Rattle.acct_types.proofs.address_text.AddressText.prepend_decimal.Goals as goal

pub write_digits-self-inside-requires : goal.write_digits-self-inside-requires
write_digits-self-inside-requires c =
    let short = short_decimal c.args.number (omega arith) in
    let room = length-drop c.self.inside.start c.self.inside.octets in
    (omega (arith, short, room, ap length c.self.view_is), omega arith)

pub returns-clause-short : goal.returns-clause-short
returns-clause-short c =
    let short = short_decimal c.args.number (omega arith) in
    let room = length-drop c.self.inside.start c.self.inside.octets in
    let now = length-drop c.write_digits-self-inside.result c.write_digits-self-inside.new.buf in
    omega (arith, short, room, now, ap length c.self.view_is)
