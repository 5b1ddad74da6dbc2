use Rattle.std.proofs.Common.{◌-◌, take, ap, ◌∙◌}
use Rattle.capture_file.proofs.Windows.{moved}
use Rattle.capture_file.proofs.window.Window.move_to_front.Goals as goal

pub returns-clause-ahead : goal.returns-clause-ahead
returns-clause-ahead c =
    ap (take (c.args.self.now.end - c.args.self.now.start)) c.copy_within.ensures.items
    ∙ moved c.args.self.now.buffer.items _ c.args.self.now.start c.args.self.now.end c.args.self.now.ordered c.args.self.now.within
