-- The octets of a buffer that were taken and not read yet.
use Rattle.std.specs.Prelude.{ℕ, List, take, drop}
use Rattle.capture_file.specs.declared.window.Window.{Window}

abbrev pub ahead_of : Window → List ℕ
ahead_of window = drop window.start (take window.end window.buffer.items)
