-- What a reader holds, as where it stands.
use Rattle.std.specs.Prelude.{◌≤◌, ◌+◌, ◌^◌, ◌<◌}
use Rattle.capture_file.specs.declared.reading.Reading.TheInside.{Inside}
use Rattle.capture_file.specs.Standing.{Standing}
use Rattle.capture_file.specs.Window.{ahead_of}

abbrev pub standing_in : Inside → Standing
standing_in inside = record {
  flows = inside.flows;
  most = inside.most;
  begun = inside.begun;
  used = inside.used;
  moment = inside.moment;
  ahead = ahead_of inside.window;
}

-- each place fits its type
pub record IsSound (inside : Inside) : Type 0 where
  pub places : 8 + inside.most < 2 ^ 64
  pub within : inside.used ≤ inside.most
