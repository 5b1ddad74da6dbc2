use Rattle.std.proofs.Common.{◌≡◌, ◌+◌, ℕ, List, [], map, drop}
use Rattle.config_keys.specs.Judging.{settings_from, stands_before}
use Rattle.config_keys.specs.JudgingViews.{plugins_view}
use Rattle.config_keys.specs.Seen.{has_text}
use Rattle.config_keys.specs.Views.{setting_of}
use Rattle.config_keys.proofs.judge.read_settings.Given as goal

-- the settings so far and the lines that are left give what all lines give, and the labels so far were seen
abbrev pub invariant-loop-index : goal.invariant-loop-index
invariant-loop-index l = record {
  rest : settings_from (plugins_view l.plugins) (l.index + 1) (map setting_of l.entries.items) (map (λ t. t.now) (drop l.index l.lines))
      ≡ settings_from (plugins_view l.plugins) 1 [] (map (λ t. t.now) l.lines);
  known : (other : List ℕ) → has_text l.seen other ≡ stands_before (map setting_of l.entries.items) other;
}
