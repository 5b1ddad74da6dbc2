use Rattle.std.proofs.Common.{◌≡◌, ◌++◌, codes, flat_map, map, take}
use Rattle.out_text.specs.Lines.{formatted_text}
use Rattle.out_text.specs.Rows.{entries_of}
use Rattle.out_text.proofs.formatted_lines.append_others.Given as goal

abbrev pub invariant-loop-entry : goal.invariant-loop-entry
invariant-loop-entry l = l.out ≡ l.fn.out ++ flat_map (λ other. codes "  " ++ other) (map formatted_text (entries_of (take l.entry-index l.entries)))
