use Rattle.std.proofs.Common.{◌≡◌, ◌++◌, codes, flat_map, map, take}
use Rattle.out_text.specs.Lines.{hex_pair}
use Rattle.out_text.proofs.cell_text.append_more_pairs.Given as goal

abbrev pub invariant-loop-octet : goal.invariant-loop-octet
invariant-loop-octet l = l.out ≡ l.fn.out ++ flat_map (λ other. codes ":" ++ other) (map hex_pair (take l.octet-index l.octets))
