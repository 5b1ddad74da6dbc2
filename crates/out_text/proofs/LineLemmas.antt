-- Texts with a separator between them.
use Rattle.std.proofs.Common.{◌≡◌, ◌∙◌, ◌++◌, ℕ, List, ap, arith, codes, drop, drop-cons, flat_map, get_or, length, map, sym, take}
use Rattle.std.proofs.lemmas.List.{take_all}
use Rattle.out_text.specs.Lines.{hex_pair, joined}

-- the low six octets of eight
pub pairs_joined : (octets : List ℕ) → length octets ≡ 8 →
    hex_pair (get_or octets 2 0) ++ flat_map (λ other. codes ":" ++ other) (map hex_pair (take 5 (drop 3 octets))) ≡ joined (codes ":") (map hex_pair (drop 2 octets))
pairs_joined octets h =
    let rest : take 5 (drop 3 octets) ≡ drop 3 octets = take_all 5 (drop 3 octets) (grind (arith, h)) in
    ap (λ (os : List ℕ). hex_pair (get_or octets 2 0) ++ flat_map (λ other. codes ":" ++ other) (map hex_pair os)) rest
    ∙ ap (λ (os : List ℕ). joined (codes ":") (map hex_pair os)) (sym (drop-cons octets 2 0 (grind (arith, h))))
