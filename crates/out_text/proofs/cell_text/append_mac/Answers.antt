use Rattle.std.proofs.Common.{◌≡◌, ◌∙◌, ◌++◌, List, ℕ, ap, append_assoc, codes, drop, flat_map, get_or, length, map, take}
use Rattle.std.proofs.lemmas.Result.{on_ok_weaker}
use Rattle.out_text.specs.Lines.{hex_pair, joined, mac_text}
use Rattle.out_text.proofs.LineLemmas.{pairs_joined}
use Rattle.out_text.proofs.cell_text.append_mac.Goals as goal

pub returns : goal.returns
unfolding mac_text
returns c =
    let octets = c.to_be_bytes-octets.result in
    let later : List ℕ = flat_map (λ other. codes ":" ++ other) (map hex_pair (take 5 (drop 3 octets))) in
    let eight : length octets ≡ 8 = ap length c.to_be_bytes-octets.ensures in
    let whole = pairs_joined octets eight ∙ ap (λ (os : List ℕ). joined (codes ":") (map hex_pair (drop 2 os))) c.to_be_bytes-octets.ensures in
    on_ok_weaker c.append_more_pairs.result
    (λ h. h ∙ ap (λ (t : List ℕ). t ++ later) c.in_ok-append_pair.ensures ∙ append_assoc c.args.out.now (hex_pair (get_or octets 2 0)) later ∙ ap (λ (t : List ℕ). c.args.out.now ++ t) whole)
    c.append_more_pairs.ensures
