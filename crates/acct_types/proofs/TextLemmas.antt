-- The parts of an address's text.
use Rattle.std.proofs.Common.{◌≡◌, ◌∙◌, ◌-◌, ◌<◌, ◌≤◌, ◌∷◌, ◌++◌, [], ℕ, List, append_assoc, arith, decimal, drop, flat_map, get_or, length, take}
use Rattle.std.proofs.lemmas.List.{take_all}
use Rattle.std.specs.Net.Text.{dotted_text, groups_text, hex, ipv4_text}
use Rattle.std.proofs.lemmas.Fmt.{length-decimal-le}

-- an octet has three digits at most
pub short_decimal : (n : ℕ) → n < 256 → length (decimal n) ≤ 3
short_decimal n fits = length-decimal-le 3 n (omega arith) (omega arith) (omega arith)

-- the first group, and then each other after a colon
pub groups_from_first : (groups rest text : List ℕ) → 1 ≤ length groups → rest ≡ take (length groups - 1) (drop 1 groups)
    → groups_text groups ++ text ≡ hex (get_or groups 0 0) ++ (flat_map (λ group. 58 ∷ hex group) rest ++ text)
groups_from_first [] rest text some same = absurd (omega arith)
groups_from_first (group ∷ groups) rest text some same =
    let whole : rest ≡ groups = same ∙ take_all (length (group ∷ groups) - 1) groups (omega arith) in
    rw whole (append_assoc (hex group) (flat_map (λ group. 58 ∷ hex group) groups) text)

-- four decimals before a text
pub dotted_before : (a b c d : ℕ) (text : List ℕ) → dotted_text a b c d ++ text ≡ decimal a ++ 46 ∷ (decimal b ++ 46 ∷ (decimal c ++ 46 ∷ (decimal d ++ text)))
dotted_before a b c d text = simp append_assoc

-- the steps from the last decimal to the first
pub four_decimals : (octets text d dot_d c dot_c b dot_b whole : List ℕ)
    → d ≡ decimal (get_or octets 3 0) ++ text → dot_d ≡ 46 ∷ d → c ≡ decimal (get_or octets 2 0) ++ dot_d → dot_c ≡ 46 ∷ c
    → b ≡ decimal (get_or octets 1 0) ++ dot_c → dot_b ≡ 46 ∷ b → whole ≡ decimal (get_or octets 0 0) ++ dot_b
    → whole ≡ ipv4_text octets ++ text
four_decimals octets text d dot_d c dot_c b dot_b whole is_d is_dot_d is_c is_dot_c is_b is_dot_b is_whole =
    let spelled = dotted_before (get_or octets 0 0) (get_or octets 1 0) (get_or octets 2 0) (get_or octets 3 0) text in
    cc
