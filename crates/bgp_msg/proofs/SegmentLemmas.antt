-- Paths, one segment and one number after another.
use Rattle.std.proofs.Common.{◌≡◌, ◌≤◌, ◌<◌, ◌+◌, ◌-◌, ◌*◌, ◌∙◌, ◌∷◌, ◌++◌, [], ℕ, zero, suc, false, true, List, length, take, drop, length-drop, refl, sym, arith}
use Rattle.std.proofs.Math.Nat.{mul-suc}
use Rattle.std.proofs.lemmas.List.{length-map}
use Rattle.std.specs.Prelude.{◌==◌, Bool}
use Rattle.acct_types.specs.Numbers.{number_at}
use Rattle.acct_types.specs.declared.route.Hop.TheVariants.{One}
use Rattle.bgp_msg.specs.Paths.{hops_of, number_width, numbers_of, path_of, segment_count, segment_numbers, segment_size, segment_type}
use Rattle.bgp_msg.proofs.PieceLemmas.{HasSize, pieces_end, pieces_next}

pub has_size : (wide : Bool) → HasSize (segment_size wide)
unfolding segment_size
has_size wide octets = omega arith

pub numbers_next : (width count i : ℕ) (octets : List ℕ) → i < count
    → numbers_of width (count - i) octets ≡ number_at octets 0 width ∷ numbers_of width (count - (i + 1)) (drop width octets)
numbers_next width count i octets h =
    let left : count - i ≡ suc (count - (i + 1)) = omega (arith, h) in
    rw left refl

pub path_next : (wide : Bool) (n : ℕ) (octets segment rest : List ℕ) → false ≡ (length octets == 0) → n ≡ segment_size wide octets → segment ≡ take n octets → rest ≡ drop n octets
    → path_of wide octets ≡ hops_of wide segment ++ path_of wide rest
path_next wide n octets segment rest h is front behind = rw (pieces_next (segment_size wide) n octets segment rest (has_size wide) h is front behind) refl

pub path_end : (wide : Bool) (octets : List ℕ) → true ≡ (length octets == 0) → path_of wide octets ≡ []
path_end wide octets h = rw (pieces_end (segment_size wide) octets h) refl

-- where there is room for the numbers that are left, there is room for the next one, and behind it for the others
pub room_next : (width count i : ℕ) (octets : List ℕ) → i < count → width * (count - i) ≤ length octets
    → (width ≤ length octets) × (width * (count - (i + 1)) ≤ length (drop width octets))
room_next width count i octets h room =
    let left : count - i ≡ suc (count - (i + 1)) = omega (arith, h) in
    let more : width * suc (count - (i + 1)) ≤ length octets = rw left at room in
    let sum : width * suc (count - (i + 1)) ≡ width * (count - (i + 1)) + width = mul-suc width (count - (i + 1)) in
    let dropped = length-drop width octets in
    (omega (arith, more, sum), omega (arith, more, sum, dropped))

numbers_count : (width count : ℕ) (octets : List ℕ) → length (numbers_of width count octets) ≡ count
numbers_count width zero octets = refl
numbers_count width (suc count) octets = let rest = numbers_count width count (drop width octets) in omega (arith, rest)

-- a sequence has a hop for each number
pub sequence_hops : (wide : Bool) (segment : List ℕ) → segment_type segment ≡ 2 → segment_count segment ≡ length (hops_of wide segment)
unfolding hops_of
sequence_hops wide segment is =
    rw is (sym (length-map (segment_numbers wide segment) One ∙ numbers_count (number_width wide) (segment_count segment) (drop 2 segment)))
