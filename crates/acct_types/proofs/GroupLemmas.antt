-- An IPv6 address as one number and as eight groups of sixteen bits.
use Rattle.std.proofs.Common.{◌≡◌, ◌∙◌, ℕ, ◌+◌, ◌*◌, ◌/◌, ◌%◌, ◌^◌, ◌<◌, [], ◌∷◌, ap, sym, refl, arith}
use Rattle.std.proofs.Math.Nat.{div-div-eq-div-mul}
use Rattle.std.specs.Int.{w128, from_be_bytes}
use Rattle.std.specs.Net.Addr.{octets_of}
use Rattle.acct_types.specs.AddrText.{groups_in}

-- two octets make a group
pair_at : (n p : ℕ) → n / (p * 256) % 256 * 256 + n / p % 256 ≡ n / p % 65536
pair_at n p = omega (arith, div-div-eq-div-mul n p 256)

-- a group and the number above it
above : (n p : ℕ) → n / (p * 65536) * 65536 + n / p % 65536 ≡ n / p
above n p = omega (arith, div-div-eq-div-mul n p 65536)

-- the groups of a number
pub groups_are : (n : ℕ) → groups_in n
    ≡ n / 2 ^ 112 % 65536 ∷ n / 2 ^ 96 % 65536 ∷ n / 2 ^ 80 % 65536 ∷ n / 2 ^ 64 % 65536 ∷ n / 2 ^ 48 % 65536 ∷ n / 2 ^ 32 % 65536 ∷ n / 2 ^ 16 % 65536 ∷ n % 65536 ∷ []
groups_are n =
    let last : n / 256 % 256 * 256 + n % 256 ≡ n % 65536 = omega arith in
    λ i. pair_at n (2 ^ 112) i ∷ pair_at n (2 ^ 96) i ∷ pair_at n (2 ^ 80) i ∷ pair_at n (2 ^ 64) i ∷ pair_at n (2 ^ 48) i ∷ pair_at n (2 ^ 32) i ∷ pair_at n (2 ^ 16) i ∷ last i ∷ []

-- eight groups as one number
abbrev pub joined : (a b c d e f g h : ℕ) → ℕ
joined a b c d e f g h = ((((((a * 65536 + b) * 65536 + c) * 65536 + d) * 65536 + e) * 65536 + f) * 65536 + g) * 65536 + h

pub joined_is : (a b c d e f g h : ℕ) → from_be_bytes w128 (octets_of (a ∷ b ∷ c ∷ d ∷ e ∷ f ∷ g ∷ h ∷ [])) ≡ joined a b c d e f g h
joined_is a b c d e f g h = omega arith

pub joined_again : (n : ℕ) → n < 2 ^ 128
    → joined (n / 2 ^ 112 % 65536) (n / 2 ^ 96 % 65536) (n / 2 ^ 80 % 65536) (n / 2 ^ 64 % 65536) (n / 2 ^ 48 % 65536) (n / 2 ^ 32 % 65536) (n / 2 ^ 16 % 65536) (n % 65536) ≡ n
joined_again n fits =
    let top : n / 2 ^ 112 % 65536 ≡ n / 2 ^ 112 = omega arith in
    let last : n / 2 ^ 16 * 65536 + n % 65536 ≡ n = omega arith in
    rw (top, above n (2 ^ 96), above n (2 ^ 80), above n (2 ^ 64), above n (2 ^ 48), above n (2 ^ 32), above n (2 ^ 16), last) refl

-- the number above a group
up : (x y : ℕ) → y < 65536 → (x * 65536 + y) / 65536 ≡ x
up x y fits = omega arith

low : (x y : ℕ) → y < 65536 → (x * 65536 + y) % 65536 ≡ y
low x y fits = omega arith

pub groups_again : (a b c d e f g h : ℕ) → a < 65536 → b < 65536 → c < 65536 → d < 65536 → e < 65536 → f < 65536 → g < 65536 → h < 65536
    → groups_in (joined a b c d e f g h) ≡ a ∷ b ∷ c ∷ d ∷ e ∷ f ∷ g ∷ h ∷ []
groups_again a b c d e f g h at_a at_b at_c at_d at_e at_f at_g at_h =
    let n = joined a b c d e f g h in
    let p7 : n / 2 ^ 16 ≡ (((((a * 65536 + b) * 65536 + c) * 65536 + d) * 65536 + e) * 65536 + f) * 65536 + g = up _ h at_h in
    let p6 : n / 2 ^ 32 ≡ ((((a * 65536 + b) * 65536 + c) * 65536 + d) * 65536 + e) * 65536 + f = sym (div-div-eq-div-mul n 65536 65536) ∙ ap (λ m. m / 65536) p7 ∙ up _ g at_g in
    let p5 : n / 2 ^ 48 ≡ (((a * 65536 + b) * 65536 + c) * 65536 + d) * 65536 + e = sym (div-div-eq-div-mul n (2 ^ 32) 65536) ∙ ap (λ m. m / 65536) p6 ∙ up _ f at_f in
    let p4 : n / 2 ^ 64 ≡ ((a * 65536 + b) * 65536 + c) * 65536 + d = sym (div-div-eq-div-mul n (2 ^ 48) 65536) ∙ ap (λ m. m / 65536) p5 ∙ up _ e at_e in
    let p3 : n / 2 ^ 80 ≡ (a * 65536 + b) * 65536 + c = sym (div-div-eq-div-mul n (2 ^ 64) 65536) ∙ ap (λ m. m / 65536) p4 ∙ up _ d at_d in
    let p2 : n / 2 ^ 96 ≡ a * 65536 + b = sym (div-div-eq-div-mul n (2 ^ 80) 65536) ∙ ap (λ m. m / 65536) p3 ∙ up _ c at_c in
    let p1 : n / 2 ^ 112 ≡ a = sym (div-div-eq-div-mul n (2 ^ 96) 65536) ∙ ap (λ m. m / 65536) p2 ∙ up a b at_b in
    let top : a % 65536 ≡ a = omega arith in
    let is_a = ap (λ m. m % 65536) p1 ∙ top in
    let is_b = ap (λ m. m % 65536) p2 ∙ low a b at_b in
    let is_c = ap (λ m. m % 65536) p3 ∙ low _ c at_c in
    let is_d = ap (λ m. m % 65536) p4 ∙ low _ d at_d in
    let is_e = ap (λ m. m % 65536) p5 ∙ low _ e at_e in
    let is_f = ap (λ m. m % 65536) p6 ∙ low _ f at_f in
    let is_g = ap (λ m. m % 65536) p7 ∙ low _ g at_g in
    let is_h = low _ h at_h in
    groups_are n ∙ (λ i. is_a i ∷ is_b i ∷ is_c i ∷ is_d i ∷ is_e i ∷ is_f i ∷ is_g i ∷ is_h i ∷ [])
