-- Addresses as numbers of 32 or 128 bits, and their first bits.
use Rattle.std.specs.Prelude.{ℕ, ◌-◌, ◌*◌, ◌/◌, ◌%◌, ◌^◌, ◌==◌, Bool, false}
use Rattle.acct_types.specs.declared.addr.Addr.{Addr}
use Rattle.acct_types.specs.declared.addr.Addr.TheVariants.{V4, V6}

-- how many bits an address of this family has
abbrev pub width_of : Addr → ℕ
width_of (V4 n) = 32
width_of (V6 n) = 128

-- the address as a number, whatever its family
abbrev pub number_of : Addr → ℕ
number_of (V4 n) = n
number_of (V6 n) = n

-- the number that the first bits of a number of this width make
abbrev pub first_bits : ℕ → ℕ → ℕ → ℕ
first_bits count width n = n / 2 ^ (width - count)

-- the bits after those
abbrev pub last_bits : ℕ → ℕ → ℕ → ℕ
last_bits count width n = n % 2 ^ (width - count)

-- the number with the bits after those 0
abbrev pub cleared_after : ℕ → ℕ → ℕ → ℕ
cleared_after count width n = first_bits count width n * 2 ^ (width - count)

-- the address with the bits after the first 0
abbrev pub network_of : ℕ → Addr → Addr
network_of len (V4 n) = V4 (cleared_after len 32 n)
network_of len (V6 n) = V6 (cleared_after len 128 n)

-- whether both addresses are of one family and begin with the same bits
abbrev pub same_start : ℕ → Addr → Addr → Bool
same_start len (V4 a) (V4 b) = first_bits len 32 a == first_bits len 32 b
same_start len (V6 a) (V6 b) = first_bits len 128 a == first_bits len 128 b
same_start len (V4 a) (V6 b) = false
same_start len (V6 a) (V4 b) = false
