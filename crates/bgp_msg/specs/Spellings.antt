-- Path segments and prefixes, spelled as an UPDATE lists them (RFC 4271, 4.3, and RFC 6793, 3).
use Rattle.std.specs.Prelude.{ℕ, ◌≡◌, ◌≤◌, ◌<◌, ◌+◌, ◌-◌, ◌/◌, ◌%◌, ◌^◌, ◌==◌, Bool, true, List, [], ◌∷◌, ◌++◌, length, replicate, take, map, flat_map, None, if◌then◌else◌}
use Rattle.byteorder.specs.Endian.{big_bytes}
use Rattle.acct_types.specs.Prefixes.{network_of}
use Rattle.acct_types.specs.Updates.{Named}
use Rattle.acct_types.specs.declared.addr.Addr.{Addr}
use Rattle.acct_types.specs.declared.addr.Addr.TheVariants as address
use Rattle.acct_types.specs.declared.route.Hop.{Hop}
use Rattle.acct_types.specs.declared.route.Hop.TheVariants.{One, Set}
use Rattle.bgp_msg.specs.Paths.{is_path, number_width, path_of, replaced}
use Rattle.bgp_msg.specs.Prefixes.{address_of, bad_prefix, prefixes_in, width}
use Rattle.bgp_msg.specs.declared.families.Family.{Family}
use Rattle.bgp_msg.specs.declared.families.Family.TheVariants.{V4, V6}

-- each of them
abbrev pub Each : {A : Type 0} → (A → Type 0) → List A → Type 0
Each P [] = Unit {0}
Each P (one ∷ others) = P one × Each P others

-- ---- paths

pub record Segment : Type 0 where
  pub kind : ℕ
  pub numbers : List ℕ

-- its kind is known, it has a number, and its numbers fit
pub record FitsSegment (wide : Bool) (segment : Segment) : Type 0 where
  pub some_kind : 1 ≤ segment.kind
  pub known_kind : segment.kind ≤ 4
  pub some : 1 ≤ length segment.numbers
  pub fits : Each (λ number. number < 256 ^ number_width wide) segment.numbers

abbrev pub segment_spelling : Bool → Segment → List ℕ
segment_spelling wide segment = segment.kind ∷ length segment.numbers ∷ flat_map (big_bytes (number_width wide)) segment.numbers

abbrev pub path_spelling : Bool → List Segment → List ℕ
path_spelling wide segments = flat_map (segment_spelling wide) segments

-- A set is one hop, and a sequence one for each number. Those of confederations have none.
abbrev pub hops_in : Segment → List Hop
hops_in segment =
    if segment.kind == 1 then Set segment.numbers ∷ []
    else (if segment.kind == 2 then map One segment.numbers
    else [])

abbrev pub ReadsPath : Type 0
ReadsPath = (wide : Bool) (segments : List Segment) → Each (FitsSegment wide) segments
    → (is_path wide (path_spelling wide segments) ≡ true) × (path_of wide (path_spelling wide segments) ≡ flat_map hops_in segments)

-- AS4_PATH never changes the length of a path, nor its first hops.
abbrev pub ReplacesTheLast : Type 0
ReplacesTheLast = (path later : List Hop)
    → (length (replaced path later) ≡ length path) × (take (length path - length later) (replaced path later) ≡ take (length path - length later) path)

-- ---- prefixes

pub record Spelled : Type 0 where
  pub bits : ℕ
  pub octets : List ℕ

-- as many octets as its bits need, and no more bits than an address has
pub record FitsPrefix (family : Family) (prefix : Spelled) : Type 0 where
  pub few : prefix.bits ≤ width family
  pub filled : length prefix.octets ≡ (prefix.bits + 7) / 8

abbrev pub prefix_spelling : Spelled → List ℕ
prefix_spelling prefix = prefix.bits ∷ prefix.octets

abbrev pub name_of : Family → Spelled → Named
name_of family prefix = record { addr = network_of prefix.bits (address_of family prefix.octets); len = prefix.bits; path_id = 0 }

abbrev pub ReadsPrefixes : Type 0
ReadsPrefixes = (family : Family) (prefixes : List Spelled) → Each (FitsPrefix family) prefixes
    → (bad_prefix family 0 (flat_map prefix_spelling prefixes) ≡ None) × (prefixes_in family (flat_map prefix_spelling prefixes) ≡ map (name_of family) prefixes)

abbrev pub address_from : Family → ℕ → Addr
address_from V4 number = address.V4 number
address_from V6 number = address.V6 number

-- the octets of an address
abbrev pub address_size : Family → ℕ
address_size V4 = 4
address_size V6 = 16

-- The octets are those of this address but for zeros at its end, and its bits past the length are 0.
pub record Names (family : Family) (number : ℕ) (prefix : Spelled) : Type 0 where
  pub fits : number < 256 ^ address_size family
  pub octets : prefix.octets ++ replicate (address_size family - length prefix.octets) 0 ≡ big_bytes (address_size family) number
  pub clear : number % 2 ^ (width family - prefix.bits) ≡ 0

abbrev pub ReadsAddress : Type 0
ReadsAddress = (family : Family) (number : ℕ) (prefix : Spelled) → FitsPrefix family prefix → Names family number prefix
    → name_of family prefix ≡ record { addr = address_from family number; len = prefix.bits; path_id = 0 }
