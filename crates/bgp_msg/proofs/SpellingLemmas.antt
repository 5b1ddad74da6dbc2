-- What is spelled is read.
use Rattle.std.proofs.Common.{◌≡◌, ◌≤◌, ◌<◌, ◌+◌, ◌-◌, ◌*◌, ◌/◌, ◌%◌, ◌^◌, ◌∙◌, ◌∷◌, ◌++◌, [], ℕ, false, true, List, length, take, drop, refl, sym, ap, append_assoc, length-append, arith}
use Rattle.std.proofs.Math.Nat.{div-add-mod, mul_comm, mul-suc}
use Rattle.std.proofs.Math.Seq.{drop-append_seam, take-append_seam}
use Rattle.std.proofs.lemmas.Bool.{ne_eqb}
use Rattle.std.proofs.lemmas.Bool.Decides.{nat_tests}
use Rattle.std.proofs.lemmas.List.{append-nil, length-take-le, replicate-append-replicate, take_all}
use Rattle.std.specs.Prelude.{◌==◌, Bool, None, flat_map, if◌then◌else◌, map, nat_le, replicate}
use Rattle.byteorder.specs.Endian.{big_bytes}
use Rattle.byteorder.specs.Numbers.{big_number-reads_back, length-bytes_high_first}
use Rattle.acct_types.specs.Numbers.{number_at}
use Rattle.acct_types.specs.declared.addr.Addr.TheVariants as address
use Rattle.acct_types.specs.declared.route.Hop.TheVariants.{One, Set}
use Rattle.bgp_msg.specs.Paths.{hops_of, is_segment, number_width, numbers_of, replaced, segment_numbers, segment_size}
use Rattle.bgp_msg.specs.Pieces.{pieces}
use Rattle.bgp_msg.specs.Prefixes.{address_of, bad_prefix, filled, is_bad, named, prefix_size, prefixes_in}
use Rattle.bgp_msg.specs.Spellings.{Each, FitsPrefix, FitsSegment, ReadsAddress, ReadsPath, ReadsPrefixes, ReplacesTheLast, Segment, Spelled, hops_in, name_of, path_spelling, prefix_spelling, segment_spelling}
use Rattle.bgp_msg.specs.declared.families.Family.{Family}
use Rattle.bgp_msg.specs.declared.families.Family.TheVariants.{V4, V6}
use Rattle.bgp_msg.proofs.PieceLemmas.{HasSize, pieces_next}
use Rattle.bgp_msg.proofs.PrefixLemmas.{has_size as prefix_has_size}
use Rattle.bgp_msg.proofs.SegmentLemmas.{has_size as segment_has_size}

-- a piece that has its size, in front of others
pieces_one : (size : List ℕ → ℕ) (piece rest : List ℕ) → HasSize size → size (piece ++ rest) ≡ length piece → pieces size (piece ++ rest) ≡ piece ∷ pieces size rest
pieces_one size piece rest some is =
    let least = some (piece ++ rest) in
    let all = length-append piece rest in
    let there : (length (piece ++ rest) == 0) ≡ false = ne_eqb (length (piece ++ rest)) 0 (λ e. omega (arith, e, least, is, all)) in
    pieces_next size (length piece) (piece ++ rest) piece rest some (sym there) (sym is) (sym (take-append_seam piece rest)) (sym (drop-append_seam piece rest))

-- ---- paths

numbers_back : (width : ℕ) (numbers rest : List ℕ) → Each (λ number. number < 256 ^ width) numbers → numbers_of width (length numbers) (flat_map (big_bytes width) numbers ++ rest) ≡ numbers
unfolding number_at
numbers_back width [] rest fits = refl
numbers_back width (number ∷ numbers) rest fits =
    let one = big_bytes width number in
    let others = flat_map (big_bytes width) numbers in
    let count = length numbers in
    let left : drop width (one ++ (others ++ rest)) ≡ others ++ rest =
    ap (λ (n : ℕ). drop n (one ++ (others ++ rest))) (sym (length-bytes_high_first width number)) ∙ drop-append_seam one (others ++ rest) in
    ap (λ (octets : List ℕ). number_at octets 0 width ∷ numbers_of width count (drop width octets)) (append_assoc one others rest)
    ∙ ap (λ (n : ℕ). n ∷ numbers_of width count (drop width (one ++ (others ++ rest)))) (big_number-reads_back width number (others ++ rest) fits.0)
    ∙ ap (λ (octets : List ℕ). number ∷ numbers_of width count octets) left
    ∙ ap (λ (ns : List ℕ). number ∷ ns) (numbers_back width numbers rest fits.1)

numbers_length : (width : ℕ) (numbers : List ℕ) → length (flat_map (big_bytes width) numbers) ≡ width * length numbers
numbers_length width [] = omega arith
numbers_length width (number ∷ numbers) =
    let all = length-append (big_bytes width number) (flat_map (big_bytes width) numbers) in
    let one = length-bytes_high_first width number in
    let rest = numbers_length width numbers in
    let more = mul-suc width (length numbers) in
    omega (arith, all, one, rest, more)

segment_is : (wide : Bool) (segment : Segment) (rest : List ℕ) → segment_size wide (segment_spelling wide segment ++ rest) ≡ length (segment_spelling wide segment)
unfolding segment_size
segment_is wide segment rest = let all = numbers_length (number_width wide) segment.numbers in omega (arith, all)

segment_good : (wide : Bool) (segment : Segment) → FitsSegment wide segment → is_segment wide (segment_spelling wide segment) ≡ true
unfolding is_segment segment_size
segment_good wide segment fits =
    let all = numbers_length (number_width wide) segment.numbers in
    let some = fits.some in
    let least = fits.some_kind in
    let most = fits.known_kind in
    grind (arith, nat_tests, all, some, least, most)

hops_are : (wide : Bool) (segment : Segment) → FitsSegment wide segment → hops_of wide (segment_spelling wide segment) ≡ hops_in segment
unfolding hops_of
hops_are wide segment fits =
    let spelled = flat_map (big_bytes (number_width wide)) segment.numbers in
    let numbers : segment_numbers wide (segment_spelling wide segment) ≡ segment.numbers =
    ap (λ (octets : List ℕ). numbers_of (number_width wide) (length segment.numbers) octets) (sym (append-nil spelled)) ∙ numbers_back (number_width wide) segment.numbers [] fits.fits in
    ap (λ (ns : List ℕ). if segment.kind == 1 then Set ns ∷ [] else (if segment.kind == 2 then map One ns else [])) numbers

pub reads_path : ReadsPath
unfolding pieces
reads_path wide [] fits = (refl, refl)
reads_path wide (segment ∷ segments) fits =
    let one = segment_spelling wide segment in
    let rest = path_spelling wide segments in
    let split = pieces_one (segment_size wide) one rest (segment_has_size wide) (segment_is wide segment rest) in
    let others = reads_path wide segments fits.1 in
    (rw (split, segment_good wide segment fits.0) others.0, rw (split, hops_are wide segment fits.0, others.1) refl)

pub replaces_the_last : ReplacesTheLast
unfolding replaced
replaces_the_last path later = by (nat_le (length later) (length path)) refl
  where
    kept : ℕ
    kept = length path - length later

    by : (shorter : Bool) → nat_le (length later) (length path) ≡ shorter
        → (length (if shorter then take kept path ++ later else path) ≡ length path) × (take kept (if shorter then take kept path ++ later else path) ≡ take kept path)
    by false h = (refl, refl)
    by true h =
        let less : length later ≤ length path = grind (arith, nat_tests, h) in
        let front : length (take kept path) ≡ kept = length-take-le kept path (omega arith) in
        let all = length-append (take kept path) later in
        (omega (arith, less, front, all), ap (λ (n : ℕ). take n (take kept path ++ later)) (sym front) ∙ take-append_seam (take kept path) later)

-- ---- prefixes

prefix_is : (family : Family) (prefix : Spelled) (rest : List ℕ) → FitsPrefix family prefix → prefix_size (prefix_spelling prefix ++ rest) ≡ length (prefix_spelling prefix)
unfolding prefix_size
prefix_is family prefix rest fits = let all = fits.filled in omega (arith, all)

prefix_good : (family : Family) (prefix : Spelled) → FitsPrefix family prefix → is_bad family (prefix_spelling prefix) ≡ false
unfolding is_bad prefix_size
prefix_good family prefix fits =
    let all = fits.filled in
    let few = fits.few in
    grind (arith, nat_tests, all, few)

none_bad : (family : Family) (place : ℕ) (prefixes : List Spelled) → Each (FitsPrefix family) prefixes → bad_prefix family place (flat_map prefix_spelling prefixes) ≡ None
unfolding pieces
none_bad family place [] fits = refl
none_bad family place (prefix ∷ prefixes) fits =
    let one = prefix_spelling prefix in
    let rest = flat_map prefix_spelling prefixes in
    rw (pieces_one prefix_size one rest prefix_has_size (prefix_is family prefix rest fits.0), prefix_good family prefix fits.0) (none_bad family (place + length one) prefixes fits.1)

names_are : (family : Family) (prefixes : List Spelled) → Each (FitsPrefix family) prefixes → prefixes_in family (flat_map prefix_spelling prefixes) ≡ map (name_of family) prefixes
unfolding pieces prefixes_in
names_are family [] fits = refl
names_are family (prefix ∷ prefixes) fits =
    let one = prefix_spelling prefix in
    let rest = flat_map prefix_spelling prefixes in
    ap (map (named family)) (pieces_one prefix_size one rest prefix_has_size (prefix_is family prefix rest fits.0)) ∙ ap (λ (names : List _). name_of family prefix ∷ names) (names_are family prefixes fits.1)

pub reads_prefixes : ReadsPrefixes
reads_prefixes family prefixes fits = (none_bad family 0 prefixes fits, names_are family prefixes fits)

-- ---- the address of a prefix

cleared : (number d : ℕ) → number % d ≡ 0 → number / d * d ≡ number
cleared number d h =
    let all = div-add-mod number d in
    let turn = mul_comm d (number / d) in
    omega (arith, all, turn, h)

filled_are : (octets all : List ℕ) (size : ℕ) → size ≤ 16 → length octets ≤ size → octets ++ replicate (size - length octets) 0 ≡ all → filled octets ≡ all ++ replicate (16 - size) 0
filled_are octets all size few short is =
    let zeros : 16 - length octets ≡ (size - length octets) + (16 - size) = omega (arith, few, short) in
    ap (λ (front : List ℕ). front ++ replicate (16 - length octets) 0) (take_all 16 octets (omega (arith, few, short)))
    ∙ ap (λ (n : ℕ). octets ++ replicate n 0) zeros
    ∙ ap (λ (behind : List ℕ). octets ++ behind) (sym (replicate-append-replicate (size - length octets) (16 - size) 0))
    ∙ sym (append_assoc octets (replicate (size - length octets) 0) (replicate (16 - size) 0))
    ∙ ap (λ (front : List ℕ). front ++ replicate (16 - size) 0) is

number_is : (octets : List ℕ) (number size : ℕ) → size ≤ 16 → length octets ≤ size → number < 256 ^ size → octets ++ replicate (size - length octets) 0 ≡ big_bytes size number → number_at (filled octets) 0 size ≡ number
unfolding number_at
number_is octets number size few short fits is =
    ap (λ (all : List ℕ). number_at all 0 size) (filled_are octets (big_bytes size number) size few short is) ∙ big_number-reads_back size number (replicate (16 - size) 0) fits

pub reads_address : ReadsAddress
unfolding address_of
reads_address V4 number prefix fits names =
    let bits = fits.few in
    let all = fits.filled in
    let short : length prefix.octets ≤ 4 = omega (arith, all, bits) in
    ap (λ (n : ℕ). record { addr = address.V4 n; len = prefix.bits; path_id = 0 })
    (ap (λ (n : ℕ). n / 2 ^ (32 - prefix.bits) * 2 ^ (32 - prefix.bits)) (number_is prefix.octets number 4 (omega arith) short names.fits names.octets) ∙ cleared number (2 ^ (32 - prefix.bits)) names.clear)
reads_address V6 number prefix fits names =
    let bits = fits.few in
    let all = fits.filled in
    let short : length prefix.octets ≤ 16 = omega (arith, all, bits) in
    ap (λ (n : ℕ). record { addr = address.V6 n; len = prefix.bits; path_id = 0 })
    (ap (λ (n : ℕ). n / 2 ^ (128 - prefix.bits) * 2 ^ (128 - prefix.bits)) (number_is prefix.octets number 16 (omega arith) short names.fits names.octets) ∙ cleared number (2 ^ (128 - prefix.bits)) names.clear)
