-- The text of each cell is plain.
use Rattle.std.proofs.Common.{◌≡◌, ◌++◌, ◌∷◌, ◌+◌, ◌*◌, ◌<◌, ◌/◌, ◌%◌, [], ℕ, List, Bool, true, false, refl, arith, codes, decimal, drop, flat_map, map, suc, take, zero}
use Rattle.std.specs.Prelude.{◌&&◌, if◌then◌else◌, nat_lt, nat_eq, IsAscii, IsUtf8}
use Rattle.std.specs.Char.{digit_char}
use Rattle.std.specs.Fmt.{digit_glyph, digits, digits_onto}
use Rattle.std.specs.Int.{byte_at, bytes_high_first, to_be_bytes, w64, w128}
use Rattle.std.specs.List.{list_all}
use Rattle.std.specs.Net.Addr.{segments_of}
use Rattle.std.specs.Net.Text.{compressed_text, dotted_text, groups_text, hex, hex_groups_text, leading_zero_digits, longest_zero_run}
use Rattle.std.proofs.lemmas.Bool.Decides.{nat_tests}
use Rattle.std.proofs.lemmas.List.Folds.{list_all-append}
use Rattle.std.proofs.lemmas.Str.{IsUtf8-from_ascii}
use Rattle.std.proofs.lemmas.Str.Ascii.{IsAscii-nil}
use Rattle.acct_types.specs.Cells.{are_plain, has_plain_words, is_plain}
use Rattle.acct_types.specs.AddrText.{address_text, groups_in}
use Rattle.acct_types.specs.declared.addr.Addr.{Addr}
use Rattle.acct_types.specs.declared.addr.Addr.TheVariants.{V4, V6}
use Rattle.acct_types.specs.declared.cell.Cell.{Cell}
use Rattle.acct_types.specs.declared.cell.Cell.TheVariants as cell
use Rattle.out_text.specs.Lines.{cell_text, hex_pair, joined, mac_text}

pub both : (a b : Bool) → (a && b) ≡ true → (a ≡ true) × (b ≡ true)
both true true e = (refl, refl)
both true false e = cc e
both false b e = cc e

pub kept_by_take : {X : Type 0} (p : X → Bool) (n : ℕ) (xs : List X) → list_all p xs ≡ true → list_all p (take n xs) ≡ true
kept_by_take p zero xs h = refl
kept_by_take p (suc n) [] h = refl
kept_by_take p (suc n) (x ∷ xs) h = let b = both (p x) (list_all p xs) h in rw b.0 (kept_by_take p n xs b.1)

pub kept_by_drop : {X : Type 0} (p : X → Bool) (n : ℕ) (xs : List X) → list_all p xs ≡ true → list_all p (drop n xs) ≡ true
kept_by_drop p zero xs h = h
kept_by_drop p (suc n) [] h = refl
kept_by_drop p (suc n) (x ∷ xs) h = kept_by_drop p n xs (both (p x) (list_all p xs) h).1

plain_append : (a b : List ℕ) → are_plain a ≡ true → are_plain b ≡ true → are_plain (a ++ b) ≡ true
plain_append a b p q = rw (list_all-append is_plain a b, p, q) refl

plain_flat : {X : Type 0} (f : X → List ℕ) (p : X → Bool) → ((x : X) → p x ≡ true → are_plain (f x) ≡ true)
    → (xs : List X) → list_all p xs ≡ true → are_plain (flat_map f xs) ≡ true
plain_flat f p each [] h = refl
plain_flat f p each (x ∷ xs) h =
    let b = both (p x) (list_all p xs) h in
    plain_append (f x) (flat_map f xs) (each x b.0) (plain_flat f p each xs b.1)

plain_glyph : (n : ℕ) → is_plain (digit_glyph false (n % 10)) ≡ true
plain_glyph n = grind (arith, nat_tests)

plain_either : (b : Bool) (x y : List ℕ) → are_plain x ≡ true → are_plain y ≡ true → are_plain (if b then x else y) ≡ true
plain_either true x y p q = p
plain_either false x y p q = q

digits_are_plain : (k n : ℕ) (acc : List ℕ) → are_plain acc ≡ true → are_plain (digits_onto k 10 false n acc) ≡ true
digits_are_plain zero n acc h = h
digits_are_plain (suc k) n acc h =
    let more : are_plain (digit_glyph false (n % 10) ∷ acc) ≡ true = rw (plain_glyph n) h in
    plain_either (nat_eq (n / 10) 0) (digit_glyph false (n % 10) ∷ acc) (digits_onto k 10 false (n / 10) (digit_glyph false (n % 10) ∷ acc))
    more (digits_are_plain k (n / 10) (digit_glyph false (n % 10) ∷ acc) more)

pub plain_decimal : (n : ℕ) → are_plain (decimal n) ≡ true
unfolding digits
plain_decimal n = digits_are_plain 64 n [] refl

plain_digit : (d : ℕ) → d < 16 → is_plain (digit_char d) ≡ true
plain_digit d h = grind (arith, nat_tests)

plain_pair : (o : ℕ) → nat_lt o 256 ≡ true → are_plain (hex_pair o) ≡ true
plain_pair o h =
    let high = plain_digit (o / 16) (grind (arith, h)) in
    let low = plain_digit (o % 16) (grind (arith)) in
    rw (high, low) refl

abbrev are_octets : List ℕ → Bool
are_octets os = list_all (λ o. nat_lt o 256) os

abbrev are_groups : List ℕ → Bool
are_groups gs = list_all (λ g. nat_lt g 65536) gs

octet_fits : (i n : ℕ) → nat_lt (byte_at i n) 256 ≡ true
octet_fits zero n = grind (arith)
octet_fits (suc i) n = grind (arith)

octets_fit : (k n : ℕ) → are_octets (bytes_high_first k n) ≡ true
octets_fit zero n = refl
octets_fit (suc k) n = rw (octet_fits k n) (octets_fit k n)

groups_fit : (os : List ℕ) → are_octets os ≡ true → are_groups (segments_of os) ≡ true
groups_fit [] h = refl
groups_fit (a ∷ []) h = refl
groups_fit (a ∷ b ∷ os) h =
    let p = both (nat_lt a 256) (are_octets (b ∷ os)) h in
    let q = both (nat_lt b 256) (are_octets os) p.1 in
    rw (pair a b p.0 q.0) (groups_fit os q.1)
  where
    pair : (a b : ℕ) → nat_lt a 256 ≡ true → nat_lt b 256 ≡ true → nat_lt (a * 256 + b) 65536 ≡ true
    pair a b p q = grind (arith, p, q)

plain_hex : (g : ℕ) → nat_lt g 65536 ≡ true → are_plain (hex g) ≡ true
unfolding hex
plain_hex g h =
    let one = plain_digit (g / 0x1000) (grind (arith, h)) in
    let two = plain_digit (g / 0x100 % 16) (grind (arith)) in
    let three = plain_digit (g / 0x10 % 16) (grind (arith)) in
    let four = plain_digit (g % 16) (grind (arith)) in
    kept_by_drop is_plain (leading_zero_digits g) (digit_char (g / 0x1000) ∷ digit_char (g / 0x100 % 16) ∷ digit_char (g / 0x10 % 16) ∷ digit_char (g % 16) ∷ [])
    (rw (one, two, three, four) refl)

plain_groups : (gs : List ℕ) → are_groups gs ≡ true → are_plain (groups_text gs) ≡ true
plain_groups [] h = refl
plain_groups (g ∷ gs) h =
    let b = both (nat_lt g 65536) (are_groups gs) h in
    plain_append (hex g) (flat_map (λ t. codes ":" ++ hex t) gs) (plain_hex g b.0) (plain_flat (λ t. codes ":" ++ hex t) (λ t. nat_lt t 65536) (λ t fits. plain_hex t fits) gs b.1)

plain_compressed : (gs : List ℕ) (run : ℕ × ℕ) → are_groups gs ≡ true → are_plain (compressed_text gs run) ≡ true
plain_compressed gs run h =
    let before : are_plain (groups_text (take run.0 gs)) ≡ true = plain_groups (take run.0 gs) (kept_by_take (λ g. nat_lt g 65536) run.0 gs h) in
    let after : are_plain (groups_text (drop (run.0 + run.1) gs)) ≡ true = plain_groups (drop (run.0 + run.1) gs) (kept_by_drop (λ g. nat_lt g 65536) (run.0 + run.1) gs h) in
    plain_either (nat_lt 1 run.1) (groups_text (take run.0 gs) ++ codes "::" ++ groups_text (drop (run.0 + run.1) gs)) (groups_text gs)
    (plain_append (groups_text (take run.0 gs) ++ codes "::") (groups_text (drop (run.0 + run.1) gs)) (plain_append (groups_text (take run.0 gs)) (codes "::") before refl) after)
    (plain_groups gs h)

plain_dotted : (a b c d : ℕ) → are_plain (dotted_text a b c d) ≡ true
plain_dotted a b c d =
    let one = plain_append (decimal a) (codes ".") (plain_decimal a) refl in
    let two = plain_append (decimal a ++ codes ".") (decimal b) one (plain_decimal b) in
    let three = plain_append (decimal a ++ codes "." ++ decimal b) (codes ".") two refl in
    let four = plain_append (decimal a ++ codes "." ++ decimal b ++ codes ".") (decimal c) three (plain_decimal c) in
    let five = plain_append (decimal a ++ codes "." ++ decimal b ++ codes "." ++ decimal c) (codes ".") four refl in
    plain_append (decimal a ++ codes "." ++ decimal b ++ codes "." ++ decimal c ++ codes ".") (decimal d) five (plain_decimal d)

plain_address : (a : Addr) → are_plain (address_text a) ≡ true
unfolding address_text hex_groups_text
plain_address (V4 n) = plain_dotted _ _ _ _
plain_address (V6 n) = plain_compressed (groups_in n) (longest_zero_run (groups_in n)) (groups_fit (to_be_bytes w128 n) (octets_fit 16 n))

plain_mac : (m : ℕ) → are_plain (mac_text m) ≡ true
unfolding mac_text
plain_mac m = by (drop 2 (to_be_bytes w64 m)) (kept_by_drop (λ o. nat_lt o 256) 2 (to_be_bytes w64 m) (octets_fit 8 m))
  where
    others : (os : List ℕ) → are_octets os ≡ true → are_plain (flat_map (λ other. codes ":" ++ other) (map hex_pair os)) ≡ true
    others [] h = refl
    others (o ∷ os) h =
        let b = both (nat_lt o 256) (are_octets os) h in
        plain_append (hex_pair o) (flat_map (λ other. codes ":" ++ other) (map hex_pair os)) (plain_pair o b.0) (others os b.1)

    by : (os : List ℕ) → are_octets os ≡ true → are_plain (joined (codes ":") (map hex_pair os)) ≡ true
    by [] h = refl
    by (o ∷ os) h =
        let b = both (nat_lt o 256) (are_octets os) h in
        plain_append (hex_pair o) (flat_map (λ other. codes ":" ++ other) (map hex_pair os)) (plain_pair o b.0) (others os b.1)

-- a cell with plain words has a plain text
pub plain_cell : (c : Cell) → has_plain_words c ≡ true → are_plain (cell_text c) ≡ true
unfolding cell_text
plain_cell (cell.Number n) h = plain_decimal n
plain_cell (cell.Address a) h = plain_address a
plain_cell (cell.Mac m) h = plain_mac m
plain_cell (cell.Words words) h = h

plain_ascii : (text : List ℕ) → are_plain text ≡ true → IsAscii text
plain_ascii [] h i = IsAscii-nil i
plain_ascii (b ∷ text) h zero = below b (both (is_plain b) (are_plain text) h).0
  where
    below : (b : ℕ) → is_plain b ≡ true → b < 128
    below b h = grind (arith, h, nat_tests)
plain_ascii (b ∷ text) h (suc i) = plain_ascii text (both (is_plain b) (are_plain text) h).1 i

pub plain_utf8 : (text : List ℕ) → are_plain text ≡ true → IsUtf8 text
plain_utf8 text h = IsUtf8-from_ascii text (plain_ascii text h)
