-- A text is read as the address that it spells, and as no other.
use Rattle.std.proofs.Common.{◌≡◌, ◌∙◌, ℕ, zero, suc, ◌+◌, ◌*◌, ◌-◌, ◌/◌, ◌%◌, ◌^◌, ◌<◌, ◌≤◌, Bool, true, false, List, [], ◌∷◌, ◌++◌, Option, Some, None, ap, sym, refl, subst, arith, length, get_or, replicate, length-append, inl, inr, if◌then◌else◌}
use Rattle.std.specs.Option.{option_map}
use Rattle.std.specs.Int.{w32, w128, from_be_bytes}
use Rattle.std.specs.Net.Addr.{octets_of, segments_of}
use Rattle.std.specs.Net.Grammar.{IsColonHex, IsDotted, IsGroup, IsGroupsAfter}
use Rattle.std.specs.Net.Reader.{read_ipv4, read_ipv6, whole_value}
use Rattle.std.specs.Net.Text.{hex_groups_text}
use Rattle.std.proofs.lemmas.Int.Digits.{digits_value-lt}
use Rattle.std.proofs.lemmas.Nat.{be_bytes_4, from_be_bytes-to_be_bytes_4}
use Rattle.std.proofs.lemmas.List.{length-replicate}
use Rattle.std.proofs.NetLemmas.Arrays.{eight_items}
use Rattle.std.proofs.NetLemmas.Alphabet.{All-hex_groups_text}
use Rattle.std.proofs.NetLemmas.Texts.{AllSegments, IsColonHex-hex_groups_text, IsDotted-ipv4_text}
use Rattle.acct_types.specs.declared.addr.Addr.{Addr}
use Rattle.acct_types.specs.declared.addr.Addr.TheVariants.{V4, V6}
use Rattle.acct_types.specs.AddrText.{AddrFits, IsReadingOf, Spells, address_of, address_text, groups_in, has_dot, octets_in, v4_of, v6_of, ReadsSpellings, ReadsTexts}
use Rattle.acct_types.proofs.GroupLemmas.{groups_again, groups_are, joined_again, joined_is}
use Rattle.acct_types.proofs.ReadLemmas.{dotted_has_dot, dotted_read, groups_read, no_dot_in_hex, whole_ipv4, whole_ipv6}

-- ---- numbers in range

-- each item is below the number
abbrev pub AllBelow : ℕ → List ℕ → Type 0
AllBelow m xs = (k : ℕ) → get_or xs k 0 < m

below_nil : (m : ℕ) → 0 < m → AllBelow m []
below_nil m some k = some

below_cons : (m x : ℕ) (xs : List ℕ) → x < m → AllBelow m xs → AllBelow m (x ∷ xs)
below_cons m x xs first rest zero = first
below_cons m x xs first rest (suc k) = rest k

below_append : (m : ℕ) (xs ys : List ℕ) → AllBelow m xs → AllBelow m ys → AllBelow m (xs ++ ys)
below_append m [] ys front back = back
below_append m (x ∷ xs) ys front back = below_cons m x (xs ++ ys) (front 0) (below_append m xs ys (λ k. front (suc k)) back)

below_zeros : (m n : ℕ) → 0 < m → AllBelow m (replicate n 0)
below_zeros m zero some = below_nil m some
below_zeros m (suc n) some = below_cons m 0 (replicate n 0) some (below_zeros m n some)

-- ---- groups

group_below : (text : List ℕ) (value : ℕ) → IsGroup text value → value < 65536
group_below text value h =
    let fits = digits_value-lt 16 text h.0.0.1 in
    by (length text) value h.1 (subst (λ n. n < 16 ^ length text) h.0.1 fits)
  where
    by : (n value : ℕ) → n ≤ 4 → value < 16 ^ n → value < 65536
    by zero value few fits = omega arith
    by (suc zero) value few fits = omega arith
    by (suc (suc zero)) value few fits = omega arith
    by (suc (suc (suc zero))) value few fits = omega arith
    by (suc (suc (suc (suc zero)))) value few fits = omega arith
    by (suc (suc (suc (suc (suc n))))) value few fits = absurd (omega arith)

pair_below : (text octets : List ℕ) → IsDotted text octets → AllBelow 65536 (segments_of octets)
pair_below text octets h =
    subst (λ (o : List ℕ). AllBelow 65536 (segments_of o)) (sym h.value)
    (below_cons 65536 (h.a * 256 + h.b) ((h.c * 256 + h.d) ∷ []) (omega (arith, h.fit.0, h.fit.1))
    (below_cons 65536 (h.c * 256 + h.d) [] (omega (arith, h.fit.2, h.fit.3)) (below_nil 65536 (omega arith))))

groups_below : (ipv4 : Bool) (lead text groups : List ℕ) → IsGroupsAfter ipv4 lead text groups → AllBelow 65536 groups
groups_below ipv4 lead text [] h = below_nil 65536 (omega arith)
groups_below ipv4 lead text (group ∷ groups) (inl h) =
    below_cons 65536 group groups (group_below h.0 group h.3) (groups_below ipv4 (58 ∷ []) h.1 groups h.4)
groups_below ipv4 lead text (group ∷ groups) (inr h) = subst (AllBelow 65536) (sym h.5) (pair_below h.0 h.1 h.4)

-- a text of groups spells eight, each of sixteen bits
pub eight_groups : (text groups : List ℕ) → IsColonHex text groups → (length groups ≡ 8) × AllBelow 65536 groups
eight_groups text groups (inl h) = (h.1, groups_below true [] text groups h.0)
eight_groups text groups (inr h) =
    let gap = 8 - length h.head - length h.tail in
    let long : length (h.head ++ replicate gap 0 ++ h.tail) ≡ 8 =
    omega (arith, h.room, length-append (h.head ++ replicate gap 0) h.tail, length-append h.head (replicate gap 0), length-replicate {A = ℕ} gap 0) in
    let small = below_append 65536 (h.head ++ replicate gap 0) h.tail
    (below_append 65536 h.head (replicate gap 0) (groups_below false [] h.head_text h.head h.head_groups) (below_zeros 65536 gap (omega arith)))
    (groups_below true [] h.tail_text h.tail h.tail_groups) in
    (ap length h.value ∙ long, subst (AllBelow 65536) (sym h.value) small)

-- what eight groups make
module _ (a b c d e f g h : ℕ) (at_a : a < 65536) (at_b : b < 65536) (at_c : c < 65536) (at_d : d < 65536) (at_e : e < 65536) (at_f : f < 65536) (at_g : g < 65536) (at_h : h < 65536) where
  abbrev all : List ℕ
  all = a ∷ b ∷ c ∷ d ∷ e ∷ f ∷ g ∷ h ∷ []

  eight_below : AllBelow 65536 all
  eight_below =
      below_cons 65536 a (b ∷ c ∷ d ∷ e ∷ f ∷ g ∷ h ∷ []) at_a (below_cons 65536 b (c ∷ d ∷ e ∷ f ∷ g ∷ h ∷ []) at_b
      (below_cons 65536 c (d ∷ e ∷ f ∷ g ∷ h ∷ []) at_c (below_cons 65536 d (e ∷ f ∷ g ∷ h ∷ []) at_d
      (below_cons 65536 e (f ∷ g ∷ h ∷ []) at_e (below_cons 65536 f (g ∷ h ∷ []) at_f
      (below_cons 65536 g (h ∷ []) at_g (below_cons 65536 h [] at_h (below_nil 65536 (omega arith)))))))))

  fits_of : from_be_bytes w128 (octets_of all) < 2 ^ 128
  fits_of = rw (joined_is a b c d e f g h) (omega arith)

  groups_of : groups_in (from_be_bytes w128 (octets_of all)) ≡ all
  groups_of = ap groups_in (joined_is a b c d e f g h) ∙ groups_again a b c d e f g h at_a at_b at_c at_d at_e at_f at_g at_h

-- eight groups make a number, and are its groups
number_of_groups : (groups : List ℕ) → length groups ≡ 8 → AllBelow 65536 groups
    → (from_be_bytes w128 (octets_of groups) < 2 ^ 128) × (groups_in (from_be_bytes w128 (octets_of groups)) ≡ groups)
number_of_groups groups eight small =
    subst (λ (gs : List ℕ). (from_be_bytes w128 (octets_of gs) < 2 ^ 128) × (groups_in (from_be_bytes w128 (octets_of gs)) ≡ gs)) (sym (eight_items groups eight)) (
      fits_of _ _ _ _ _ _ _ _ (small 0) (small 1) (small 2) (small 3) (small 4) (small 5) (small 6) (small 7),
      groups_of _ _ _ _ _ _ _ _ (small 0) (small 1) (small 2) (small 3) (small 4) (small 5) (small 6) (small 7),
    )

groups_again_number : (n : ℕ) → n < 2 ^ 128 → from_be_bytes w128 (octets_of (groups_in n)) ≡ n
groups_again_number n fits =
    ap (λ (groups : List ℕ). from_be_bytes w128 (octets_of groups)) (groups_are n) ∙ joined_is _ _ _ _ _ _ _ _ ∙ joined_again n fits

-- ---- IPv4

four_below : (a b c d : ℕ) → a < 256 → b < 256 → c < 256 → d < 256 → AllBelow 256 (a ∷ b ∷ c ∷ d ∷ [])
four_below a b c d at_a at_b at_c at_d =
    below_cons 256 a (b ∷ c ∷ d ∷ []) at_a (below_cons 256 b (c ∷ d ∷ []) at_b (below_cons 256 c (d ∷ []) at_c (below_cons 256 d [] at_d (below_nil 256 (omega arith)))))

octets_below : (n : ℕ) → AllBelow 256 (octets_in n)
octets_below n = four_below (n / 16777216 % 256) (n / 65536 % 256) (n / 256 % 256) (n % 256) (omega arith) (omega arith) (omega arith) (omega arith)

number_of_dotted : (text octets : List ℕ) → IsDotted text octets → (from_be_bytes w32 octets < 2 ^ 32) × (octets_in (from_be_bytes w32 octets) ≡ octets)
number_of_dotted text octets h =
    let small = four_below h.a h.b h.c h.d h.fit.0 h.fit.1 h.fit.2 h.fit.3 in
    subst (λ (o : List ℕ). (from_be_bytes w32 o < 2 ^ 32) × (octets_in (from_be_bytes w32 o) ≡ o)) (sym h.value)
    (omega (arith, h.fit.0, h.fit.1, h.fit.2, h.fit.3), be_bytes_4 (h.a ∷ h.b ∷ h.c ∷ h.d ∷ []) _ refl small refl)

-- ---- both

-- what was read is what the text spells
spelled_v4 : (text : List ℕ) (address : Addr) (read : Option (List ℕ)) → whole_value (read_ipv4 text) ≡ read
    → option_map V4 (option_map (λ octets. from_be_bytes w32 octets) read) ≡ Some address → Spells text address
spelled_v4 text address None is h = cc h
spelled_v4 text (V4 n) (Some octets) is h =
    let number : from_be_bytes w32 octets ≡ n = cc h in
    let dotted = dotted_read text octets is in
    let kept = number_of_dotted text octets dotted in
    (subst (λ m. m < 2 ^ 32) number kept.0, subst (IsDotted text) (sym kept.1 ∙ ap octets_in number) dotted)
spelled_v4 text (V6 n) (Some octets) is h = cc h

spelled_v6 : (text : List ℕ) (address : Addr) (read : Option (List ℕ)) → has_dot text ≡ false → whole_value (read_ipv6 text) ≡ read
    → option_map V6 (option_map (λ groups. from_be_bytes w128 (octets_of groups)) read) ≡ Some address → Spells text address
spelled_v6 text address None plain is h = cc h
spelled_v6 text (V6 n) (Some groups) plain is h =
    let number : from_be_bytes w128 (octets_of groups) ≡ n = cc h in
    let spelled = groups_read text groups is in
    let all = eight_groups text groups spelled in
    let kept = number_of_groups groups all.0 all.1 in
    (subst (λ m. m < 2 ^ 128) number kept.0, subst (IsColonHex text) (sym kept.1 ∙ ap groups_in number) spelled, plain)
spelled_v6 text (V4 n) (Some groups) plain is h = cc h

pub read_is_spelled : (text : List ℕ) (address : Addr) → address_of text ≡ Some address → Spells text address
unfolding address_of
read_is_spelled text address = by (has_dot text) refl
  where
    by : (dotted : Bool) → has_dot text ≡ dotted → (if dotted then option_map V4 (v4_of text) else option_map V6 (v6_of text)) ≡ Some address → Spells text address
    by true is h = spelled_v4 text address (whole_value (read_ipv4 text)) refl h
    by false is h = spelled_v6 text address (whole_value (read_ipv6 text)) is refl h

pub spelled_is_read : (text : List ℕ) (address : Addr) → Spells text address → address_of text ≡ Some address
unfolding address_of
spelled_is_read text (V4 n) h =
    rw (dotted_has_dot text (octets_in n) h.1, whole_ipv4 text (octets_in n) h.1) (ap (λ m. Some (V4 m)) (from_be_bytes-to_be_bytes_4 n h.0))
spelled_is_read text (V6 n) h =
    rw (h.2, whole_ipv6 text (groups_in n) h.1) (ap (λ m. Some (V6 m)) (groups_again_number n h.0))

-- the text of an address spells it
pub text_spells : (address : Addr) → AddrFits address → Spells (address_text address) address
unfolding address_text
text_spells (V4 n) fits =
    (fits, IsDotted-ipv4_text (octets_in n) refl (octets_below n))
text_spells (V6 n) fits =
    let small : AllSegments (groups_in n) = subst AllSegments (sym (groups_are n)) (eight_below (n / 2 ^ 112 % 65536) (n / 2 ^ 96 % 65536) (n / 2 ^ 80 % 65536) (n / 2 ^ 64 % 65536)
    (n / 2 ^ 48 % 65536) (n / 2 ^ 32 % 65536) (n / 2 ^ 16 % 65536) (n % 65536) (omega arith) (omega arith) (omega arith) (omega arith) (omega arith) (omega arith) (omega arith) (omega arith)) in
    (fits, IsColonHex-hex_groups_text (groups_in n) refl small, no_dot_in_hex (hex_groups_text (groups_in n)) (All-hex_groups_text (groups_in n) small))

pub reads_spellings : ReadsSpellings
reads_spellings text address = (read_is_spelled text address, spelled_is_read text address)

pub reads_texts : ReadsTexts
reads_texts address fits = spelled_is_read (address_text address) address (text_spells address fits)

pub is_reading : (text : List ℕ) (result : Option Addr) → result ≡ address_of text → IsReadingOf text result
is_reading text None same = λ address spelled. cc (same, spelled_is_read text address spelled)
is_reading text (Some address) same = read_is_spelled text address (sym same)
