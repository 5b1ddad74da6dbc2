-- What the readers of std read, whole.
use Rattle.std.proofs.Common.{◌≡◌, ◌≢◌, ◌∙◌, ℕ, ◌==◌, ◌||◌, Bool, true, false, List, [], ◌∷◌, ◌++◌, Option, Some, None, All, ap, sym, refl, subst, arith, length, decimal, lit≤, inl, inr, ne_eqb, append-nil}
use Rattle.std.proofs.lemmas.List.Elements.{All-weaker}
use Rattle.std.proofs.lemmas.List.Folds.{list_any_none, list_any-append}
use Rattle.std.specs.Net.Grammar.{IsColonHex, IsDotted}
use Rattle.std.specs.Net.Reader.{dot, read_ipv4, read_ipv6, whole_value}
use Rattle.std.proofs.NetLemmas.Ipv4.{read_ipv4_complete, read_ipv4_sound}
use Rattle.std.proofs.NetLemmas.Ipv6.{read_ipv6_complete, read_ipv6_sound, EndsGroups-nil}
use Rattle.std.proofs.NetLemmas.Alphabet.{IsHexOrColon}
use Rattle.acct_types.specs.AddrText.{has_dot}
use Rattle.acct_types.proofs.TextLemmas.{dotted_before}

-- a value that was read to the end of the text
whole_is : (read : Option (List ℕ × List ℕ)) (value : List ℕ) → whole_value read ≡ Some value → read ≡ Some (value, [])
whole_is None value h = cc h
whole_is (Some (found, [])) value h = ap (λ (v : List ℕ). Some (v, [])) (cc h)
whole_is (Some (found, octet ∷ rest)) value h = cc (h, ne_eqb (length (octet ∷ rest)) 0 (omega arith))

-- a reader that reads nothing else reads none
none_whole : (read : Option (List ℕ × List ℕ)) → ((value : List ℕ) → whole_value read ≢ Some value) → whole_value read ≡ None
none_whole read never = by (whole_value read) never
  where
    by : (value : Option (List ℕ)) → ((v : List ℕ) → value ≢ Some v) → value ≡ None
    by None never = refl
    by (Some v) never = absurd (never v refl)

pub whole_ipv4 : (text octets : List ℕ) → IsDotted text octets → whole_value (read_ipv4 text) ≡ Some octets
whole_ipv4 text octets spelled =
    ap whole_value (ap read_ipv4 (sym (append-nil text)) ∙ read_ipv4_complete text octets [] spelled (lit≤ tt))

pub dotted_read : (text octets : List ℕ) → whole_value (read_ipv4 text) ≡ Some octets → IsDotted text octets
dotted_read text octets h =
    let sound = read_ipv4_sound text octets [] (whole_is (read_ipv4 text) octets h) in
    subst (λ t. IsDotted t octets) (sym (sound.1 ∙ append-nil sound.0)) sound.2

pub no_ipv4 : (text : List ℕ) → ((octets : List ℕ) → ¬ (IsDotted text octets)) → whole_value (read_ipv4 text) ≡ None
no_ipv4 text never = none_whole (read_ipv4 text) (λ octets h. never octets (dotted_read text octets h))

pub whole_ipv6 : (text groups : List ℕ) → IsColonHex text groups → whole_value (read_ipv6 text) ≡ Some groups
whole_ipv6 text groups spelled =
    ap whole_value (ap read_ipv6 (sym (append-nil text)) ∙ read_ipv6_complete text groups [] spelled EndsGroups-nil)

pub groups_read : (text groups : List ℕ) → whole_value (read_ipv6 text) ≡ Some groups → IsColonHex text groups
groups_read text groups h =
    let sound = read_ipv6_sound text groups [] (whole_is (read_ipv6 text) groups h) in
    subst (λ t. IsColonHex t groups) (sym (sound.1 ∙ append-nil sound.0)) sound.2

pub no_ipv6 : (text : List ℕ) → ((groups : List ℕ) → ¬ (IsColonHex text groups)) → whole_value (read_ipv6 text) ≡ None
no_ipv6 text never = none_whole (read_ipv6 text) (λ groups h. never groups (groups_read text groups h))

-- four decimals have a dot between them
pub dotted_has_dot : (text octets : List ℕ) → IsDotted text octets → has_dot text ≡ true
dotted_has_dot text octets h =
    let later = decimal h.b ++ 46 ∷ (decimal h.c ++ 46 ∷ (decimal h.d ++ [])) in
    let spelled : text ≡ decimal h.a ++ 46 ∷ later = h.spelled ∙ sym (append-nil _) ∙ dotted_before h.a h.b h.c h.d [] in
    ap has_dot spelled ∙ list_any-append (λ octet. octet == dot) (decimal h.a) (46 ∷ later) ∙ by (has_dot (decimal h.a))
  where
    by : (b : Bool) → (b || true) ≡ true
    by true = refl
    by false = refl

-- hexadecimal digits and colons are no dot
pub no_dot_in_hex : (text : List ℕ) → All IsHexOrColon text → has_dot text ≡ false
no_dot_in_hex text h =
    list_any_none (λ octet. octet == dot) text
    (All-weaker IsHexOrColon (λ octet. (octet == dot) ≡ false) (λ octet is. ne_eqb octet 46 (other octet is)) text h)
  where
    other : (octet : ℕ) → IsHexOrColon octet → octet ≢ 46
    other octet (inl low) same = omega arith
    other octet (inr high) same = omega arith
