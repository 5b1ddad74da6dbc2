-- What is written is read.
use Rattle.std.proofs.Common.{◌≡◌, ◌≤◌, ◌<◌, ◌+◌, ◌∙◌, ◌∷◌, ◌^◌, [], ℕ, false, true, List, length, inl, inr, refl, ap, arith}
use Rattle.std.proofs.lemmas.Bool.{le-ltb, ne_eqb}
use Rattle.std.proofs.lemmas.Bool.Decides.{nat_tests}
use Rattle.std.specs.Prelude.{Bool, ◌⊎◌, ◌==◌, ◌||◌, Some, None, Ok, if◌then◌else◌, nat_lt, slice_index}
use Rattle.byteorder.specs.Endian.{big_bytes}
use Rattle.byteorder.specs.Numbers.{big_number-reads_back}
use Rattle.acct_types.specs.Numbers.{number_at}
use Rattle.bgp_msg.specs.AddPaths.{add_path_in, said_of}
use Rattle.bgp_msg.specs.Frames.{framed, header_fault, length_of}
use Rattle.bgp_msg.specs.Laws.{FitsOpen, ReadsKeepalive, ReadsNotification, ReadsOpen}
use Rattle.bgp_msg.specs.Messages.{body_fault}
use Rattle.bgp_msg.specs.Items.{item_size, items}
use Rattle.bgp_msg.specs.Opens.{field_asn, hello_of, hold_of, id_of, is_capability, number_of, open_fault, parameter_fault, parameters_fault, parameters_of, tells_some, told, version_of}
use Rattle.bgp_msg.specs.Pieces.{pieces}
use Rattle.bgp_msg.specs.declared.families.Family.{Family}
use Rattle.bgp_msg.specs.declared.families.Family.TheVariants.{V4, V6}
use Rattle.bgp_msg.specs.Written.{capabilities, keepalive_spelling, notification_spelling, open_spelling, short_asn}

-- a good header that tells the length that is there
whole_message : (octets : List ℕ) → 19 ≤ length octets → header_fault octets ≡ None → length_of octets ≡ length octets → framed octets ≡ Ok (Some (length octets))
unfolding framed
whole_message octets long good is = rw (le-ltb (length octets) 19 long, good, is, le-ltb (length octets) (length octets) (omega arith)) refl

-- ---- the fields of an OPEN

short_fits : (asn : ℕ) → short_asn asn < 256 ^ 2
short_fits asn = by (nat_lt asn (2 ^ 16)) refl
  where
    by : (short : Bool) → nat_lt asn (2 ^ 16) ≡ short → (if short then asn else 23456) < 256 ^ 2
    by true h = grind (arith, nat_tests, h)
    by false h = omega arith

short_some : (asn : ℕ) → 1 ≤ asn → 1 ≤ short_asn asn
short_some asn some = by (nat_lt asn (2 ^ 16))
  where
    by : (short : Bool) → 1 ≤ (if short then asn else 23456)
    by true = some
    by false = omega arith

field_is : (asn hold id : ℕ) → field_asn (open_spelling asn hold id) ≡ short_asn asn
unfolding open_spelling number_at
field_is asn hold id = big_number-reads_back 2 (short_asn asn) [] (short_fits asn)

hold_is : (asn hold id : ℕ) → hold < 2 ^ 16 → hold_of (open_spelling asn hold id) ≡ hold
unfolding open_spelling number_at
hold_is asn hold id fits = big_number-reads_back 2 hold [] fits

id_is : (asn hold id : ℕ) → id < 2 ^ 32 → id_of (open_spelling asn hold id) ≡ id
unfolding open_spelling number_at
id_is asn hold id fits = big_number-reads_back 4 id [] fits

-- ---- its parameter, and the capabilities in it

abbrev parameter : ℕ → List ℕ
parameter asn = 2 ∷ 18 ∷ capabilities asn

abbrev wide : ℕ → List ℕ
wide asn = 65 ∷ 4 ∷ big_bytes 4 asn

parameter_is : (asn hold id : ℕ) → items (parameters_of (open_spelling asn hold id)) ≡ parameter asn ∷ []
unfolding open_spelling pieces item_size
parameter_is asn hold id = refl

capabilities_are : (asn : ℕ) → items (capabilities asn) ≡ (1 ∷ 4 ∷ 0 ∷ 1 ∷ 0 ∷ 1 ∷ []) ∷ (1 ∷ 4 ∷ 0 ∷ 2 ∷ 0 ∷ 1 ∷ []) ∷ wide asn ∷ []
unfolding pieces item_size
capabilities_are asn = refl

number_is : (asn : ℕ) → asn < 2 ^ 32 → number_of (wide asn) ≡ asn
unfolding number_at
number_is asn fits = big_number-reads_back 4 asn [] fits

tells_wide : (asn : ℕ) → asn < 2 ^ 32 → 1 ≤ asn → tells_some (wide asn) ≡ true
unfolding tells_some
tells_wide asn fits some = rw (number_is asn fits, ne_eqb asn 0 (λ e. omega (arith, e, some))) refl

good_parameter : (asn : ℕ) → asn < 2 ^ 32 → 1 ≤ asn → parameter_fault 29 (parameter asn) ≡ None
unfolding parameter_fault is_capability item_size tells_some
good_parameter asn fits some = rw (capabilities_are asn, tells_wide asn fits some) refl

told_is : (asn hold id : ℕ) → asn < 2 ^ 32 → told (open_spelling asn hold id) ≡ Some asn
told_is asn hold id fits = rw (parameter_is asn hold id, capabilities_are asn) (ap Some (number_is asn fits))

-- ---- an OPEN

good_open : (octets : List ℕ) → version_of octets ≡ 4 → (field_asn octets == 0) ≡ false → (hold_of octets == 1 || hold_of octets == 2) ≡ false → (id_of octets == 0) ≡ false
    → (length octets == 29 + slice_index octets 28) ≡ true → parameters_fault 29 (items (parameters_of octets)) ≡ None → open_fault octets ≡ None
unfolding open_fault
good_open octets version asn hold id fills good = rw (version, asn, hold, id, fills, good) refl

not_short : (hold : ℕ) → (hold ≡ 0) ⊎ (3 ≤ hold) → (hold == 1 || hold == 2) ≡ false
not_short hold some =
    let other : (n : ℕ) → 1 ≤ n → n ≤ 2 → (hold == n) ≡ false = λ n least most. ne_eqb hold n (λ e. clash n least most e some) in
    rw (other 1 (omega arith) (omega arith), other 2 (omega arith) (omega arith)) refl
  where
    clash : (n : ℕ) → 1 ≤ n → n ≤ 2 → hold ≡ n → (hold ≡ 0) ⊎ (3 ≤ hold) → ⊥
    clash n least most e (inl none) = omega (arith, least, e, none)
    clash n least most e (inr long) = omega (arith, most, e, long)

hello_is : (octets : List ℕ) (asn hold id : ℕ) → told octets ≡ Some asn → hold_of octets ≡ hold → id_of octets ≡ id
    → ((family : Family) → add_path_in family (items (parameters_of octets)) ≡ None)
    → record { asn = asn; hold = hold; id = id; four_octets = true; path_ids_v4 = false; path_ids_v6 = false; add_path_v4 = None; add_path_v6 = None } ≡ hello_of octets
unfolding hello_of
hello_is octets asn hold id number time name paths = rw (number, time, name, paths V4, paths V6) refl

no_paths : (asn hold id : ℕ) (family : Family) → add_path_in family (items (parameters_of (open_spelling asn hold id))) ≡ None
unfolding said_of
no_paths asn hold id family = rw (parameter_is asn hold id, capabilities_are asn) refl

version_is : (asn hold id : ℕ) → version_of (open_spelling asn hold id) ≡ 4
unfolding open_spelling
version_is asn hold id = refl

fills : (asn hold id : ℕ) → (length (open_spelling asn hold id) == 29 + slice_index (open_spelling asn hold id) 28) ≡ true
unfolding open_spelling
fills asn hold id = refl

good_parameters : (asn hold id : ℕ) → FitsOpen asn hold id → parameters_fault 29 (items (parameters_of (open_spelling asn hold id))) ≡ None
good_parameters asn hold id fits = rw (parameter_is asn hold id, good_parameter asn fits.short_asn fits.some_asn) refl

spelled_good : (asn hold id : ℕ) → FitsOpen asn hold id → open_fault (open_spelling asn hold id) ≡ None
spelled_good asn hold id fits =
    let some = short_some asn fits.some_asn in
    let some_id = fits.some_id in
    good_open (open_spelling asn hold id) (version_is asn hold id)
    (ap (λ (n : ℕ). n == 0) (field_is asn hold id) ∙ ne_eqb (short_asn asn) 0 (λ e. omega (arith, e, some)))
    (ap (λ (n : ℕ). n == 1 || n == 2) (hold_is asn hold id fits.short_hold) ∙ not_short hold fits.some_hold)
    (ap (λ (n : ℕ). n == 0) (id_is asn hold id fits.short_id) ∙ ne_eqb id 0 (λ e. omega (arith, e, some_id)))
    (fills asn hold id) (good_parameters asn hold id fits)

pub reads_open : ReadsOpen
unfolding header_fault number_at open_spelling body_fault
reads_open asn hold id fits = (
  whole_message (open_spelling asn hold id) (omega arith) refl refl,
  λ agreed. (
    spelled_good asn hold id fits,
    (refl, hello_is (open_spelling asn hold id) asn hold id (told_is asn hold id fits.short_asn) (hold_is asn hold id fits.short_hold) (id_is asn hold id fits.short_id) (no_paths asn hold id)),
  ),
)

-- ---- the others

pub reads_keepalive : ReadsKeepalive
unfolding header_fault number_at keepalive_spelling body_fault
reads_keepalive = (whole_message keepalive_spelling (omega arith) refl refl, λ agreed. (refl, refl))

pub reads_notification : ReadsNotification
unfolding header_fault number_at notification_spelling body_fault
reads_notification code subcode = (whole_message (notification_spelling code subcode) (omega arith) refl refl, λ agreed. (refl, (refl, refl, refl)))
