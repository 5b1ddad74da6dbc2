-- Entries are put in their places among members, and the object's text is their line.
use Rattle.std.proofs.Common.{◌≡◌, ◌∙◌, ◌++◌, ◌+◌, ◌-◌, ◌<◌, ◌≤◌, ◌∷◌, [], ℕ, List, Bool, Less, Equal, Greater, Ordering, add-one, ap, ap₂, append_assoc, arith, codes, decimal, drop, drop-cons, false, flat_map, get_or, length, map, nat_cmp, refl, suc, sym, true, zero}
use Rattle.std.specs.Prelude.{◌^◌, ◌==◌, if◌then◌else◌, nat_lt, Option, Some, None}
use Rattle.std.specs.Cmp.Lexicographic.{slice_cmp}
use Rattle.std.specs.Ordering.{is_eq, match_ordering}
use Rattle.std.specs.Str.{bytes_eq}
use Rattle.std.proofs.lemmas.Bool.{ne_eqb}
use Rattle.std.proofs.lemmas.Bool.Decides.{nat_tests}
use Rattle.std.proofs.lemmas.Map.Text.{is_eq-slice_cmp}
use Rattle.json.specs.Print.{escape, escape_byte, quoted}
use Rattle.serde_json.specs.Data.{member, object, put}
use Rattle.serde_json.specs.Written.{compact_text, has_float, members_have_float, members_text}
use Rattle.acct_types.specs.Cells.{are_plain, is_plain}
use Rattle.acct_types.specs.declared.cell.Cell.{Cell}
use Rattle.acct_types.specs.declared.cell.Cell.TheVariants as cell
use Rattle.acct_types.specs.declared.primitives.Column.TheVariants.{Tag, Tag2, Label, AcctWindow, SrcMac, DstMac, Vlan, SrcAs, DstAs, StdComm, AsPath, LocalPref, Med, PeerDstAs, PeerSrcIp, PeerDstIp, InIface, OutIface, SrcHost, DstHost, SrcNet, DstNet, SrcMask, DstMask, SrcPort, DstPort, Proto, Tos}
use Rattle.out_text.specs.declared.field.Field.{Field}
use Rattle.out_text.specs.declared.field.Field.TheVariants as field
use Rattle.out_text.specs.declared.row.Entry.{Entry}
use Rattle.out_text.specs.Headings.{json_name_of, titles_of}
use Rattle.out_text.specs.Lines.{cell_text, joined}
use Rattle.out_text.specs.Members.{data_of, members_in, number_in, number_or_string}
use Rattle.out_text.specs.Objects.{by_name, in_quotes, json_line, json_text, member_text, put_by_name}
use Rattle.out_text.specs.Plain.{are_plain_entries, is_plain_cell}
use Rattle.out_text.specs.Rows.{entries_of, entry_of, shown_cell}
use Rattle.out_text.proofs.PlainLemmas.{both}

same_texts : (xs ys : List ℕ) → bytes_eq xs ys ≡ true → xs ≡ ys
same_texts [] [] h = refl
same_texts [] (y ∷ ys) h = cc h
same_texts (x ∷ xs) [] h = cc h
same_texts (x ∷ xs) (y ∷ ys) h =
    let p = both (x == y) (bytes_eq xs ys) h in
    ap₂ (λ (a : ℕ) (more : List ℕ). a ∷ more) (grind (arith, p.0)) (same_texts xs ys p.1)

pub same_names : (xs ys : List ℕ) → slice_cmp nat_cmp xs ys ≡ Equal → xs ≡ ys
same_names xs ys h = same_texts xs ys (sym (is_eq-slice_cmp xs ys) ∙ ap is_eq h)

-- an entry goes where the map puts it
put_is : (e : Field × Cell) (es : List (Field × Cell)) → put (json_name_of e.0) (data_of e.1) (members_in es) ≡ members_in (put_by_name e es)
put_is e [] = refl
put_is e (o ∷ os) = put_before (slice_cmp nat_cmp (json_name_of e.0) (json_name_of o.0)) refl (put_is e os)
  where
    put_before : (r : Ordering) → slice_cmp nat_cmp (json_name_of e.0) (json_name_of o.0) ≡ r
        → put (json_name_of e.0) (data_of e.1) (members_in os) ≡ members_in (put_by_name e os)
        → match_ordering r
        (member (json_name_of e.0) (data_of e.1) (member (json_name_of o.0) (data_of o.1) (members_in os)))
        (member (json_name_of o.0) (data_of e.1) (members_in os))
        (member (json_name_of o.0) (data_of o.1) (put (json_name_of e.0) (data_of e.1) (members_in os)))
        ≡ members_in (match_ordering r (e ∷ o ∷ os) (e ∷ os) (o ∷ put_by_name e os))
    put_before Less is later = refl
    put_before Equal is later = ap (λ (name : List ℕ). member name (data_of e.1) (members_in os)) (sym (same_names (json_name_of e.0) (json_name_of o.0) is))
    put_before Greater is later = ap (member (json_name_of o.0) (data_of o.1)) later

-- the members from one entry more on
members_more : (entries : List Entry) (i : ℕ) (d : Entry) → i < length entries
    → put (json_name_of (get_or entries i d).field) (data_of (shown_cell (get_or entries i d).shown)) (members_in (by_name (entries_of (drop (i + 1) entries))))
    ≡ members_in (by_name (entries_of (drop i entries)))
members_more entries i d lt =
    let whole : get_or entries i d ∷ drop (i + 1) entries ≡ drop i entries = rw (add-one i) (sym (drop-cons entries i d lt)) in
    put_is (entry_of (get_or entries i d)) (by_name (entries_of (drop (i + 1) entries)))
    ∙ ap (λ (es : List Entry). members_in (by_name (entries_of es))) whole

-- the same, said from the place after the entry
pub members_before : (entries : List Entry) (place : ℕ) (d : Entry) → 0 < place → place ≤ length entries
    → put (json_name_of (get_or entries (place - 1) d).field) (data_of (shown_cell (get_or entries (place - 1) d).shown)) (members_in (by_name (entries_of (drop place entries))))
    ≡ members_in (by_name (entries_of (drop (place - 1) entries)))
members_before entries place d some within =
    let before : place ≡ place - 1 + 1 = omega (arith, some) in
    let here : Entry = get_or entries (place - 1) d in
    ap (λ (n : ℕ). put (json_name_of here.field) (data_of (shown_cell here.shown)) (members_in (by_name (entries_of (drop n entries))))) before
    ∙ members_more entries (place - 1) d (omega (arith, some, within))

pub plain_at : (entries : List Entry) (i : ℕ) (d : Entry) → i < length entries → are_plain_entries (entries_of entries) ≡ true
    → is_plain_cell (shown_cell (get_or entries i d).shown) ≡ true
plain_at [] i d lt h = absurd (omega (arith, lt))
plain_at (e ∷ es) zero d lt h = (both (is_plain_cell (shown_cell e.shown)) (are_plain_entries (entries_of es)) h).0
plain_at (e ∷ es) (suc i) d lt h = plain_at es i d (omega (arith, lt)) (both (is_plain_cell (shown_cell e.shown)) (are_plain_entries (entries_of es)) h).1

-- a plain text stands in quotes as it is
plain_octet : (b : ℕ) → is_plain b ≡ true → escape_byte b ≡ b ∷ []
unfolding escape_byte
plain_octet b h =
    let low : 32 < b = grind (arith, h, nat_tests) in
    let quote : (b == 34) ≡ false = grind (arith, h, nat_tests) in
    let slash : (b == 92) ≡ false = grind (arith, h, nat_tests) in
    let e8 : (b == 8) ≡ false = ne_eqb b 8 (λ e. omega (arith, e)) in
    let e12 : (b == 12) ≡ false = ne_eqb b 12 (λ e. omega (arith, e)) in
    let e10 : (b == 10) ≡ false = ne_eqb b 10 (λ e. omega (arith, e)) in
    let e13 : (b == 13) ≡ false = ne_eqb b 13 (λ e. omega (arith, e)) in
    let e9 : (b == 9) ≡ false = ne_eqb b 9 (λ e. omega (arith, e)) in
    let control : nat_lt b 32 ≡ false = grind (arith, low) in
    rw (quote, slash, e8, e12, e10, e13, e9, control) refl

plain_text : (text : List ℕ) → are_plain text ≡ true → escape text ≡ text
plain_text [] h = refl
plain_text (b ∷ text) h =
    let p = both (is_plain b) (are_plain text) h in
    rw (plain_octet b p.0, plain_text text p.1) refl

quoted_is : (text : List ℕ) → are_plain text ≡ true → quoted text ≡ in_quotes text
quoted_is text h = rw (plain_text text h) refl

number_text_is : (n : ℕ) (b : Bool) → are_plain (decimal n) ≡ true
    → compact_text (number_or_string (if b then Some n else None) (decimal n)) ≡ (if b then decimal n else in_quotes (decimal n))
number_text_is n true h = refl
number_text_is n false h = quoted_is (decimal n) h

value_is : (c : Cell) → is_plain_cell c ≡ true → compact_text (data_of c) ≡ json_text c
unfolding cell_text json_text
value_is (cell.Number n) h = number_text_is n (nat_lt n (2 ^ 64)) h
value_is (cell.Address a) h = quoted_is (cell_text (cell.Address a)) h
value_is (cell.Mac m) h = quoted_is (cell_text (cell.Mac m)) h
value_is (cell.Words words) h = quoted_is words h

plain_name : (f : Field) → are_plain (json_name_of f) ≡ true
unfolding titles_of
plain_name (field.Column Tag) = refl
plain_name (field.Column Tag2) = refl
plain_name (field.Column Label) = refl
plain_name (field.Column AcctWindow) = refl
plain_name (field.Column SrcMac) = refl
plain_name (field.Column DstMac) = refl
plain_name (field.Column Vlan) = refl
plain_name (field.Column SrcAs) = refl
plain_name (field.Column DstAs) = refl
plain_name (field.Column StdComm) = refl
plain_name (field.Column AsPath) = refl
plain_name (field.Column LocalPref) = refl
plain_name (field.Column Med) = refl
plain_name (field.Column PeerDstAs) = refl
plain_name (field.Column PeerSrcIp) = refl
plain_name (field.Column PeerDstIp) = refl
plain_name (field.Column InIface) = refl
plain_name (field.Column OutIface) = refl
plain_name (field.Column SrcHost) = refl
plain_name (field.Column DstHost) = refl
plain_name (field.Column SrcNet) = refl
plain_name (field.Column DstNet) = refl
plain_name (field.Column SrcMask) = refl
plain_name (field.Column DstMask) = refl
plain_name (field.Column SrcPort) = refl
plain_name (field.Column DstPort) = refl
plain_name (field.Column Proto) = refl
plain_name (field.Column Tos) = refl
plain_name field.Packets = refl
plain_name field.Flows = refl
plain_name field.Bytes = refl

-- one member's text
member_is : (e : Field × Cell) (rest : List ℕ) → is_plain_cell e.1 ≡ true
    → quoted (json_name_of e.0) ++ 58 ∷ (compact_text (data_of e.1) ++ rest) ≡ member_text e ++ rest
member_is e rest h =
    ap₂ (λ (n v : List ℕ). n ++ 58 ∷ (v ++ rest)) (quoted_is (json_name_of e.0) (plain_name e.0)) (value_is e.1 h)
    ∙ sym (append_assoc (in_quotes (json_name_of e.0)) (58 ∷ json_text e.1) rest)
    ∙ ap (λ (t : List ℕ). t ++ rest) (sym (append_assoc (in_quotes (json_name_of e.0)) (codes ":") (json_text e.1)))

later_members : (es : List (Field × Cell)) → are_plain_entries es ≡ true
    → members_text true (members_in es) ≡ flat_map (λ other. codes "," ++ other) (map member_text es) ++ 125 ∷ []
later_members [] h = refl
later_members (e ∷ es) h =
    let p = both (is_plain_cell e.1) (are_plain_entries es) h in
    ap (λ (t : List ℕ). 44 ∷ t) (member_is e (members_text true (members_in es)) p.0 ∙ ap (λ (t : List ℕ). member_text e ++ t) (later_members es p.1))
    ∙ sym (append_assoc (44 ∷ member_text e) (flat_map (λ other. codes "," ++ other) (map member_text es)) (125 ∷ []))

-- the text of the object
object_is : (es : List (Field × Cell)) → are_plain_entries es ≡ true → compact_text (object (members_in es)) ≡ 123 ∷ (joined (codes ",") (map member_text es) ++ 125 ∷ [])
object_is [] h = refl
object_is (e ∷ es) h =
    let p = both (is_plain_cell e.1) (are_plain_entries es) h in
    ap (λ (t : List ℕ). 123 ∷ t)
    (member_is e (members_text true (members_in es)) p.0
    ∙ ap (λ (t : List ℕ). member_text e ++ t) (later_members es p.1)
    ∙ sym (append_assoc (member_text e) (flat_map (λ other. codes "," ++ other) (map member_text es)) (125 ∷ [])))

put_plain : (e : Field × Cell) (es : List (Field × Cell)) → is_plain_cell e.1 ≡ true → are_plain_entries es ≡ true → are_plain_entries (put_by_name e es) ≡ true
put_plain e [] h hs = rw h refl
put_plain e (o ∷ os) h hs =
    let p = both (is_plain_cell o.1) (are_plain_entries os) hs in
    put_before (slice_cmp nat_cmp (json_name_of e.0) (json_name_of o.0)) p.0 p.1 (put_plain e os h p.1)
  where
    put_before : (r : Ordering) → is_plain_cell o.1 ≡ true → are_plain_entries os ≡ true → are_plain_entries (put_by_name e os) ≡ true
        → are_plain_entries (match_ordering r (e ∷ o ∷ os) (e ∷ os) (o ∷ put_by_name e os)) ≡ true
    put_before Less one others later = rw (h, one) others
    put_before Equal one others later = rw h others
    put_before Greater one others later = rw one later

plain_by_name : (es : List (Field × Cell)) → are_plain_entries es ≡ true → are_plain_entries (by_name es) ≡ true
plain_by_name [] h = refl
plain_by_name (e ∷ es) h =
    let p = both (is_plain_cell e.1) (are_plain_entries es) h in
    put_plain e (by_name es) p.0 (plain_by_name es p.1)

-- the whole line
pub json_line_is : (es : List (Field × Cell)) → are_plain_entries es ≡ true → compact_text (object (members_in (by_name es))) ++ 10 ∷ [] ≡ json_line es
unfolding json_line
json_line_is es h =
    let inner : List ℕ = joined (codes ",") (map member_text (by_name es)) in
    ap (λ (t : List ℕ). t ++ 10 ∷ []) (object_is (by_name es) (plain_by_name es h))
    ∙ ap (λ (t : List ℕ). 123 ∷ t) (append_assoc inner (125 ∷ []) (10 ∷ []))

no_float_value : (o : Option ℕ) (text : List ℕ) → has_float (number_or_string o text) ≡ false
no_float_value (Some n) text = refl
no_float_value None text = refl

pub no_float : (es : List (Field × Cell)) → members_have_float (members_in es) ≡ false
no_float [] = refl
no_float (e ∷ es) = rw (no_float_value (number_in e.1) (cell_text e.1)) (no_float es)
