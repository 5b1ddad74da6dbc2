-- Plain texts are written with commas between them.
use Rattle.std.proofs.Common.{◌≡◌, ◌==◌, ◌∙◌, ◌++◌, ◌+◌, ◌<◌, ◌≤◌, ◌∷◌, [], ℕ, List, Bool, ap, arith, codes, false, flat_map, get_or, length, map, refl, sym, take, true}
use Rattle.std.specs.Prelude.{◌&&◌, not}
use Rattle.std.proofs.lemmas.Bool.{ne_eqb}
use Rattle.std.proofs.lemmas.Bool.Decides.{nat_tests}
use Rattle.std.proofs.lemmas.List.{get_or-map, length-map, take-map}
use Rattle.std.specs.List.{list_all}
use Rattle.csv.specs.Writing.{default_writer, field_text, fields_text, needs_byte, needs_quotes, next_sep, row_body, tail_text, with_flexible}
use Rattle.csv.specs.declared.writer.WriterBuilder.{WriterBuilder}
use Rattle.csv.proofs.WriteFacts.{row-step}
use Rattle.acct_types.specs.Cells.{are_plain, is_plain}
use Rattle.out_text.specs.Lines.{cell_text, csv_line, joined}
use Rattle.out_text.specs.Plain.{are_plain_entries, is_plain_cell}
use Rattle.out_text.specs.Rows.{entries_of, shown_cell}
use Rattle.out_text.specs.declared.row.Entry.{Entry}
use Rattle.out_text.proofs.PlainLemmas.{both}

-- how the rows are written
abbrev pub row_setup : WriterBuilder
row_setup = with_flexible default_writer true

and_false : (b : Bool) → (b && false) ≡ false
and_false true = refl
and_false false = refl

plain_octet : (b : ℕ) → is_plain b ≡ true → needs_byte row_setup b ≡ false
plain_octet b h = grind (arith, nat_tests)

no_quotes : (text : List ℕ) → are_plain text ≡ true → needs_quotes row_setup text ≡ false
no_quotes [] h = refl
no_quotes (b ∷ text) h =
    let p = both (is_plain b) (are_plain text) h in
    rw (plain_octet b p.0) (no_quotes text p.1)

field_is : (text : List ℕ) → are_plain text ≡ true → field_text row_setup text ≡ text
field_is text h = rw (no_quotes text h) refl

later_fields : (texts : List (List ℕ)) → list_all are_plain texts ≡ true → fields_text row_setup texts ≡ flat_map (λ other. codes "," ++ other) texts
unfolding fields_text
later_fields [] h = refl
later_fields (text ∷ texts) h =
    let p = both (are_plain text) (list_all are_plain texts) h in
    rw (field_is text p.0, later_fields texts p.1) refl

body_is : (texts : List (List ℕ)) → list_all are_plain texts ≡ true → row_body row_setup texts ≡ joined (codes ",") texts
body_is [] h = refl
body_is (text ∷ texts) h =
    let p = both (are_plain text) (list_all are_plain texts) h in
    rw (field_is text p.0, later_fields texts p.1) refl

-- what ends a row of two fields or more
tail_is : (wrote : Bool) (n : ℕ) → 2 ≤ n → tail_text row_setup wrote n ≡ codes "\n"
tail_is wrote n h =
    let zero : (n == 0) ≡ false = ne_eqb n 0 (λ e. omega (arith, e)) in
    let one : (n == 1) ≡ false = ne_eqb n 1 (λ e. omega (arith, e)) in
    rw (zero, one, and_false (not wrote)) refl

-- the whole line
pub line_is : (wrote : Bool) (texts : List (List ℕ)) → list_all are_plain texts ≡ true → 2 ≤ length texts
    → row_body row_setup texts ++ tail_text row_setup wrote (length texts) ≡ joined (codes ",") texts ++ codes "\n"
line_is wrote texts h many = rw (body_is texts h, tail_is wrote (length texts) many) refl

-- the texts of entries
pub entry_texts : (entries : List Entry) → map (λ e. cell_text e.1) (entries_of entries) ≡ map (λ e. cell_text (shown_cell e.shown)) entries
entry_texts [] = refl
entry_texts (e ∷ es) = ap (λ (ts : List (List ℕ)). cell_text (shown_cell e.shown) ∷ ts) (entry_texts es)

pub plain_texts : (entries : List Entry) → are_plain_entries (entries_of entries) ≡ true → list_all are_plain (map (λ e. cell_text (shown_cell e.shown)) entries) ≡ true
plain_texts [] h = refl
plain_texts (e ∷ es) h =
    let p = both (is_plain_cell (shown_cell e.shown)) (are_plain_entries (entries_of es)) h in
    rw p.0 (plain_texts es p.1)

-- the text of an entry
abbrev pub entry_text : Entry → List ℕ
entry_text e = cell_text (shown_cell e.shown)

-- one more field
pub field_more : (entries : List Entry) (i : ℕ) (d : Entry) → i < length entries
    → row_body row_setup (map entry_text (take (i + 1) entries))
    ≡ row_body row_setup (map entry_text (take i entries)) ++ (next_sep row_setup i ++ field_text row_setup (entry_text (get_or entries i d)))
field_more entries i d lt =
    let size : i < length (map entry_text entries) = rw (length-map entries entry_text) lt in
    ap (row_body row_setup) (sym (take-map entry_text (i + 1) entries))
    ∙ row-step row_setup (map entry_text entries) i size
    ∙ ap (λ (ts : List (List ℕ)). row_body row_setup ts ++ (next_sep row_setup i ++ field_text row_setup (get_or (map entry_text entries) i []))) (take-map entry_text i entries)
    ∙ ap (λ (t : List ℕ). row_body row_setup (map entry_text (take i entries)) ++ (next_sep row_setup i ++ field_text row_setup t)) (get_or-map entry_text entries i d [] lt)

-- the whole line of entries
pub csv_line_is : (wrote : Bool) (entries : List Entry) → are_plain_entries (entries_of entries) ≡ true → 2 ≤ length entries
    → row_body row_setup (map entry_text entries) ++ tail_text row_setup wrote (length entries) ≡ csv_line (entries_of entries)
unfolding csv_line
csv_line_is wrote entries h many =
    let size = length-map entries entry_text in
    ap (λ (n : ℕ). row_body row_setup (map entry_text entries) ++ tail_text row_setup wrote n) (sym size)
    ∙ line_is wrote (map entry_text entries) (plain_texts entries h) (rw size many)
    ∙ ap (λ (ts : List (List ℕ)). joined (codes ",") ts ++ codes "\n") (sym (entry_texts entries))

-- what follows nothing
pub after_nothing : (whole start text : List ℕ) → whole ≡ start ++ text → start ≡ [] → whole ≡ text
after_nothing whole start text h none = h ∙ ap (λ (t : List ℕ). t ++ text) none
