-- The entries of a row and of the header are plain, and two or more.
use Rattle.std.proofs.Common.{◌≡◌, ◌≤◌, ◌∷◌, [], List, Bool, arith, drop, false, length, map, refl, true}
use Rattle.std.proofs.lemmas.List.{length-append, map-append}
use Rattle.std.proofs.lemmas.List.Folds.{list_all-append}
use Rattle.acct_types.specs.Cells.{are_plain, has_plain_words, have_plain_words}
use Rattle.acct_types.specs.Primitives.{columns_of}
use Rattle.acct_types.specs.declared.cell.Cell.{Cell}
use Rattle.acct_types.specs.declared.cell.Cell.TheVariants as cell
use Rattle.acct_types.specs.declared.flow.Counts.{Counts}
use Rattle.acct_types.specs.declared.primitives.Column.{Column}
use Rattle.acct_types.specs.declared.primitives.Column.TheVariants.{Tag, Tag2, Label, AcctWindow, SrcMac, DstMac, Vlan, SrcAs, DstAs, StdComm, AsPath, LocalPref, Med, PeerDstAs, PeerSrcIp, PeerDstIp, InIface, OutIface, SrcHost, DstHost, SrcNet, DstNet, SrcMask, DstMask, SrcPort, DstPort, Proto, Tos}
use Rattle.acct_types.specs.declared.primitives.Primitives.{Primitives}
use Rattle.out_text.specs.declared.field.Field.{Field}
use Rattle.out_text.specs.declared.field.Field.TheVariants as field
use Rattle.out_text.specs.Headings.{name_of, titles_of}
use Rattle.out_text.specs.Lines.{cell_text}
use Rattle.out_text.specs.Plain.{are_plain_entries, is_plain_cell}
use Rattle.out_text.specs.Rows.{count_entries, count_fields, fields_of, first_cell, header_entries, name_entry, row_entries, under_columns}
use Rattle.out_text.proofs.PlainLemmas.{both, kept_by_drop, plain_cell}

plain_name : (f : Field) → are_plain (name_of f) ≡ true
unfolding titles_of
plain_name (field.Column Tag) = refl
plain_name (field.Column Tag2) = refl
plain_name (field.Column Label) = refl
plain_name (field.Column AcctWindow) = refl
plain_name (field.Column SrcMac) = refl
plain_name (field.Column DstMac) = refl
plain_name (field.Column Vlan) = refl
plain_name (field.Column SrcAs) = refl
plain_name (field.Column DstAs) = refl
plain_name (field.Column StdComm) = refl
plain_name (field.Column AsPath) = refl
plain_name (field.Column LocalPref) = refl
plain_name (field.Column Med) = refl
plain_name (field.Column PeerDstAs) = refl
plain_name (field.Column PeerSrcIp) = refl
plain_name (field.Column PeerDstIp) = refl
plain_name (field.Column InIface) = refl
plain_name (field.Column OutIface) = refl
plain_name (field.Column SrcHost) = refl
plain_name (field.Column DstHost) = refl
plain_name (field.Column SrcNet) = refl
plain_name (field.Column DstNet) = refl
plain_name (field.Column SrcMask) = refl
plain_name (field.Column DstMask) = refl
plain_name (field.Column SrcPort) = refl
plain_name (field.Column DstPort) = refl
plain_name (field.Column Proto) = refl
plain_name (field.Column Tos) = refl
plain_name field.Packets = refl
plain_name field.Flows = refl
plain_name field.Bytes = refl

plain_names : (fs : List Field) → are_plain_entries (map name_entry fs) ≡ true
unfolding cell_text
plain_names [] = refl
plain_names (f ∷ fs) = rw (plain_name f) (plain_names fs)

pub plain_header : (p : Primitives) → are_plain_entries (header_entries p) ≡ true
unfolding header_entries
plain_header p = plain_names (fields_of p)

plain_first : (cells : List Cell) → have_plain_words cells ≡ true → is_plain_cell (first_cell cells) ≡ true
plain_first [] h = plain_cell (cell.Words []) refl
plain_first (c ∷ cells) h = plain_cell c (both (has_plain_words c) (have_plain_words cells) h).0

plain_under : (columns : List Column) (cells : List Cell) → have_plain_words cells ≡ true → are_plain_entries (under_columns columns cells) ≡ true
plain_under [] cells h = refl
plain_under (column ∷ columns) cells h = rw (plain_first cells h) (plain_under columns (drop 1 cells) (kept_by_drop has_plain_words 1 cells h))

plain_counts : (flows : Bool) (c : Counts) → are_plain_entries (count_entries flows c) ≡ true
plain_counts true c = rw (plain_cell (cell.Number c.packets) refl, plain_cell (cell.Number c.flows) refl, plain_cell (cell.Number c.bytes) refl) refl
plain_counts false c = rw (plain_cell (cell.Number c.packets) refl, plain_cell (cell.Number c.bytes) refl) refl

pub plain_row : (p : Primitives) (row : List Cell × Counts) → have_plain_words row.0 ≡ true → are_plain_entries (row_entries p row) ≡ true
unfolding row_entries
plain_row p row h =
    rw (list_all-append (λ e. is_plain_cell e.1) (under_columns (columns_of p) row.0) (count_entries p.flows row.1), plain_under (columns_of p) row.0 h, plain_counts p.flows row.1) refl

two_counts : (flows : Bool) (c : Counts) → 2 ≤ length (count_entries flows c)
two_counts true c = grind (arith)
two_counts false c = grind (arith)

two_names : (flows : Bool) → 2 ≤ length (map name_entry (count_fields flows))
two_names true = grind (arith)
two_names false = grind (arith)

pub long_row : (p : Primitives) (row : List Cell × Counts) → 2 ≤ length (row_entries p row)
unfolding row_entries
long_row p row =
    let counts = two_counts p.flows row.1 in
    rw (length-append (under_columns (columns_of p) row.0) (count_entries p.flows row.1)) (omega (arith, counts))

pub long_header : (p : Primitives) → 2 ≤ length (header_entries p)
unfolding header_entries
long_header p =
    let counts = two_names p.flows in
    let parts = map-append name_entry (map field.Column (columns_of p)) (count_fields p.flows) in
    rw (parts, length-append (map name_entry (map field.Column (columns_of p))) (map name_entry (count_fields p.flows))) (omega (arith, counts))
