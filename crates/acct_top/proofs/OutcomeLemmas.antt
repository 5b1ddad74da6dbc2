-- Two runs that are done leave the same.
use Rattle.std.proofs.Common.{◌≡◌, ◌∙◌, ◌++◌, ◌≢◌, ◌⊎◌, ◌+◌, ◌-◌, [], ◌∷◌, ℕ, List, Bool, true, false, Some, refl, sym, ap, subst, length, inl, inr}
use Rattle.std.specs.Prelude.{All, None, filter, flat_map, map, min, option_and_then, reverse, take}
use Rattle.std.specs.Str.{bytes_eq}
use Rattle.std.proofs.lemmas.List.{append-nil}
use Rattle.std.proofs.lemmas.List.Elements.{All-cons, All-head, All-nil, All-tail}
use Rattle.std.proofs.lemmas.Slice.Eq.{bytes_eq-Decides}
use Rattle.acct_types.specs.declared.cell.Cell.{Cell}
use Rattle.acct_types.specs.declared.choice.Layout.{Layout}
use Rattle.acct_types.specs.declared.choice.Layout.TheVariants.{Formatted, Csv, Json}
use Rattle.acct_types.specs.declared.datagram.Datagram.{Datagram}
use Rattle.acct_types.specs.declared.flow.Counts.{Counts}
use Rattle.acct_types.specs.declared.flow.FlowRecord.{FlowRecord}
use Rattle.acct_types.specs.declared.item.Purge.{Purge}
use Rattle.acct_types.specs.declared.primitives.Primitives.{Primitives}
use Rattle.collect_core.specs.declared.job.Job.{Job}
use Rattle.collect_core.specs.Audit.{audit_text, causes_in, cuts_at, drops_at, drops_from, drops_in, events_in, told, totals_of}
use Rattle.collect_core.specs.Course.{Course, unrouted}
use Rattle.collect_core.specs.Due.{due, entries_from, entries_in, key_in, over_all, records_in, taken, tags_in, window_start}
use Rattle.collect_core.specs.Ends.{slices_in, timed}
use Rattle.collect_core.specs.Job.{as_of}
use Rattle.collect_core.specs.Most.{FULL}
use Rattle.config_keys.specs.ConfigViews.{plugin_says}
use Rattle.config_keys.specs.Reading.{ConfigSays, PluginSays}
use Rattle.config_keys.specs.ValueViews.{asked_view}
use Rattle.config_keys.specs.Values.{Asked}
use Rattle.config_keys.specs.declared.plugin.PluginConfig.{PluginConfig}
use Rattle.out_text.specs.declared.event.Event.TheVariants.{Drop, End}
use Rattle.out_text.specs.Events.{events_text}
use Rattle.out_text.specs.declared.field.Field.{Field}
use Rattle.out_text.specs.declared.field.Field.TheVariants as field
use Rattle.out_text.specs.Lines.{csv_line, formatted_line}
use Rattle.out_text.specs.Objects.{json_line}
use Rattle.out_text.specs.Purges.{purge_text, row_lines, table_text}
use Rattle.out_text.specs.Rows.{count_entries, count_fields, header_entries, name_entry, row_entries, under_columns}
use Rattle.outside_io.specs.Names.{Names, begun}
use Rattle.plugin_cache.specs.Slices.{IsPurgeOf, OneForEach, Slice, slices_of}
use Rattle.plugin_work.specs.Output.{HaveOneOutput, of_print, texts_of}
use Rattle.pretag_map.specs.TagRules.{label_at, tags_of}
use Rattle.primitive_keys.specs.Facts.{facts_of}
use Rattle.primitive_keys.specs.Keys.{cell_in, key_cells_of}
use Rattle.acct_top.specs.Answers.{Accepts, HaveOneOutcome, IsDone, IsSameJob}
use Rattle.acct_top.specs.Conservation.{HoldsOutput, IsAccounted, begin_of, flows_of, start_of}
use Rattle.acct_top.specs.Job.{capture_of}
use Rattle.acct_top.proofs.ReadingLemmas.{same_octets}
use Rattle.acct_top.proofs.TopLemmas.{capture_was, one_job, same_capture, same_decoded, same_flows, same_records_in, same_records_of}

true_is_not_false : true ≡ false → ⊥
true_is_not_false e = cc

-- ---- what primitives ask for is all that a text and a key take of them

module _ (p q : Primitives) (same : asked_view p ≡ asked_view q) where
  same_row : (row : List Cell × Counts) → row_entries p row ≡ row_entries q row
  unfolding row_entries
  same_row row = ap (λ (a : Asked). under_columns a.columns row.0 ++ count_entries a.flows row.1) same

  same_header : header_entries p ≡ header_entries q
  unfolding header_entries
  same_header = ap (λ (a : Asked). map name_entry (map field.Column a.columns ++ count_fields a.flows)) same

  same_rows : (line : List (Field × Cell) → List ℕ) (rows : List (List Cell × Counts)) → row_lines line p rows ≡ row_lines line q rows
  same_rows line rows = λ i. flat_map (λ row. line (same_row row i)) rows

  same_table : (line : List (Field × Cell) → List ℕ) (rows : List (List Cell × Counts)) → table_text line p rows ≡ table_text line q rows
  same_table line [] = refl
  same_table line (row ∷ rows) = λ i. line (same_header i) ++ same_rows line (row ∷ rows) i

  same_purge_text : (layout : Layout) (purge : Purge) → purge_text p layout purge ≡ purge_text q layout purge
  unfolding purge_text
  same_purge_text Formatted purge = same_table formatted_line purge.rows
  same_purge_text Csv purge = same_table csv_line purge.rows
  same_purge_text Json purge = same_rows json_line purge.rows

-- ---- what jobs that ask for the same have written of datagrams

-- nothing is dropped
no_plugin : (plugins : List PluginConfig) → filter (λ _. false) plugins ≡ []
no_plugin [] = refl
no_plugin (plugin ∷ plugins) = no_plugin plugins

module _ (some other : Job) (same : IsSameJob some other) where
  same_tags : (datagram : ℕ) (flow : FlowRecord) → tags_in some unrouted datagram flow ≡ tags_in other unrouted datagram flow
  same_tags datagram flow = λ i. tags_of (same.tags i) (facts_of flow (as_of (same.config i)) None None)

  same_key : (p q : PluginConfig) → plugin_says p ≡ plugin_says q → (datagram moment : ℕ) (flow : FlowRecord)
      → key_in some unrouted p datagram (window_start p.refresh moment) flow ≡ key_in other unrouted q datagram (window_start q.refresh moment) flow
  unfolding key_cells_of
  same_key p q one datagram moment flow = λ i.
      map (cell_in flow (as_of (same.config i)) None None (same_tags datagram flow i) (option_and_then (label_at (same.tags i)) (same_tags datagram flow i).label) (window_start (one i).refresh moment))
      (one i).asked.columns

  same_entries_from : (p q : PluginConfig) → plugin_says p ≡ plugin_says q → (datagram moment row : ℕ) (flows : List FlowRecord)
      → entries_from some unrouted p datagram moment row flows ≡ entries_from other unrouted q datagram moment row flows
  same_entries_from p q one datagram moment row [] = refl
  same_entries_from p q one datagram moment row (flow ∷ flows) = λ i.
      record { datagram = datagram; row = row; moment = moment; key = same_key p q one datagram moment flow i; counts = flow.counts }
      ∷ same_entries_from p q one datagram moment (row + 1) flows i

  same_entries_in : (p q : PluginConfig) → plugin_says p ≡ plugin_says q → (earlier : List Datagram) (d : Datagram) → entries_in some unrouted p earlier d ≡ entries_in other unrouted q earlier d
  same_entries_in p q one earlier d =
      same_entries_from p q one (length earlier + 1) d.moment 1 (records_in some earlier d)
      ∙ ap (entries_from other unrouted q (length earlier + 1) d.moment 1) (same_records_in some other same earlier d)

  same_due : (p q : PluginConfig) → plugin_says p ≡ plugin_says q → (flows : List Datagram) → due some FULL unrouted p flows ≡ due other FULL unrouted q flows
  same_due p q one flows = λ i. take FULL.records (over_all (λ earlier d. same_entries_in p q one earlier d i) flows)

  -- ---- the audit

  same_drops_at : (datagram row : ℕ) → drops_at some unrouted datagram row ≡ drops_at other unrouted datagram row
  same_drops_at datagram row =
      let drop = λ (plugin : PluginConfig). Drop plugin.name datagram row in
      ap (map drop) (no_plugin some.config.plugins) ∙ sym (ap (map drop) (no_plugin other.config.plugins))

  same_drops_from : (datagram row : ℕ) (flows : List FlowRecord) → drops_from some unrouted datagram row flows ≡ drops_from other unrouted datagram row flows
  same_drops_from datagram row [] = refl
  same_drops_from datagram row (flow ∷ flows) = λ i. same_drops_at datagram row i ++ same_drops_from datagram (row + 1) flows i

  same_drops_in : (earlier : List Datagram) (d : Datagram) → drops_in some FULL unrouted earlier d ≡ drops_in other FULL unrouted earlier d
  same_drops_in earlier d = λ i.
      same_drops_from (length earlier + 1) 1 (take (FULL.records - length (same_records_of some other same (reverse earlier) i)) (same_records_in some other same earlier d i)) i

  same_events_in : (earlier : List Datagram) (d : Datagram) → events_in some FULL unrouted earlier d ≡ events_in other FULL unrouted earlier d
  same_events_in earlier d = λ i.
      told (length earlier + 1) (same_decoded some other same earlier d i) ++ (cuts_at unrouted (length earlier + 1) ++ same_drops_in earlier d i)

  same_totals : (flows : List Datagram) → totals_of some FULL unrouted flows ≡ totals_of other FULL unrouted flows
  same_totals flows = λ i. record {
    datagrams = length flows;
    refused = length (over_all (λ earlier d. causes_in (same_decoded some other same earlier d i)) flows);
    records = min FULL.records (length (same_records_of some other same flows i));
    dropped = length (over_all (λ earlier d. same_drops_in earlier d i) flows);
    messages = 0;
    closed = 0;
  }

  same_audit : (flows : List Datagram) → audit_text some FULL unrouted flows ≡ audit_text other FULL unrouted flows
  same_audit flows = λ i. events_text (over_all (λ earlier d. same_events_in earlier d i) flows ++ End (same_totals flows i) ∷ [])

  -- ---- the outputs

  module _ (one : HaveOneOutput) (flows : List Datagram) (before after other_after : Names) where
    same_output : (p q : PluginConfig) → plugin_says p ≡ plugin_says q → HoldsOutput some unrouted flows before after p → HoldsOutput other unrouted flows before other_after q
        → after p.file ≡ other_after p.file
    same_output p q is h k =
        let slices : slices_in p (taken unrouted p (due some FULL unrouted p flows)) ≡ slices_in q (taken unrouted q (due other FULL unrouted q flows)) = λ i.
        slices_of (of_print (is i).kind (is i).cache) (map (timed (of_print (is i).kind (is i).refresh)) (taken unrouted p (same_due p q is flows i))) in
        let purges : h.purges ≡ k.purges = one.purges (slices_in q (taken unrouted q (due other FULL unrouted q flows))) h.purges k.purges
        (subst (λ (s : List Slice). OneForEach IsPurgeOf s h.purges) slices h.conserves.are) k.conserves.are in
        let text : (purge : Purge) → purge_text p.primitives p.layout purge ≡ purge_text q.primitives q.layout purge = λ purge.
        same_purge_text p.primitives q.primitives (ap (λ (s : PluginSays). s.asked) is) p.layout purge ∙ ap (λ (s : PluginSays). purge_text q.primitives s.layout purge) is in
        let octets : start_of before p ++ texts_of p h.purges ≡ start_of before q ++ texts_of q k.purges = λ i.
        begun (begin_of (is i).kind) before (is i).file ++ flat_map (λ purge. text purge i) (purges i) in
        h.output ∙ ap Some octets ∙ sym k.output ∙ ap (λ (s : PluginSays). other_after s.file) (sym is)

    -- a name is that of an output, of which both have written the same, or of none
    same_or_none : (ps qs : List PluginConfig) → map plugin_says ps ≡ map plugin_says qs → All (HoldsOutput some unrouted flows before after) ps → All (HoldsOutput other unrouted flows before other_after) qs
        → (name : List ℕ) → (after name ≡ other_after name) ⊎ (All (λ p. name ≢ p.file) ps × All (λ q. name ≢ q.file) qs)
    same_or_none [] [] is h k name = inr (All-nil (λ (p : PluginConfig). name ≢ p.file), All-nil (λ (p : PluginConfig). name ≢ p.file))
    same_or_none [] (q ∷ qs) is h k name = absurd (cc)
    same_or_none (p ∷ ps) [] is h k name = absurd (cc)
    same_or_none (p ∷ ps) (q ∷ qs) is h k name =
        by (bytes_eq name p.file) refl (same_or_none ps qs (cc) (All-tail (HoldsOutput some unrouted flows before after) p ps h) (All-tail (HoldsOutput other unrouted flows before other_after) q qs k) name)
      where
        Of : PluginConfig → Type 0
        Of plugin = name ≢ plugin.file

        Found : List PluginConfig → List PluginConfig → Type 0
        Found some_plugins other_plugins = (after name ≡ other_after name) ⊎ (All Of some_plugins × All Of other_plugins)

        first : plugin_says p ≡ plugin_says q
        first = cc

        by : (b : Bool) → bytes_eq name p.file ≡ b → Found ps qs → Found (p ∷ ps) (q ∷ qs)
        by true e others =
            let at : name ≡ p.file = (bytes_eq-Decides name p.file).0 e in
            inl (ap after at ∙ same_output p q first (All-head (HoldsOutput some unrouted flows before after) p ps h) (All-head (HoldsOutput other unrouted flows before other_after) q qs k) ∙ ap other_after (sym at))
        by false e (inl found) = inl found
        by false e (inr none) =
            let apart : name ≢ p.file = λ at. true_is_not_false (sym ((bytes_eq-Decides name p.file).1 at) ∙ e) in
            inr (All-cons Of p ps apart none.0, All-cons Of q qs (subst (λ (s : PluginSays). name ≢ s.file) first apart) none.1)

    one_text : IsAccounted some unrouted flows before after → IsAccounted other unrouted flows before other_after → (name : List ℕ) → after name ≡ other_after name
    one_text h k name = by (bytes_eq name some.config.acct_audit_file) refl
      where
        by : (b : Bool) → bytes_eq name some.config.acct_audit_file ≡ b → after name ≡ other_after name
        by true e =
            let at : name ≡ some.config.acct_audit_file = (bytes_eq-Decides name some.config.acct_audit_file).0 e in
            ap after at ∙ h.audit ∙ ap Some (same_audit flows) ∙ sym k.audit ∙ ap (λ (c : ConfigSays). other_after c.acct_audit_file) (sym same.config) ∙ ap other_after (sym at)
        by false e =
            let apart : name ≢ some.config.acct_audit_file = λ at. true_is_not_false (sym ((bytes_eq-Decides name some.config.acct_audit_file).1 at) ∙ e) in
            elim (same_or_none some.config.plugins other.config.plugins (ap (λ (c : ConfigSays). c.plugins) same.config) h.plugins k.plugins name) [
              | inl found ↦ found
              | inr none ↦
                  h.others name (record { plugins = none.0; audit = apart })
                  ∙ sym (k.others name (record { plugins = none.1; audit = subst (λ (c : ConfigSays). name ≢ c.acct_audit_file) same.config apart }))
            ]

-- ---- the words

pub one_outcome : HaveOneOutput → HaveOneOutcome
one_outcome one tool words before after other_before other_after begins h k = λ i name. same name i
  where
    jobs : IsSameJob h.0 k.0
    jobs = one_job tool words before.names h.0 k.0 h.1 (subst (λ (n : Names). Accepts tool words n k.0) (sym begins) k.1)

    mine : IsDone h.0 h.2 after
    mine = h.4

    theirs : IsDone k.0 k.2 other_after
    theirs = k.4

    octets : mine.octets ≡ theirs.octets
    octets =
        sym (append-nil mine.octets)
        ∙ same_octets (before.names (capture_of h.0)) (mine.octets ++ []) (theirs.octets ++ [])
        (capture_was h.0 before h.2 after mine.octets [] h.3.names mine.taken)
        (ap before.names (same_capture h.0 k.0 jobs) ∙ ap (λ (n : Names). n (capture_of k.0)) begins ∙ capture_was k.0 other_before k.2 other_after theirs.octets [] k.3.names theirs.taken)
        ∙ append-nil theirs.octets

    flows : flows_of h.0 mine.octets ≡ flows_of k.0 theirs.octets
    flows = same_flows h.0 k.0 jobs mine.octets ∙ ap (flows_of k.0) octets

    mine_accounted : IsAccounted h.0 unrouted (flows_of k.0 theirs.octets) before.names after.names
    mine_accounted =
        subst (λ (c : Course). IsAccounted h.0 c (flows_of k.0 theirs.octets) before.names after.names) mine.is_course.without_routes
        (subst (λ (ds : List Datagram). IsAccounted h.0 mine.course ds before.names after.names) flows
        (subst (λ (n : Names). IsAccounted h.0 mine.course (flows_of h.0 mine.octets) n after.names) h.3.names mine.accounted))

    theirs_accounted : IsAccounted k.0 unrouted (flows_of k.0 theirs.octets) before.names other_after.names
    theirs_accounted =
        subst (λ (c : Course). IsAccounted k.0 c (flows_of k.0 theirs.octets) before.names other_after.names) theirs.is_course.without_routes
        (subst (λ (n : Names). IsAccounted k.0 theirs.course (flows_of k.0 theirs.octets) n other_after.names) (k.3.names ∙ sym begins) theirs.accounted)

    same : (name : List ℕ) → after.names name ≡ other_after.names name
    same = one_text h.0 k.0 jobs one (flows_of k.0 theirs.octets) before.names after.names other_after.names mine_accounted theirs_accounted
