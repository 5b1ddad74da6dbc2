-- On the outputs as they are closed.
use Rattle.std.proofs.Common.{◌≡◌, ◌∙◌, ◌++◌, ◌≢◌, ◌<◌, ◌≤◌, [], ◌∷◌, ℕ, List, Bool, true, false, Option, Some, None, refl, sym, ap, subst, append_assoc, arith}
use Rattle.std.specs.Prelude.{All, MatchOption, map, slice_index_or}
use Rattle.std.specs.Io.KnownBytes.{append_known, prepend_known}
use Rattle.std.proofs.lemmas.List.{append-nil}
use Rattle.std.proofs.lemmas.List.Elements.{All-cons, All-head, All-nil, All-tail}
use Rattle.acct_types.specs.declared.datagram.Datagram.{Datagram}
use Rattle.collect_core.specs.declared.job.Job.{Job}
use Rattle.collect_core.specs.Audit.{audit_text}
use Rattle.collect_core.specs.Course.{Course}
use Rattle.collect_core.specs.Due.{due, taken}
use Rattle.collect_core.specs.Ends.{EndsPlugin, ForEachPlugin, PluginEnding}
use Rattle.collect_core.specs.Lawful.{DropsConserve}
use Rattle.collect_core.specs.Most.{FULL}
use Rattle.plugin_cache.specs.Slices.{rows_in}
use Rattle.config_keys.specs.declared.plugin.PluginConfig.{PluginConfig}
use Rattle.outside_io.specs.Causes.{Rose}
use Rattle.outside_io.specs.Names.{Names, PutsFront, begun}
use Rattle.outside_io.specs.declared.fault.Begin.{Begin}
use Rattle.outside_io.specs.declared.ends.OutEnd.{OutEnd}
use Rattle.outside_io.specs.declared.ends.OutEnd.TheVariants as out
use Rattle.plugin_work.specs.Output.{texts_of}
use Rattle.plugin_work.specs.Sinks.{IsWritten}
use Rattle.outside_io.specs.States.{SinkState}
use Rattle.acct_top.specs.Conservation.{ArePurges, HoldsOutput, HoldsOutputButFor, HoldsText, begin_of, start_of}
use Rattle.acct_top.specs.Run.{AreClosed, AreWritten, IsClosed, IsFirstUnwritten, IsRunClosed}
use Rattle.outside_io.specs.States.{PlaceState}
use Rattle.acct_top.proofs.OpenLemmas.{all_first, begun_again}

-- a number that rose in between rose from the beginning to the end
pub rose_within : (before first last after : ℕ) → before ≤ first → Rose first last → last ≤ after → Rose before after
rose_within before first last after a rose b = omega arith

-- ---- one output

no_rest : (risen : Type 0) (end : OutEnd) (rest : List ℕ) → (end ≡ out.Whole → rest ≡ []) → (end ≡ out.Failed → risen) → end ≢ out.Memory → (risen → ⊥) → rest ≡ []
no_rest risen out.Whole rest whole failed some not = whole refl
no_rest risen out.Failed rest whole failed some not = absurd (not (failed refl))
no_rest risen out.Memory rest whole failed some not = absurd (some refl)

pub closed_whole : (risen : Type 0) (text start : List ℕ) (end : OutEnd) (whole : Bool) (first sink : SinkState) (octets : Option (List ℕ)) → first.held ≡ Some [] → IsWritten text end first sink
    → octets ≡ prepend_known start sink.held → (end ≡ out.Failed → risen) → end ≢ out.Memory → (whole ≡ true → end ≡ out.Whole) → IsClosed risen start text whole octets
closed_whole risen text start end whole first sink octets empty written has failed some is_whole =
    let held : sink.held ≡ Some written.front = written.held ∙ ap (λ (o : Option (List ℕ)). append_known o written.front) empty in
    let holds : octets ≡ Some (start ++ written.front) = has ∙ ap (prepend_known start) held in
    record {
      holds = record {
        front = written.front;
        rest = written.rest;
        splits = written.splits;
        holds = holds;
        whole = no_rest risen end written.rest written.whole failed some;
      };
      all = λ e.
          let none : written.rest ≡ [] = written.whole (is_whole e) in
          let same : text ≡ written.front = written.splits ∙ ap (λ (rest : List ℕ). written.front ++ rest) none ∙ append-nil written.front in
          holds ∙ ap (λ (t : List ℕ). Some (start ++ t)) (sym same);
    }

pub closed_front : (risen : Type 0) (text start : List ℕ) (end : OutEnd) (first sink : SinkState) (old new : Names) (name : List ℕ) → first.held ≡ Some [] → IsWritten text end first sink
    → PutsFront old new name start sink.held → risen → IsClosed risen start text false (new name)
closed_front risen text start end first sink old new name empty written puts rose =
    let held : Some (puts.0 ++ puts.1) ≡ Some written.front = sym puts.2 ∙ written.held ∙ ap (λ (o : Option (List ℕ)). append_known o written.front) empty in
    let same : puts.0 ++ puts.1 ≡ written.front = cc held in
    record {
      holds = record {
        front = puts.0;
        rest = puts.1 ++ written.rest;
        splits = written.splits ∙ ap (λ (front : List ℕ). front ++ written.rest) (sym same) ∙ append_assoc puts.0 puts.1 written.rest;
        holds = puts.3.here;
        whole = λ not. absurd (not rose);
      };
      all = λ e. cc e;
    }

-- ---- outputs that were closed stay as they are

-- a number of faults that rose before rose later
text_later : (first last later : ℕ) (start text : List ℕ) (octets after : Option (List ℕ)) → last ≤ later → after ≡ octets → HoldsText (Rose first last) start text octets → HoldsText (Rose first later) start text after
text_later first last later start text octets after le same holds = record {
  front = holds.front;
  rest = holds.rest;
  splits = holds.splits;
  holds = same ∙ holds.holds;
  whole = λ not. holds.whole (λ rose. not (rose_within first first last later (omega arith) rose le));
}

text_earlier : (first last later : ℕ) (start text : List ℕ) (octets : Option (List ℕ)) → first ≤ last → HoldsText (Rose last later) start text octets → HoldsText (Rose first later) start text octets
text_earlier first last later start text octets le holds = record {
  front = holds.front;
  rest = holds.rest;
  splits = holds.splits;
  holds = holds.holds;
  whole = λ not. holds.whole (λ rose. not (rose_within first last later later le rose (omega arith)));
}

-- the outputs of these plugins aren't touched any more
record AreKept (plugins : List PluginConfig) (mid after : PlaceState) : Type 0 where
  names : All (λ plugin. after.names plugin.file ≡ mid.names plugin.file) plugins
  writes : (name : List ℕ) → mid.writes name ≤ after.writes name

holds_later : (job : Job) (course : Course) (flows : List Datagram) (before mid after : Names) (plugin : PluginConfig) → after plugin.file ≡ mid plugin.file → HoldsOutput job course flows before mid plugin → HoldsOutput job course flows before after plugin
holds_later job course flows before mid after plugin same holds = record { purges = holds.purges; conserves = holds.conserves; output = same ∙ holds.output }

but_for_later : (job : Job) (course : Course) (flows : List Datagram) (before mid after : PlaceState) (plugin : PluginConfig) → after.names plugin.file ≡ mid.names plugin.file → mid.writes plugin.file ≤ after.writes plugin.file
    → HoldsOutputButFor job course flows before mid plugin → HoldsOutputButFor job course flows before after plugin
but_for_later job course flows before mid after plugin same le holds = record {
  purges = holds.purges;
  conserves = holds.conserves;
  output = text_later _ _ _ _ _ _ _ le same holds.output;
}

-- ---- outputs in order

-- one output that was closed: what it holds, and whether it is whole
record IsOneClosed (job : Job) (course : Course) (flows : List Datagram) (before after : PlaceState) (plugin : PluginConfig) (whole : Bool) : Type 0 where
  but_for : HoldsOutputButFor job course flows before after plugin
  all : whole ≡ true → HoldsOutput job course flows before.names after.names plugin

first_more : (job : Job) (course : Course) (flows : List Datagram) (before after : PlaceState) (plugin : PluginConfig) (plugins : List PluginConfig) (unwritten : Option (List ℕ)) → HoldsOutput job course flows before.names after.names plugin
    → MatchOption unwritten (All (HoldsOutput job course flows before.names after.names) plugins) (IsFirstUnwritten job course flows before after plugins)
    → MatchOption unwritten (All (HoldsOutput job course flows before.names after.names) (plugin ∷ plugins)) (IsFirstUnwritten job course flows before after (plugin ∷ plugins))
first_more job course flows before after plugin plugins None holds all = All-cons (HoldsOutput job course flows before.names after.names) plugin plugins holds all
first_more job course flows before after plugin plugins (Some name) holds is = record {
  first = plugin ∷ is.first;
  others = is.others;
  splits = ap (λ (ps : List PluginConfig). plugin ∷ ps) is.splits;
  which = is.which;
  whole = All-cons (HoldsOutput job course flows before.names after.names) plugin is.first holds is.whole;
  failed = is.failed;
}

-- What is known of a list of outputs, the first of which is closed and then the others.
pub record ClosesFirst (job : Job) (course : Course) (flows : List Datagram) (before now mid after : PlaceState) (plugin : PluginConfig) (plugins : List PluginConfig) (begin : Begin) (ending : PluginEnding) (endings : List PluginEnding) (whole : Bool) (unwritten : Option (List ℕ)) : Type 0 where
  pub conserve : DropsConserve
  pub is_begin : begin ≡ begin_of plugin.kind
  pub apart : All (λ (other : PluginConfig). plugin.file ≢ other.file) plugins
  pub others : (name : List ℕ) → name ≢ plugin.file → mid.names name ≡ now.names name
  pub kept : after.names plugin.file ≡ mid.names plugin.file
  pub mid_later : (name : List ℕ) → now.writes name ≤ mid.writes name
  pub after_later : (name : List ℕ) → mid.writes name ≤ after.writes name
  pub failed : whole ≡ false → Rose (now.writes plugin.file) (mid.writes plugin.file)
  pub closed : (text : List ℕ) (start : SinkState) → start.held ≡ Some [] → IsWritten text ending.end start ending.sink
      → IsClosed (Rose (now.writes plugin.file) (mid.writes plugin.file)) (begun begin now.names plugin.file) text whole (mid.names plugin.file)
  pub rest : (starts : List SinkState) → AreWritten job course flows before mid plugins starts endings → AreClosed job course flows before after plugins unwritten

one_closed : (job : Job) (course : Course) (flows : List Datagram) (before now mid after : PlaceState) (begin : Begin) (plugin : PluginConfig) (plugins : List PluginConfig) (start : SinkState) (ending : PluginEnding) (endings : List PluginEnding) (whole : Bool) (unwritten : Option (List ℕ))
    → ClosesFirst job course flows before now mid after plugin plugins begin ending endings whole unwritten → start.held ≡ Some [] → now.names plugin.file ≡ Some (start_of before.names plugin) → before.writes plugin.file ≤ now.writes plugin.file
    → EndsPlugin plugin (taken course plugin (due job FULL course plugin flows)) start ending → IsOneClosed job course flows before after plugin whole
one_closed job course flows before now mid after begin plugin plugins start ending endings whole unwritten c empty begun_here le ends =
    let text = texts_of plugin ends.purges in
    let same : begun begin now.names plugin.file ≡ start_of before.names plugin =
    ap (λ (b : Begin). begun b now.names plugin.file) c.is_begin ∙ begun_again (begin_of plugin.kind) before.names now.names plugin.file begun_here in
    let closed : IsClosed (Rose (now.writes plugin.file) (mid.writes plugin.file)) (start_of before.names plugin) text whole (mid.names plugin.file) =
    subst (λ (s : List ℕ). IsClosed (Rose (now.writes plugin.file) (mid.writes plugin.file)) s text whole (mid.names plugin.file)) same (c.closed text start empty ends.written) in
    let conserves : ArePurges course plugin (due job FULL course plugin flows) ends.purges =
    record { are = ends.are; sums = c.conserve course plugin (due job FULL course plugin flows) (rows_in ends.purges) ends.sums } in
    record {
      but_for = record {
        purges = ends.purges;
        conserves = conserves;
        output = text_later _ _ _ _ _ _ _ (c.after_later plugin.file) c.kept (text_earlier _ _ _ _ _ _ le closed.holds);
      };
      all = λ e. record { purges = ends.purges; conserves = conserves; output = c.kept ∙ closed.all e };
    }

written_rest : (job : Job) (course : Course) (flows : List Datagram) (before now mid after : PlaceState) (begin : Begin) (plugin : PluginConfig) (plugins : List PluginConfig) (start : SinkState) (starts : List SinkState) (ending : PluginEnding) (endings : List PluginEnding) (whole : Bool) (unwritten : Option (List ℕ))
    → ClosesFirst job course flows before now mid after plugin plugins begin ending endings whole unwritten → AreWritten job course flows before now (plugin ∷ plugins) (start ∷ starts) (ending ∷ endings) → AreWritten job course flows before mid plugins starts endings
written_rest job course flows before now mid after begin plugin plugins start starts ending endings whole unwritten c w = record {
  written = w.written.1;
  empty = All-tail (λ (s : SinkState). s.held ≡ Some []) start starts w.empty;
  begun = λ k d lt. c.others (slice_index_or plugins k d).file (λ same. c.apart k d lt (sym same)) ∙ All-tail (λ (p : PluginConfig). now.names p.file ≡ Some (start_of before.names p)) plugin plugins w.begun k d lt;
  writes = λ name. let first = w.writes name in let later = c.mid_later name in omega arith;
}

-- what the first holds, and what holds of the others
record Closings (job : Job) (course : Course) (flows : List Datagram) (before after : PlaceState) (plugin : PluginConfig) (plugins : List PluginConfig) (whole : Bool) (unwritten : Option (List ℕ)) (risen : Type 0) : Type 0 where
  one : IsOneClosed job course flows before after plugin whole
  others : AreClosed job course flows before after plugins unwritten
  failed : whole ≡ false → risen

closings : (job : Job) (course : Course) (flows : List Datagram) (before now mid after : PlaceState) (begin : Begin) (plugin : PluginConfig) (plugins : List PluginConfig) (starts : List SinkState) (ending : PluginEnding) (endings : List PluginEnding) (whole : Bool) (unwritten : Option (List ℕ))
    → ClosesFirst job course flows before now mid after plugin plugins begin ending endings whole unwritten → AreWritten job course flows before now (plugin ∷ plugins) starts (ending ∷ endings)
    → Closings job course flows before after plugin plugins whole unwritten (Rose (before.writes plugin.file) (after.writes plugin.file))
closings job course flows before now mid after begin plugin plugins [] ending endings whole unwritten c w = absurd w.written
closings job course flows before now mid after begin plugin plugins (start ∷ starts) ending endings whole unwritten c w = record {
  one = one_closed job course flows before now mid after begin plugin plugins start ending endings whole unwritten c (All-head (λ (s : SinkState). s.held ≡ Some []) start starts w.empty)
      (All-head (λ (p : PluginConfig). now.names p.file ≡ Some (start_of before.names p)) plugin plugins w.begun) (w.writes plugin.file) w.written.0;
  others = c.rest starts (written_rest job course flows before now mid after begin plugin plugins start starts ending endings whole unwritten c w);
  failed = λ e. rose_within _ _ _ _ (w.writes plugin.file) (c.failed e) (c.after_later plugin.file);
}

-- the first is whole, and then the others count
closed_more : (job : Job) (course : Course) (flows : List Datagram) (before now mid after : PlaceState) (begin : Begin) (plugin : PluginConfig) (plugins : List PluginConfig) (starts : List SinkState) (ending : PluginEnding) (endings : List PluginEnding) (whole : Bool) (unwritten : Option (List ℕ))
    → ClosesFirst job course flows before now mid after plugin plugins begin ending endings whole unwritten → AreWritten job course flows before now (plugin ∷ plugins) starts (ending ∷ endings) → whole ≡ true → AreClosed job course flows before after (plugin ∷ plugins) unwritten
closed_more job course flows before now mid after begin plugin plugins starts ending endings whole unwritten c w is =
    let both = closings job course flows before now mid after begin plugin plugins starts ending endings whole unwritten c w in
    record {
      but_for = All-cons (HoldsOutputButFor job course flows before after) plugin plugins both.one.but_for both.others.but_for;
      first = first_more job course flows before after plugin plugins unwritten (both.one.all is) both.others.first;
    }

unwritten_here : (job : Job) (course : Course) (flows : List Datagram) (before now mid after : PlaceState) (begin : Begin) (plugin : PluginConfig) (plugins : List PluginConfig) (starts : List SinkState) (ending : PluginEnding) (endings : List PluginEnding) (whole : Bool) (unwritten : Option (List ℕ))
    → ClosesFirst job course flows before now mid after plugin plugins begin ending endings whole unwritten → AreWritten job course flows before now (plugin ∷ plugins) starts (ending ∷ endings) → whole ≡ false → AreClosed job course flows before after (plugin ∷ plugins) (Some plugin.file)
unwritten_here job course flows before now mid after begin plugin plugins starts ending endings whole unwritten c w is =
    let both = closings job course flows before now mid after begin plugin plugins starts ending endings whole unwritten c w in
    record {
      but_for = All-cons (HoldsOutputButFor job course flows before after) plugin plugins both.one.but_for both.others.but_for;
      first = record { first = []; others = plugin ∷ plugins; splits = refl; which = refl; whole = All-nil (HoldsOutput job course flows before.names after.names); failed = both.failed is };
    }

written_so : (job : Job) (course : Course) (flows : List Datagram) (before now : PlaceState) (all plugins : List PluginConfig) (starts : List SinkState) (all_endings endings : List PluginEnding) → all ≡ plugins → all_endings ≡ endings → AreWritten job course flows before now all starts all_endings
    → AreWritten job course flows before now plugins starts endings
written_so job course flows before now all plugins starts all_endings endings splits ends w =
    subst (λ (ps : List PluginConfig). AreWritten job course flows before now ps starts endings) splits (subst (λ (es : List PluginEnding). AreWritten job course flows before now all starts es) ends w)

pub all_closed : (job : Job) (course : Course) (flows : List Datagram) (before now mid after : PlaceState) (begin : Begin) (all : List PluginConfig) (plugin : PluginConfig) (plugins : List PluginConfig) (starts : List SinkState) (all_endings : List PluginEnding) (ending : PluginEnding) (endings : List PluginEnding)
    (whole : Bool) (unwritten : Option (List ℕ)) → all ≡ plugin ∷ plugins → all_endings ≡ ending ∷ endings → ClosesFirst job course flows before now mid after plugin plugins begin ending endings whole unwritten → AreWritten job course flows before now all starts all_endings
    → whole ≡ true → AreClosed job course flows before after all unwritten
all_closed job course flows before now mid after begin all plugin plugins starts all_endings ending endings whole unwritten splits ends c w is =
    subst (λ (ps : List PluginConfig). AreClosed job course flows before after ps unwritten) (sym splits)
    (closed_more job course flows before now mid after begin plugin plugins starts ending endings whole unwritten c (written_so job course flows before now all (plugin ∷ plugins) starts all_endings (ending ∷ endings) splits ends w) is)

pub first_unwritten : (job : Job) (course : Course) (flows : List Datagram) (before now mid after : PlaceState) (begin : Begin) (all : List PluginConfig) (plugin : PluginConfig) (plugins : List PluginConfig) (starts : List SinkState) (all_endings : List PluginEnding) (ending : PluginEnding) (endings : List PluginEnding)
    (whole : Bool) (unwritten : Option (List ℕ)) → all ≡ plugin ∷ plugins → all_endings ≡ ending ∷ endings → ClosesFirst job course flows before now mid after plugin plugins begin ending endings whole unwritten → AreWritten job course flows before now all starts all_endings
    → whole ≡ false → AreClosed job course flows before after all (Some plugin.file)
first_unwritten job course flows before now mid after begin all plugin plugins starts all_endings ending endings whole unwritten splits ends c w is =
    subst (λ (ps : List PluginConfig). AreClosed job course flows before after ps (Some plugin.file)) (sym splits)
    (unwritten_here job course flows before now mid after begin plugin plugins starts ending endings whole unwritten c (written_so job course flows before now all (plugin ∷ plugins) starts all_endings (ending ∷ endings) splits ends w) is)

-- the names of the first, and of the others
pub names_kept : (all : List PluginConfig) (plugin : PluginConfig) (plugins : List PluginConfig) (old mid after : Names) → all ≡ plugin ∷ plugins → ((name : List ℕ) → name ≢ plugin.file → mid name ≡ old name)
    → ((name : List ℕ) → All (λ (p : PluginConfig). name ≢ p.file) plugins → after name ≡ mid name) → (name : List ℕ) → All (λ (p : PluginConfig). name ≢ p.file) all → after name ≡ old name
names_kept all plugin plugins old mid after splits first others name none =
    let apart : All (λ (p : PluginConfig). name ≢ p.file) (plugin ∷ plugins) = subst (λ (ps : List PluginConfig). All (λ (p : PluginConfig). name ≢ p.file) ps) splits none in
    others name (All-tail (λ (p : PluginConfig). name ≢ p.file) plugin plugins apart) ∙ first name (All-head (λ (p : PluginConfig). name ≢ p.file) plugin plugins apart)

pub none_closed : (job : Job) (course : Course) (flows : List Datagram) (before after : PlaceState) → AreClosed job course flows before after [] None
none_closed job course flows before after = record { but_for = All-nil (HoldsOutputButFor job course flows before after); first = All-nil (HoldsOutput job course flows before.names after.names) }

-- nothing is written of a plugin without an ending
pub no_ending : (job : Job) (course : Course) (flows : List Datagram) (before now : PlaceState) (plugin : PluginConfig) (plugins : List PluginConfig) (starts : List SinkState) → AreWritten job course flows before now (plugin ∷ plugins) starts [] → ⊥
no_ending job course flows before now plugin plugins [] w = w.written
no_ending job course flows before now plugin plugins (start ∷ starts) w = w.written

-- ---- the audit behind them

-- What is known of a run's outputs, where the audit is closed last.
pub record ClosesLast (job : Job) (course : Course) (flows : List Datagram) (before mid after : PlaceState) (whole : Bool) (unwritten : Option (List ℕ)) : Type 0 where
  pub plugins : AreClosed job course flows before mid job.config.plugins unwritten
  pub apart : All (λ plugin. plugin.file ≢ job.config.acct_audit_file) job.config.plugins
  pub others : (name : List ℕ) → name ≢ job.config.acct_audit_file → after.names name ≡ mid.names name
  pub before_mid : (name : List ℕ) → before.writes name ≤ mid.writes name
  pub after_later : (name : List ℕ) → mid.writes name ≤ after.writes name
  pub failed : whole ≡ false → Rose (mid.writes job.config.acct_audit_file) (after.writes job.config.acct_audit_file)
  pub closed : IsClosed (Rose (mid.writes job.config.acct_audit_file) (after.writes job.config.acct_audit_file)) [] (audit_text job FULL course flows) whole (after.names job.config.acct_audit_file)

all_later : (job : Job) (course : Course) (flows : List Datagram) (before mid after : PlaceState) (plugins : List PluginConfig) → All (λ (plugin : PluginConfig). plugin.file ≢ job.config.acct_audit_file) plugins
    → ((name : List ℕ) → name ≢ job.config.acct_audit_file → after.names name ≡ mid.names name) → All (HoldsOutput job course flows before.names mid.names) plugins → All (HoldsOutput job course flows before.names after.names) plugins
all_later job course flows before mid after plugins apart others holds = λ k d lt.
    let plugin = slice_index_or plugins k d in
    holds_later job course flows before.names mid.names after.names plugin (others plugin.file (apart k d lt)) (holds k d lt)

unwritten_later : (job : Job) (course : Course) (flows : List Datagram) (before mid after : PlaceState) (whole : Bool) (unwritten : Option (List ℕ)) → ClosesLast job course flows before mid after whole unwritten → (name : List ℕ)
    → IsFirstUnwritten job course flows before mid job.config.plugins name → IsFirstUnwritten job course flows before after job.config.plugins name
unwritten_later job course flows before mid after whole unwritten c name is = record {
  first = is.first;
  others = is.others;
  splits = is.splits;
  which = is.which;
  whole = all_later job course flows before mid after is.first
      (all_first (λ (plugin : PluginConfig). plugin.file ≢ job.config.acct_audit_file) is.first is.others (subst (λ (ps : List PluginConfig). All (λ (plugin : PluginConfig). plugin.file ≢ job.config.acct_audit_file) ps) is.splits c.apart))
      c.others is.whole;
  failed = rose_within _ _ _ _ (omega arith) is.failed (c.after_later name);
}

but_for_all : (job : Job) (course : Course) (flows : List Datagram) (before mid after : PlaceState) (whole : Bool) (unwritten : Option (List ℕ)) → ClosesLast job course flows before mid after whole unwritten → All (HoldsOutputButFor job course flows before after) job.config.plugins
but_for_all job course flows before mid after whole unwritten c = λ k d lt.
    let plugin = slice_index_or job.config.plugins k d in
    but_for_later job course flows before mid after plugin (c.others plugin.file (c.apart k d lt)) (c.after_later plugin.file) (c.plugins.but_for k d lt)

audit_holds : (job : Job) (course : Course) (flows : List Datagram) (before mid after : PlaceState) (whole : Bool) (unwritten : Option (List ℕ)) → ClosesLast job course flows before mid after whole unwritten
    → HoldsText (Rose (before.writes job.config.acct_audit_file) (after.writes job.config.acct_audit_file)) [] (audit_text job FULL course flows) (after.names job.config.acct_audit_file)
audit_holds job course flows before mid after whole unwritten c = text_earlier _ _ _ _ _ _ (c.before_mid job.config.acct_audit_file) c.closed.holds

-- the audit is whole, or it isn't but an output before it isn't either
pub run_closed : (job : Job) (course : Course) (flows : List Datagram) (before mid after : PlaceState) (whole : Bool) (unwritten : Option (List ℕ)) → ClosesLast job course flows before mid after whole unwritten → (unwritten ≡ None → whole ≡ true) → IsRunClosed job course flows before after unwritten
run_closed job course flows before mid after whole None c is = record {
  audit = audit_holds job course flows before mid after whole None c;
  plugins = but_for_all job course flows before mid after whole None c;
  first = record { plugins = all_later job course flows before mid after job.config.plugins c.apart c.others c.plugins.first; audit = c.closed.all (is refl) };
}
run_closed job course flows before mid after whole (Some name) c is = record {
  audit = audit_holds job course flows before mid after whole (Some name) c;
  plugins = but_for_all job course flows before mid after whole (Some name) c;
  first = unwritten_later job course flows before mid after whole (Some name) c name c.plugins.first;
}

-- the audit is the first that isn't whole
pub audit_unwritten : (job : Job) (course : Course) (flows : List Datagram) (before mid after : PlaceState) (whole : Bool) → ClosesLast job course flows before mid after whole None → whole ≡ false → IsRunClosed job course flows before after (Some job.config.acct_audit_file)
audit_unwritten job course flows before mid after whole c is = record {
  audit = audit_holds job course flows before mid after whole None c;
  plugins = but_for_all job course flows before mid after whole None c;
  first = record {
    first = job.config.plugins;
    others = [];
    splits = sym (append-nil job.config.plugins);
    which = refl;
    whole = all_later job course flows before mid after job.config.plugins c.apart c.others c.plugins.first;
    failed = rose_within _ _ _ _ (c.before_mid job.config.acct_audit_file) (c.failed is) (omega arith);
  };
}

-- the outputs of all plugins
pub plugins_closed : (job : Job) (course : Course) (flows : List Datagram) (before now mid : PlaceState) (all : List PluginConfig) (starts : List SinkState) (all_endings endings : List PluginEnding) (unwritten : Option (List ℕ)) → all ≡ job.config.plugins → all_endings ≡ endings
    → (AreWritten job course flows before now all starts all_endings → AreClosed job course flows before mid all unwritten) → AreWritten job course flows before now job.config.plugins starts endings → AreClosed job course flows before mid job.config.plugins unwritten
plugins_closed job course flows before now mid all starts all_endings endings unwritten splits ends closed w =
    subst (λ (ps : List PluginConfig). AreClosed job course flows before mid ps unwritten) splits (closed (written_so job course flows before now job.config.plugins all starts endings all_endings (sym splits) (sym ends) w))

-- ---- sinks at the end of a run

pub all_before_map : {X Y : Type 0} (P : Y → Type 0) (f : X → Y) (xs : List X) → All P (map f xs) → All (λ x. P (f x)) xs
all_before_map {X = X} P f [] h = All-nil (λ (x : X). P (f x))
all_before_map {X = X} P f (x ∷ xs) h = All-cons (λ (y : X). P (f y)) x xs (All-head P (f x) (map f xs) h) (all_before_map P f xs (All-tail P (f x) (map f xs) h))

-- a sink that was new counts a fault where writing failed
abbrev pub Counts : PluginEnding → Type 0
Counts ending = ending.end ≡ out.Failed → 0 < ending.sink.faults

counts_fault : (first last : ℕ) → first ≡ 0 → Rose first last → 0 < last
counts_fault first last none rose = omega arith

pub all_counted : (job : Job) (course : Course) (flows : List Datagram) (plugins : List PluginConfig) (starts : List SinkState) (endings : List PluginEnding)
    → ForEachPlugin (λ plugin start ending. EndsPlugin plugin (taken course plugin (due job FULL course plugin flows)) start ending) plugins starts endings → All (λ (start : SinkState). start.faults ≡ 0) starts → All Counts endings
all_counted job course flows [] [] [] ends new = All-nil Counts
all_counted job course flows (plugin ∷ plugins) (start ∷ starts) (ending ∷ endings) ends new =
    All-cons Counts ending endings
    (λ failed. counts_fault start.faults ending.sink.faults (All-head (λ (s : SinkState). s.faults ≡ 0) start starts new) (ends.0.written.failed failed))
    (all_counted job course flows plugins starts endings ends.1 (All-tail (λ (s : SinkState). s.faults ≡ 0) start starts new))
all_counted job course flows [] [] (ending ∷ endings) ends new = absurd ends
all_counted job course flows [] (start ∷ starts) endings ends new = absurd ends
all_counted job course flows (plugin ∷ plugins) [] endings ends new = absurd ends
all_counted job course flows (plugin ∷ plugins) (start ∷ starts) [] ends new = absurd ends
