-- How what stands at a place goes on where more octets follow.
use Rattle.std.proofs.Common.{◌≡◌, ◌≤◌, ◌<◌, ℕ, ◌+◌, ◌∙◌, Bool, true, false, List, [], ◌∷◌, ◌++◌, length, take, drop, Result, Ok, Err, refl, sym, ap, subst, append_assoc, append-nil, length-drop, length-append, arith, inl, inr}
use Rattle.std.specs.Prelude.{not, nat_lt, ◌==◌, ◌⊎◌, IsTrue, if◌then◌else◌}
use Rattle.std.specs.Str.{bytes_eq}
use Rattle.std.proofs.lemmas.Bool.{eqb-true, ne_eqb, le-ltb, ltb-true, ltb-false}
use Rattle.std.proofs.lemmas.List.{take-append-le, drop-append-le, length-take}
use Rattle.std.proofs.lemmas.Slice.Eq.{bytes_eq-Decides}
use Rattle.std.proofs.Math.ListN.{get_or-append}
use Rattle.byteorder.specs.Numbers.{big_from-append}
use Rattle.acct_types.specs.Numbers.{number_at}
use Rattle.capture_file.specs.declared.flows.CaptureEnd.{CaptureEnd}
use Rattle.capture_file.specs.declared.flows.CaptureEnd.TheVariants.{BadMagic}
use Rattle.capture_file.specs.Capture.{magic, has_magic, events_from, end_from}
use Rattle.capture_file.specs.Event.{judged, is_kind, kind_of, header_width, event_width, length_of, most_octets, octets_of, LONGEST}
use Rattle.capture_file.specs.Standing.{Standing, past_magic, with_octets, judged_at, may_turn, is_open, past_event, events_at, end_at}
use Rattle.capture_file.proofs.Bounds.{own_is_short}
use Rattle.capture_file.proofs.Events.{ruled, whole_event, events_next, end_next, end_here, events_none, header_in_event}

-- a number that stands in the octets is read there, whatever follows
number_at-append : (octets more : List ℕ) (place width : ℕ) → place + width ≤ length octets → number_at (octets ++ more) place width ≡ number_at octets place width
unfolding number_at
number_at-append octets more place width h =
    rw (drop-append-le place octets more (omega arith)) (big_from-append width (drop place octets) more (rw length-drop (omega arith)))

kind_of-append : (octets more : List ℕ) → 1 ≤ length octets → kind_of (octets ++ more) ≡ kind_of octets
kind_of-append octets more h = get_or-append octets more 0 0 (omega arith)

length_of-append : (octets more : List ℕ) → 1 ≤ length octets → header_width (kind_of octets) ≤ length octets → length_of (octets ++ more) ≡ length_of octets
length_of-append octets more some header =
    let kind = kind_of-append octets more some in
    rw kind (number_at-append octets more _ 4 (omega (arith, header)))

-- Rules that don't hold of some octets don't hold of more, and what was decided stays so.
ruled-more : (none bad cut long many torn none' bad' cut' long' many' torn' : Bool) (place width width' : ℕ) (found : Result ℕ CaptureEnd)
    → (none ≡ false → none' ≡ false) → (none ≡ false → bad' ≡ bad) → (none ≡ false → cut ≡ false → cut' ≡ false) → (none ≡ false → cut ≡ false → long' ≡ long)
    → (none ≡ false → cut ≡ false → many' ≡ many) → (none ≡ false → cut ≡ false → torn ≡ false → torn' ≡ false) → (none ≡ false → cut ≡ false → width' ≡ width)
    → ruled none bad cut long many torn place width ≡ found → may_turn found ≡ false → ruled none' bad' cut' long' many' torn' place width' ≡ found
ruled-more true bad cut long many torn none' bad' cut' long' many' torn' place width width' found n b c l m t w is closed =
    absurd (no (ap may_turn is ∙ closed))
  where
    no : true ≡ false → ⊥
    no e = cc
ruled-more false true cut long many torn none' bad' cut' long' many' torn' place width width' found n b c l m t w is closed = rw (n refl, b refl) is
ruled-more false false true long many torn none' bad' cut' long' many' torn' place width width' found n b c l m t w is closed =
    absurd (no (ap may_turn is ∙ closed))
  where
    no : true ≡ false → ⊥
    no e = cc
ruled-more false false false true many torn none' bad' cut' long' many' torn' place width width' found n b c l m t w is closed =
    rw (n refl, b refl, c refl refl, l refl refl) is
ruled-more false false false false true torn none' bad' cut' long' many' torn' place width width' found n b c l m t w is closed =
    rw (n refl, b refl, c refl refl, l refl refl, m refl refl) is
ruled-more false false false false false true none' bad' cut' long' many' torn' place width width' found n b c l m t w is closed =
    absurd (no (ap may_turn is ∙ closed))
  where
    no : true ≡ false → ⊥
    no e = cc
ruled-more false false false false false false none' bad' cut' long' many' torn' place width width' found n b c l m t w is closed =
    rw (n refl, b refl, c refl refl, l refl refl, m refl refl, t refl refl refl, w refl refl) is

-- an event that is decided stays so, whatever follows
pub judged-more : (flows : Bool) (most used : ℕ) (octets more : List ℕ) (found : Result ℕ CaptureEnd) → judged flows most used octets ≡ found → may_turn found ≡ false
    → judged flows most used (octets ++ more) ≡ found
unfolding judged
judged-more flows most used octets more found is closed =
    ruled-more (length octets == 0) (not (is_kind flows (kind_of octets))) (nat_lt (length octets) (header_width (kind_of octets))) (nat_lt (most_octets (kind_of octets)) (length_of octets))
    (nat_lt most (used + event_width octets)) (nat_lt (length octets) (event_width octets))
    (length (octets ++ more) == 0) (not (is_kind flows (kind_of (octets ++ more)))) (nat_lt (length (octets ++ more)) (header_width (kind_of (octets ++ more)))) (nat_lt (most_octets (kind_of (octets ++ more))) (length_of (octets ++ more)))
    (nat_lt most (used + event_width (octets ++ more))) (nat_lt (length (octets ++ more)) (event_width (octets ++ more)))
    (8 + used) (event_width octets) (event_width (octets ++ more)) found
    (λ none. ne_eqb _ _ (λ e. let here = some none in omega (arith, longer, here, e)))
    (λ none. ap (λ (kind : ℕ). not (is_kind flows kind)) (kind none))
    (λ none cut. le-ltb _ _ (subst (λ (k : ℕ). header_width k ≤ length (octets ++ more)) (sym (kind none)) (omega (arith, longer, header cut))))
    (λ none cut. ap (λ (k : ℕ). nat_lt (most_octets k) (length_of (octets ++ more))) (kind none) ∙ ap (nat_lt (most_octets (kind_of octets))) (own none cut))
    (λ none cut. ap (λ (w : ℕ). nat_lt most (used + w)) (width none cut))
    (λ none cut torn. le-ltb _ _ (subst (λ (w : ℕ). w ≤ length (octets ++ more)) (sym (width none cut)) (omega (arith, longer, ltb-false (length octets) (event_width octets) torn))))
    (λ none cut. width none cut)
    is closed
  where
    longer : length (octets ++ more) ≡ length octets + length more
    longer = length-append octets more

    some : (length octets == 0) ≡ false → 1 ≤ length octets
    some none = at_least (length octets) none
      where
        at_least : (n : ℕ) → (n == 0) ≡ false → 1 ≤ n
        at_least n e = grind (arith, eqb-false' n e)
          where
            eqb-false' : (n : ℕ) → (n == 0) ≡ false → n ≡ 0 → ⊥
            eqb-false' n e z = absurd (no (ap (λ (m : ℕ). m == 0) (sym z) ∙ e))
              where
                no : true ≡ false → ⊥
                no e = cc

    header : nat_lt (length octets) (header_width (kind_of octets)) ≡ false → header_width (kind_of octets) ≤ length octets
    header cut = ltb-false (length octets) (header_width (kind_of octets)) cut

    kind : (length octets == 0) ≡ false → kind_of (octets ++ more) ≡ kind_of octets
    kind none = kind_of-append octets more (some none)

    own : (length octets == 0) ≡ false → nat_lt (length octets) (header_width (kind_of octets)) ≡ false → length_of (octets ++ more) ≡ length_of octets
    own none cut = length_of-append octets more (some none) (header cut)

    width : (length octets == 0) ≡ false → nat_lt (length octets) (header_width (kind_of octets)) ≡ false → event_width (octets ++ more) ≡ event_width octets
    width none cut = ap (λ (k : ℕ). header_width k + length_of (octets ++ more)) (kind none) ∙ ap (λ (n : ℕ). header_width (kind_of octets) + n) (own none cut)

-- octets that decide nothing are fewer than those of the longest event
turned : (none bad cut long many torn : Bool) (place width : ℕ) → may_turn (ruled none bad cut long many torn place width) ≡ true
    → (none ≡ true) ⊎ ((cut ≡ true) ⊎ ((long ≡ false) × (torn ≡ true)))
turned true bad cut long many torn place width is = inl refl
turned false true cut long many torn place width is = cc
turned false false true long many torn place width is = inr (inl refl)
turned false false false true many torn place width is = cc
turned false false false false true torn place width is = cc
turned false false false false false true place width is = inr (inr (refl, refl))
turned false false false false false false place width is = cc

most_width : (kind : ℕ) → header_width kind ≤ 31
most_width kind = grind arith

most_own : (kind : ℕ) → most_octets kind ≤ 65535
most_own kind = grind arith

undecided_is_short : (flows : Bool) (most used : ℕ) (octets : List ℕ) → may_turn (judged flows most used octets) ≡ true → length octets < 65566
unfolding judged
undecided_is_short flows most used octets is =
    by (turned (length octets == 0) (not (is_kind flows (kind_of octets))) (nat_lt (length octets) (header_width (kind_of octets))) (nat_lt (most_octets (kind_of octets)) (length_of octets))
    (nat_lt most (used + event_width octets)) (nat_lt (length octets) (event_width octets)) (8 + used) (event_width octets) is)
  where
    head : header_width (kind_of octets) ≤ 31
    head = most_width (kind_of octets)

    own : most_octets (kind_of octets) ≤ 65535
    own = most_own (kind_of octets)

    by : ((length octets == 0) ≡ true) ⊎ ((nat_lt (length octets) (header_width (kind_of octets)) ≡ true) ⊎ ((nat_lt (most_octets (kind_of octets)) (length_of octets) ≡ false) × (nat_lt (length octets) (event_width octets) ≡ true)))
        → length octets < 65566
    by (inl none) = let e = eqb-true (length octets) 0 none in omega (arith, e)
    by (inr (inl cut)) = let less = ltb-true (length octets) (header_width (kind_of octets)) cut in omega (arith, less, head)
    by (inr (inr both)) =
        let short = ltb-false (most_octets (kind_of octets)) (length_of octets) both.0 in
        let less = ltb-true (length octets) (event_width octets) both.1 in
        omega (arith, short, less, head, own)

pub open_is_short : (there : Standing) → IsTrue (is_open there) → length there.ahead < 65566
open_is_short there open' = by there.begun open'
  where
    by : (b : Bool) → IsTrue (if b then may_turn (judged there.flows there.most there.used there.ahead) else nat_lt (length there.ahead) 8) → length there.ahead < 65566
    by true h = undecided_is_short there.flows there.most there.used there.ahead h
    by false h = let less = ltb-true (length there.ahead) 8 h in omega (arith, less)

-- the magic is eight octets
magic_is_long : (octets : List ℕ) → has_magic octets ≡ true → 8 ≤ length octets
magic_is_long octets is =
    let same : take 8 octets ≡ magic = (bytes_eq-Decides (take 8 octets) magic).0 is in
    let size : length (take 8 octets) ≡ 8 = ap length same in
    omega (arith, size, length-take 8 octets)

magic_more : (octets more : List ℕ) → has_magic octets ≡ true → has_magic (octets ++ more) ≡ true
magic_more octets more is = ap (λ (xs : List ℕ). bytes_eq xs magic) (take-append-le 8 octets more (magic_is_long octets is)) ∙ is

no_magic_more : (octets more : List ℕ) → 8 ≤ length octets → has_magic octets ≡ false → has_magic (octets ++ more) ≡ false
no_magic_more octets more long is = ap (λ (xs : List ℕ). bytes_eq xs magic) (take-append-le 8 octets more long) ∙ is

-- a place, by its parts
abbrev at : Bool → ℕ → Bool → ℕ → ℕ → List ℕ → Standing
at flows most begun used moment ahead = record { flows = flows; most = most; begun = begun; used = used; moment = moment; ahead = ahead }

-- what follows what was taken, follows
more : (flows : Bool) (most : ℕ) (begun : Bool) (used moment : ℕ) (ahead first next : List ℕ)
    → with_octets (with_octets (at flows most begun used moment ahead) first) next ≡ with_octets (at flows most begun used moment ahead) (first ++ next)
more flows most true used moment ahead first next = ap (at flows most true used moment) (append_assoc ahead first next)
more flows most false used moment ahead first next = by (has_magic (ahead ++ first)) refl
  where
    by : (b : Bool) → has_magic (ahead ++ first) ≡ b
        → with_octets (if has_magic (ahead ++ first) then at flows most true used moment (drop 8 (ahead ++ first)) else at flows most false used moment (ahead ++ first)) next ≡ with_octets (at flows most false used moment ahead) (first ++ next)
    by true is =
        let long = magic_is_long (ahead ++ first) is in
        let whole : has_magic (ahead ++ (first ++ next)) ≡ true = ap has_magic (sym (append_assoc ahead first next)) ∙ magic_more (ahead ++ first) next is in
        let rest : drop 8 (ahead ++ (first ++ next)) ≡ drop 8 (ahead ++ first) ++ next = ap (drop 8) (sym (append_assoc ahead first next)) ∙ drop-append-le 8 (ahead ++ first) next long in
        rw (is, whole) (ap (at flows most true used moment) (sym rest))
    by false is = rw is (ap (λ (xs : List ℕ). past_magic (at flows most false used moment xs)) (append_assoc ahead first next))

pub with_octets-append : (there : Standing) (first next : List ℕ) → with_octets (with_octets there first) next ≡ with_octets there (first ++ next)
with_octets-append there first next = more there.flows there.most there.begun there.used there.moment there.ahead first next

-- nothing more leaves what was taken
nothing_more : (flows : Bool) (most : ℕ) (begun : Bool) (used moment : ℕ) (ahead : List ℕ) → with_octets (at flows most begun used moment ahead) [] ≡ past_magic (at flows most begun used moment ahead)
nothing_more flows most begun used moment ahead = ap (λ (xs : List ℕ). past_magic (at flows most begun used moment xs)) (append-nil ahead)

pub with_octets-nil : (there : Standing) → with_octets there [] ≡ past_magic there
with_octets-nil there = nothing_more there.flows there.most there.begun there.used there.moment there.ahead

pub with_octets-again : (there : Standing) (octets : List ℕ) → past_magic (with_octets there octets) ≡ with_octets there octets
with_octets-again there octets =
    sym (with_octets-nil (with_octets there octets)) ∙ with_octets-append there octets [] ∙ ap (with_octets there) (append-nil octets)

-- one event, whatever follows
event_more : (flows : Bool) (most : ℕ) (begun : Bool) (used moment : ℕ) (ahead later : List ℕ) (width : ℕ) → let there = at flows most begun used moment ahead in
    judged_at there ≡ Ok width → (events_at (with_octets there later) ≡ take width ahead ∷ events_at (with_octets (past_event there width) later)) × (end_at (with_octets there later) ≡ end_at (with_octets (past_event there width) later)) × (width ≤ length ahead) × (begun ≡ true)
event_more flows most false used moment ahead later width is = absurd (no (Err BadMagic) refl is)
  where
    no : (r : Result ℕ CaptureEnd) → r ≡ Err BadMagic → r ≡ Ok width → ⊥
    no r e f = cc
event_more flows most true used moment ahead later width is =
    let here = (whole_event flows most used ahead width is).here in
    let goes_on = judged-more flows most used ahead later (Ok width) is refl in
    let front = take-append-le width ahead later here in
    let back = drop-append-le width ahead later here in (
      events_next flows most used (ahead ++ later) width goes_on
          ∙ ap (λ (event : List ℕ). event ∷ events_from flows (length (drop width (ahead ++ later))) most (used + width) (drop width (ahead ++ later))) front
          ∙ ap (λ (xs : List ℕ). take width ahead ∷ events_from flows (length xs) most (used + width) xs) back,
      end_next flows most used (ahead ++ later) width goes_on ∙ ap (λ (xs : List ℕ). end_from flows (length xs) most (used + width) xs) back,
      here,
      refl,
    )

-- the event at the front, and those behind it
pub record GoesOn (there : Standing) (width : ℕ) (later : List ℕ) : Type 0 where
  pub events : events_at (with_octets there later) ≡ take width there.ahead ∷ events_at (with_octets (past_event there width) later)
  pub end : end_at (with_octets there later) ≡ end_at (with_octets (past_event there width) later)
  pub here : width ≤ length there.ahead
  pub begun : there.begun ≡ true

pub goes_on : (there : Standing) (width : ℕ) (later : List ℕ) → judged_at there ≡ Ok width → GoesOn there width later
goes_on there width later is =
    let both = event_more there.flows there.most there.begun there.used there.moment there.ahead later width is in
    record { events = both.0; end = both.1; here = both.2; begun = both.3 }

-- where nothing stands at the front and more octets decide nothing, or there are none, no event follows
ends_more : (flows : Bool) (most : ℕ) (begun : Bool) (used moment : ℕ) (ahead later : List ℕ) (end : CaptureEnd) → let there = at flows most begun used moment ahead in
    judged_at there ≡ Err end → past_magic there ≡ there → (IsTrue (is_open there) → later ≡ []) → (events_at (with_octets there later) ≡ []) × (end_at (with_octets there later) ≡ end)
ends_more flows most true used moment ahead later end is normal last =
    let stands : judged flows most used (ahead ++ later) ≡ Err end = by (may_turn (judged flows most used ahead)) refl in
    (events_none flows (length (ahead ++ later)) most used (ahead ++ later) end stands, end_here flows most used (ahead ++ later) end stands)
  where
    by : (b : Bool) → may_turn (judged flows most used ahead) ≡ b → judged flows most used (ahead ++ later) ≡ Err end
    by true opened = let none : later ≡ [] = last (opened) in ap (λ (xs : List ℕ). judged flows most used (ahead ++ xs)) none ∙ ap (judged flows most used) (append-nil ahead) ∙ is
    by false closed = judged-more flows most used ahead later (Err end) is (ap may_turn (sym is) ∙ closed)
ends_more flows most false used moment ahead later end is normal last =
    let bad : BadMagic ≡ end = err (Err BadMagic) refl is in
    let without : has_magic (ahead ++ later) ≡ false = by (nat_lt (length ahead) 8) refl in
    rw without (refl, bad)
  where
    err : (r : Result ℕ CaptureEnd) → r ≡ Err BadMagic → r ≡ Err end → BadMagic ≡ end
    err r e f = cc

    none_here : has_magic ahead ≡ false
    none_here = look (has_magic ahead) refl
      where
        look : (b : Bool) → has_magic ahead ≡ b → b ≡ false
        look false e = refl
        look true e = absurd (no (ap (λ (there : Standing). there.begun) (sym at_past ∙ normal)))
          where
            at_past : past_magic (at flows most false used moment ahead) ≡ at flows most true used moment (drop 8 ahead)
            at_past = rw e refl

            no : true ≡ false → ⊥
            no x = cc

    by : (b : Bool) → nat_lt (length ahead) 8 ≡ b → has_magic (ahead ++ later) ≡ false
    by true short = let none : later ≡ [] = last (short) in ap (λ (xs : List ℕ). has_magic (ahead ++ xs)) none ∙ ap has_magic (append-nil ahead) ∙ none_here
    by false long = no_magic_more ahead later (ltb-false (length ahead) 8 long) none_here

-- no event follows
pub record StopsAt (there : Standing) (end : CaptureEnd) (later : List ℕ) : Type 0 where
  pub events : events_at (with_octets there later) ≡ []
  pub reason : end_at (with_octets there later) ≡ end

pub stops : (there : Standing) (end : CaptureEnd) (later : List ℕ) → judged_at there ≡ Err end → past_magic there ≡ there → (IsTrue (is_open there) → later ≡ []) → StopsAt there end later
stops there end later is normal last =
    let both = ends_more there.flows there.most there.begun there.used there.moment there.ahead later end is normal last in
    record { events = both.0; reason = both.1 }

-- what is read of the event at the front stands there, and its octets are allowed
pub record StandsWhole (there : Standing) (width : ℕ) : Type 0 where
  pub here : width ≤ length there.ahead
  pub some : 1 ≤ length (take width there.ahead)
  pub header : header_width (kind_of (take width there.ahead)) ≤ length (take width there.ahead)
  pub within : there.used + width ≤ there.most
  pub short : length (octets_of (take width there.ahead)) ≤ LONGEST

stands_by : (flows : Bool) (most : ℕ) (begun : Bool) (used moment : ℕ) (ahead : List ℕ) (width : ℕ) → judged_at (at flows most begun used moment ahead) ≡ Ok width → StandsWhole (at flows most begun used moment ahead) width
stands_by flows most false used moment ahead width is = absurd (no (Err BadMagic) refl is)
  where
    no : (r : Result ℕ CaptureEnd) → r ≡ Err BadMagic → r ≡ Ok width → ⊥
    no r e f = cc
stands_by flows most true used moment ahead width is =
    let whole = whole_event flows most used ahead width is in
    let header = header_in_event flows most used ahead width whole in
    record { here = whole.here; some = header.0; header = header.1; within = whole.allowed; short = own_is_short flows most used ahead width is }

pub stands : (there : Standing) (width : ℕ) → judged_at there ≡ Ok width → StandsWhole there width
stands there width is = stands_by there.flows there.most there.begun there.used there.moment there.ahead width is

-- an undecided place has no event
pub open_is_err : (there : Standing) → IsTrue (is_open there) → (end : CaptureEnd) × (judged_at there ≡ Err end)
open_is_err there opened = by there.begun opened
  where
    found : (r : Result ℕ CaptureEnd) → may_turn r ≡ true → (end : CaptureEnd) × (r ≡ Err end)
    found (Ok width) h = absurd (no h)
      where
        no : false ≡ true → ⊥
        no e = cc
    found (Err end) h = (end, refl)

    by : (b : Bool) → (if b then may_turn (judged there.flows there.most there.used there.ahead) else nat_lt (length there.ahead) 8) ≡ true
        → (end : CaptureEnd) × ((if b then judged there.flows there.most there.used there.ahead else Err BadMagic) ≡ Err end)
    by true h = found (judged there.flows there.most there.used there.ahead) h
    by false h = (BadMagic, refl)

-- taking octets changes nothing but what was read
pub record IsSame (there other : Standing) : Type 0 where
  pub flows : there.flows ≡ other.flows
  pub most : there.most ≡ other.most
  pub moment : there.moment ≡ other.moment

same_by : (flows : Bool) (most : ℕ) (begun : Bool) (used moment : ℕ) (ahead octets : List ℕ) → IsSame (with_octets (at flows most begun used moment ahead) octets) (at flows most begun used moment ahead)
same_by flows most true used moment ahead octets = record { flows = refl; most = refl; moment = refl }
same_by flows most false used moment ahead octets = by (has_magic (ahead ++ octets))
  where
    by : (b : Bool) → IsSame (if b then at flows most true used moment (drop 8 (ahead ++ octets)) else at flows most false used moment (ahead ++ octets)) (at flows most false used moment ahead)
    by true = record { flows = refl; most = refl; moment = refl }
    by false = record { flows = refl; most = refl; moment = refl }

pub same_with : (there : Standing) (octets : List ℕ) → IsSame (with_octets there octets) there
same_with there octets = same_by there.flows there.most there.begun there.used there.moment there.ahead octets
