-- The events at the front of octets, one after another.
use Rattle.std.proofs.Common.{◌≡◌, ◌≤◌, ◌<◌, ℕ, zero, suc, ◌+◌, ◌∙◌, Bool, true, false, max, List, [], ◌∷◌, ◌++◌, length, take, drop, Result, Ok, Err, refl, sym, ap, append_assoc, length-drop, arith}
use Rattle.std.proofs.lemmas.List.{nil_from_length, get_or-take, length-take-le}
use Rattle.std.proofs.lemmas.Bool.{eqb-false, ltb-false, not-false}
use Rattle.std.specs.Prelude.{not, nat_lt, ◌==◌, if◌then◌else◌}
use Rattle.capture_file.specs.declared.flows.CaptureEnd.{CaptureEnd}
use Rattle.capture_file.specs.declared.flows.CaptureEnd.TheVariants.{Ended, BadKind, Torn, TooLong, TooMany}
use Rattle.capture_file.specs.Event.{judged, is_kind, kind_of, header_width, event_width, length_of, most_octets, stamp_of}
use Rattle.capture_file.specs.Capture.{events_from, end_from, read_behind}

-- an event of this width stands at the front
pub record IsWhole (flows : Bool) (most used : ℕ) (octets : List ℕ) (width : ℕ) : Type 0 where
  pub some : 1 ≤ length octets
  pub allowed_kind : is_kind flows (kind_of octets) ≡ true
  pub short : length_of octets ≤ most_octets (kind_of octets)
  pub same : width ≡ event_width octets
  pub allowed : used + width ≤ most
  pub here : width ≤ length octets

-- the rules of a judgement, each by whether it holds
abbrev pub ruled : (none bad cut long many torn : Bool) (place width : ℕ) → Result ℕ CaptureEnd
ruled none bad cut long many torn place width =
    if none then Err Ended else (if bad then Err (BadKind place) else (if cut then Err (Torn place) else (if long then Err (TooLong place) else (if many then Err TooMany else (if torn then Err (Torn place) else Ok width)))))

-- none of them holds
record IsPassed (none bad cut long many torn : Bool) (width found : ℕ) : Type 0 where
  some : none ≡ false
  kind : bad ≡ false
  header : cut ≡ false
  short : long ≡ false
  few : many ≡ false
  here : torn ≡ false
  same : width ≡ found

passed : (none bad cut long many torn : Bool) (place width found : ℕ) → ruled none bad cut long many torn place width ≡ Ok found → IsPassed none bad cut long many torn width found
passed true bad cut long many torn place width found is = cc
passed false true cut long many torn place width found is = cc
passed false false true long many torn place width found is = cc
passed false false false true many torn place width found is = cc
passed false false false false true torn place width found is = cc
passed false false false false false true place width found is = cc
passed false false false false false false place width found is = record { some = refl; kind = refl; header = refl; short = refl; few = refl; here = refl; same = cc }

pub whole_event : (flows : Bool) (most used : ℕ) (octets : List ℕ) (width : ℕ) → judged flows most used octets ≡ Ok width → IsWhole flows most used octets width
unfolding judged
whole_event flows most used octets width is =
    let rules = passed (length octets == 0) (not (is_kind flows (kind_of octets))) (nat_lt (length octets) (header_width (kind_of octets))) (nat_lt (most_octets (kind_of octets)) (length_of octets))
    (nat_lt most (used + event_width octets)) (nat_lt (length octets) (event_width octets)) (8 + used) (event_width octets) width is in
    let same = rules.same in
    let some = eqb-false (length octets) 0 rules.some in
    let few = ltb-false most (used + event_width octets) rules.few in
    let here = ltb-false (length octets) (event_width octets) rules.here in
    record {
      some = omega (arith, some);
      allowed_kind = not-false (is_kind flows (kind_of octets)) rules.kind;
      short = ltb-false (most_octets (kind_of octets)) (length_of octets) rules.short;
      same = sym same;
      allowed = omega (arith, same, few);
      here = omega (arith, same, here);
    }

pub takes_some : (flows : Bool) (most used : ℕ) (octets : List ℕ) (width : ℕ) → IsWhole flows most used octets width → 0 < width
takes_some flows most used octets width whole = let same = whole.same in omega arith

-- no event stands where no octet is left
pub none_left : (flows : Bool) (most used : ℕ) (octets : List ℕ) → length octets ≡ 0 → judged flows most used octets ≡ Err Ended
unfolding judged
none_left flows most used octets none = rw (nil_from_length octets none) refl

-- one event
pub events_whole : (flows : Bool) (fuel most used : ℕ) (octets : List ℕ) (width : ℕ) → judged flows most used octets ≡ Ok width
    → events_from flows (suc fuel) most used octets ≡ take width octets ∷ events_from flows fuel most (used + width) (drop width octets)
events_whole flows fuel most used octets width e = rw (e, events_from) refl

pub end_whole : (flows : Bool) (fuel most used : ℕ) (octets : List ℕ) (width : ℕ) → judged flows most used octets ≡ Ok width
    → end_from flows (suc fuel) most used octets ≡ end_from flows fuel most (used + width) (drop width octets)
end_whole flows fuel most used octets width e = rw (e, end_from) refl

-- no event
pub events_none : (flows : Bool) (fuel most used : ℕ) (octets : List ℕ) (end : CaptureEnd) → judged flows most used octets ≡ Err end → events_from flows fuel most used octets ≡ []
events_none flows zero most used octets end e = refl
events_none flows (suc fuel) most used octets end e = rw (e, events_from) refl

pub end_none : (flows : Bool) (fuel most used : ℕ) (octets : List ℕ) (end : CaptureEnd) → judged flows most used octets ≡ Err end → end_from flows (suc fuel) most used octets ≡ end
end_none flows fuel most used octets end e = rw (e, end_from) refl

-- an event takes an octet of the fuel at least
shorter : (flows : Bool) (fuel most used : ℕ) (octets : List ℕ) (width : ℕ) → judged flows most used octets ≡ Ok width → length octets ≤ suc fuel → length (drop width octets) ≤ fuel
shorter flows fuel most used octets width e h =
    let whole = whole_event flows most used octets width e in
    let wide = takes_some flows most used octets width whole in
    let here = whole.here in
    rw length-drop (omega arith)

-- more fuel than octets changes nothing
pub same_events : (flows : Bool) (some more most used : ℕ) (octets : List ℕ) → length octets ≤ some → length octets ≤ more
    → events_from flows some most used octets ≡ events_from flows more most used octets
same_events flows zero more most used octets h k = sym (events_none flows more most used octets Ended (none_left flows most used octets (omega arith)))
same_events flows (suc some) zero most used octets h k = events_none flows (suc some) most used octets Ended (none_left flows most used octets (omega arith))
same_events flows (suc some) (suc more) most used octets h k =
    by_event (λ width. same_events flows some more most (used + width) (drop width octets)) (judged flows most used octets) refl
  where
    by_event : ((width : ℕ) → length (drop width octets) ≤ some → length (drop width octets) ≤ more
        → events_from flows some most (used + width) (drop width octets) ≡ events_from flows more most (used + width) (drop width octets))
        → (r : Result ℕ CaptureEnd) → judged flows most used octets ≡ r → events_from flows (suc some) most used octets ≡ events_from flows (suc more) most used octets
    by_event later (Err end) e = events_none flows (suc some) most used octets end e ∙ sym (events_none flows (suc more) most used octets end e)
    by_event later (Ok width) e =
        events_whole flows some most used octets width e
        ∙ ap (λ (events : List (List ℕ)). take width octets ∷ events) (later width (shorter flows some most used octets width e h) (shorter flows more most used octets width e k))
        ∙ sym (events_whole flows more most used octets width e)

pub same_end : (flows : Bool) (some more most used : ℕ) (octets : List ℕ) → length octets ≤ some → length octets ≤ more
    → end_from flows some most used octets ≡ end_from flows more most used octets
same_end flows zero zero most used octets h k = refl
same_end flows zero (suc more) most used octets h k = sym (end_none flows more most used octets Ended (none_left flows most used octets (omega arith)))
same_end flows (suc some) zero most used octets h k = end_none flows some most used octets Ended (none_left flows most used octets (omega arith))
same_end flows (suc some) (suc more) most used octets h k =
    by_event (λ width. same_end flows some more most (used + width) (drop width octets)) (judged flows most used octets) refl
  where
    by_event : ((width : ℕ) → length (drop width octets) ≤ some → length (drop width octets) ≤ more
        → end_from flows some most (used + width) (drop width octets) ≡ end_from flows more most (used + width) (drop width octets))
        → (r : Result ℕ CaptureEnd) → judged flows most used octets ≡ r → end_from flows (suc some) most used octets ≡ end_from flows (suc more) most used octets
    by_event later (Err end) e = end_none flows some most used octets end e ∙ sym (end_none flows more most used octets end e)
    by_event later (Ok width) e =
        end_whole flows some most used octets width e
        ∙ later width (shorter flows some most used octets width e h) (shorter flows more most used octets width e k)
        ∙ sym (end_whole flows more most used octets width e)

pub events_next : (flows : Bool) (most used : ℕ) (octets : List ℕ) (width : ℕ) → judged flows most used octets ≡ Ok width
    → events_from flows (length octets) most used octets ≡ take width octets ∷ events_from flows (length (drop width octets)) most (used + width) (drop width octets)
events_next flows most used octets width e =
    let whole = whole_event flows most used octets width e in
    let left = length-drop width octets in
    let wide = takes_some flows most used octets width whole in
    same_events flows (length octets) (suc (length octets)) most used octets (omega arith) (omega arith)
    ∙ events_whole flows (length octets) most used octets width e
    ∙ ap (λ (events : List (List ℕ)). take width octets ∷ events)
    (same_events flows (length octets) (length (drop width octets)) most (used + width) (drop width octets) (omega (arith, left)) (omega arith))

pub end_next : (flows : Bool) (most used : ℕ) (octets : List ℕ) (width : ℕ) → judged flows most used octets ≡ Ok width
    → end_from flows (length octets) most used octets ≡ end_from flows (length (drop width octets)) most (used + width) (drop width octets)
end_next flows most used octets width e =
    let whole = whole_event flows most used octets width e in
    let left = length-drop width octets in
    same_end flows (length octets) (suc (length octets)) most used octets (omega arith) (omega arith)
    ∙ end_whole flows (length octets) most used octets width e
    ∙ same_end flows (length octets) (length (drop width octets)) most (used + width) (drop width octets) (omega (arith, left)) (omega arith)

pub end_here : (flows : Bool) (most used : ℕ) (octets : List ℕ) (end : CaptureEnd) → judged flows most used octets ≡ Err end → end_from flows (length octets) most used octets ≡ end
end_here flows most used octets end e =
    same_end flows (length octets) (suc (length octets)) most used octets (omega arith) (omega arith) ∙ end_none flows (length octets) most used octets end e

-- what is read of an event stands in it
pub header_in_event : (flows : Bool) (most used : ℕ) (octets : List ℕ) (width : ℕ) → IsWhole flows most used octets width
    → (1 ≤ length (take width octets)) × (header_width (kind_of (take width octets)) ≤ length (take width octets))
header_in_event flows most used octets width whole =
    let wide = takes_some flows most used octets width whole in
    let taken : length (take width octets) ≡ width = length-take-le width octets whole.here in
    let kind : kind_of (take width octets) ≡ kind_of octets = get_or-take width octets 0 0 (omega arith) in
    (omega arith, rw (taken, kind) (omega (arith, whole.same)))
