-- How many octets the datagrams of a capture have.
use Rattle.std.proofs.Common.{◌≡◌, ◌∙◌, ◌≤◌, ◌+◌, ◌-◌, ℕ, zero, suc, Bool, true, false, List, [], ◌∷◌, Result, Ok, Err, length, take, drop, max, refl, ap, arith, length-drop}
use Rattle.std.specs.Prelude.{if◌then◌else◌, ◌*◌, map, sum, sum_by}
use Rattle.std.proofs.lemmas.List.{get_or-take, length-take-le}
use Rattle.std.proofs.lemmas.List.Sums.{sum-map, sum_by-cons}
use Rattle.acct_types.specs.declared.addr.Addr.TheVariants.{V4, V6}
use Rattle.acct_types.specs.declared.datagram.Datagram.{Datagram}
use Rattle.capture_file.specs.declared.flows.CaptureEnd.{CaptureEnd}
use Rattle.capture_file.specs.Capture.{read_behind, datagrams_of, events_from, has_magic}
use Rattle.capture_file.specs.Event.{LONGEST, address_of, datagram_at, low_half_spelling, port_of, spelling_of, header_width, judged, kind_of, length_of, most_octets, octets_of, stamp_of}
use Rattle.capture_file.specs.Laws.{FitIn}
use Rattle.capture_file.proofs.Spelling.{is_laid_out}
use Rattle.capture_file.proofs.Events.{events_none, events_whole, takes_some, whole_event}

-- no kind has more octets than an event may carry
most_is : (kind : ℕ) → most_octets kind ≤ LONGEST
most_is kind = grind arith

-- the octets of a datagram are those that its event counts
short_event : (flows : Bool) (most used : ℕ) (octets : List ℕ) (width : ℕ) → judged flows most used octets ≡ Ok width → length_of octets ≤ LONGEST
short_event flows most used octets width is =
    let short = (whole_event flows most used octets width is).short in
    let most = most_is (kind_of octets) in
    omega (arith, short, most)

counted : (flows : Bool) (most used moment : ℕ) (octets : List ℕ) (width : ℕ) → judged flows most used octets ≡ Ok width → length (datagram_at moment (take width octets)).octets ≡ length_of octets
counted flows most used moment octets width is =
    let whole = whole_event flows most used octets width is in
    let some = takes_some flows most used octets width whole in
    let taken : length (take width octets) ≡ width = length-take-le width octets whole.here in
    let kind : kind_of (take width octets) ≡ kind_of octets = get_or-take width octets 0 0 (omega arith) in
    rw (length-drop, taken, kind) (omega (arith, whole.same))

pub own_is_short : (flows : Bool) (most used : ℕ) (octets : List ℕ) (width : ℕ) → judged flows most used octets ≡ Ok width → length (octets_of (take width octets)) ≤ LONGEST
own_is_short flows most used octets width is =
    let same = counted flows most used 0 octets width is in
    let short = short_event flows most used octets width is in
    omega (arith, same, short)

-- the event that a datagram is written as is as wide as the one that it was read of
same_header : (is_v4 : Bool) (short long : ℕ) → header_width (16 * 0 + low_half_spelling (if is_v4 then V4 short else V6 long)) ≡ 15 + (if is_v4 then 4 else 16)
same_header true short long = refl
same_header false short long = refl

width_of : Datagram → ℕ
width_of d = length (spelling_of d)

same_width : (flows : Bool) (most used moment : ℕ) (octets : List ℕ) (width : ℕ) → judged flows most used octets ≡ Ok width → width_of (datagram_at moment (take width octets)) ≡ width
unfolding width_of
same_width flows most used moment octets width is =
    let event = take width octets in
    let laid = is_laid_out 0 (max moment (stamp_of event)) (address_of event) (port_of event) (octets_of event) in
    let whole = whole_event flows most used octets width is in
    let some = takes_some flows most used octets width whole in
    let kind : kind_of event ≡ kind_of octets = get_or-take width octets 0 0 (omega arith) in
    let header : header_width (16 * 0 + low_half_spelling (address_of event)) ≡ header_width (kind_of octets) = same_header _ _ _ ∙ ap header_width kind in
    let own = counted flows most used moment octets width is in
    omega (arith, laid.width, header, own, whole.same)

-- more room is enough
more_room : (some more : ℕ) (ds : List Datagram) → some ≤ more → FitIn some ds → FitIn more ds
more_room some more [] h fits = tt
more_room some more (d ∷ ds) h fits =
    let first = fits.1 in
    (fits.0, omega (arith, first), more_room (some - length (spelling_of d)) (more - length (spelling_of d)) ds (omega (arith, h)) fits.2)

pub fit_in : (flows : Bool) (fuel most used moment : ℕ) (octets : List ℕ) → used ≤ most → FitIn (most - used) (read_behind datagram_at moment (events_from flows fuel most used octets))
unfolding width_of
fit_in flows zero most used moment octets h = tt
fit_in flows (suc fuel) most used moment octets h = by_event (λ width. fit_in flows fuel most (used + width) (max moment (stamp_of (take width octets))) (drop width octets)) (judged flows most used octets) refl
  where
    by_event : ((width : ℕ) → used + width ≤ most → FitIn (most - (used + width)) (read_behind datagram_at (max moment (stamp_of (take width octets))) (events_from flows fuel most (used + width) (drop width octets))))
        → (r : Result ℕ CaptureEnd) → judged flows most used octets ≡ r → FitIn (most - used) (read_behind datagram_at moment (events_from flows (suc fuel) most used octets))
    by_event later (Err end) e = rw (events_none flows (suc fuel) most used octets end e) tt
    by_event later (Ok width) e =
        let whole = whole_event flows most used octets width e in
        let allowed = whole.allowed in
        let wide : length (spelling_of (datagram_at moment (take width octets))) ≡ width = same_width flows most used moment octets width e in
        let has = counted flows most used moment octets width e in
        let short = short_event flows most used octets width e in
        rw (events_whole flows fuel most used octets width e)
        (omega (arith, has, short), omega (arith, wide, allowed), more_room _ _ _ (omega (arith, wide, allowed)) (later width allowed))

pub fits : (most : ℕ) (octets : List ℕ) → FitIn most (datagrams_of most octets)
fits most octets = by (has_magic octets)
  where
    by : (b : Bool) → FitIn most (read_behind datagram_at 0 (if b then events_from true (length octets) most 0 (drop 8 octets) else []))
    by true = more_room (most - 0) most _ (omega arith) (fit_in true (length octets) most 0 0 (drop 8 octets) (omega arith))
    by false = tt

widths : (flows : Bool) (fuel most used moment : ℕ) (octets : List ℕ) → used ≤ most → used + sum_by width_of (read_behind datagram_at moment (events_from flows fuel most used octets)) ≤ most
widths flows zero most used moment octets h = omega (arith, h)
widths flows (suc fuel) most used moment octets h = by_event (λ width. widths flows fuel most (used + width) (max moment (stamp_of (take width octets))) (drop width octets)) (judged flows most used octets) refl
  where
    by_event : ((width : ℕ) → used + width ≤ most → used + width + sum_by width_of (read_behind datagram_at (max moment (stamp_of (take width octets))) (events_from flows fuel most (used + width) (drop width octets))) ≤ most)
        → (r : Result ℕ CaptureEnd) → judged flows most used octets ≡ r → used + sum_by width_of (read_behind datagram_at moment (events_from flows (suc fuel) most used octets)) ≤ most
    by_event later (Err end) e = rw (events_none flows (suc fuel) most used octets end e) (omega (arith, h))
    by_event later (Ok width) e =
        let allowed = (whole_event flows most used octets width e).allowed in
        let rest = read_behind datagram_at (max moment (stamp_of (take width octets))) (events_from flows fuel most (used + width) (drop width octets)) in
        let size = sum_by-cons width_of (datagram_at moment (take width octets)) rest in
        let same = same_width flows most used moment octets width e in
        rw (events_whole flows fuel most used octets width e) (omega (arith, size, same, later width allowed))

pub spelled_fits : (most : ℕ) (octets : List ℕ) → sum (map (λ (d : Datagram). length (spelling_of d)) (datagrams_of most octets)) ≤ most
unfolding width_of
spelled_fits most octets = rw sum-map (by (has_magic octets))
  where
    by : (b : Bool) → sum_by width_of (read_behind datagram_at 0 (if b then events_from true (length octets) most 0 (drop 8 octets) else [])) ≤ most
    by true = let all = widths true (length octets) most 0 0 (drop 8 octets) (omega arith) in omega (arith, all)
    by false = omega arith
