-- What an event's spelling is read as.
use Rattle.std.proofs.Common.{◌≡◌, ◌≤◌, ◌<◌, ℕ, zero, suc, ◌+◌, ◌*◌, ◌^◌, ◌∙◌, Bool, true, false, List, [], ◌∷◌, ◌++◌, length, take, drop, Ok, refl, sym, ap, subst, length-append, arith}
use mathlib.Core.HLevel.{is_prop→PathP}
use Rattle.std.proofs.Math.Bool.{Bool-set}
use Rattle.std.specs.Prelude.{max, nat_lt, flat_map, All, ◌==◌}
use Rattle.std.proofs.lemmas.Bool.{le-ltb, ne_eqb}
use Rattle.std.proofs.Math.Seq.{take-append_seam, drop-append_seam}
use Rattle.std.proofs.lemmas.List.{append-nil}
use Rattle.byteorder.specs.Numbers.{big_number-reads_back}
use Rattle.acct_types.specs.Numbers.{number_at}
use Rattle.acct_types.specs.declared.addr.Addr.{Addr}
use Rattle.acct_types.specs.declared.addr.Addr.TheVariants.{V4, V6}
use Rattle.acct_types.specs.declared.datagram.Datagram.{Datagram}
use Rattle.acct_types.specs.declared.route_event.Side.{Side}
use Rattle.acct_types.specs.declared.route_event.Side.TheVariants.{Bgp, Bmp}
use Rattle.acct_types.specs.declared.route_event.Act.{Act}
use Rattle.acct_types.specs.declared.route_event.Act.TheVariants.{Up, Bytes, Down, Tick}
use Rattle.acct_types.specs.declared.route_event.RouteEvent.{RouteEvent}
use Rattle.acct_types.specs.RouteEvents.{act_octets, has_its_side}
use Rattle.capture_file.specs.declared.flows.CaptureEnd.TheVariants.{Ended}
use Rattle.capture_file.specs.Event.{judged, is_kind, kind_of, low_half, header_width, event_width, length_of, most_octets, stamp_of, address_of, port_of, datagram_at, reads_its_side, route_event_at, side_of, act_of, event_spelling, spelling_of, route_spelling_of, low_half_spelling, high_half_spelling, LONGEST}
use Rattle.capture_file.specs.Capture.{magic, events_from, end_from, read_behind}
use Rattle.capture_file.proofs.Events.{events_whole, end_whole, events_none, end_none, none_left}
use Rattle.capture_file.specs.Laws.{NeverFall, ReadsBack, ReadsRoutesBack, FitsAddress, FitsEvent, FitsRouteEvent, IsReadAgain, spellings_of, route_spellings_of}

pub datagrams_rise : (moment : ℕ) (events : List (List ℕ)) → NeverFall (λ (d : Datagram). d.moment) moment (read_behind datagram_at moment events)
datagrams_rise moment [] = tt
datagrams_rise moment (event ∷ events) = (omega arith, datagrams_rise (max moment (stamp_of event)) events)

pub route_events_rise : (moment : ℕ) (events : List (List ℕ)) → NeverFall (λ (e : RouteEvent). e.moment) moment (read_behind route_event_at moment events)
route_events_rise moment [] = tt
route_events_rise moment (event ∷ events) = (omega arith, route_events_rise (max moment (stamp_of event)) events)

-- an event that no rule refuses
judged_ok : (flows : Bool) (most used : ℕ) (octets : List ℕ) → is_kind flows (kind_of octets) ≡ true → length_of octets ≤ most_octets (kind_of octets)
    → used + event_width octets ≤ most → event_width octets ≤ length octets → judged flows most used octets ≡ Ok (event_width octets)
unfolding judged
judged_ok flows most used octets kind longest allowed here =
    let some : (length octets == 0) ≡ false = ne_eqb _ _ (λ e. omega (arith, e)) in
    let header : nat_lt (length octets) (header_width (kind_of octets)) ≡ false = le-ltb _ _ (omega arith) in
    let short : nat_lt (most_octets (kind_of octets)) (length_of octets) ≡ false = le-ltb _ _ longest in
    let within : nat_lt most (used + event_width octets) ≡ false = le-ltb _ _ allowed in
    let whole : nat_lt (length octets) (event_width octets) ≡ false = le-ltb _ _ here in
    rw (some, kind, header, short, within, whole) refl

low_of : (high low : ℕ) → low < 16 → low_half (16 * high + low) ≡ low
low_of high low h = omega arith

-- the numbers of a spelling are those of its parts
pub record IsSpelled (octets : List ℕ) (high stamp : ℕ) (address : Addr) (port : ℕ) (own : List ℕ) : Type 0 where
  pub has_kind : kind_of octets ≡ 16 * high + low_half_spelling address
  pub has_stamp : stamp_of octets ≡ stamp
  pub has_address : address_of octets ≡ address
  pub has_port : port_of octets ≡ port
  pub size : length_of octets ≡ length own

is_spelled : (high stamp : ℕ) (address : Addr) (port : ℕ) (own rest : List ℕ) → stamp < 2 ^ 64 → FitsAddress address → port < 2 ^ 16 → length own ≤ LONGEST
    → IsSpelled (event_spelling high stamp address port own ++ rest) high stamp address port own
unfolding number_at
is_spelled high stamp (V4 number) port own rest stamp_fits number_fits port_fits short =
    let low = low_of high 4 (omega arith) in
    record {
      has_kind = refl;
      has_stamp = big_number-reads_back 8 stamp [] stamp_fits;
      has_address = rw low (ap V4 (big_number-reads_back 4 number [] number_fits));
      has_port = rw low (big_number-reads_back 2 port [] port_fits);
      size = rw low (big_number-reads_back 4 (length own) [] (omega (arith, short)));
    }
is_spelled high stamp (V6 number) port own rest stamp_fits number_fits port_fits short =
    let low = low_of high 6 (omega arith) in
    record {
      has_kind = refl;
      has_stamp = big_number-reads_back 8 stamp [] stamp_fits;
      has_address = rw low (ap V6 (big_number-reads_back 16 number [] number_fits));
      has_port = rw low (big_number-reads_back 2 port [] port_fits);
      size = rw low (big_number-reads_back 4 (length own) [] (omega (arith, short)));
    }

-- where the header is spelled, the octets begin
pub record IsLaidOut (high stamp : ℕ) (address : Addr) (port : ℕ) (own : List ℕ) : Type 0 where
  pub width : length (event_spelling high stamp address port own) ≡ header_width (16 * high + low_half_spelling address) + length own
  pub back : drop (header_width (16 * high + low_half_spelling address)) (event_spelling high stamp address port own) ≡ own

pub is_laid_out : (high stamp : ℕ) (address : Addr) (port : ℕ) (own : List ℕ) → IsLaidOut high stamp address port own
is_laid_out high stamp (V4 number) port own = let low = low_of high 4 (omega arith) in record { width = rw low (omega arith); back = rw low refl }
is_laid_out high stamp (V6 number) port own = let low = low_of high 6 (omega arith) in record { width = rw low (omega arith); back = rw low refl }

-- a spelling is an event, whatever follows
spelling_is_judged : (flows : Bool) (most used high stamp : ℕ) (address : Addr) (port : ℕ) (own rest : List ℕ)
    → is_kind flows (16 * high + low_half_spelling address) ≡ true → length own ≤ most_octets (16 * high + low_half_spelling address)
    → stamp < 2 ^ 64 → FitsAddress address → port < 2 ^ 16 → length own ≤ LONGEST → used + length (event_spelling high stamp address port own) ≤ most
    → judged flows most used (event_spelling high stamp address port own ++ rest) ≡ Ok (length (event_spelling high stamp address port own))
spelling_is_judged flows most used high stamp address port own rest allowed_kind few stamp_fits number_fits port_fits short allowed =
    let octets = event_spelling high stamp address port own ++ rest in
    let spelled = is_spelled high stamp address port own rest stamp_fits number_fits port_fits short in
    let laid = is_laid_out high stamp address port own in
    let wide : event_width octets ≡ length (event_spelling high stamp address port own) =
    ap (λ (kind : ℕ). header_width kind + length_of octets) spelled.has_kind ∙ ap (λ (n : ℕ). header_width (16 * high + low_half_spelling address) + n) spelled.size ∙ sym laid.width in
    let kind : is_kind flows (kind_of octets) ≡ true = ap (is_kind flows) spelled.has_kind ∙ allowed_kind in
    let little : length_of octets ≤ most_octets (kind_of octets) =
    subst (λ (k : ℕ). length_of octets ≤ most_octets k) (sym spelled.has_kind) (subst (λ (n : ℕ). n ≤ most_octets (16 * high + low_half_spelling address)) (sym spelled.size) few) in
    judged_ok flows most used octets kind little (omega (arith, wide, allowed)) (omega (arith, wide, length-append (event_spelling high stamp address port own) rest))
    ∙ ap Ok wide

again : {E : Type 0} (flows : Bool) (read : ℕ → List ℕ → E) (spelling : List ℕ) (event : E) (moment most used : ℕ) (later : List ℕ)
    → judged flows most used (spelling ++ later) ≡ Ok (length spelling) → read moment spelling ≡ event → IsReadAgain flows read spelling event moment most used later
again flows read spelling event moment most used later whole same = record {
  whole = whole;
  same = ap (read moment) (take-append_seam spelling later) ∙ same;
  rest = drop-append_seam spelling later;
}

flow_kind : (address : Addr) → is_kind true (16 * 0 + low_half_spelling address) ≡ true
flow_kind (V4 number) = refl
flow_kind (V6 number) = refl

flow_octets : (address : Addr) → most_octets (16 * 0 + low_half_spelling address) ≡ LONGEST
flow_octets (V4 number) = refl
flow_octets (V6 number) = refl

flow_is_read : (moment stamp : ℕ) (address : Addr) (port : ℕ) (own : List ℕ) → let d : Datagram = record { moment = stamp; exporter = address; port = port; octets = own } in
    moment ≤ stamp → FitsEvent d → datagram_at moment (spelling_of d) ≡ d
flow_is_read moment stamp address port own later fits =
    let octets = event_spelling 0 stamp address port own in
    let spelled : IsSpelled octets 0 stamp address port own =
    subst (λ (xs : List ℕ). IsSpelled xs 0 stamp address port own) (append-nil octets) (is_spelled 0 stamp address port own [] fits.moment fits.exporter fits.port fits.octets) in
    let laid = is_laid_out 0 stamp address port own in
    let rises : max moment (stamp_of octets) ≡ stamp = ap (max moment) spelled.has_stamp ∙ omega arith in
    λ i. record { moment = rises i; exporter = spelled.has_address i; port = spelled.has_port i; octets = laid.back i }

pub flow_again : (moment most used : ℕ) (d : Datagram) (later : List ℕ) → moment ≤ d.moment → FitsEvent d → used + length (spelling_of d) ≤ most
    → IsReadAgain true datagram_at (spelling_of d) d moment most used later
flow_again moment most used d later rises fits allowed =
    again true datagram_at (spelling_of d) d moment most used later
    (spelling_is_judged true most used 0 d.moment d.exporter d.port d.octets later (flow_kind d.exporter) (omega (arith, fits.octets, flow_octets d.exporter)) fits.moment fits.exporter fits.port fits.octets allowed)
    (flow_is_read moment d.moment d.exporter d.port d.octets rises fits)

route_kind : (side : Side) (act : Act) (address : Addr) → is_kind false (16 * high_half_spelling side act + low_half_spelling address) ≡ true
route_kind Bgp Up (V4 number) = refl
route_kind Bgp Up (V6 number) = refl
route_kind Bgp (Bytes octets) (V4 number) = refl
route_kind Bgp (Bytes octets) (V6 number) = refl
route_kind Bgp Down (V4 number) = refl
route_kind Bgp Down (V6 number) = refl
route_kind Bmp Up (V4 number) = refl
route_kind Bmp Up (V6 number) = refl
route_kind Bmp (Bytes octets) (V4 number) = refl
route_kind Bmp (Bytes octets) (V6 number) = refl
route_kind Bmp Down (V4 number) = refl
route_kind Bmp Down (V6 number) = refl
route_kind Bgp Tick (V4 number) = refl
route_kind Bgp Tick (V6 number) = refl
route_kind Bmp Tick (V4 number) = refl
route_kind Bmp Tick (V6 number) = refl

route_octets : (side : Side) (act : Act) (address : Addr) → length (act_octets act) ≤ LONGEST → length (act_octets act) ≤ most_octets (16 * high_half_spelling side act + low_half_spelling address)
route_octets Bgp (Bytes octets) (V4 number) short = short
route_octets Bgp (Bytes octets) (V6 number) short = short
route_octets Bmp (Bytes octets) (V4 number) short = short
route_octets Bmp (Bytes octets) (V6 number) short = short
route_octets side Up address short = omega arith
route_octets side Down address short = omega arith
route_octets side Tick address short = omega arith

no_side : false ≡ true → ⊥
no_side e = cc

-- a route event's own octets and its side are those of its spelling
route_act : (side : Side) (act : Act) (stamp : ℕ) (address : Addr) (port : ℕ) → has_its_side side act ≡ true
    → (side_of (event_spelling (high_half_spelling side act) stamp address port (act_octets act)) ≡ side) × (act_of (event_spelling (high_half_spelling side act) stamp address port (act_octets act)) ≡ act)
route_act Bgp Up stamp (V4 number) port ok = (refl, refl)
route_act Bgp Up stamp (V6 number) port ok = (refl, refl)
route_act Bgp (Bytes octets) stamp (V4 number) port ok = (refl, refl)
route_act Bgp (Bytes octets) stamp (V6 number) port ok = (refl, refl)
route_act Bgp Down stamp (V4 number) port ok = (refl, refl)
route_act Bgp Down stamp (V6 number) port ok = (refl, refl)
route_act Bmp Up stamp (V4 number) port ok = (refl, refl)
route_act Bmp Up stamp (V6 number) port ok = (refl, refl)
route_act Bmp (Bytes octets) stamp (V4 number) port ok = (refl, refl)
route_act Bmp (Bytes octets) stamp (V6 number) port ok = (refl, refl)
route_act Bmp Down stamp (V4 number) port ok = (refl, refl)
route_act Bmp Down stamp (V6 number) port ok = (refl, refl)
route_act Bgp Tick stamp (V4 number) port ok = (refl, refl)
route_act Bgp Tick stamp (V6 number) port ok = (refl, refl)
route_act Bmp Tick stamp (V4 number) port ok = absurd (no_side ok)
route_act Bmp Tick stamp (V6 number) port ok = absurd (no_side ok)

route_is_read : (moment : ℕ) (e : RouteEvent) → moment ≤ e.moment → FitsRouteEvent e → route_event_at moment (route_spelling_of e) ≡ e
route_is_read moment e later fits =
    let high = high_half_spelling e.side e.act in
    let octets = event_spelling high e.moment e.address e.port (act_octets e.act) in
    let spelled : IsSpelled octets high e.moment e.address e.port (act_octets e.act) =
    subst (λ (xs : List ℕ). IsSpelled xs high e.moment e.address e.port (act_octets e.act)) (append-nil octets) (is_spelled high e.moment e.address e.port (act_octets e.act) [] fits.moment fits.address fits.port fits.octets) in
    let rises : max moment (stamp_of octets) ≡ e.moment = ap (max moment) spelled.has_stamp ∙ omega arith in
    let own = route_act e.side e.act e.moment e.address e.port e.of_its_side in
    let of_its_side = is_prop→PathP (λ j. has_its_side (own.0 j) (own.1 j) ≡ true) (λ j. Bool-set _ _) (reads_its_side octets) e.of_its_side in
    λ i. record { moment = rises i; side = own.0 i; address = spelled.has_address i; port = spelled.has_port i; act = own.1 i; of_its_side = of_its_side i }

pub route_again : (moment most used : ℕ) (e : RouteEvent) (later : List ℕ) → moment ≤ e.moment → FitsRouteEvent e → used + length (route_spelling_of e) ≤ most
    → IsReadAgain false route_event_at (route_spelling_of e) e moment most used later
route_again moment most used e later rises fits allowed =
    again false route_event_at (route_spelling_of e) e moment most used later
    (spelling_is_judged false most used (high_half_spelling e.side e.act) e.moment e.address e.port (act_octets e.act) later (route_kind e.side e.act e.address) (route_octets e.side e.act e.address fits.octets) fits.moment fits.address fits.port fits.octets allowed)
    (route_is_read moment e rises fits)

-- what is written of a list of events is read as this list, to its end
module _ {E : Type 0} (flows : Bool) (read : ℕ → List ℕ → E) (spell : E → List ℕ) (moment_of : E → ℕ) (Fits : E → Type 0)
    (known : (moment most used : ℕ) (e : E) (later : List ℕ) → moment ≤ moment_of e → Fits e → used + length (spell e) ≤ most → IsReadAgain flows read (spell e) e moment most used later)
    (stamped : (e : E) → Fits e → stamp_of (spell e) ≡ moment_of e) (some : (e : E) → 0 < length (spell e)) where
  pub events_read : (fuel most used moment : ℕ) (es : List E) → NeverFall moment_of moment es → All Fits es → used + length (flat_map spell es) ≤ most
      → length (flat_map spell es) ≤ fuel → read_behind read moment (events_from flows fuel most used (flat_map spell es)) ≡ es
  events_read fuel most used moment [] rise fit allowed enough = ap (read_behind read moment) (events_none flows fuel most used [] Ended (none_left flows most used [] refl))
  events_read zero most used moment (e ∷ es) rise fit allowed enough = absurd (omega (arith, length-append (spell e) (flat_map spell es), some e))
  events_read (suc fuel) most used moment (e ∷ es) rise fit allowed enough =
      let size = length-append (spell e) (flat_map spell es) in
      let fits = fit 0 e (omega arith) in
      let one = known moment most used e (flat_map spell es) rise.0 fits (omega arith) in
      let left = events_from flows fuel most (used + length (spell e)) (drop (length (spell e)) (spell e ++ flat_map spell es)) in
      let next : max moment (stamp_of (take (length (spell e)) (spell e ++ flat_map spell es))) ≡ moment_of e =
      ap (λ (xs : List ℕ). max moment (stamp_of xs)) (take-append_seam (spell e) (flat_map spell es)) ∙ ap (max moment) (stamped e fits) ∙ omega (arith, rise.0) in
      ap (read_behind read moment) (events_whole flows fuel most used (spell e ++ flat_map spell es) (length (spell e)) one.whole)
      ∙ ap (λ (x : E). x ∷ read_behind read (max moment (stamp_of (take (length (spell e)) (spell e ++ flat_map spell es)))) left) one.same
      ∙ ap (λ (n : ℕ). e ∷ read_behind read n left) next
      ∙ ap (λ (xs : List ℕ). e ∷ read_behind read (moment_of e) (events_from flows fuel most (used + length (spell e)) xs)) one.rest
      ∙ ap (λ (xs : List E). e ∷ xs) (events_read fuel most (used + length (spell e)) (moment_of e) es rise.1 (λ k x h. fit (suc k) x (omega arith)) (omega arith) (omega (arith, size, some e)))

  pub end_read : (fuel most used moment : ℕ) (es : List E) → NeverFall moment_of moment es → All Fits es → used + length (flat_map spell es) ≤ most
      → length (flat_map spell es) ≤ fuel → end_from flows fuel most used (flat_map spell es) ≡ Ended
  end_read zero most used moment [] rise fit allowed enough = refl
  end_read (suc fuel) most used moment [] rise fit allowed enough = end_none flows fuel most used [] Ended (none_left flows most used [] refl)
  end_read zero most used moment (e ∷ es) rise fit allowed enough = absurd (omega (arith, length-append (spell e) (flat_map spell es), some e))
  end_read (suc fuel) most used moment (e ∷ es) rise fit allowed enough =
      let size = length-append (spell e) (flat_map spell es) in
      let fits = fit 0 e (omega arith) in
      let one = known moment most used e (flat_map spell es) rise.0 fits (omega arith) in
      end_whole flows fuel most used (spell e ++ flat_map spell es) (length (spell e)) one.whole
      ∙ ap (end_from flows fuel most (used + length (spell e))) one.rest
      ∙ end_read fuel most (used + length (spell e)) (moment_of e) es rise.1 (λ k x h. fit (suc k) x (omega arith)) (omega arith) (omega (arith, size, some e))

flow_stamp : (d : Datagram) → FitsEvent d → stamp_of (spelling_of d) ≡ d.moment
unfolding number_at
flow_stamp d fits = big_number-reads_back 8 d.moment [] fits.moment

route_stamp : (e : RouteEvent) → FitsRouteEvent e → stamp_of (route_spelling_of e) ≡ e.moment
unfolding number_at
route_stamp e fits = big_number-reads_back 8 e.moment [] fits.moment

pub flows_read_back : (most : ℕ) (ds : List Datagram) → NeverFall (λ (d : Datagram). d.moment) 0 ds → All FitsEvent ds → length (spellings_of ds) ≤ most → ReadsBack most ds
flows_read_back most ds rise fit few = record {
  datagrams = events_read true datagram_at spelling_of (λ d. d.moment) FitsEvent flow_again flow_stamp (λ d. omega arith) (length (magic ++ spellings_of ds)) most 0 0 ds rise fit (omega (arith, few)) (omega (arith, length-append magic (spellings_of ds)));
  end = end_read true datagram_at spelling_of (λ d. d.moment) FitsEvent flow_again flow_stamp (λ d. omega arith) (length (magic ++ spellings_of ds)) most 0 0 ds rise fit (omega (arith, few)) (omega (arith, length-append magic (spellings_of ds)));
}

pub routes_read_back : (most : ℕ) (es : List RouteEvent) → NeverFall (λ (e : RouteEvent). e.moment) 0 es → All FitsRouteEvent es → length (route_spellings_of es) ≤ most → ReadsRoutesBack most es
routes_read_back most es rise fit few = record {
  events = events_read false route_event_at route_spelling_of (λ e. e.moment) FitsRouteEvent route_again route_stamp (λ e. omega arith) (length (magic ++ route_spellings_of es)) most 0 0 es rise fit (omega (arith, few)) (omega (arith, length-append magic (route_spellings_of es)));
  end = end_read false route_event_at route_spelling_of (λ e. e.moment) FitsRouteEvent route_again route_stamp (λ e. omega arith) (length (magic ++ route_spellings_of es)) most 0 0 es rise fit (omega (arith, few)) (omega (arith, length-append magic (route_spellings_of es)));
}
