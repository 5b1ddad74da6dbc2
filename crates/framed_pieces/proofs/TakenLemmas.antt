-- What a listener makes of octets, one message after another.
use Rattle.std.proofs.Common.{◌≡◌, ◌∙◌, ◌++◌, [], ℕ, true, false, List, length, take, drop, refl, sym, ap}
use Rattle.std.proofs.Math.Seq.{drop-append_seam, take-append_seam}
use Rattle.std.specs.Prelude.{Bool, Option, Some, None, Result, Ok, Err, if◌then◌else◌}
use Rattle.framed_pieces.specs.Framing.{IsFraming}
use Rattle.framed_pieces.specs.Listening.{Listening, heard_all, judged, kept, taken}
use Rattle.framed_pieces.specs.Stream.{fault_at, messages, rest_of}
use Rattle.framed_pieces.proofs.StreamLemmas.{fault_bad, fault_none, messages_bad, messages_next, messages_none, rest_bad, rest_next, rest_none}

pub taken_none : {S F : Type 0} (framed : List ℕ → Result (Option ℕ) F) (listening : Listening S F) (state : S) (octets : List ℕ) → framed octets ≡ Ok None → taken framed listening state octets ≡ state
unfolding taken
taken_none framed listening state octets is =
    ap (λ (left : List ℕ). judged listening (heard_all listening state (messages framed octets)) (fault_at framed left)) (rest_none framed octets is)
    ∙ ap (judged listening (heard_all listening state (messages framed octets))) (fault_none framed octets is)
    ∙ ap (λ (all : List (List ℕ)). heard_all listening state all) (messages_none framed octets is)

pub taken_bad : {S F : Type 0} (framed : List ℕ → Result (Option ℕ) F) (listening : Listening S F) (state : S) (octets : List ℕ) (fault : F) → framed octets ≡ Err fault → listening.is_over state ≡ false
    → taken framed listening state octets ≡ listening.refuses state fault
unfolding taken
taken_bad framed listening state octets fault is live =
    ap (λ (left : List ℕ). judged listening (heard_all listening state (messages framed octets)) (fault_at framed left)) (rest_bad framed octets fault is)
    ∙ ap (judged listening (heard_all listening state (messages framed octets))) (fault_bad framed octets fault is)
    ∙ ap (λ (all : List (List ℕ)). judged listening (heard_all listening state all) (Some fault)) (messages_bad framed octets fault is)
    ∙ ap (λ (over : Bool). if over then state else listening.refuses state fault) live

pub at_end : {S F : Type 0} (listening : Listening S F) (state : S) (found : Option F) → listening.is_over state ≡ true → judged listening state found ≡ state
at_end listening state None over = refl
at_end listening state (Some fault) over = ap (λ (test : Bool). if test then state else listening.refuses state fault) over

-- the message with which it is over
pub taken_last : {S F : Type 0} (framed : List ℕ → Result (Option ℕ) F) (law : IsFraming framed) (listening : Listening S F) (state : S) (octets : List ℕ) (size : ℕ) → framed octets ≡ Ok (Some size)
    → listening.is_over (listening.hears state (take size octets)) ≡ true → taken framed listening state octets ≡ listening.hears state (take size octets)
unfolding taken
taken_last framed law listening state octets size is over =
    let found = fault_at framed (rest_of framed octets) in
    let one = listening.hears state (take size octets) in
    ap (λ (all : List (List ℕ)). judged listening (heard_all listening state all) found) (messages_next framed law octets size is)
    ∙ ap (λ (test : Bool). judged listening (if test then one else heard_all listening one (messages framed (drop size octets))) found) over
    ∙ at_end listening one found over

-- one behind which it goes on
pub taken_next : {S F : Type 0} (framed : List ℕ → Result (Option ℕ) F) (law : IsFraming framed) (listening : Listening S F) (state : S) (octets : List ℕ) (size : ℕ) → framed octets ≡ Ok (Some size)
    → listening.is_over (listening.hears state (take size octets)) ≡ false
    → taken framed listening state octets ≡ taken framed listening (listening.hears state (take size octets)) (drop size octets)
unfolding taken
taken_next framed law listening state octets size is live =
    let one = listening.hears state (take size octets) in
    let others = messages framed (drop size octets) in
    ap (λ (all : List (List ℕ)). judged listening (heard_all listening state all) (fault_at framed (rest_of framed octets))) (messages_next framed law octets size is)
    ∙ ap (λ (test : Bool). judged listening (if test then one else heard_all listening one others) (fault_at framed (rest_of framed octets))) live
    ∙ ap (λ (left : List ℕ). judged listening (heard_all listening one others) (fault_at framed left)) (rest_next framed law octets size is)

-- nothing is kept where it is over
pub kept_over : {S F : Type 0} (framed : List ℕ → Result (Option ℕ) F) (listening : Listening S F) (state after : S) (octets begun : List ℕ) → after ≡ taken framed listening state octets
    → listening.is_over after ≡ true → begun ≡ [] → begun ≡ kept framed listening state octets
kept_over framed listening state after octets begun is over empty =
    empty ∙ sym (ap (λ (test : Bool). if test then [] else rest_of framed octets) (ap listening.is_over (sym is) ∙ over))

pub kept_live : {S F : Type 0} (framed : List ℕ → Result (Option ℕ) F) (listening : Listening S F) (state after : S) (octets begun : List ℕ) → after ≡ taken framed listening state octets
    → listening.is_over after ≡ false → begun ≡ rest_of framed octets → begun ≡ kept framed listening state octets
kept_live framed listening state after octets begun is live rest =
    rest ∙ sym (ap (λ (test : Bool). if test then [] else rest_of framed octets) (ap listening.is_over (sym is) ∙ live))

pub kept_same : {S F : Type 0} (framed : List ℕ → Result (Option ℕ) F) (listening : Listening S F) (state other : S) (octets others : List ℕ) → taken framed listening state octets ≡ taken framed listening other others
    → rest_of framed octets ≡ rest_of framed others → kept framed listening state octets ≡ kept framed listening other others
kept_same framed listening state other octets others takes left =
    ap (λ (test : Bool). if test then [] else rest_of framed octets) (ap listening.is_over takes)
    ∙ ap (λ (rest : List ℕ). if listening.is_over (taken framed listening other others) then [] else rest) left

-- the message begun stands at the front of all
pub front : (begun rest all : List ℕ) (size : ℕ) → size ≡ length begun → begun ++ rest ≡ all → take size all ≡ begun
front begun rest all size is same = ap (λ (octets : List ℕ). take size octets) (sym same) ∙ ap (λ (n : ℕ). take n (begun ++ rest)) is ∙ take-append_seam begun rest

pub behind : (begun rest all : List ℕ) (size : ℕ) → size ≡ length begun → begun ++ rest ≡ all → drop size all ≡ rest
behind begun rest all size is same = ap (λ (octets : List ℕ). drop size octets) (sym same) ∙ ap (λ (n : ℕ). drop n (begun ++ rest)) is ∙ drop-append_seam begun rest
