-- Octets, split into messages.
use Rattle.std.proofs.Common.{◌≡◌, ◌≤◌, ◌+◌, ◌∙◌, ◌∷◌, ◌++◌, [], ℕ, zero, suc, List, length, take, drop, refl, sym, ap, append_assoc, length-append, length-drop, arith}
use Rattle.std.proofs.Math.Seq.{drop-append-add}
use Rattle.std.proofs.lemmas.List.{drop-append-le, take-append-drop, take-append-le}
use Rattle.std.specs.Prelude.{Option, Some, None, Result, Ok, Err}
use Rattle.framed_pieces.specs.Framing.{IsFraming}
use Rattle.framed_pieces.specs.Stream.{fault_at, join, messages, messages_from, rest_of}

nothing_framed : {F : Type 0} (framed : List ℕ → Result (Option ℕ) F) (law : IsFraming framed) (octets : List ℕ) → length octets ≤ 0 → framed octets ≡ Ok None
nothing_framed framed law [] few = law.nothing
nothing_framed framed law (octet ∷ octets) few = absurd (omega (arith, few))

message_from : {F : Type 0} (framed : List ℕ → Result (Option ℕ) F) (most : ℕ) (octets : List ℕ) (size : ℕ) → framed octets ≡ Ok (Some size) → messages_from framed (suc most) octets ≡ take size octets ∷ messages_from framed most (drop size octets)
message_from framed most octets size is = rw (is, messages_from) refl

none_from : {F : Type 0} (framed : List ℕ → Result (Option ℕ) F) (most : ℕ) (octets : List ℕ) → framed octets ≡ Ok None → messages_from framed most octets ≡ []
none_from framed zero octets is = refl
none_from framed (suc most) octets is = rw (is, messages_from) refl

bad_from : {F : Type 0} (framed : List ℕ → Result (Option ℕ) F) (most : ℕ) (octets : List ℕ) (fault : F) → framed octets ≡ Err fault → messages_from framed most octets ≡ []
bad_from framed zero octets fault is = refl
bad_from framed (suc most) octets fault is = rw (is, messages_from) refl

-- a message takes an octet at least
shorter : {F : Type 0} (framed : List ℕ → Result (Option ℕ) F) (law : IsFraming framed) (most : ℕ) (octets : List ℕ) (size : ℕ) → framed octets ≡ Ok (Some size) → length octets ≤ suc most → length (drop size octets) ≤ most
shorter framed law most octets size is few =
    let least = (law.some octets size is).0 in
    let here = (law.some octets size is).1 in
    let left = length-drop size octets in
    omega (arith, least, here, left, few)

-- more than enough is enough
enough : {F : Type 0} (framed : List ℕ → Result (Option ℕ) F) (law : IsFraming framed) (some more : ℕ) (octets : List ℕ) → length octets ≤ some → length octets ≤ more → messages_from framed some octets ≡ messages_from framed more octets
enough framed law zero more octets h k = sym (none_from framed more octets (nothing_framed framed law octets (omega (arith, h))))
enough framed law (suc some) zero octets h k = none_from framed (suc some) octets (nothing_framed framed law octets (omega (arith, k)))
enough {F} framed law (suc some) (suc more) octets h k = by (λ size. enough framed law some more (drop size octets)) (framed octets) refl
  where
    by : ((size : ℕ) → length (drop size octets) ≤ some → length (drop size octets) ≤ more → messages_from framed some (drop size octets) ≡ messages_from framed more (drop size octets))
        → (found : Result (Option ℕ) F) → framed octets ≡ found → messages_from framed (suc some) octets ≡ messages_from framed (suc more) octets
    by later (Ok None) e = none_from framed (suc some) octets e ∙ sym (none_from framed (suc more) octets e)
    by later (Err fault) e = bad_from framed (suc some) octets fault e ∙ sym (bad_from framed (suc more) octets fault e)
    by later (Ok (Some size)) e =
        message_from framed some octets size e
        ∙ ap (λ (others : List (List ℕ)). take size octets ∷ others) (later size (shorter framed law some octets size e h) (shorter framed law more octets size e k))
        ∙ sym (message_from framed more octets size e)

pub messages_next : {F : Type 0} (framed : List ℕ → Result (Option ℕ) F) (law : IsFraming framed) (octets : List ℕ) (size : ℕ) → framed octets ≡ Ok (Some size) → messages framed octets ≡ take size octets ∷ messages framed (drop size octets)
unfolding messages
messages_next framed law octets size is =
    let rest = drop size octets in
    enough framed law (length octets) (suc (length octets)) octets (omega arith) (omega arith)
    ∙ message_from framed (length octets) octets size is
    ∙ ap (λ (others : List (List ℕ)). take size octets ∷ others) (enough framed law (length octets) (length rest) rest (shorter framed law (length octets) octets size is (omega arith)) (omega arith))

pub messages_none : {F : Type 0} (framed : List ℕ → Result (Option ℕ) F) (octets : List ℕ) → framed octets ≡ Ok None → messages framed octets ≡ []
unfolding messages
messages_none framed octets is = none_from framed (length octets) octets is

pub messages_bad : {F : Type 0} (framed : List ℕ → Result (Option ℕ) F) (octets : List ℕ) (fault : F) → framed octets ≡ Err fault → messages framed octets ≡ []
unfolding messages
messages_bad framed octets fault is = bad_from framed (length octets) octets fault is

pub rest_next : {F : Type 0} (framed : List ℕ → Result (Option ℕ) F) (law : IsFraming framed) (octets : List ℕ) (size : ℕ) → framed octets ≡ Ok (Some size) → rest_of framed octets ≡ rest_of framed (drop size octets)
unfolding rest_of
rest_next framed law octets size is =
    let front = take size octets in
    let others = join (messages framed (drop size octets)) in
    ap (λ (all : List (List ℕ)). drop (length (join all)) octets) (messages_next framed law octets size is)
    ∙ ap (λ (n : ℕ). drop n octets) (length-append front others)
    ∙ ap (λ (all : List ℕ). drop (length front + length others) all) (sym (take-append-drop size octets))
    ∙ drop-append-add front (drop size octets) (length others)

pub rest_none : {F : Type 0} (framed : List ℕ → Result (Option ℕ) F) (octets : List ℕ) → framed octets ≡ Ok None → rest_of framed octets ≡ octets
unfolding rest_of
rest_none framed octets is = rw (messages_none framed octets is) refl

pub rest_bad : {F : Type 0} (framed : List ℕ → Result (Option ℕ) F) (octets : List ℕ) (fault : F) → framed octets ≡ Err fault → rest_of framed octets ≡ octets
unfolding rest_of
rest_bad framed octets fault is = rw (messages_bad framed octets fault is) refl

pub fault_none : {F : Type 0} (framed : List ℕ → Result (Option ℕ) F) (octets : List ℕ) → framed octets ≡ Ok None → fault_at framed octets ≡ None
fault_none framed octets is = rw (is, fault_at) refl

pub fault_bad : {F : Type 0} (framed : List ℕ → Result (Option ℕ) F) (octets : List ℕ) (fault : F) → framed octets ≡ Err fault → fault_at framed octets ≡ Some fault
fault_bad framed octets fault is = rw (is, fault_at) refl

clash : {F : Type 0} (one : Option F) (fault : F) → one ≡ Some fault → one ≡ None → ⊥
clash one fault h k = cc

-- what octets are split into, where others come behind them
pub record Joins {F : Type 0} (framed : List ℕ → Result (Option ℕ) F) (a b : List ℕ) : Type 0 where
  pub split : messages framed (a ++ b) ≡ messages framed a ++ messages framed (rest_of framed a ++ b)
  pub left : rest_of framed (a ++ b) ≡ rest_of framed (rest_of framed a ++ b)
  pub all : join (messages framed a) ++ rest_of framed a ≡ a
  pub partial : framed (rest_of framed a) ≡ Ok None

joins_none : {F : Type 0} (framed : List ℕ → Result (Option ℕ) F) (law : IsFraming framed) (a b : List ℕ) → framed a ≡ Ok None → Joins framed a b
joins_none framed law a b is = record {
  split = rw (messages_none framed a is, rest_none framed a is) refl;
  left = rw (rest_none framed a is) refl;
  all = rw (messages_none framed a is, rest_none framed a is) refl;
  partial = rw (rest_none framed a is) is;
}

joins_next : {F : Type 0} (framed : List ℕ → Result (Option ℕ) F) (law : IsFraming framed) (a b : List ℕ) (size : ℕ) → framed a ≡ Ok (Some size) → Joins framed (drop size a) b → Joins framed a b
joins_next framed law a b size is later =
    let here = (law.some a size is).1 in
    let whole = law.before a b size is in
    let front : take size (a ++ b) ≡ take size a = take-append-le size a b here in
    let behind : drop size (a ++ b) ≡ drop size a ++ b = drop-append-le size a b here in
    let others = messages framed (rest_of framed a ++ b) in
    let rest = rest_next framed law a size is in
    record {
      split = messages_next framed law (a ++ b) size whole
          ∙ ap (λ (one : List ℕ). one ∷ messages framed (drop size (a ++ b))) front
          ∙ ap (λ (left : List ℕ). take size a ∷ messages framed left) behind
          ∙ ap (λ (all : List (List ℕ)). take size a ∷ all) (later.split ∙ ap (λ (left : List ℕ). messages framed (drop size a) ++ messages framed (left ++ b)) (sym rest))
          ∙ ap (λ (all : List (List ℕ)). all ++ others) (sym (messages_next framed law a size is));
      left = rest_next framed law (a ++ b) size whole ∙ ap (rest_of framed) behind ∙ later.left ∙ ap (λ (left : List ℕ). rest_of framed (left ++ b)) (sym rest);
      all = ap (λ (all : List (List ℕ)). join all ++ rest_of framed a) (messages_next framed law a size is)
          ∙ ap (λ (left : List ℕ). (take size a ++ join (messages framed (drop size a))) ++ left) rest
          ∙ append_assoc (take size a) (join (messages framed (drop size a))) (rest_of framed (drop size a))
          ∙ ap (λ (left : List ℕ). take size a ++ left) later.all
          ∙ take-append-drop size a;
      partial = rw rest later.partial;
    }

joins_from : {F : Type 0} (framed : List ℕ → Result (Option ℕ) F) (law : IsFraming framed) (most : ℕ) (a b : List ℕ) → length a ≤ most → fault_at framed (rest_of framed a) ≡ None → Joins framed a b
joins_from framed law zero a b few live = joins_none framed law a b (nothing_framed framed law a (omega (arith, few)))
joins_from {F} framed law (suc most) a b few live = by (λ size. joins_from framed law most (drop size a) b) (framed a) refl
  where
    by : ((size : ℕ) → length (drop size a) ≤ most → fault_at framed (rest_of framed (drop size a)) ≡ None → Joins framed (drop size a) b) → (found : Result (Option ℕ) F) → framed a ≡ found → Joins framed a b
    by later (Ok None) e = joins_none framed law a b e
    by later (Err fault) e = absurd (clash (fault_at framed (rest_of framed a)) fault (ap (fault_at framed) (rest_bad framed a fault e) ∙ fault_bad framed a fault e) live)
    by later (Ok (Some size)) e = joins_next framed law a b size e (later size (shorter framed law most a size e few) (ap (fault_at framed) (sym (rest_next framed law a size e)) ∙ live))

pub joins : {F : Type 0} (framed : List ℕ → Result (Option ℕ) F) (law : IsFraming framed) (a b : List ℕ) → fault_at framed (rest_of framed a) ≡ None → Joins framed a b
joins framed law a b live = joins_from framed law (length a) a b (omega arith) live
