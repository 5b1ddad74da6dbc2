-- Sets behind whole sets.
use Rattle.std.proofs.Common.{◌≡◌, ◌∙◌, ◌+◌, ◌-◌, ◌≤◌, ◌<◌, ◌++◌, ◌∷◌, [], ℕ, zero, suc, Bool, true, false, cond, List, length, take, drop, refl, sym, ap, subst, append_assoc, length-append, length-drop, arith}
use Rattle.std.specs.Prelude.{◌==◌, ◌||◌, IsOk, Result, Ok, Err, nat_lt}
use Rattle.std.proofs.lemmas.Bool.{ltb-false, ne_eqb}
use Rattle.std.proofs.lemmas.List.{drop-append-le, length-take-le, take-append-drop, take-append-le}
use Rattle.byteorder.specs.Numbers.{big_from-append}
use Rattle.acct_types.specs.Numbers.{number_at}
use Rattle.flow_templates.specs.declared.refusal.Cause.{Cause}
use Rattle.flow_templates.specs.declared.refusal.Cause.TheVariants.{SetLength}
use Rattle.flow_templates.specs.declared.template.Domain.{Domain}
use Rattle.flow_templates.specs.Decoding.{Said}
use Rattle.flow_templates.specs.Known.{Known, known_after}
use Rattle.flow_sets.specs.Saying.{behind, both, nothing_said}
use Rattle.flow_sets.specs.Sets.{AcceptsSome, front_said, if_said, is_set_cut, set_count, set_id, set_length, set_said, sets_from, sets_in, sets_said}
use Rattle.flow_sets.proofs.SayingLemmas.{behind_behind, behind_nothing, both_nothing}
use Rattle.flow_sets.proofs.SetLemmas.{known_twice, reads, stops}

number_before : (octets more : List ℕ) (place width : ℕ) → place + width ≤ length octets → number_at (octets ++ more) place width ≡ number_at octets place width
unfolding number_at
number_before octets more place width h =
    rw (drop-append-le place octets more (omega arith)) (big_from-append width (drop place octets) more (rw length-drop (omega arith)))

or_parts : (a b : Bool) → (a || b) ≡ false → (a ≡ false) × (b ≡ false)
or_parts true b h = cc h
or_parts false b h = (refl, h)

-- the set at the front is whole
record IsWhole (octets : List ℕ) : Type 0 where
  head : 4 ≤ length octets
  long : 4 ≤ set_length octets
  within : set_length octets ≤ length octets

uncut : (octets : List ℕ) → is_set_cut octets ≡ false → IsWhole octets
uncut octets h =
    let one = or_parts (nat_lt (length octets) 4 || nat_lt (set_length octets) 4) (nat_lt (length octets) (set_length octets)) h in
    let two = or_parts (nat_lt (length octets) 4) (nat_lt (set_length octets) 4) one.0 in
    record {
      head = ltb-false (length octets) 4 two.0;
      long = ltb-false (set_length octets) 4 two.1;
      within = ltb-false (length octets) (set_length octets) one.1;
    }

-- what accepted sets say: the one at the front, and the others
record IsFirst (most : ℕ) (domain : Domain) (known : Known) (number : ℕ) (octets : List ℕ) (said : Said) : Type 0 where
  whole : IsWhole octets
  first : Said
  others : Said
  front : front_said domain known number octets ≡ Ok first
  rest : sets_from most domain (known_after known first.changes) (number + 1) (drop (set_length octets) octets) ≡ Ok others
  all : both first others ≡ said

first_set : (most : ℕ) (domain : Domain) (known : Known) (number : ℕ) (octets : List ℕ) (said : Said) → 1 ≤ length octets
    → sets_from (suc most) domain known number octets ≡ Ok said → IsFirst most domain known number octets said
first_set most domain known number octets said some h =
    let there : (length octets == 0) ≡ false = ne_eqb (length octets) 0 (λ e. omega (arith, e, some)) in
    by (is_set_cut octets) (front_said domain known number octets) refl refl (rw there at h)
  where
    next : Said → Result Said Cause
    next first = behind first (sets_from most domain (known_after known first.changes) (number + 1) (drop (set_length octets) octets))

    both_of : (first : Said) (rest : Result Said Cause) → is_set_cut octets ≡ false → front_said domain known number octets ≡ Ok first
        → sets_from most domain (known_after known first.changes) (number + 1) (drop (set_length octets) octets) ≡ rest → behind first rest ≡ Ok said
        → IsFirst most domain known number octets said
    both_of first (Err cause) cut front is h = cc h
    both_of first (Ok others) cut front is h = record { whole = uncut octets cut; first = first; others = others; front = front; rest = is; all = cc h }

    by : (c : Bool) (front : Result Said Cause) → is_set_cut octets ≡ c → front_said domain known number octets ≡ front
        → cond c (Err SetLength) (if_said front (λ first. behind first (sets_from most domain (known_after known first.changes) (number + 1) (drop (set_length octets) octets)))) ≡ Ok said
        → IsFirst most domain known number octets said
    by true front cut is h = cc h
    by false (Err cause) cut is h = cc h
    by false (Ok first) cut is h = both_of first (sets_from most domain (known_after known first.changes) (number + 1) (drop (set_length octets) octets)) cut is refl h

-- it doesn't matter how many sets there may be at most, if it is enough
same_most : (f g : ℕ) (domain : Domain) (known : Known) (number : ℕ) (octets : List ℕ) → length octets ≤ f → length octets ≤ g
    → sets_from f domain known number octets ≡ sets_from g domain known number octets
same_most zero g domain known number octets a b = sym (stops g domain known number octets (omega (arith, a)))
same_most (suc f) zero domain known number octets a b = stops (suc f) domain known number octets (omega (arith, b))
same_most (suc f) (suc g) domain known number octets a b =
    by (length octets == 0) (is_set_cut octets) (front_said domain known number octets) refl
    (λ known number rest short. same_most f g domain known number rest (omega (arith, a, short)) (omega (arith, b, short)))
  where
    by : (e c : Bool) (front : Result Said Cause) → is_set_cut octets ≡ c
        → ((known : Known) (number : ℕ) (rest : List ℕ) → length rest < length octets → sets_from f domain known number rest ≡ sets_from g domain known number rest)
        → cond e (Ok nothing_said) (cond c (Err SetLength) (if_said front (λ said. behind said (sets_from f domain (known_after known said.changes) (number + 1) (drop (set_length octets) octets)))))
        ≡ cond e (Ok nothing_said) (cond c (Err SetLength) (if_said front (λ said. behind said (sets_from g domain (known_after known said.changes) (number + 1) (drop (set_length octets) octets)))))
    by true c front cut same = refl
    by false true front cut same = refl
    by false false (Err cause) cut same = refl
    by false false (Ok said) cut same =
        let whole = uncut octets cut in
        ap (behind said) (same (known_after known said.changes) (number + 1) (drop (set_length octets) octets)
        (rw (length-drop (set_length octets) octets) (omega (arith, whole.head, whole.long))))

same_front : (domain : Domain) (known : Known) (number : ℕ) (a b : List ℕ) → IsWhole a → front_said domain known number (a ++ b) ≡ front_said domain known number a
same_front domain known number a b whole =
    let id : set_id (a ++ b) ≡ set_id a = number_before a b 0 2 (omega (arith, whole.head)) in
    let size : set_length (a ++ b) ≡ set_length a = number_before a b 2 2 (omega (arith, whole.head)) in
    let rest : drop 4 (a ++ b) ≡ drop 4 a ++ b = drop-append-le 4 a b whole.head in
    let content : take (set_length a - 4) (drop 4 a ++ b) ≡ take (set_length a - 4) (drop 4 a) =
    take-append-le (set_length a - 4) (drop 4 a) b (rw (length-drop 4 a) (omega (arith, whole.within))) in
    (λ i. set_said domain known number (id i) (take (size i - 4) (rest i)))
    ∙ ap (set_said domain known number (set_id a)) content

-- sets behind whole sets
joined : (f : ℕ) (domain : Domain) (known : Known) (number : ℕ) (a b : List ℕ) (said : Said) → length a ≤ f → sets_from f domain known number a ≡ Ok said
    → (g : ℕ) → length (a ++ b) ≤ g
    → sets_from g domain known number (a ++ b) ≡ behind said (sets_from (length b) domain (known_after known said.changes) (number + sets_in f a) b)
joined f domain known number [] b said enough h g room =
    let none : sets_from f domain known number [] ≡ Ok nothing_said = stops f domain known number [] refl in
    let is : nothing_said ≡ said = cc (sym none ∙ h) in
    let count : number + sets_in f [] ≡ number = by f in
    same_most g (length b) domain known number b room (omega arith)
    ∙ sym (behind_nothing (sets_from (length b) domain known number b))
    ∙ ap (λ (n : ℕ). behind nothing_said (sets_from (length b) domain known n b)) (sym count)
    ∙ ap (λ (said : Said). behind said (sets_from (length b) domain (known_after known said.changes) (number + sets_in f []) b)) is
  where
    by : (f : ℕ) → number + sets_in f [] ≡ number
    by zero = omega arith
    by (suc f) = omega arith
joined zero domain known number (x ∷ a) b said enough h g room = absurd (omega (arith, enough))
joined (suc f) domain known number (x ∷ a) b said enough h zero room = absurd (omega (arith, room))
joined (suc f) domain known number (x ∷ a) b said enough h (suc g) room =
    let octets = x ∷ a in
    let is = first_set f domain known number octets said (omega arith) h in
    let whole = is.whole in
    let long = length-append octets b in
    let size : set_length (octets ++ b) ≡ set_length octets = number_before octets b 2 2 (omega (arith, whole.head)) in
    let tail : drop (set_length (octets ++ b)) (octets ++ b) ≡ drop (set_length octets) octets ++ b =
    ap (λ (n : ℕ). drop n (octets ++ b)) size ∙ drop-append-le (set_length octets) octets b whole.within in
    let left = length-drop (set_length octets) octets in
    let there : (length octets == 0) ≡ false = ne_eqb (length octets) 0 (λ e. omega (arith, e, whole.head)) in
    let count : number + 1 + sets_in f (drop (set_length octets) octets) ≡ number + sets_in (suc f) octets = rw there (omega arith) in
    reads g domain known number (octets ++ b) (Ok is.first) (omega (arith, long, whole.head)) (omega (arith, size, whole.long)) (omega (arith, size, long, whole.within))
    (same_front domain known number octets b whole ∙ is.front)
    ∙ ap (λ (rest : List ℕ). behind is.first (sets_from g domain (known_after known is.first.changes) (number + 1) rest)) tail
    ∙ ap (behind is.first) (joined f domain (known_after known is.first.changes) (number + 1) (drop (set_length octets) octets) b is.others
    (omega (arith, left, enough, whole.long)) is.rest g (omega (arith, length-append (drop (set_length octets) octets) b, left, long, room, whole.long, whole.head)))
    ∙ behind_behind is.first is.others (sets_from (length b) domain (known_after (known_after known is.first.changes) is.others.changes) (number + 1 + sets_in f (drop (set_length octets) octets)) b)
    ∙ (λ i. behind (both is.first is.others) (sets_from (length b) domain (known_twice known is.first.changes is.others.changes i) (count i) b))
    ∙ ap (λ (said : Said). behind said (sets_from (length b) domain (known_after known said.changes) (number + sets_in (suc f) octets) b)) is.all

pub follow : (domain : Domain) (known : Known) (a b : List ℕ) (said : Said) → sets_said domain known a ≡ Ok said
    → sets_said domain known (a ++ b) ≡ behind said (sets_from (length b) domain (known_after known said.changes) (1 + set_count a) b)
unfolding sets_said
follow domain known a b said h = joined (length a) domain known 1 a b said (omega arith) h (length (a ++ b)) (omega arith)

-- ---- the sets that were read so far

one_set : (g : ℕ) (b : List ℕ) → 1 ≤ length b → length b ≡ set_length b → sets_in (suc g) b ≡ 1
one_set g b some all =
    let there : (length b == 0) ≡ false = ne_eqb (length b) 0 (λ e. omega (arith, e, some)) in
    rw there (ap suc (by g (drop (set_length b) b) (omega (arith, length-drop (set_length b) b, all))))
  where
    by : (g : ℕ) (rest : List ℕ) → length rest ≡ 0 → sets_in g rest ≡ 0
    by zero rest h = refl
    by (suc g) rest h = rw h refl

count_more : (f : ℕ) (domain : Domain) (known : Known) (number : ℕ) (a b : List ℕ) (said : Said) → length a ≤ f → sets_from f domain known number a ≡ Ok said
    → 1 ≤ length b → length b ≡ set_length b → (g : ℕ) → length (a ++ b) ≤ g → sets_in g (a ++ b) ≡ suc (sets_in f a)
count_more f domain known number [] b said enough h some all zero room = absurd (omega (arith, some, room))
count_more zero domain known number [] b said enough h some all (suc g) room = one_set g b some all
count_more (suc f) domain known number [] b said enough h some all (suc g) room = one_set g b some all
count_more zero domain known number (x ∷ a) b said enough h some all g room = absurd (omega (arith, enough))
count_more (suc f) domain known number (x ∷ a) b said enough h some all zero room = absurd (omega (arith, room))
count_more (suc f) domain known number (x ∷ a) b said enough h some all (suc g) room =
    let octets = x ∷ a in
    let is = first_set f domain known number octets said (omega arith) h in
    let whole = is.whole in
    let long = length-append octets b in
    let size : set_length (octets ++ b) ≡ set_length octets = number_before octets b 2 2 (omega (arith, whole.head)) in
    let tail : drop (set_length (octets ++ b)) (octets ++ b) ≡ drop (set_length octets) octets ++ b =
    ap (λ (n : ℕ). drop n (octets ++ b)) size ∙ drop-append-le (set_length octets) octets b whole.within in
    let left = length-drop (set_length octets) octets in
    let there : (length octets == 0) ≡ false = ne_eqb (length octets) 0 (λ e. omega (arith, e, whole.head)) in
    let both_there : (length (octets ++ b) == 0) ≡ false = ne_eqb (length (octets ++ b)) 0 (λ e. omega (arith, e, long, whole.head)) in
    counted g (octets ++ b) both_there
    ∙ ap (λ (rest : List ℕ). suc (sets_in g rest)) tail
    ∙ ap suc (count_more f domain (known_after known is.first.changes) (number + 1) (drop (set_length octets) octets) b is.others
    (omega (arith, left, enough, whole.long)) is.rest some all g (omega (arith, length-append (drop (set_length octets) octets) b, left, long, room, whole.long, whole.head)))
    ∙ sym (ap suc (counted f octets there))
  where
    counted : (g : ℕ) (octets : List ℕ) → (length octets == 0) ≡ false → sets_in (suc g) octets ≡ suc (sets_in g (drop (set_length octets) octets))
    counted g octets h = rw h refl

-- the sets in front of the rest say what was said so far, and are as many as were read
pub record IsFront (domain : Domain) (known : Known) (octets : List ℕ) (number : ℕ) (rest : List ℕ) (now : Said) : Type 0 where
  pub front : List ℕ
  pub are : octets ≡ front ++ rest
  pub says : sets_said domain known front ≡ Ok now
  pub count : number ≡ 1 + set_count front

pub no_front : (domain : Domain) (known : Known) (octets : List ℕ) (now : Said) → nothing_said ≡ now → IsFront domain known octets 1 octets now
unfolding sets_said
no_front domain known octets now none = record { front = []; are = refl; says = ap Ok none; count = refl }

-- one set alone
alone : (f : ℕ) (domain : Domain) (known : Known) (number : ℕ) (set : List ℕ) (first : Said) → length set ≤ f → IsWhole set → length set ≡ set_length set
    → front_said domain known number set ≡ Ok first → sets_from f domain known number set ≡ Ok first
alone zero domain known number set first enough whole all said = absurd (omega (arith, enough, whole.head))
alone (suc f) domain known number set first enough whole all said =
    reads f domain known number set (Ok first) whole.head whole.long whole.within said
    ∙ ap (behind first) (stops f domain (known_after known first.changes) (number + 1) (drop (set_length set) set) (omega (arith, length-drop (set_length set) set, all)))
    ∙ ap Ok (both_nothing first)

-- one more set
pub front_on : (domain : Domain) (known : Known) (octets : List ℕ) (number : ℕ) (rest : List ℕ) (now first : Said) → IsFront domain known octets number rest now
    → 4 ≤ length rest → 4 ≤ set_length rest → set_length rest ≤ length rest → front_said domain (known_after known now.changes) number rest ≡ Ok first
    → IsFront domain known octets (number + 1) (drop (set_length rest) rest) (both now first)
unfolding sets_said
front_on domain known octets number rest now first is a b c said =
    let size = set_length rest in
    let set = take size rest in
    let parts : set ++ drop size rest ≡ rest = take-append-drop size rest in
    let long : length set ≡ size = length-take-le size rest c in
    let same : set_length set ≡ size = sym (number_before set (drop size rest) 2 2 (omega (arith, long, b))) ∙ ap set_length parts in
    let whole : IsWhole set = record { head = omega (arith, long, b); long = omega (arith, same, b); within = omega (arith, same, long) } in
    let here : front_said domain (known_after known now.changes) number set ≡ Ok first =
    sym (same_front domain (known_after known now.changes) number set (drop size rest) whole)
    ∙ ap (front_said domain (known_after known now.changes) number) parts ∙ said in
    record {
      front = is.front ++ set;
      are = is.are ∙ ap (λ (rest : List ℕ). is.front ++ rest) (sym parts) ∙ sym (append_assoc is.front set (drop size rest));
      says = follow domain known is.front set now is.says
          ∙ ap (λ (n : ℕ). behind now (sets_from (length set) domain (known_after known now.changes) n set)) (sym is.count)
          ∙ ap (behind now) (alone (length set) domain (known_after known now.changes) number set first (omega arith) whole (omega (arith, same, long)) here);
      count = omega (arith, is.count, count_more (length is.front) domain known 1 is.front set now (omega arith) is.says (omega (arith, long, b)) (omega (arith, same, long)) (length (is.front ++ set)) (omega arith));
    }

-- memory is wanted for a set that is accepted
pub some_accepted : (domain : Domain) (known : Known) (octets : List ℕ) (number : ℕ) (rest : List ℕ) (now : Said) → IsFront domain known octets number rest now
    → 4 ≤ length rest → 4 ≤ set_length rest → set_length rest ≤ length rest → IsOk (front_said domain (known_after known now.changes) number rest)
    → AcceptsSome domain known octets
some_accepted domain known octets number rest now is a b c ok = by (front_said domain (known_after known now.changes) number rest) refl ok
  where
    by : (said : Result Said Cause) → front_said domain (known_after known now.changes) number rest ≡ said → IsOk said → AcceptsSome domain known octets
    by (Err cause) said ok = cc ok
    by (Ok first) said ok =
        let more = front_on domain known octets number rest now first is a b c said in
        let long = ap length is.are ∙ length-append is.front rest in
        let again = ap length more.are ∙ length-append more.front (drop (set_length rest) rest) in
        record {
          front = more.front;
          rest = drop (set_length rest) rest;
          are = more.are;
          some = omega (arith, again, long, length-drop (set_length rest) rest, a, b);
          accepted = subst (λ (said : Result Said Cause). IsOk said) (sym more.says) refl;
        }

pub front_more : (domain : Domain) (known : Known) (octets : List ℕ) (number : ℕ) (rest next : List ℕ) (now new : Said) → IsFront domain known octets number rest now
    → 4 ≤ length rest → 4 ≤ set_length rest → set_length rest ≤ length rest → behind now (front_said domain (known_after known now.changes) number rest) ≡ Ok new
    → next ≡ drop (set_length rest) rest → IsFront domain known octets (number + 1) next new
front_more domain known octets number rest next now new is a b c adds on =
    subst (λ (next : List ℕ). IsFront domain known octets (number + 1) next new) (sym on) (by (front_said domain (known_after known now.changes) number rest) refl adds)
  where
    by : (said : Result Said Cause) → front_said domain (known_after known now.changes) number rest ≡ said → behind now said ≡ Ok new
        → IsFront domain known octets (number + 1) (drop (set_length rest) rest) new
    by (Err cause) is-said adds = cc adds
    by (Ok first) said adds =
        let same : both now first ≡ new = cc adds in
        subst (IsFront domain known octets (number + 1) (drop (set_length rest) rest)) same (front_on domain known octets number rest now first is a b c said)
