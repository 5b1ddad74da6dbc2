-- The texts of routes.
use Rattle.std.proofs.Common.{◌≡◌, ◌∙◌, ◌≤◌, ◌-◌, ◌∷◌, ◌++◌, [], Bool, true, false, ℕ, List, refl, subst, sym, ap, ap₂, append_assoc, arith, drop, flat_map, get_or, length, map, suc, zero, take}
use Rattle.std.specs.Prelude.{decimal, ◌&&◌, ◌<◌, ◌/◌, ◌%◌, ◌==◌, codes, if◌then◌else◌}
use Rattle.std.specs.Fmt.{digits, digits_onto, digit_glyph}
use Rattle.std.proofs.Math.Seq.{take-append_seam, take-length}
use Rattle.std.proofs.lemmas.List.{append-nil, length-take, take-append-le, take-append-drop, take_all}
use Rattle.std.proofs.lemmas.List.Folds.{list_all-append}
use Rattle.acct_types.specs.declared.route.Hop.{Hop}
use Rattle.acct_types.specs.declared.route.Hop.TheVariants.{One, Set}
use Rattle.acct_types.specs.Cells.{are_plain, is_plain}
use Rattle.acct_types.specs.Routes.{BeginsWith, communities_text, community_text, hop_text, joined, numbers_text, path_text}

-- the first, and then each other behind the separator
joined_from_first : {X : Type 0} (f : X → List ℕ) (x : X) (xs : List X) → joined (map f (x ∷ xs)) ≡ f x ++ flat_map (λ y. 95 ∷ f y) xs
unfolding joined
joined_from_first f x [] = sym (append-nil (f x))
joined_from_first f x (y ∷ ys) = ap (λ (text : List ℕ). f x ++ 95 ∷ text) (joined_from_first f y ys)

-- the texts of none
pub nothing_joined : {X : Type 0} (f : X → List ℕ) (xs : List X) (old : List ℕ) → length xs < 1 → old ≡ old ++ joined (map f xs)
unfolding joined
nothing_joined f [] old none = sym (append-nil old)
nothing_joined f (x ∷ xs) old none = absurd (omega arith)

-- the texts of a first and of all others
pub all_joined : {X : Type 0} (f : X → List ℕ) (xs : List X) (first d : X) (old one out : List ℕ) (i : ℕ)
    → 1 ≤ length xs → first ≡ get_or xs 0 d → one ≡ old ++ f first
    → out ≡ one ++ flat_map (λ x. 95 ∷ f x) (take i (take (length xs - 1) (drop 1 xs)))
    → length (take (length xs - 1) (drop 1 xs)) ≤ i → out ≡ old ++ joined (map f xs)
all_joined f [] first d old one out i some is_first is_one is_out past = absurd (omega arith)
all_joined f (x ∷ xs) first d old one out i some is_first is_one is_out past =
    let rest : take (length (x ∷ xs) - 1) xs ≡ xs = take_all (length (x ∷ xs) - 1) xs (omega arith) in
    let all : take i (take (length (x ∷ xs) - 1) xs) ≡ xs = take_all i _ past ∙ rest in
    is_out
    ∙ ap₂ (λ (a : List ℕ) (ys : List _). a ++ flat_map (λ y. 95 ∷ f y) ys) (is_one ∙ ap (λ (y : _). old ++ f y) is_first) all
    ∙ append_assoc old (f x) (flat_map (λ y. 95 ∷ f y) xs)
    ∙ ap (λ (text : List ℕ). old ++ text) (sym (joined_from_first f x xs))

pub appended : (old more : List ℕ) → BeginsWith old (old ++ more)
appended old more = take-append_seam old more

pub unchanged : (old : List ℕ) → BeginsWith old old
unchanged old = take-length old

pub further : (a b c : List ℕ) → BeginsWith a b → BeginsWith b c → BeginsWith a c
further a b c ab bc =
    let fits : length a ≤ length b = omega (arith, length-take (length a) b, ap length ab) in
    let longer : length b ≤ length c = omega (arith, length-take (length b) c, ap length bc) in
    let split : take (length a) (take (length b) c) ≡ take (length a) c = shorter (length a) (length b) c fits longer in
    sym split ∙ ap (take (length a)) bc ∙ ab
  where
    shorter : (m n : ℕ) (c : List ℕ) → m ≤ n → n ≤ length c → take m (take n c) ≡ take m c
    shorter m n c small within =
        sym (take-append-le m (take n c) (drop n c) (omega (arith, length-take n c)))
        ∙ ap (take m) (take-append-drop n c)

-- through one step that appends
pub further_on : (a b c d more : List ℕ) → BeginsWith a b → c ≡ b ++ more → BeginsWith c d → BeginsWith a d
further_on a b c d more ab step cd =
    further a c d (further a b c ab (subst (λ (s : List ℕ). BeginsWith b s) (sym step) (appended b more))) cd

both : (a b : Bool) → a ≡ true → b ≡ true → (a && b) ≡ true
both a b x y = ap₂ (λ (p q : Bool). p && q) x y

plain_glyph : (d : ℕ) → d < 10 → is_plain (digit_glyph false d) ≡ true
plain_glyph zero small = refl
plain_glyph (suc zero) small = refl
plain_glyph (suc (suc zero)) small = refl
plain_glyph (suc (suc (suc zero))) small = refl
plain_glyph (suc (suc (suc (suc zero)))) small = refl
plain_glyph (suc (suc (suc (suc (suc zero))))) small = refl
plain_glyph (suc (suc (suc (suc (suc (suc zero)))))) small = refl
plain_glyph (suc (suc (suc (suc (suc (suc (suc zero))))))) small = refl
plain_glyph (suc (suc (suc (suc (suc (suc (suc (suc zero)))))))) small = refl
plain_glyph (suc (suc (suc (suc (suc (suc (suc (suc (suc zero))))))))) small = refl
plain_glyph (suc (suc (suc (suc (suc (suc (suc (suc (suc (suc d)))))))))) small = absurd (omega arith)

-- digits are plain
plain_digits : (k n : ℕ) (acc : List ℕ) → are_plain acc ≡ true → are_plain (digits_onto k 10 false n acc) ≡ true
plain_digits zero n acc plain = plain
plain_digits (suc k) n acc plain =
    let more = both _ _ (plain_glyph (n % 10) (omega arith)) plain in
    either (n / 10 == 0) (digit_glyph false (n % 10) ∷ acc) _ more (plain_digits k (n / 10) (digit_glyph false (n % 10) ∷ acc) more)
  where
    either : (b : Bool) (x y : List ℕ) → are_plain x ≡ true → are_plain y ≡ true → are_plain (if b then x else y) ≡ true
    either true x y p q = p
    either false x y p q = q

plain_decimal : (n : ℕ) → are_plain (decimal n) ≡ true
unfolding digits
plain_decimal n = plain_digits 64 n [] refl

plain_both : (a b : List ℕ) → are_plain a ≡ true → are_plain b ≡ true → are_plain (a ++ b) ≡ true
plain_both a b x y = list_all-append is_plain a b ∙ both _ _ x y

plain_joined : {X : Type 0} (f : X → List ℕ) → ((x : X) → are_plain (f x) ≡ true) → (xs : List X) → are_plain (joined (map f xs)) ≡ true
unfolding joined
plain_joined f each [] = refl
plain_joined f each (x ∷ []) = each x
plain_joined f each (x ∷ y ∷ ys) = plain_both (f x) _ (each x) (plain_joined f each (y ∷ ys))

plain_hop : (hop : Hop) → are_plain (hop_text hop) ≡ true
unfolding numbers_text
plain_hop (One number) = plain_decimal number
plain_hop (Set numbers) = plain_both (numbers_text numbers) (codes "}") (plain_joined decimal plain_decimal numbers) refl

pub plain_path : (path : List Hop) → are_plain (path_text path) ≡ true
unfolding path_text
plain_path path = plain_joined hop_text plain_hop path

plain_community : (c : ℕ) → are_plain (community_text c) ≡ true
plain_community c = plain_both (decimal (c / 65536) ++ codes ":") (decimal (c % 65536)) (plain_both (decimal (c / 65536)) (codes ":") (plain_decimal (c / 65536)) refl) (plain_decimal (c % 65536))

pub plain_communities : (communities : List ℕ) → are_plain (communities_text communities) ≡ true
unfolding communities_text
plain_communities communities = plain_joined community_text plain_community communities
