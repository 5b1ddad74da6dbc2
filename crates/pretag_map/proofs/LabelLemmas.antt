-- Labels are plain words.
use Rattle.std.proofs.Common.{◌≡◌, ◌∷◌, [], Bool, true, false, ℕ, List, refl, length}
use Rattle.std.specs.Prelude.{◌&&◌, ◌==◌, nat_lt, not}
use Rattle.std.specs.List.{list_all}
use Rattle.acct_types.specs.Cells.{are_plain, is_plain}
use Rattle.pretag_map.specs.Labels.{is_label, is_label_character}

first : (a b : Bool) → (a && b) ≡ true → a ≡ true
first true b h = refl
first false b h = h

second : (a b : Bool) → (a && b) ≡ true → b ≡ true
second true b h = h
second false b h = cc h

both : (a b : Bool) → a ≡ true → b ≡ true → (a && b) ≡ true
both a b x y = λ i. x i && y i

plain_characters : (words : List ℕ) → list_all is_label_character words ≡ true → are_plain words ≡ true
plain_characters [] all = refl
plain_characters (c ∷ cs) all =
    both (is_plain c) (are_plain cs) (first (is_plain c) (not (c == 61)) (first (is_label_character c) _ all)) (plain_characters cs (second (is_label_character c) _ all))

pub plain_label : (words : List ℕ) → is_label words ≡ true → are_plain words ≡ true
unfolding is_label
plain_label words label = plain_characters words (second (nat_lt (length words) 65) _ (second (nat_lt 0 (length words)) _ label))
