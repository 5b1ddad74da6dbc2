-- The members of a map's line.
use Rattle.std.specs.Prelude.{ℕ, ◌+◌, ◌==◌, not, List, [], ◌∷◌, length, take, drop, map, position, Option, Some, None, option_map}
use Rattle.std.specs.List.{filter, slice_split}
use Rattle.config_keys.specs.Lines.{Text, is_blank}

-- a key and its value
pub record Member : Type 0 where
  pub key : Text
  pub value : Text

-- the words of a line, between spaces and tabs
abbrev pub words_in : List Text → List Text
words_in pieces = filter (λ piece. not (length piece == 0)) pieces

abbrev pub words_of : Text → List Text
words_of line = words_in (slice_split is_blank line)

abbrev pub split_at : Text → Option ℕ → Option Member
split_at word None = None
split_at word (Some place) = Some (record { key = take place word; value = drop (place + 1) word })

-- A word is split at its first `=`.
abbrev pub member_of : Text → Option Member
member_of word = split_at word (position (λ octet. octet == 61) word)

abbrev pub onto : Option Member → Option (List Member) → Option (List Member)
onto None more = None
onto (Some member) more = option_map (λ members. member ∷ members) more

-- the members that the words are, where each has a `=`
abbrev pub members_in : List Text → Option (List Member)
members_in [] = Some []
members_in (word ∷ words) = onto (member_of word) (members_in words)

abbrev pub members_of : Text → Option (List Member)
members_of line = members_in (words_of line)

abbrev pub keys_of : List Member → List Text
keys_of members = map (λ member. member.key) members
