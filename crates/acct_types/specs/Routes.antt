-- The texts of a route's path and communities.
use Rattle.std.specs.Prelude.{◌≡◌, ℕ, ◌/◌, ◌%◌, ◌^◌, List, ◌++◌, codes, decimal, length, map, take}
use Rattle.std.specs.List.{join_with_byte}
use Rattle.acct_types.specs.declared.route.Hop.{Hop}
use Rattle.acct_types.specs.declared.route.Hop.TheVariants.{One, Set}

-- the texts with `_` between them
unfoldable pub joined : List (List ℕ) → List ℕ
joined texts = join_with_byte 95 texts

-- numbers in decimal
unfoldable pub numbers_text : List ℕ → List ℕ
numbers_text numbers = joined (map decimal numbers)

-- the number of one system; or those of a set between braces, in the order of the message
abbrev pub hop_text : Hop → List ℕ
hop_text (One number) = decimal number
hop_text (Set numbers) = codes "{" ++ numbers_text numbers ++ codes "}"

-- the hops from the nearest on
unfoldable pub path_text : List Hop → List ℕ
path_text path = joined (map hop_text path)

-- the upper and the lower 16 bits of a community (RFC 1997)
abbrev pub community_text : ℕ → List ℕ
community_text community = decimal (community / 2 ^ 16) ++ codes ":" ++ decimal (community % 2 ^ 16)

-- the communities in the order of the message
unfoldable pub communities_text : List ℕ → List ℕ
communities_text communities = joined (map community_text communities)

-- the new octets begin with the old ones
abbrev pub BeginsWith : List ℕ → List ℕ → Type 0
BeginsWith old new = take (length old) new ≡ old
