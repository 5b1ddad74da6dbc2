-- What the code keeps of the attributes of an UPDATE: the value of each that it is read from.
use Rattle.std.specs.Prelude.{ℕ, ◌≡◌, true, List, [], ◌∷◌, length, IfSome, option_copied}
use Rattle.std.specs.Option.{option_or}
use Rattle.bgp_msg.specs.Attributes.{value_in}
use Rattle.bgp_msg.specs.Families.{is_reach, is_unreach}
use Rattle.bgp_msg.specs.Paths.{is_path}
use Rattle.bgp_msg.specs.declared.message.Agreed.{Agreed}
use Rattle.bgp_msg.specs.declared.values.Values.{Values}

-- the values are those of these attributes
pub record Keeps (values : Values) (attributes : List (List ℕ)) : Type 0 where
  pub origin : option_copied values.origin ≡ value_in 1 attributes
  pub as_path : option_copied values.as_path ≡ value_in 2 attributes
  pub next_hop : option_copied values.next_hop ≡ value_in 3 attributes
  pub med : option_copied values.med ≡ value_in 4 attributes
  pub local_pref : option_copied values.local_pref ≡ value_in 5 attributes
  pub communities : option_copied values.communities ≡ value_in 8 attributes
  pub mp_reach : option_copied values.mp_reach ≡ value_in 14 attributes
  pub mp_unreach : option_copied values.mp_unreach ≡ value_in 15 attributes
  pub as4_path : option_copied values.as4_path ≡ value_in 17 attributes

-- an attribute more: its value is kept where none of its type was
pub record Adds (before : Values) (attribute : List ℕ) (values : Values) : Type 0 where
  pub origin : option_copied values.origin ≡ option_or (option_copied before.origin) (value_in 1 (attribute ∷ []))
  pub as_path : option_copied values.as_path ≡ option_or (option_copied before.as_path) (value_in 2 (attribute ∷ []))
  pub next_hop : option_copied values.next_hop ≡ option_or (option_copied before.next_hop) (value_in 3 (attribute ∷ []))
  pub med : option_copied values.med ≡ option_or (option_copied before.med) (value_in 4 (attribute ∷ []))
  pub local_pref : option_copied values.local_pref ≡ option_or (option_copied before.local_pref) (value_in 5 (attribute ∷ []))
  pub communities : option_copied values.communities ≡ option_or (option_copied before.communities) (value_in 8 (attribute ∷ []))
  pub mp_reach : option_copied values.mp_reach ≡ option_or (option_copied before.mp_reach) (value_in 14 (attribute ∷ []))
  pub mp_unreach : option_copied values.mp_unreach ≡ option_or (option_copied before.mp_unreach) (value_in 15 (attribute ∷ []))
  pub as4_path : option_copied values.as4_path ≡ option_or (option_copied before.as4_path) (value_in 17 (attribute ∷ []))

-- Each value has the form of its type. COMMUNITIES and AS4_PATH are read in any form.
pub record HaveForms (agreed : Agreed) (values : Values) : Type 0 where
  pub origin : IfSome values.origin (λ value. length value.now ≡ 1)
  pub as_path : IfSome values.as_path (λ value. is_path agreed.four_octets value.now ≡ true)
  pub next_hop : IfSome values.next_hop (λ value. length value.now ≡ 4)
  pub med : IfSome values.med (λ value. length value.now ≡ 4)
  pub local_pref : IfSome values.local_pref (λ value. length value.now ≡ 4)
  pub mp_reach : IfSome values.mp_reach (λ value. is_reach value.now ≡ true)
  pub mp_unreach : IfSome values.mp_unreach (λ value. is_unreach value.now ≡ true)
