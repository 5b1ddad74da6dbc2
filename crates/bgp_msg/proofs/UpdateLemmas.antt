-- What is wrong with an UPDATE, part by part.
use Rattle.std.proofs.Common.{◌≡◌, ◌∙◌, [], ℕ, List, length, refl, sym, ap}
use Rattle.std.specs.Option.{option_or}
use Rattle.std.specs.Prelude.{◌==◌, IfErr, Option, Some, None, Result, Ok, Err, not}
use Rattle.std.specs.Result.{IsErrAnd}
use Rattle.bgp_msg.specs.Attributes.{attribute_size, attributes_fault}
use Rattle.bgp_msg.specs.Pieces.{pieces}
use Rattle.bgp_msg.specs.Prefixes.{bad_prefix}
use Rattle.bgp_msg.specs.Updates.{announced_octets, announced_place, attribute_octets, attributes_place, lack_fault, lacks, lengths_fault, parts_fault, prefix_fault, update_fault, withdrawn_octets}
use Rattle.bgp_msg.specs.declared.families.Family.TheVariants.{V4}
use Rattle.bgp_msg.specs.declared.message.Agreed.{Agreed}
use Rattle.bgp_msg.specs.declared.message.BgpFault.{BgpFault}
use Rattle.bgp_msg.specs.declared.update.Parts.{Parts}

pub update_of : (agreed : Agreed) (octets withdrawn : List ℕ) (place : ℕ) (attributes : List ℕ) (behind : ℕ) (announced : List ℕ) → lengths_fault octets ≡ None
    → withdrawn ≡ withdrawn_octets octets → place ≡ attributes_place octets → attributes ≡ attribute_octets octets → behind ≡ announced_place octets → announced ≡ announced_octets octets
    → update_fault agreed octets ≡ option_or (prefix_fault (bad_prefix V4 21 withdrawn))
    (option_or (attributes_fault agreed [] place (pieces attribute_size attributes))
    (option_or (prefix_fault (bad_prefix V4 behind announced))
    (lack_fault (lacks (pieces attribute_size attributes) (not (length announced == 0))))))
unfolding parts_fault
update_of agreed octets withdrawn place attributes behind announced lengths w p a b n = rw (lengths, w, p, a, b, n) refl

-- the first is the fault
pub or_first : (first others : Option BgpFault) (fault : BgpFault) → first ≡ Some fault → option_or first others ≡ Some fault
or_first first others fault is = rw is refl

-- it is among the others
pub or_next : (first others : Option BgpFault) → first ≡ None → option_or first others ≡ others
or_next first others none = rw none refl

-- a fault that is handed on
pub handed : (answer : Result Parts BgpFault) (fault : BgpFault) (all : Option BgpFault) → IsErrAnd answer (λ other. other ≡ fault) → all ≡ Some fault → IfErr answer (λ other. all ≡ Some other)
handed (Ok parts) fault all h is = absurd h
handed (Err other) fault all h is = is ∙ ap Some (sym h)
