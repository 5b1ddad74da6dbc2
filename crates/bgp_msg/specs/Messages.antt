-- What a whole message says, and what its reader answers.
use Rattle.std.specs.Prelude.{ℕ, ◌≡◌, ◌==◌, List, slice_index, Option, Some, None, Result, Ok, Err, if◌then◌else◌}
use Rattle.acct_types.specs.Updates.{update_view}
use Rattle.bgp_msg.specs.Frames.{kind_of}
use Rattle.bgp_msg.specs.Opens.{hello_of, open_fault}
use Rattle.bgp_msg.specs.Updates.{said, update_fault}
use Rattle.bgp_msg.specs.declared.message.Agreed.{Agreed}
use Rattle.bgp_msg.specs.declared.message.BgpFault.{BgpFault}
use Rattle.bgp_msg.specs.declared.message.BgpMessage.{BgpMessage}
use Rattle.bgp_msg.specs.declared.message.BgpMessage.TheVariants as message
use Rattle.bgp_msg.specs.declared.message.BgpRefusal.{BgpRefusal}
use Rattle.bgp_msg.specs.declared.message.BgpRefusal.TheVariants as refusal

-- What is wrong with the body of a message, first. A body of NOTIFICATION or KEEPALIVE has no fault.
unfoldable pub body_fault : Agreed → List ℕ → Option BgpFault
body_fault agreed octets =
    if kind_of octets == 1 then open_fault octets
    else (if kind_of octets == 2 then update_fault agreed octets
    else None)

-- what a message without a fault says
abbrev pub Says : Agreed → List ℕ → BgpMessage → Type 0
Says agreed octets (message.Hello hello) = (kind_of octets ≡ 1) × (hello ≡ hello_of octets)
Says agreed octets (message.Update update) = (kind_of octets ≡ 2) × (update_view update ≡ said agreed octets)
Says agreed octets (message.Notification code subcode) = (kind_of octets ≡ 3) × (code ≡ slice_index octets 19) × (subcode ≡ slice_index octets 20)
Says agreed octets message.Keepalive = kind_of octets ≡ 4

-- Only an UPDATE without a fault may want memory.
abbrev pub Refuses : Agreed → List ℕ → BgpRefusal → Type 0
Refuses agreed octets refusal.NoMemory = (kind_of octets ≡ 2) × (body_fault agreed octets ≡ None)
Refuses agreed octets (refusal.Fault fault) = body_fault agreed octets ≡ Some fault

-- The reader answers what a message says where nothing is wrong with it, and else what is wrong first.
abbrev pub Gives : Agreed → List ℕ → Result BgpMessage BgpRefusal → Type 0
Gives agreed octets (Ok message) = (body_fault agreed octets ≡ None) × Says agreed octets message
Gives agreed octets (Err refusal) = Refuses agreed octets refusal
