-- Laws of frames, and of the messages that are written.
use Rattle.std.specs.Prelude.{ℕ, ◌≡◌, ◌≤◌, ◌<◌, ◌⊎◌, ◌^◌, List, ◌++◌, length, take, None, Some, Ok, Err, true, false}
use Rattle.bgp_msg.specs.Frames.{framed}
use Rattle.bgp_msg.specs.Messages.{Says, body_fault}
use Rattle.bgp_msg.specs.Written.{keepalive_spelling, notification_spelling, open_spelling}
use Rattle.bgp_msg.specs.declared.message.Agreed.{Agreed}
use Rattle.bgp_msg.specs.declared.message.BgpFault.{BgpFault}
use Rattle.bgp_msg.specs.declared.message.BgpMessage.{BgpMessage}
use Rattle.bgp_msg.specs.declared.message.BgpMessage.TheVariants as message

-- a message of so many octets is at the front
abbrev pub IsFound : List ℕ → ℕ → Type 0
IsFound octets size = framed octets ≡ Ok (Some size)

-- It has 19 octets at least and 4,096 at most. They are there, and they alone are a message.
abbrev pub FoundAlone : Type 0
FoundAlone = (octets : List ℕ) (size : ℕ) → IsFound octets size → (19 ≤ size) × (size ≤ 4096) × (size ≤ length octets) × IsFound (take size octets) size

-- It is at the front whatever follows.
abbrev pub FoundBefore : Type 0
FoundBefore = (octets more : List ℕ) (size : ℕ) → IsFound octets size → IsFound (octets ++ more) size

-- So is a fault.
abbrev pub FaultBefore : Type 0
FaultBefore = (octets more : List ℕ) (fault : BgpFault) → framed octets ≡ Err fault → framed (octets ++ more) ≡ Err fault

-- Where more octets are needed, fewer are there than the longest message has.
abbrev pub WaitsWithFew : Type 0
WaitsWithFew = (octets : List ℕ) → framed octets ≡ Ok None → length octets < 4096

-- a whole message, which is read as this one
abbrev pub IsReadAs : List ℕ → BgpMessage → Type 0
IsReadAs octets message = (framed octets ≡ Ok (Some (length octets))) × ((agreed : Agreed) → (body_fault agreed octets ≡ None) × Says agreed octets message)

-- what an OPEN may say
pub record FitsOpen (asn hold id : ℕ) : Type 0 where
  pub some_asn : 1 ≤ asn
  pub short_asn : asn < 2 ^ 32
  pub some_hold : (hold ≡ 0) ⊎ (3 ≤ hold)
  pub short_hold : hold < 2 ^ 16
  pub some_id : 1 ≤ id
  pub short_id : id < 2 ^ 32

abbrev pub ReadsOpen : Type 0
ReadsOpen = (asn hold id : ℕ) → FitsOpen asn hold id
    → IsReadAs (open_spelling asn hold id) (message.Hello (record { asn = asn; hold = hold; id = id; four_octets = true; path_ids_v4 = false; path_ids_v6 = false; add_path_v4 = None; add_path_v6 = None }))

abbrev pub ReadsKeepalive : Type 0
ReadsKeepalive = IsReadAs keepalive_spelling message.Keepalive

abbrev pub ReadsNotification : Type 0
ReadsNotification = (code subcode : ℕ) → IsReadAs (notification_spelling code subcode) (message.Notification code subcode)
