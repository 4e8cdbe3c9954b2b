-- What is done for a packet that is read in front of some bytes, and where none is.
use Rattle.std.proofs.Common.{◌≡◌, ℕ, Bool, List, Option, Some, None, Result, Ok, Err, refl, sym, ap, ◌∙◌}
use Rattle.mqtt_packets.specs.Stream.{packet_at}
use Rattle.mqtt_packets.specs.declared.fault.PacketFault.{PacketFault}
use Rattle.mqtt_packets.specs.declared.packet.Packet.{Packet}
use Rattle.mqtt_packets.specs.declared.publish.Publish.{Publish}
use Rattle.door_packets.specs.Front.{IsFront, IsNoPacket, IsPublish}
use Rattle.door_packets.specs.Rights.{Rights}
use Rattle.door_packets.specs.Walk.{Walked, entered, entered_by, next, next_by, published, told_first, with_step}
use Rattle.door_packets.specs.declared.step.Step.TheVariants.{Tells}

-- ---- the first packet

pub entered_some : (r : Rights) (marked : List ℕ → Bool) (w w' : Walked) (room : Option ℕ) (bs : List ℕ) (x : Packet × ℕ) → IsFront bs (Some x) → w' ≡ entered_by r marked w room bs x.0
    → w' ≡ entered r marked w room bs (packet_at bs)
entered_some r marked w w' room bs x front e = e ∙ sym (ap (entered r marked w room bs) front.0)

none_case : (r : Rights) (marked : List ℕ → Bool) (w : Walked) (room : Option ℕ) (bs : List ℕ) (x : Result (Option (Packet × List ℕ)) PacketFault) → IsNoPacket x → told_first w room bs ≡ entered r marked w room bs x
none_case r marked w room bs (Ok (Some x)) not_one = absurd not_one
none_case r marked w room bs (Ok None) not_one = refl
none_case r marked w room bs (Err f) not_one = refl

pub entered_none : (r : Rights) (marked : List ℕ → Bool) (w w' : Walked) (room : Option ℕ) (bs : List ℕ) → IsFront bs None → w' ≡ told_first w room bs → w' ≡ entered r marked w room bs (packet_at bs)
entered_none r marked w w' room bs front e = e ∙ none_case r marked w room bs (packet_at bs) front

-- ---- those behind it

pub next_some : (r : Rights) (w w' : Walked) (bs : List ℕ) (x : Packet × ℕ) → IsFront bs (Some x) → w' ≡ next_by r w bs x.0 → w' ≡ next r w bs (packet_at bs)
next_some r w w' bs x front e = e ∙ sym (ap (next r w bs) front.0)

next_case : (r : Rights) (w : Walked) (bs : List ℕ) (x : Result (Option (Packet × List ℕ)) PacketFault) → IsNoPacket x → with_step w (Tells bs) ≡ next r w bs x
next_case r w bs (Ok (Some x)) not_one = absurd not_one
next_case r w bs (Ok None) not_one = refl
next_case r w bs (Err f) not_one = refl

pub next_none : (r : Rights) (w w' : Walked) (bs : List ℕ) → IsFront bs None → w' ≡ with_step w (Tells bs) → w' ≡ next r w bs (packet_at bs)
next_none r w w' bs front e = e ∙ next_case r w bs (packet_at bs) front

publish_case : (r : Rights) (w w' : Walked) (bs : List ℕ) (p : Publish) (x : Result (Option (Packet × List ℕ)) PacketFault) → IsPublish p x → w' ≡ published r w bs p → w' ≡ next r w bs x
publish_case r w w' bs p (Ok (Some x)) is e = e ∙ sym (ap (next_by r w bs) is)
publish_case r w w' bs p (Ok None) is e = absurd is
publish_case r w w' bs p (Err f) is e = absurd is

pub next_publish : (r : Rights) (w w' : Walked) (bs : List ℕ) (p : Publish) → IsPublish p (packet_at bs) → w' ≡ published r w bs p → w' ≡ next r w bs (packet_at bs)
next_publish r w w' bs p is e = publish_case r w w' bs p (packet_at bs) is e
