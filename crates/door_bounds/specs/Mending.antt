-- What goes out: packets as bytes, and those that answer a client, mended.
use Rattle.std.specs.Prelude.{◌≡◌, ◌==◌, ◌⊎◌, ℕ, List, [], ◌∷◌, ◌++◌, Bool, true, false, Option, Some, None, Result, Ok, Err, Vec}
use Rattle.std.specs.declared.alloc.Global.{Global}
use Rattle.broker_sockets.specs.declared.events.Output.{Output}
use Rattle.broker_sockets.specs.declared.events.Output.TheVariants.{Send, Close}
use Rattle.mqtt_packets.specs.Stream.{packet_at}
use Rattle.mqtt_packets.specs.Written.{HasSpelling, written}
use Rattle.mqtt_packets.specs.declared.fault.PacketFault.{PacketFault}
use Rattle.mqtt_packets.specs.declared.packet.Packet.{Packet}
use Rattle.mqtt_bounds.specs.Bounded.{mended}
use Rattle.mqtt_bounds.specs.declared.verdict.Mend.{Mend}
use Rattle.mqtt_bounds.specs.declared.verdict.Mend.TheVariants as mends

-- bytes of an event, or of what goes out
abbrev pub Buffer : Type 0
Buffer = Vec ℕ Global

-- a packet's shortest spelling; nothing of one that has none
abbrev pub IsSpelled : Packet → List ℕ → Type 0
IsSpelled p bs = (HasSpelling p × (bs ≡ written p)) ⊎ ((HasSpelling p → ⊥) × (bs ≡ []))

-- it stands in place of these bytes, with what followed; where it has no spelling they stay
abbrev pub IsReplaced : Packet → List ℕ → List ℕ → List ℕ → Type 0
IsReplaced p rest bs x = (HasSpelling p × (x ≡ written p ++ rest)) ⊎ ((HasSpelling p → ⊥) × (x ≡ bs))

abbrev pub IsMendedBy : Option Packet → List ℕ → List ℕ → List ℕ → Type 0
IsMendedBy None rest bs x = x ≡ bs
IsMendedBy (Some p) rest bs x = IsReplaced p rest bs x

-- the packet in front is mended
abbrev pub IsMendedAt : Mend → List ℕ → List ℕ → Result (Option (Packet × List ℕ)) PacketFault → Type 0
IsMendedAt mend bs x (Ok (Some y)) = IsMendedBy (mended mend y.0) y.1 bs x
IsMendedAt mend bs x _ = x ≡ bs

abbrev pub IsMendedIf : Bool → Mend → ℕ → Buffer → Output → Type 0
IsMendedIf true mend to bytes x = (y : Buffer) × IsMendedAt mend bytes.items y.items (packet_at bytes.items) × (x ≡ Send to y)
IsMendedIf false mend to bytes x = x ≡ Send to bytes

-- an output as it goes out, where bytes for this connection are mended
abbrev pub IsMended : ℕ → Mend → Output → Output → Type 0
IsMended q mend (Send to bytes) x = IsMendedIf (to == q) mend to bytes x
IsMended q mend (Close to) x = x ≡ Close to

abbrev pub AreMended : ℕ → Mend → List Output → List Output → Type 0
AreMended q mend [] [] = Unit {0}
AreMended q mend (o ∷ os) (x ∷ xs) = IsMended q mend o x × AreMended q mend os xs
AreMended q mend _ _ = ⊥

abbrev pub IsPutMended : ℕ → Mend → List Output → List Output → List Output → Type 0
IsPutMended q mend given o o' = (xs : List Output) × AreMended q mend given xs × (o' ≡ o ++ xs)

-- behind what went out before; where nothing is mended, as it was given
abbrev pub IsMendedTo : ℕ → Mend → List Output → List Output → List Output → Type 0
IsMendedTo q mends.Nothing given o o' = o' ≡ o ++ given
IsMendedTo q mend given o o' = IsPutMended q mend given o o'
