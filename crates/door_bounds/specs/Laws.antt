-- Laws of a handler with limits.
use Rattle.std.specs.Prelude.{◌≡◌, ◌↔◌, ◌⊎◌, ℕ, List, [], ◌∷◌, ◌++◌, flat_map, Bool, false, Some, None, Option, Ok}
use Rattle.std.specs.List.{AllByRecursion, concat}
use Rattle.broker_sockets.specs.declared.bridge.Given.{Given}
use Rattle.broker_sockets.specs.declared.bridge.PeerEvent.{PeerEvent}
use Rattle.broker_sockets.specs.declared.events.Event.{Event}
use Rattle.broker_sockets.specs.declared.events.EventKind.{EventKind}
use Rattle.broker_sockets.specs.declared.events.EventKind.TheVariants.{Piece}
use Rattle.broker_sockets.specs.declared.events.Output.{Output}
use Rattle.mqtt_packets.specs.Stream.{packet_at}
use Rattle.mqtt_packets.specs.Written.{written}
use Rattle.mqtt_packets.specs.declared.packet.Packet.{Packet}
use Rattle.mqtt_bounds.specs.Laws.{IsWithin}
use Rattle.mqtt_bounds.specs.declared.bounds.Bounds.{Bounds}
use Rattle.mqtt_bounds.specs.Pieces.{cut, front_at}
use Rattle.mqtt_bounds.specs.declared.cut.End.TheVariants as ends
use Rattle.mqtt_bounds.specs.declared.front.Front.TheVariants as fronts
use Rattle.door_bounds.specs.Answering.{IsWeighed}
use Rattle.door_bounds.specs.Calls.{AreMade, Call, Handled, Heard, Settled}
use Rattle.door_bounds.specs.Limits.{limit_of}
use Rattle.door_bounds.specs.Telling.{AreTold, Told}
use Rattle.door_bounds.specs.Walk.{come, too_large}
use Rattle.door_bounds.specs.declared.bounded.Bounded.{Bounded}
use Rattle.door_bounds.specs.declared.client.Client.{Client}
use Rattle.door_bounds.specs.declared.door.Door.{Door}
use Rattle.door_bounds.specs.declared.fault.BoundedFault.{BoundedFault}
use Rattle.door_bounds.specs.declared.fault.BoundedFault.TheVariants.{NoMemory, Inside}
use Rattle.door_bounds.specs.declared.step.Step.{Step}
use Rattle.door_bounds.specs.declared.step.Step.TheVariants as steps

-- ---- without limits it is the handler inside

module _ {H G : Type 0} (handles : H → Event → List Output → H → Type 0) (hears : H → PeerEvent → Given → H → Type 0) (settles : H → H → Type 0)
    (handles' : Bounded H G → Event → List Output → Bounded H G → Type 0) (hears' : Bounded H G → PeerEvent → Given → Bounded H G → Type 0)
    (settles' : Bounded H G → Bounded H G → Type 0) where
  pub record NoLimitsChangeNothing : Type 0 where
    pub handled : (d d' : Bounded H G) (e : Event) (outputs : List Output) → d.door ≡ None → handles' d e outputs d' ↔ (handles d.inside e outputs d'.inside × (d'.door ≡ None))
    pub heard : (d d' : Bounded H G) (e : PeerEvent) (given : Given) → d.door ≡ None → hears' d e given d' ↔ (hears d.inside e given d'.inside × (d'.door ≡ None))
    pub settled : (d d' : Bounded H G) → d.door ≡ None → settles' d d' ↔ (settles d.inside d'.inside × (d'.door ≡ None))

module _ {H G F : Type 0} (refuses : H → Event → F → H → Type 0) (declines : H → PeerEvent → F → H → Type 0) (stops : H → F → H → Type 0)
    (refuses' : Bounded H G → Event → BoundedFault F → Bounded H G → Type 0) (declines' : Bounded H G → PeerEvent → BoundedFault F → Bounded H G → Type 0)
    (stops' : Bounded H G → BoundedFault F → Bounded H G → Type 0) where
  pub record NoLimitsNoFaults : Type 0 where
    pub refused : (d d' : Bounded H G) (e : Event) (fault : F) → d.door ≡ None → refuses' d e (Inside fault) d' ↔ refuses d.inside e fault d'.inside
    pub enough : (d d' : Bounded H G) (e : Event) → d.door ≡ None → refuses' d e NoMemory d' → ⊥
    pub declined : (d d' : Bounded H G) (e : PeerEvent) (fault : F) → declines' d e (Inside fault) d' ↔ declines d.inside e fault d'.inside
    pub enough_to_hear : (d d' : Bounded H G) (e : PeerEvent) → declines' d e NoMemory d' → ⊥
    pub stopped : (d d' : Bounded H G) (fault : F) → stops' d (Inside fault) d' ↔ stops d.inside fault d'.inside
    pub enough_to_settle : (d d' : Bounded H G) → stops' d NoMemory d' → ⊥

-- ---- with limits

-- the packet that these bytes are, if they are one, breaks no limit
abbrev pub IsReadWithin : Bounds → Bool → List ℕ → Type 0
IsReadWithin b full x = (p : Packet) (rest : List ℕ) → packet_at x ≡ Ok (Some (p, rest)) → IsWithin b full p

-- they are the shortest spelling of a packet that breaks none
abbrev pub IsMadeWithin : Bounds → Bool → List ℕ → Type 0
IsMadeWithin b full x = (p : Packet) × IsWithin b full p × (x ≡ written p)

-- they tell of a packet that is too large, of which nothing else is told
abbrev pub IsTooLarge : List ℕ → Type 0
IsTooLarge x = (y : List ℕ) × (x ≡ too_large y)

-- their Remaining Length can't be
abbrev pub IsBroken : Bounds → List ℕ → Type 0
IsBroken b x = front_at (limit_of b.longest_packet) x ≡ fronts.Broken

abbrev pub IsPart : Bounds → Bool → List ℕ → Type 0
IsPart b full x = IsReadWithin b full x ⊎ (IsMadeWithin b full x ⊎ (IsTooLarge x ⊎ IsBroken b x))

-- bytes are such parts, one behind the other
abbrev pub IsLet : Bounds → Bool → List ℕ → Type 0
IsLet b full bs = (parts : List (List ℕ)) × (bs ≡ concat parts) × AllByRecursion (IsPart b full) parts

-- so are the bytes of an event, if it has some
abbrev pub OfPiece : (List ℕ → Type 0) → EventKind → Type 0
OfPiece Is (Piece q bytes) = Is bytes.items
OfPiece Is kind = Unit {0}

abbrev pub IsKindLet : Bounds → Bool → EventKind → Type 0
IsKindLet b full kind = OfPiece (IsLet b full) kind

abbrev pub AreLet : Bounds → Bool → List Told → Type 0
AreLet b full told = AllByRecursion (λ t. IsKindLet b full t.0.kind) told

-- the same of calls, each with room or without
abbrev pub IsCallLet : Bounds → Call → Type 0
IsCallLet b (Handled e outputs) = (full : Bool) × IsKindLet b full e.kind
IsCallLet b (Heard e given) = Unit {0}
IsCallLet b Settled = Unit {0}

module _ {H G : Type 0} (handles : H → Event → List Output → H → Type 0) (hears : H → PeerEvent → Given → H → Type 0) (settles : H → H → Type 0)
    (handles' : Bounded H G → Event → List Output → Bounded H G → Type 0) (hears' : Bounded H G → PeerEvent → Given → Bounded H G → Type 0)
    (settles' : Bounded H G → Bounded H G → Type 0) where
  -- an event, with room as it is from then on: the handler inside is told of packets alone that break no limit. Without room these are neither PUBLISH nor
  -- SUBSCRIBE.
  pub record IsWithinAt (b : Bounds) (full : Bool) (h h' : H) : Type 0 where
    pub told : List Told
    pub made : AreTold handles told h h'
    pub within : AreLet b full told

  pub record OnlyWithinIsTold : Type 0 where
    pub one : (d d' : Bounded H G) (k : Door) (e : Event) (outputs : List Output) → d.door ≡ Some k → handles' d e outputs d'
        → (m : Door) × IsWeighed e.kind k m × IsWithinAt k.limits.packets m.full d.inside d'.inside
    pub all : (calls : List Call) (d d' : Bounded H G) (k : Door) → d.door ≡ Some k → AreMade handles' hears' settles' calls d d'
        → (inside : List Call) × AreMade handles hears settles inside d.inside d'.inside × AllByRecursion (IsCallLet k.limits.packets) inside

-- ---- what goes on

abbrev pub told_by : Step → List ℕ
told_by (steps.Tells bs mend) = bs
told_by (steps.Asks p mend) = []
told_by (steps.Answers p) = []

abbrev pub is_answer : Step → List Packet
is_answer (steps.Answers p) = p ∷ []
is_answer s = []

-- where none of the packets breaks a limit, they are told as they came and in their order, and nothing is answered in their place
abbrev pub AllGoOn : Type 0
AllGoOn =
    (b : Bounds) (full : Bool) (c : Client) (bytes : List ℕ) → c.over ≡ false → (cut (limit_of b.longest_packet) (c.partial ++ bytes)).end ≡ ends.Open
    → AllByRecursion (IsReadWithin b full) (cut (limit_of b.longest_packet) (c.partial ++ bytes)).packets
    → (flat_map told_by (come b full c bytes).steps ≡ concat (cut (limit_of b.longest_packet) (c.partial ++ bytes)).packets)
    × (flat_map is_answer (come b full c bytes).steps ≡ [])
