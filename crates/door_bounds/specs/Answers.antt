-- What clients get of what breaks a limit, whatever calls were made before.
use Rattle.std.specs.Prelude.{◌≡◌, ◌⊎◌, ℕ, Bool, List, [], ◌∷◌, ◌++◌, flat_map, true, false, Option, Some, None}
use Rattle.broker_sockets.specs.declared.bridge.Given.{Given}
use Rattle.broker_sockets.specs.declared.bridge.PeerEvent.{PeerEvent}
use Rattle.broker_sockets.specs.declared.events.Event.{Event}
use Rattle.broker_sockets.specs.declared.events.EventKind.TheVariants.{Opened, Piece, Tick}
use Rattle.broker_sockets.specs.declared.events.Output.{Output}
use Rattle.broker_sockets.specs.declared.events.Output.TheVariants.{Close, Send}
use Rattle.mqtt_packets.specs.Stream.{packet_at}
use Rattle.mqtt_packets.specs.declared.packet.Packet.{Packet}
use Rattle.mqtt_bounds.specs.declared.bounds.Bounds.{Bounds}
use Rattle.mqtt_bounds.specs.declared.verdict.Verdict.{Verdict}
use Rattle.mqtt_bounds.specs.declared.verdict.Verdict.TheVariants.{Becomes, Ends, Goes, Refused}
use Rattle.mqtt_bounds.specs.Pieces.{cut}
use Rattle.door_bounds.specs.Calls.{AreMade, Call}
use Rattle.door_bounds.specs.Clients.{client_of}
use Rattle.door_bounds.specs.Limits.{full_after, limit_of}
use Rattle.door_bounds.specs.Mending.{Buffer, IsSpelled}
use Rattle.door_bounds.specs.Walk.{verdict_at}
use Rattle.door_bounds.specs.declared.bounded.Bounded.{Bounded}
use Rattle.door_bounds.specs.declared.client.Client.{Client}
use Rattle.door_bounds.specs.declared.door.Door.{Door}

-- what answers a packet in place of the node, if anything does
abbrev pub answer_by : Verdict → List Packet
answer_by (Goes mend) = []
answer_by (Becomes p mend) = []
answer_by (Refused None) = []
answer_by (Refused (Some answer)) = answer ∷ []
answer_by (Ends reason) = []

abbrev pub answers_to : Bounds → Bool → List ℕ → List Packet
answers_to b full x = answer_by (verdict_at b full (packet_at x))

-- packets are sent on a connection, one after another among what goes out; of one that has no spelling nothing is
abbrev pub AreSentOn : ℕ → List Packet → List Output → Type 0
AreSentOn q [] outputs = Unit {0}
AreSentOn q (p ∷ ps) outputs =
    (bs : List ℕ) × IsSpelled p bs
    × (((bs ≡ []) × AreSentOn q ps outputs)
    ⊎ ((before : List Output) × (bytes : Buffer) × (after : List Output) × (bytes.items ≡ bs) × (outputs ≡ before ++ Send q bytes ∷ after) × AreSentOn q ps after))

-- bytes that come: each packet that is refused has its answer, in their order, unless the connection was closed
abbrev pub AreAnswered : Bounds → Door → ℕ → List ℕ → List Output → Door → Type 0
AreAnswered b k q bytes outputs k' =
    (c : Client) → client_of k.clients q ≡ Some c → c.greeted ≡ true → c.over ≡ false
    → AreSentOn q (flat_map (answers_to b k.full) (cut (limit_of b.longest_packet) (c.partial ++ bytes)).packets) outputs ⊎ (client_of k'.clients q ≡ None)

module _ {H G : Type 0} (handles' : Bounded H G → Event → List Output → Bounded H G → Type 0) (hears' : Bounded H G → PeerEvent → Given → Bounded H G → Type 0)
    (settles' : Bounded H G → Bounded H G → Type 0) where
  -- a handler that had these limits before some calls
  pub record IsReached (k : Door) (d m : Bounded H G) : Type 0 where
    pub calls : List Call
    pub had : d.door ≡ Some k
    pub made : AreMade handles' hears' settles' calls d m

  pub record RefusalsAreTold : Type 0 where
    -- bytes
    pub answered : (k : Door) (d m d' : Bounded H G) (at q : ℕ) (bytes : Buffer) (outputs : List Output) → IsReached k d m → handles' m (record { at = at; kind = Piece q bytes }) outputs d'
        → (l l' : Door) → m.door ≡ Some l → d'.door ≡ Some l' → AreAnswered k.limits.packets l q bytes.items outputs l'
    -- a client that connects while too much memory is held is closed, and the handler inside isn't told
    pub closed : (k : Door) (d m d' : Bounded H G) (at q : ℕ) (outputs : List Output) → IsReached k d m → handles' m (record { at = at; kind = Opened q }) outputs d'
        → (l : Door) → m.door ≡ Some l → l.full ≡ true → (outputs ≡ Close q ∷ []) × (d'.inside ≡ m.inside)
    -- whether too much is held is seen at each tick, by the limit that was given
    pub weighed : (k : Door) (d m d' : Bounded H G) (at : ℕ) (outputs : List Output) → IsReached k d m → handles' m (record { at = at; kind = Tick }) outputs d'
        → (l l' : Door) → m.door ≡ Some l → d'.door ≡ Some l' → (held : Option ℕ) × (l'.full ≡ full_after k.limits.most_memory held l.full)
