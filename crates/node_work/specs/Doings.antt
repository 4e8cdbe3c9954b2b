-- Work of one act or two.
use Rattle.std.specs.Prelude.{ℕ, ◌^◌, not, nat_le, nat_lt, Bool, true, false, List, length, Option}
use Rattle.bridge_deltas.specs.declared.offer.Offer.{Offer}
use Rattle.bridge_deltas.specs.declared.offer.Offer.TheVariants.{Queued, Full, AtEnd}
use Rattle.bridge_frames.specs.declared.body.FrameBody.{FrameBody}
use Rattle.bridge_frames.specs.declared.forward.Forward.{Forward}
use Rattle.bridge_frames.specs.declared.frame.BridgeFrame.{BridgeFrame}
use Rattle.bridge_frames.specs.Frames.{content, limit}
use Rattle.bridge_routes.specs.declared.destinations.Route.{Route}
use Rattle.bridge_routes.specs.declared.destinations.Route.TheVariants.{Nothing, Lane, TooLarge}
use Rattle.mqtt_packets.specs.declared.packet.Packet.{Packet}
use Rattle.node_bridge.specs.View.{offer_to}
use Rattle.node_work.specs.declared.counts.Missed.{Missed}
use Rattle.node_work.specs.declared.counts.Missed.TheVariants.{LaneFull, FrameTooLarge}
use Rattle.node_work.specs.View.{HeldView}
use Rattle.mqtt_packets.specs.Written.{written}
use Rattle.mqtt_sessions.specs.Answers.{disconnect}
use Rattle.replica_store.specs.declared.content.Content.{Content}
use Rattle.replica_store.specs.Making.{put_of, subscribe_of}
use Rattle.subscription_set.specs.declared.entry.Entry.{Entry}
use Rattle.subscription_set.specs.Standing.{any_of, any_below}
use Rattle.node_work.specs.declared.outcome.Output.TheVariants.{Send}
use Rattle.node_work.specs.Acts.{MomentTaken, Store, Made, Connection, Bridge, Out}
use Rattle.node_work.specs.Held.Bridge.{Put, Gave, Left_out}
use Rattle.node_work.specs.Held.Connections.{Opened, is_open}
use Rattle.node_work.specs.Held.Making.{number_at_end, put_at_end, removal, removal_below}
use Rattle.node_work.specs.Held.Sessions.{takes_disconnect, takes_packet}
use Rattle.node_work.specs.Packets.{moved_packet}
use Rattle.node_work.specs.Working.{Doing, Returns, Stops, Acting, Numbered, Looks, If, Then}

-- a moment of 2^62 or later can't be had
abbrev pub TakesMoment : ℕ → Option (Unit {0}) → Doing
TakesMoment at = Numbered (λ p h. not (nat_lt at (2 ^ 62))) (λ p h. MomentTaken at)

-- a connection is opened where it isn't open
abbrev pub OpensConnection : ℕ → Option (Unit {0}) → Doing
OpensConnection c = Looks (λ p h. is_open c h) (λ is. If is (Returns tt) (Acting (λ p h. Connection (Opened c))))

-- ---- one operation
abbrev pub MakesPut : Content → Option (Unit {0}) → Doing
MakesPut content = Numbered (λ p h. put_at_end p.id h) (λ p h. Store (Made (put_of p.id content h.store)))

abbrev pub MakesSubscribe : Entry → Option (Unit {0}) → Doing
MakesSubscribe entry = Numbered (λ p h. number_at_end p.id h) (λ p h. Store (Made (subscribe_of p.id entry h.store)))

-- one Remove of what stands of the client and, where one is given, to the filter
abbrev pub MakesRemove : List ℕ → Option (List ℕ) → Option (Unit {0}) → Doing
MakesRemove client to = Numbered (λ p h. number_at_end p.id h) (λ p h. Store (Made (removal p.id client to h.store)))

-- where something stands; the answer is whether it did
abbrev pub Removes : List ℕ → Option (List ℕ) → Option Bool → Doing
Removes client to =
    Looks (λ p h. any_of client to h.store.subscriptions)
    (λ stands. If stands (Then (MakesRemove client to) (λ _. Returns true)) (Returns false))

-- the same of what stands of the client and was made under a version of the table of homes below one
abbrev pub MakesRemoveBelow : List ℕ → ℕ → Option (Unit {0}) → Doing
MakesRemoveBelow client version = Numbered (λ p h. number_at_end p.id h) (λ p h. Store (Made (removal_below p.id client version h.store)))

abbrev pub RemovesBelow : List ℕ → ℕ → Option Bool → Doing
RemovesBelow client version =
    Looks (λ p h. any_below client version h.store.subscriptions)
    (λ stands. If stands (Then (MakesRemoveBelow client version) (λ _. Returns true)) (Returns false))

-- ---- one packet: its shortest spelling is sent
abbrev pub Sends : ℕ → Packet → Option (Unit {0}) → Doing
Sends c packet = Acting (λ p h. Out (Send c (written packet)))

-- the server's DISCONNECT, unless it is longer than the client takes (MQTT 5.0, 3.14)
abbrev pub Disconnects : ℕ → List ℕ → ℕ → Option (Unit {0}) → Doing
Disconnects c client code = Looks (λ p h. takes_disconnect client code h) (λ taken. If taken (Sends c (disconnect code)) (Returns tt))

-- the same with Server moved, and the address of the server (4.11)
abbrev pub Redirects : ℕ → List ℕ → List ℕ → Option (Unit {0}) → Doing
Redirects c client address = Looks (λ p h. takes_packet client (moved_packet address) h) (λ taken. If taken (Sends c (moved_packet address)) (Returns tt))

-- ---- other nodes

-- something is left out, and counted
abbrev pub Misses : Missed → Option (Unit {0}) → Doing
Misses what = Acting (λ p h. Bridge (Left_out what))

-- a message for clients of another node joins the lane to it; where too many wait there it is left out
abbrev pub PutsInLaneBy : ℕ → Forward → Offer → Option (Unit {0}) → Doing
PutsInLaneBy peer m (Queued n) = Acting (λ p h. Bridge (Put peer m))
PutsInLaneBy peer m Full = Misses LaneFull
PutsInLaneBy peer m AtEnd = Stops

abbrev pub PutsInLane : ℕ → Forward → Option (Unit {0}) → Doing
PutsInLane peer m = Looks (λ p h. offer_to peer h.bridge) (PutsInLaneBy peer m)

-- what becomes of a message at another node; one that is too large for a frame is left out
abbrev pub RoutesBy : ℕ → Route → Option (Unit {0}) → Doing
RoutesBy peer Nothing = Returns tt
RoutesBy peer (Lane m) = PutsInLane peer m
RoutesBy peer TooLarge = Misses LaneFull

abbrev pub Routes : ℕ × Route → Option (Unit {0}) → Doing
Routes x = RoutesBy x.0 x.1

-- a frame goes out, unless more would follow its length than may
abbrev pub is_small : BridgeFrame → Bool
is_small f = nat_le (length (content.bytes f)) limit

abbrev pub GivesFrame : BridgeFrame → Option (Unit {0}) → Doing
GivesFrame f = If (is_small f) (Acting (λ p h. Bridge (Gave f))) (Misses FrameTooLarge)

abbrev pub GivesBody : ℕ → (HeldView → FrameBody) → Option (Unit {0}) → Doing
GivesBody peer body = Looks (λ p h. record { from = p.id; to = peer; body = body h }) GivesFrame
