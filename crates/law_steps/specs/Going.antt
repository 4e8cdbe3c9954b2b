-- How a client goes whose home is elsewhere: what it is told, what becomes of its session, and what stays of the others (MQTT 5.0,
-- 3.1.2.5, 3.14.2.1 and 4.11).
use Rattle.std.specs.Prelude.{◌≡◌, ◌≢◌, ℕ, cond, List, [], ◌∷◌, ◌++◌, Option, Some, None}
use Rattle.std.specs.FinMap as map
use Rattle.std.specs.List.{AllByRecursion}
use Rattle.std.specs.Option.{option_map}
use Rattle.home_table.specs.Homes.{IsHome}
use Rattle.mqtt_message.specs.declared.message.Message.{Message}
use Rattle.mqtt_message.specs.Accepted.{accepted_will}
use Rattle.mqtt_packets.specs.Written.{written}
use Rattle.mqtt_packets.specs.declared.connect.Will.{Will}
use Rattle.mqtt_sessions.specs.declared.reaction.Ask.TheVariants.{Pass}
use Rattle.mqtt_sessions.specs.State.{Kept}
use Rattle.replica_store.specs.declared.operation.Operation.TheVariants as operations
use Rattle.law_sessions.specs.Runs.{Event, queues, closes, ticks, finishes}
use Rattle.session_table.specs.Seats.{Seat}
use Rattle.subscription_set.specs.Standing.{any_below}
use Rattle.node_work.specs.declared.outcome.Output.TheVariants.{Send, Close}
use Rattle.node_work.specs.Acts.{Act, Store, Made, Connection, Session, Bridge, Out, Passed, Dropped, Runs}
use Rattle.node_work.specs.Held.Bridge.{Put, Left_out}
use Rattle.node_work.specs.Held.Connections.{Closed}
use Rattle.node_work.specs.Held.Making.{removal_below}
use Rattle.node_work.specs.Held.Sessions.{SessionStep, Called, Over, connection_at, seat_at, takes_packet}
use Rattle.node_work.specs.Packets.{moved_packet}
use Rattle.node_work.specs.View.{Place, HeldView}
use Rattle.node_clients.specs.Connecting.{address_of}

-- ---- what it is told
-- Server moved and the address of its home, unless that is longer than the client takes
abbrev pub IsToldItsHome : ℕ → List ℕ → HeldView → Option (List ℕ) → List Act → Type 0
IsToldItsHome c client h None told = told ≡ []
IsToldItsHome c client h (Some address) told = cond (takes_packet client (moved_packet address) h) (told ≡ Out (Send c (written (moved_packet address))) ∷ []) (told ≡ [])

-- it is told the address that the table has of its home, which is another node, and directly after that its connection is closed
pub record IsSentOn (p : Place) (client : List ℕ) (c : ℕ) (h : HeldView) (acts : List Act) : Type 0 where
  pub home : ℕ
  pub is_home : IsHome h.homes client home
  pub other : home ≢ p.id
  pub told : List Act
  pub is_told : IsToldItsHome c client h (address_of h home) told
  pub is : acts ≡ told ++ Connection (Closed c) ∷ Out (Close c) ∷ []

-- where it is connected
abbrev pub IsParted : Place → List ℕ → HeldView → Option ℕ → List Act → Type 0
IsParted p client h None acts = acts ≡ []
IsParted p client h (Some c) acts = IsSentOn p client c h acts

-- ---- what becomes of its session
-- a call queues a copy for any client, or is the client's own: its session is closed, does what is due, or ends
abbrev pub MayEnd : List ℕ → List ℕ → Event → Type 0
MayEnd client own (queues d now) = Unit {0}
MayEnd client own (closes now) = own ≡ client
MayEnd client own (ticks now) = own ≡ client
MayEnd client own (finishes now) = own ≡ client
MayEnd client own e = ⊥

-- such calls, and what passing a will on comes to: no packet or close of the node's own, no Remove, no other table
abbrev pub IsOfEnding : List ℕ → Act → Type 0
IsOfEnding client (Session (Called s)) = MayEnd client s.client s.event
IsOfEnding client (Store (Made (operations.Put dot stamp content))) = Unit {0}
IsOfEnding client (Bridge (Put peer m)) = Unit {0}
IsOfEnding client (Bridge (Left_out what)) = Unit {0}
IsOfEnding client (Passed m copies lost routes) = Unit {0}
IsOfEnding client Dropped = Unit {0}
IsOfEnding client a = ⊥

abbrev pub MayPublish : Event → Type 0
MayPublish (ticks now) = Unit {0}
MayPublish (finishes now) = Unit {0}
MayPublish e = ⊥

-- a call of the client's session, which does what is due or ends, asks to pass a message on
pub record AsksFor (client : List ℕ) (m : Message) (acts : List Act) : Type 0 where
  pub before : List Act
  pub call : SessionStep
  pub after : List Act
  pub is : acts ≡ before ++ Session (Called call) ∷ after
  pub same : call.client ≡ client
  pub event : MayPublish call.event
  pub asks : call.reaction.ask ≡ Some (Pass m)

-- a session with this will, of this client identifier
pub record SessionHasWill (client : List ℕ) (w : Will) (id : List ℕ) (h : HeldView) : Type 0 where
  pub seat : Seat
  pub at : seat_at client h ≡ Some seat
  pub will : seat.session.kept.will ≡ Some w
  pub id_is : seat.session.kept.client ≡ id

-- one Remove takes what stands of the client under versions older than the table's, where anything does
abbrev pub OlderAreRemoved : Place → List ℕ → HeldView → List Act → Type 0
OlderAreRemoved p client h acts = cond (any_below client h.homes.version h.store.subscriptions) (acts ≡ Store (Made (removal_below p.id client h.homes.version h.store)) ∷ []) (acts ≡ [])

-- ---- what is left
-- what is seen of a session: its connection, and its will, its expiry and whether it is connected
abbrev pub seen_in : Seat → Option ℕ × Kept
seen_in seat = (seat.connection, seat.session.kept)

abbrev pub seat_seen : List ℕ → HeldView → Option (Option ℕ × Kept)
seat_seen client h = option_map seen_in (seat_at client h)

-- the client's session is gone; all others are as they were, each on its connection, and so are other connections, and the table
pub record LeavesOthers (client : List ℕ) (h h' : HeldView) : Type 0 where
  pub gone : seat_at client h' ≡ None
  pub moment : h'.at ≡ h.at
  pub homes : h'.homes ≡ h.homes
  pub sessions : (q : List ℕ) → q ≢ client → seat_seen q h' ≡ seat_seen q h
  pub connections : (c : ℕ) → connection_at client h ≢ Some c → map.get h'.connections c ≡ map.get h.connections c

-- ---- so a client goes: where it is connected it is told where to, and its connection is closed; its session ends, whatever its expiry, and
-- its will, if there is one, is passed on; one Remove takes what it subscribed under older versions; and the session is over
pub record Goes (p : Place) (client : List ℕ) (h : HeldView) (acts : List Act) (h' : HeldView) : Type 0 where
  pub parting : List Act
  pub ending : List Act
  pub removing : List Act
  pub is : acts ≡ parting ++ (ending ++ (removing ++ Session (Over client) ∷ []))
  pub parted : IsParted p client h (connection_at client h) parting
  pub ends : AllByRecursion (IsOfEnding client) ending
  pub will : (w : Will) (id : List ℕ) → SessionHasWill client w id h → AsksFor client (accepted_will w id h.at) ending
  pub mid : HeldView
  pub runs : Runs p h (parting ++ ending) mid
  pub same : mid.homes ≡ h.homes
  pub removed : OlderAreRemoved p client mid removing
  pub leaves : LeavesOthers client h h'
