-- Lists of events of one session, each with its reaction.
use Rattle.std.specs.Prelude.{◌≡◌, ℕ, Bool, false, not, ◌&&◌, List, [], ◌∷◌, Option, Some, None, is_some, Ok}
use Rattle.mqtt_packets.specs.declared.connect.Connect.{Connect}
use Rattle.mqtt_packets.specs.declared.packet.Packet.{Packet}
use Rattle.mqtt_message.specs.declared.delivery.Delivery.{Delivery}
use Rattle.qos_handshakes.specs.Incoming.{of_before}
use Rattle.qos_handshakes.specs.Outbox as outbox
use Rattle.mqtt_sessions.specs.Asking.{AnswerStep, AnswerWants}
use Rattle.mqtt_sessions.specs.Called.{Called, never}
use Rattle.mqtt_sessions.specs.Connecting.{ConnectStep, ConnectWants, MayConnect}
use Rattle.mqtt_sessions.specs.Ending.{ClosedStep, TickStep, TickWants, FinishStep, HasWill}
use Rattle.mqtt_sessions.specs.Packets.{PacketEnds, PacketStep, WantsMemory}
use Rattle.mqtt_sessions.specs.Reaction.{Reaction, nothing}
use Rattle.mqtt_sessions.specs.Sending.{QueueEnds, QueueStep, QueueWants, RoomStep, RoomWants}
use Rattle.mqtt_sessions.specs.State.{State, limit_in}

-- a call, or `loses`: a crash, after which the session is made again of what was kept
pub data Event : Type 0 where
  connects : Connect → Bool → Option ℕ → ℕ → Event
  queues : Delivery → ℕ → Event
  rooms : ℕ → ℕ → Event
  takes : Packet → ℕ → Bool → Event
  answers : ℕ → List ℕ → Event
  closes : ℕ → Event
  ticks : ℕ → Event
  finishes : ℕ → Event
  loses : Event

pub record Step : Type 0 where
  pub event : Event
  pub reaction : Reaction

-- what outlives a connection stays, and there is no connection
pub record LostStep (old : State) (r : Reaction) (new : State) : Type 0 where
  pub quiet : r ≡ nothing
  pub kept : new.kept ≡ old.kept
  pub outbox : outbox.LostStep old.outbox new.outbox
  pub incoming : new.incoming ≡ of_before old.incoming
  pub link : new.link ≡ None
  pub room : new.room ≡ None

-- what holds before an event and after it
abbrev pub Reacts : State → Event → Reaction → State → Type 0
Reacts old (connects c continued room now) r new = MayConnect continued old × ConnectStep c continued room now old r new
Reacts old (queues d now) r new = QueueStep d now old r new
Reacts old (rooms bytes now) r new = RoomStep bytes now old r new
Reacts old (takes p now room) r new = PacketStep p now room old r new
Reacts old (answers id codes) r new = AnswerStep id codes old r new
Reacts old (closes now) r new = ClosedStep now old r new
Reacts old (ticks now) r new = TickStep now old r new
Reacts old (finishes now) r new = FinishStep now old r new
Reacts old loses r new = LostStep old r new

-- the step that the contract of a call names
abbrev pub step_of : Event → State → Reaction → State → Type 0
step_of (connects c continued room now) = ConnectStep c continued room now
step_of (queues d now) = QueueStep d now
step_of (rooms bytes now) = RoomStep bytes now
step_of (takes p now room) = PacketStep p now room
step_of (answers id codes) = AnswerStep id codes
step_of (closes now) = ClosedStep now
step_of (ticks now) = TickStep now
step_of (finishes now) = FinishStep now
step_of loses = LostStep

-- a call demands that a session that isn't continued is new
abbrev pub MayCome : Event → State → Type 0
MayCome (connects c continued room now) s = MayConnect continued s
MayCome e s = Unit {0}

-- where it may want memory, and where a number is at its end
abbrev pub wants_of : Event → State → Type 0
wants_of (connects c continued room now) = ConnectWants c continued
wants_of (queues d now) = QueueWants d now
wants_of (rooms bytes now) = RoomWants bytes
wants_of (takes p now room) = WantsMemory p now room
wants_of (answers id codes) = AnswerWants id codes
wants_of (closes now) = never
wants_of (ticks now) = TickWants now
wants_of (finishes now) = HasWill
wants_of loses = never

abbrev pub ends_of : Event → State → Type 0
ends_of (queues d now) = QueueEnds d
ends_of (takes p now room) = PacketEnds p
ends_of e = never

-- each call of a session that answers is an event
abbrev pub CallsAreEvents : Type 0
CallsAreEvents = (e : Event) (old new : State) (r : Reaction) → MayCome e old → Called (step_of e) (wants_of e) (ends_of e) (Some old) (Ok r) (Some new) → Reacts old e r new

-- events one after the other
abbrev pub Run : State → List Step → State → Type 0
Run old [] new = new ≡ old
Run old (s ∷ ss) new = (mid : State) × Reacts old s.event s.reaction mid × Run mid ss new

-- ---- the connection, as events and reactions tell it
-- whether it is open
abbrev pub connected_after : Bool → Event → Reaction → Bool
connected_after on (connects c continued room now) r = not (is_some r.end)
connected_after on (closes now) r = false
connected_after on (finishes now) r = false
connected_after on loses r = false
connected_after on e r = on && not (is_some r.end)

-- the longest packet that the client of the last connection takes
abbrev pub limit_after : ℕ → Event → ℕ
limit_after limit (connects c continued room now) = limit_in c.properties
limit_after limit e = limit
