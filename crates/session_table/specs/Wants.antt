-- Where a call of a client's session may want memory.
use Rattle.std.specs.Prelude.{◌≡◌, ◌≢◌, ◌⊎◌, ◌||◌, ◌&&◌, ℕ, Bool, true, false, not, Option, IsSome, is_some}
use Rattle.mqtt_packets.specs.declared.packet.Packet.{Packet}
use Rattle.mqtt_packets.specs.declared.packet.Packet.TheVariants as packets
use Rattle.mqtt_sessions.specs.Reaction.{Reaction}
use Rattle.mqtt_sessions.specs.Saved.{is_single}
use Rattle.mqtt_sessions.specs.Sending.{is_once}
use Rattle.mqtt_sessions.specs.State.{State, limit_of}
use Rattle.law_sessions.specs.Runs.{Event, connects, queues, rooms, takes, answers, closes, ticks, finishes, loses, Reacts, wants_of}
use Rattle.session_table.specs.Listing.{moments_of}
use Rattle.session_table.specs.declared.moments.Moments.{Moments}

-- ---- rows
-- a packet that ends any connection on which it comes: a second CONNECT, what only a server sends, and AUTH
abbrev pub is_unexpected : Packet → Bool
is_unexpected (packets.Connect p) = true
is_unexpected (packets.Connack p) = true
is_unexpected (packets.Suback p) = true
is_unexpected (packets.Unsuback p) = true
is_unexpected packets.Pingresp = true
is_unexpected (packets.Auth p) = true
is_unexpected p = false

-- a packet that leaves the session's own row and its copies as they are
abbrev pub keeps_durable : Packet → Bool
keeps_durable (packets.Publish p) = is_single p.qos
keeps_durable (packets.Subscribe p) = true
keeps_durable (packets.Unsubscribe p) = true
keeps_durable packets.Pingreq = true
keeps_durable p = false

-- a call that leaves the rows of the session as they are, whatever it comes to: a copy at QoS 0; a packet without a connection, and on one
-- PUBLISH at QoS 0 and 1, SUBSCRIBE, UNSUBSCRIBE, PINGREQ and what is unexpected; codes
abbrev pub keeps_rows : Event → State → Bool
keeps_rows (connects c continued room now) s = false
keeps_rows (queues d now) s = is_once d.qos
keeps_rows (rooms bytes now) s = false
keeps_rows (takes p now room) s = not (is_some (limit_of s.link)) || (keeps_durable p || is_unexpected p)
keeps_rows (answers id codes) s = true
keeps_rows (closes now) s = false
keeps_rows (ticks now) s = false
keeps_rows (finishes now) s = false
keeps_rows loses s = false

abbrev pub is_queue : Event → Bool
is_queue (connects c continued room now) = false
is_queue (queues d now) = true
is_queue (rooms bytes now) = false
is_queue (takes p now room) = false
is_queue (answers id codes) = false
is_queue (closes now) = false
is_queue (ticks now) = false
is_queue (finishes now) = false
is_queue loses = false

-- a call by which only a will that is published changes rows
abbrev pub is_ending : Event → Bool
is_ending (connects c continued room now) = false
is_ending (queues d now) = false
is_ending (rooms bytes now) = false
is_ending (takes p now room) = false
is_ending (answers id codes) = false
is_ending (closes now) = false
is_ending (ticks now) = true
is_ending (finishes now) = true
is_ending loses = false

-- or a copy that a full queue leaves out; or a tick or an end that publishes no will
abbrev pub leaves_rows : Event → State → Reaction → Bool
leaves_rows e s r = keeps_rows e s || ((is_ending e && not (is_some r.ask)) || (is_queue e && r.full))

-- the call answers, and rows are compared with those that were told
pub record MayAlter (e : Event) (s : State) : Type 0 where
  pub reaction : Reaction
  pub after : State
  pub reacts : Reacts s e reaction after
  pub alters : leaves_rows e s reaction ≡ false

abbrev pub WantsToTell : Event → State → Type 0
WantsToTell e s = wants_of e s ⊎ MayAlter e s

-- ---- moments
-- something is due at a moment at which it wasn't
abbrev pub IsNewMoment : Option ℕ → Option ℕ → Type 0
IsNewMoment before after = IsSome after × (before ≢ after)

abbrev pub HasNewMoment : Moments → Moments → Type 0
HasNewMoment before after = IsNewMoment before.run_out after.run_out ⊎ (IsNewMoment before.will after.will ⊎ IsNewMoment before.end after.end)

-- the call answers, and then something is due of the session at another moment
pub record IsDueAnew (e : Event) (on : Option ℕ → Option ℕ) (s : State) (connection : Option ℕ) : Type 0 where
  pub reaction : Reaction
  pub after : State
  pub reacts : Reacts s e reaction after
  pub moment : HasNewMoment (moments_of s connection) (moments_of after (on connection))

-- ---- the session itself wants memory, or its rows are told, or its client is listed at another moment
abbrev pub WantsAt : Event → (Option ℕ → Option ℕ) → State → Option ℕ → Type 0
WantsAt e on s connection = WantsToTell e s ⊎ IsDueAnew e on s connection
