-- Wills, as events tell them (MQTT 5.0, 3.1.2.5, 3.1.3.2.2 and 3.14).
use Rattle.std.specs.Prelude.{◌≡◌, ℕ, ◌≤◌, ◌==◌, ◌&&◌, ◌⊎◌, not, Bool, false, cond, List, [], ◌∷◌, Option, Some, None, is_some}
use Rattle.mqtt_fields.specs.Properties.{first_four}
use Rattle.mqtt_packets.specs.declared.connect.Will.{Will}
use Rattle.mqtt_packets.specs.declared.packet.Packet.{Packet}
use Rattle.mqtt_packets.specs.declared.packet.Packet.TheVariants as packets
use Rattle.mqtt_message.specs.Accepted.{accepted_will}
use Rattle.mqtt_message.specs.Expiry.{due_of}
use Rattle.mqtt_sessions.specs.declared.kept.Phase.TheVariants.{Closed}
use Rattle.mqtt_sessions.specs.declared.reaction.Ask.TheVariants.{Pass}
use Rattle.mqtt_sessions.specs.Connecting.{kept_by}
use Rattle.mqtt_sessions.specs.Ending.{ask_of, end_due, is_due, message_of, will_after, will_due}
use Rattle.mqtt_sessions.specs.Reaction.{Reaction}
use Rattle.mqtt_sessions.specs.State.{Kept, State, new_session}
use Rattle.law_sessions.specs.Runs.{Event, connects, takes, closes, ticks, finishes, Step, Run, connected_after}

-- ---- what outlives a connection, as events tell it
-- DISCONNECT 0x00 withdraws the will, and a Session Expiry Interval replaces the old one; one that isn't 0 after 0 does neither
abbrev pub left_by : ℕ → ℕ → Kept → Kept
left_by code expiry k = record k { expiry = expiry; will = will_after code k.will }

abbrev pub after_disconnect : Option ℕ → ℕ → Kept → Kept
after_disconnect None code k = left_by code k.expiry k
after_disconnect (Some expiry) code k = cond ((k.expiry == 0) && not (expiry == 0)) k (left_by code expiry k)

abbrev pub after_packet : Packet → Kept → Kept
after_packet (packets.Disconnect p) k = after_disconnect (first_four 17 p.properties) p.reason k
after_packet p k = k

-- a CONNECT brings a will or none; one that is published, or whose session ends, is there no more
abbrev pub kept_after : Bool → Kept → Event → Reaction → Kept
kept_after on k (connects c continued room now) r = kept_by k c
kept_after on k (takes p now room) r = cond on (after_packet p k) k
kept_after on k (closes now) r = record k { phase = Closed now }
kept_after on k (ticks now) r = cond (is_some r.ask) (record k { will = None }) k
kept_after on k (finishes now) r = record k { will = None }
kept_after on k e r = k

-- ---- what is published of it
-- the will of a closed session, from its moment on
pub record IsWill (k : Kept) (now : ℕ) (r : Reaction) : Type 0 where
  pub will : Will
  pub closed : ℕ
  pub is : k.will ≡ Some will
  pub since : k.phase ≡ Closed closed
  pub due : due_of will closed k.expiry ≤ now
  pub asks : r.ask ≡ Some (Pass (accepted_will will k.client now))

-- by what is due, and by the end of the session: nothing else publishes a will; what a client's packet asks for is said elsewhere
abbrev pub WillBy : Kept → Event → Reaction → Type 0
WillBy k (takes p now room) r = Unit {0}
WillBy k (ticks now) r = (r.ask ≡ None) ⊎ IsWill k now r
WillBy k (finishes now) r = r.ask ≡ ask_of (message_of k.will k.client now)
WillBy k e r = r.ask ≡ None

abbrev pub AllWills : Bool → Kept → List Step → Type 0
AllWills on k [] = Unit {0}
AllWills on k (s ∷ ss) = WillBy k s.event s.reaction × AllWills (connected_after on s.event s.reaction) (kept_after on k s.event s.reaction) ss

-- a will is published at most once, not before its moment, and not after it was withdrawn or another CONNECT came
abbrev pub KeepsWills : Type 0
KeepsWills = (client : List ℕ) (steps : List Step) (end : State) → Run (new_session client) steps end → AllWills false (new_session client).kept steps

-- what is due comes by the next tick: the will first, and then the end of the session
abbrev pub DueBy : Kept → Event → Reaction → Type 0
DueBy k (ticks now) r = (r.ask ≡ cond (is_due (will_due k) now) (ask_of (message_of k.will k.client now)) None) × (r.over ≡ (not (is_due (will_due k) now) && is_due (end_due k) now))
DueBy k e r = Unit {0}

abbrev pub AllDue : Bool → Kept → List Step → Type 0
AllDue on k [] = Unit {0}
AllDue on k (s ∷ ss) = DueBy k s.event s.reaction × AllDue (connected_after on s.event s.reaction) (kept_after on k s.event s.reaction) ss

abbrev pub KeepsDue : Type 0
KeepsDue = (client : List ℕ) (steps : List Step) (end : State) → Run (new_session client) steps end → AllDue false (new_session client).kept steps
