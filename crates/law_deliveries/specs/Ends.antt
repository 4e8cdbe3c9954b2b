use Rattle.qos_handshakes.specs.Touched.{is_in}
-- Which events end a connection, and with which Reason Code (MQTT 5.0, 3.14 and 4.13).
use Rattle.std.specs.Prelude.{◌≡◌, ℕ, ◌⊎◌, Bool, true, false, List, [], ◌∷◌, Option, Some, None}
use Rattle.mqtt_packets.specs.declared.packet.Packet.{Packet}
use Rattle.mqtt_packets.specs.declared.packet.Packet.TheVariants as packets
use Rattle.mqtt_sessions.specs.Reaction.{Reaction}
use Rattle.mqtt_sessions.specs.State.{State, new_session}
use Rattle.law_sessions.specs.Runs.{Event, connects, takes, answers, ticks, Step, Reacts, Run, connected_after}

-- the codes of a packet: 0 stands for no DISCONNECT, where the client leaves, or the DISCONNECT or the answer is too long for it
abbrev pub codes_of : Packet → List ℕ
codes_of (packets.Publish p) = 0 ∷ 130 ∷ 144 ∷ 147 ∷ 148 ∷ []
codes_of (packets.Puback a) = []
codes_of (packets.Pubrec a) = 0 ∷ []
codes_of (packets.Pubrel a) = 0 ∷ []
codes_of (packets.Pubcomp a) = []
codes_of (packets.Unsubscribe p) = 0 ∷ []
codes_of packets.Pingreq = 0 ∷ []
codes_of p = 0 ∷ 130 ∷ []

-- those of an event: a CONNACK or a SUBACK that is too long, and Keep Alive timeout
abbrev pub codes_by : Event → List ℕ
codes_by (connects c continued room now) = 0 ∷ []
codes_by (takes p now room) = codes_of p
codes_by (answers id codes) = 0 ∷ []
codes_by (ticks now) = 0 ∷ 141 ∷ []
codes_by e = []

abbrev pub EndsWithin : List ℕ → Option ℕ → Type 0
EndsWithin codes None = Unit {0}
EndsWithin codes (Some code) = is_in code codes ≡ true

-- an event ends a connection with a code of its own, or not at all
abbrev pub KeepsEndCodes : Type 0
KeepsEndCodes = (old new : State) (e : Event) (r : Reaction) → Reacts old e r new → EndsWithin (codes_by e) r.end

-- a connection is open, or begins
abbrev pub IsOpenFor : Bool → Event → Type 0
IsOpenFor on (connects c continued room now) = Unit {0}
IsOpenFor on e = on ≡ true

-- neither a packet goes out, nor a DISCONNECT
pub record IsMute (r : Reaction) : Type 0 where
  pub packets : r.packets ≡ []
  pub last : r.end ≡ None

abbrev pub SpeaksOpen : Bool → List Step → Type 0
SpeaksOpen on [] = Unit {0}
SpeaksOpen on (s ∷ ss) = (IsOpenFor on s.event ⊎ IsMute s.reaction) × SpeaksOpen (connected_after on s.event s.reaction) ss

-- before the first connection, and from the end of each to the beginning of the next, nothing goes out, the DISCONNECT neither
abbrev pub KeepsMute : Type 0
KeepsMute = (client : List ℕ) (steps : List Step) (end : State) → Run (new_session client) steps end → SpeaksOpen false steps
