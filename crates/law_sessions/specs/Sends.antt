-- What events and reactions tell of the exchanges by which messages are sent to the client.
use Rattle.std.specs.Prelude.{ℕ, ◌==◌, ◌&&◌, Bool, false, cond, List, [], ◌∷◌, ◌++◌, unwrap_or}
use Rattle.mqtt_fields.specs.Properties.{first_two}
use Rattle.mqtt_packets.specs.declared.connect.Connect.{Connect}
use Rattle.mqtt_packets.specs.declared.packet.Packet.{Packet}
use Rattle.mqtt_packets.specs.declared.packet.Packet.TheVariants as packets
use Rattle.qos_handshakes.specs.Outbox.{Sent, fits}
use Rattle.mqtt_sessions.specs.declared.reaction.Output.{Output}
use Rattle.mqtt_sessions.specs.declared.reaction.Publication.{Publication}
use Rattle.mqtt_sessions.specs.declared.reaction.Output.TheVariants.{Publish, Answer}
use Rattle.mqtt_sessions.specs.Sending.{is_once}
use Rattle.law_sessions.specs.Runs.{Event, connects, queues, takes, loses, Step, connected_after}

-- ---- the PUBLISHes among packets
-- at QoS 1 and 2; one at QoS 0 has no Packet Identifier, which 0 stands for (MQTT 5.0, 2.2.1)
abbrev pub sent_by : Output → List Sent
sent_by (Publish p) = cond (p.id == 0) [] (record { id = p.id; dup = p.dup; copy = p.delivery } ∷ [])
sent_by (Answer p) = []

abbrev pub sent_in : List Output → List Sent
sent_in [] = []
sent_in (p ∷ ps) = sent_by p ++ sent_in ps

-- at QoS 0
abbrev pub sent_once_by : Output → List Publication
sent_once_by (Publish p) = cond (p.id == 0) (p ∷ []) []
sent_once_by (Answer p) = []

abbrev pub sent_once_in : List Output → List Publication
sent_once_in [] = []
sent_once_in (p ∷ ps) = sent_once_by p ++ sent_once_in ps

-- ---- what is told of the exchanges: a connection begins with the client's Receive Maximum, or is lost; PUBACK, PUBREC and
-- PUBCOMP come; PUBLISHes are sent
pub data Mark : Type 0 where
  begins : ℕ → Mark
  crashes : Mark
  acks : ℕ → Mark
  recs : ℕ → ℕ → Mark
  comps : ℕ → Mark
  sends : Sent → Mark

-- Receive Maximum (3.1.2.11.3)
abbrev pub maximum_in : Connect → ℕ
maximum_in c = unwrap_or (first_two 33 c.properties) 65535

abbrev pub marks_in : Packet → List Mark
marks_in (packets.Puback a) = acks a.identifier ∷ []
marks_in (packets.Pubrec a) = recs a.identifier a.reason ∷ []
marks_in (packets.Pubcomp a) = comps a.identifier ∷ []
marks_in p = []

-- a packet is heard on an open connection alone
abbrev pub marks_by : Bool → Event → List Mark
marks_by on (connects c continued room now) = begins (maximum_in c) ∷ []
marks_by on (takes p now room) = cond on (marks_in p) []
marks_by on loses = crashes ∷ []
marks_by on e = []

abbrev pub sends_of : List Sent → List Mark
sends_of [] = []
sends_of (s ∷ ss) = sends s ∷ sends_of ss

abbrev pub marks_of : Bool → Step → List Mark
marks_of on s = marks_by on s.event ++ sends_of (sent_in s.reaction.packets)

abbrev pub all_marks : Bool → List Step → List Mark
all_marks on [] = []
all_marks on (s ∷ ss) = marks_of on s ++ all_marks (connected_after on s.event s.reaction) ss

-- ---- QoS 0
-- what is sent at QoS 0: the delivery that is queued, where the client is connected and takes it; its DUP flag is 0 (3.3.1.1)
abbrev pub once_by : Bool → ℕ → Event → List Publication
once_by on limit (queues d now) = cond (is_once d.qos && on && fits now limit d) (record { id = 0; dup = false; delivery = d } ∷ []) []
once_by on limit e = []
