-- The exchanges at QoS 2 that a client has opened, as packets show them (MQTT 5.0, 4.3.3).
use Rattle.std.specs.Prelude.{ℕ, ◌==◌, ◌&&◌, not, nat_lt, Bool, true, false, cond, List, [], ◌∷◌, ◌++◌}
use Rattle.mqtt_packets.specs.declared.packet.Packet.TheVariants as packets
use Rattle.mqtt_packets.specs.declared.publish.Publish.{Publish}
use Rattle.qos_handshakes.specs.Touched.{is_in}
use Rattle.law_handshakes.specs.Lists.{without}
use Rattle.mqtt_sessions.specs.declared.reaction.Output.{Output}
use Rattle.mqtt_sessions.specs.declared.reaction.Output.TheVariants.{Answer}
use Rattle.mqtt_sessions.specs.Reaction.{Reaction}
use Rattle.law_sessions.specs.Arrivals.{is_exactly_once}
use Rattle.law_sessions.specs.Runs.{Event, connects, takes, loses, Step, connected_after}

-- the Packet Identifiers of those that are open, over all connections, and of those that the last connection opened
pub record OpenExchanges : Type 0 where
  pub all : List ℕ
  pub here : List ℕ

abbrev pub none_open : OpenExchanges
none_open = record { all = []; here = [] }

-- whether a PUBREC below 0x80 is among packets
abbrev pub pubrec_in : ℕ → List Output → Bool
pubrec_in id [] = false
pubrec_in id (Answer (packets.Pubrec a) ∷ os) = cond ((a.identifier == id) && nat_lt a.reason 128) true (pubrec_in id os)
pubrec_in id (o ∷ os) = pubrec_in id os

-- a PUBLISH at QoS 2 that PUBREC below 0x80 answers opens its exchange, unless that is open
abbrev pub opens_one : Publish → Reaction → OpenExchanges → Bool
opens_one p r o = is_exactly_once p.qos && (pubrec_in p.identifier r.packets && not (is_in p.identifier o.all))

abbrev pub with_one : ℕ → OpenExchanges → OpenExchanges
with_one id o = record { all = o.all ++ id ∷ []; here = o.here ++ id ∷ [] }

abbrev pub without_one : ℕ → OpenExchanges → OpenExchanges
without_one id o = record { all = without id o.all; here = without id o.here }

-- PUBREL ends it; a new connection has opened none
abbrev pub open_after : Bool → OpenExchanges → Event → Reaction → OpenExchanges
open_after on o (connects c continued room now) r = record o { here = [] }
open_after on o loses r = record o { here = [] }
open_after on o (takes (packets.Publish p) now room) r = cond (opens_one p r o) (with_one p.identifier o) o
open_after on o (takes (packets.Pubrel a) now room) r = cond on (without_one a.identifier o) o
open_after on o e r = o

abbrev pub open_over : Bool → OpenExchanges → List Step → OpenExchanges
open_over on o [] = o
open_over on o (s ∷ ss) = open_over (connected_after on s.event s.reaction) (open_after on o s.event s.reaction) ss

-- once these events came: what is open, and whether the client is connected
abbrev pub open_told : List Step → OpenExchanges
open_told steps = open_over false none_open steps

abbrev pub connected_over : Bool → List Step → Bool
connected_over on [] = on
connected_over on (s ∷ ss) = connected_over (connected_after on s.event s.reaction) ss

abbrev pub connected_told : List Step → Bool
connected_told steps = connected_over false steps
