-- Messages of the client that come once (MQTT 5.0, 4.3.3).
use Rattle.std.specs.Prelude.{◌≡◌, ℕ, ◌==◌, ◌&&◌, Bool, true, false, cond, List, [], ◌∷◌, Some, None, is_some}
use Rattle.mqtt_fields.specs.declared.options.Qos.{Qos}
use Rattle.mqtt_fields.specs.declared.options.Qos.TheVariants.{AtMostOnce, AtLeastOnce, ExactlyOnce}
use Rattle.mqtt_packets.specs.declared.packet.Packet.TheVariants as packets
use Rattle.mqtt_packets.specs.declared.publish.Publish.{Publish}
use Rattle.mqtt_message.specs.declared.message.Message.{Message}
use Rattle.mqtt_sessions.specs.declared.reaction.Ask.TheVariants.{Pass}
use Rattle.mqtt_sessions.specs.declared.reaction.Output.TheVariants.{Answer}
use Rattle.mqtt_sessions.specs.Answers.{pubrec}
use Rattle.mqtt_sessions.specs.Reaction.{Reaction}
use Rattle.mqtt_sessions.specs.State.{State, new_session}
use Rattle.law_sessions.specs.Runs.{Event, takes, Step, Run, connected_after}

abbrev pub is_exactly_once : Qos → Bool
is_exactly_once AtMostOnce = false
is_exactly_once AtLeastOnce = false
is_exactly_once ExactlyOnce = true

-- whether a PUBLISH has the identifier at QoS 2
abbrev pub is_for : ℕ → Publish → Bool
is_for id p = is_exactly_once p.qos && (p.identifier == id)

-- an exchange is open from the PUBLISH whose message is passed on to the PUBREL
abbrev pub is_open_after : Bool → ℕ → Bool → Event → Reaction → Bool
is_open_after on id is (takes (packets.Publish p) now room) r = cond (is_for id p && is_some r.ask) true is
is_open_after on id is (takes (packets.Pubrel a) now room) r = cond (on && (a.identifier == id)) false is
is_open_after on id is e r = is

-- What a PUBLISH at QoS 2 comes to where the exchange of its identifier is open or not: while it is, its message isn't passed
-- on; one that is received, by PUBREC 0x00, is passed on now, or its exchange is open.
pub record PassesOnce (is : Bool) (id : ℕ) (r : Reaction) : Type 0 where
  pub repeated : is ≡ true → r.ask ≡ None
  pub received : r.packets ≡ Answer (pubrec id 0) ∷ [] → is ≡ false → (m : Message) × (r.ask ≡ Some (Pass m))

abbrev pub PassesBy : ℕ → Bool → Event → Reaction → Type 0
PassesBy id is (takes (packets.Publish p) now room) r = is_for id p ≡ true → PassesOnce is id r
PassesBy id is e r = Unit {0}

abbrev pub ComesOnce : Bool → ℕ → Bool → List Step → Type 0
ComesOnce on id is [] = Unit {0}
ComesOnce on id is (s ∷ ss) = PassesBy id is s.event s.reaction × ComesOnce (connected_after on s.event s.reaction) id (is_open_after on id is s.event s.reaction) ss

-- From the PUBLISH that opens an incoming exchange to its PUBREL, over all connections, its message is passed on once, where it
-- is opened.
abbrev pub KeepsOnce : Type 0
KeepsOnce = (client : List ℕ) (id : ℕ) (steps : List Step) (end : State) → Run (new_session client) steps end → ComesOnce false id false steps
