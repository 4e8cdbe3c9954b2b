-- A PUBLISH that goes on as it came, alone.
use Rattle.std.specs.Prelude.{◌≡◌, ◌&&◌, ℕ, List, [], ◌∷◌, Bool, true, false, Option, Some, None, is_none}
use Rattle.mqtt_packets.specs.Stream.{packet_at}
use Rattle.mqtt_packets.specs.declared.publish.Publish.{Publish}
use Rattle.door_packets.specs.Front.{IsPublish}
use Rattle.door_packets.specs.Packets.{alias_of, has_topic}
use Rattle.door_packets.specs.Rights.{Rights}
use Rattle.door_packets.specs.Walk.{Walked}
use Rattle.door_packets.specs.declared.access.Login.{Login}
use Rattle.door_packets.specs.declared.client.Client.{Client}
use Rattle.door_packets.specs.declared.step.Step.TheVariants.{Tells}

-- it names its topic, which may be written, and gives it no alias
abbrev pub passes_by : Rights → Option Login → Publish → Bool
passes_by r None p = false
passes_by r (Some l) p = is_none (alias_of p) && has_topic p && r.may_write l p.topic

-- so does the PUBLISH in front of these bytes
abbrev pub Passes : Rights → Option Login → List ℕ → Type 0
Passes r l bs = (p : Publish) × IsPublish p (packet_at bs) × (passes_by r l p ≡ true)

-- the handler inside is told these bytes, and what is known of the client stays
abbrev pub told_alone : Client → List ℕ → Walked
told_alone c bs = record { client = c; steps = Tells bs ∷ [] }
