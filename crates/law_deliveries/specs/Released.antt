-- PUBRELs, and the exchanges that are released (MQTT 5.0, 4.3.3).
use Rattle.std.specs.Prelude.{◌≡◌, ℕ, ◌==◌, ◌&&◌, not, Bool, true, false, cond, List, [], ◌∷◌, ◌++◌, None}
use Rattle.mqtt_packets.specs.declared.packet.Packet.TheVariants as packets
use Rattle.qos_handshakes.specs.Outbox.{Sent}
use Rattle.qos_handshakes.specs.Touched.{is_in}
use Rattle.law_handshakes.specs.Lists.{without}
use Rattle.mqtt_sessions.specs.declared.reaction.Output.{Output}
use Rattle.mqtt_sessions.specs.declared.reaction.Output.TheVariants.{Answer}
use Rattle.mqtt_sessions.specs.Reaction.{Reaction, publishes_of, pubrels_of}
use Rattle.mqtt_sessions.specs.State.{State, new_session}
use Rattle.law_sessions.specs.Exchanges.{Releases}
use Rattle.law_sessions.specs.Releases.{released_ids}
use Rattle.law_sessions.specs.Runs.{Event, connects, takes, Step, Reacts, Run, connected_after}

-- where a PUBREL with Success is sent, the session holds its exchange as released after that event
abbrev pub KeepsReleasesHeld : Type 0
KeepsReleasesHeld = (client : List ℕ) (id : ℕ) (before : List Step) (s : Step) (mid end : State) → Run (new_session client) before mid → Reacts mid s.event s.reaction end → Releases id s.reaction.packets → is_in id (released_ids end) ≡ true

-- ---- PUBRELs at the beginning of a connection, as packets tell them (4.4)
-- whether a PUBREL with Success is among packets
abbrev pub pubrel_in : ℕ → List Output → Bool
pubrel_in id [] = false
pubrel_in id (Answer (packets.Pubrel a) ∷ os) = cond ((a.identifier == id) && (a.reason == 0)) true (pubrel_in id os)
pubrel_in id (o ∷ os) = pubrel_in id os

-- the exchanges that are released: each from the first PUBREC that a PUBREL with Success answers to its PUBCOMP, over all connections
abbrev pub released_told : Bool → List ℕ → Event → Reaction → List ℕ
released_told on ids (takes (packets.Pubrec a) now room) r = cond (pubrel_in a.identifier r.packets && not (is_in a.identifier ids)) (ids ++ a.identifier ∷ []) ids
released_told on ids (takes (packets.Pubcomp a) now room) r = cond on (without a.identifier ids) ids
released_told on ids e r = ids

abbrev pub released_over : Bool → List ℕ → List Step → List ℕ
released_over on ids [] = ids
released_over on ids (s ∷ ss) = released_over (connected_after on s.event s.reaction) (released_told on ids s.event s.reaction) ss

-- a connection that is accepted begins with one packet, then one PUBREL for each of them, in that order, then PUBLISHes
abbrev pub BeginsBy : List ℕ → Event → Reaction → Type 0
BeginsBy ids (connects c continued room now) r = r.end ≡ None → (first : Output) × (sents : List Sent) × (r.packets ≡ first ∷ pubrels_of ids ++ publishes_of sents)
BeginsBy ids e r = Unit {0}

abbrev pub AllBegin : Bool → List ℕ → List Step → Type 0
AllBegin on ids [] = Unit {0}
AllBegin on ids (s ∷ ss) = BeginsBy ids s.event s.reaction × AllBegin (connected_after on s.event s.reaction) (released_told on ids s.event s.reaction) ss

abbrev pub KeepsReleasesTold : Type 0
KeepsReleasesTold = (client : List ℕ) (steps : List Step) (end : State) → Run (new_session client) steps end → AllBegin false [] steps
