-- PUBLISHes that are sent again (MQTT 5.0, 4.4).
use Rattle.std.specs.Prelude.{◌≡◌, ℕ, ◌<◌, ◌⊎◌, Bool, true, false, cond, List, [], ◌∷◌, ◌++◌, Option}
use Rattle.std.specs.List.{AllByRecursion}
use Rattle.mqtt_packets.specs.declared.connect.Connect.{Connect}
use Rattle.mqtt_packets.specs.declared.packet.Packet.{Packet}
use Rattle.mqtt_packets.specs.declared.packet.Packet.TheVariants as packets
use Rattle.qos_handshakes.specs.Length.{length_of}
use Rattle.law_handshakes.specs.Lists.{Without}
use Rattle.law_handshakes.specs.Resends.{SentCopy, owed}
use Rattle.mqtt_sessions.specs.Reaction.{Reaction}
use Rattle.mqtt_sessions.specs.State.{State, new_session}
use Rattle.law_sessions.specs.Runs.{Event, connects, queues, rooms, takes, loses, Step, Run, connected_after, limit_after}
use Rattle.law_sessions.specs.Sends.{Mark, begins, crashes, sends, all_marks}
use Rattle.law_sessions.specs.Order.{firsts, resends}

-- PUBACK or PUBREC for it came
abbrev pub IsAnsweredBy : Packet → SentCopy → Type 0
IsAnsweredBy (packets.Puback a) x = x.0 ≡ a.identifier
IsAnsweredBy (packets.Pubrec a) x = x.0 ≡ a.identifier
IsAnsweredBy p x = ⊥

-- why a PUBLISH is sent no more: its answer came, or it was longer than the client takes when it was to be sent again, while the
-- client was connected
abbrev pub EndsIt : Bool → ℕ → Event → SentCopy → Type 0
EndsIt on limit (connects c continued room now) x = limit < length_of now x.1
EndsIt on limit (queues d now) x = (on ≡ true) × (limit < length_of now x.1)
EndsIt on limit (rooms bytes now) x = (on ≡ true) × (limit < length_of now x.1)
EndsIt on limit (takes p now room) x = (on ≡ true) × (IsAnsweredBy p x ⊎ (limit < length_of now x.1))
EndsIt on limit e x = ⊥

abbrev pub EndedIn : Bool → ℕ → List Step → SentCopy → Type 0
EndedIn on limit [] x = ⊥
EndedIn on limit (s ∷ ss) x = EndsIt on (limit_after limit s.event) s.event x ⊎ EndedIn (connected_after on s.event s.reaction) (limit_after limit s.event) ss x

-- an event on the connection that goes on
abbrev pub StaysConnected : Event → Type 0
StaysConnected (connects c continued room now) = ⊥
StaysConnected loses = ⊥
StaysConnected e = Unit {0}

-- What a connection sends again, followed by what it has still to send again, is what was sent first before it began, in
-- order and once, without what was answered or too long.
abbrev pub KeepsResendsInOrder : Type 0
KeepsResendsInOrder = (client : List ℕ) (before here : List Step) (c : Connect) (continued : Bool) (room : Option ℕ) (now : ℕ) (r : Reaction) (end : State) → AllByRecursion (λ (s : Step). StaysConnected s.event) here
    → Run (new_session client) (before ++ record { event = connects c continued room now; reaction = r } ∷ here) end
    → Without (EndedIn false 0 (before ++ record { event = connects c continued room now; reaction = r } ∷ here)) (firsts (all_marks false before))
    (resends (all_marks false (record { event = connects c continued room now; reaction = r } ∷ here)) ++ owed end.outbox.copies)

-- where a session isn't continued, nothing is sent again
abbrev pub KeepsResendsContinued : Type 0
KeepsResendsContinued = (client : List ℕ) (before here : List Step) (c : Connect) (room : Option ℕ) (now : ℕ) (r : Reaction) (end : State) → AllByRecursion (λ (s : Step). StaysConnected s.event) here
    → Run (new_session client) (before ++ record { event = connects c false room now; reaction = r } ∷ here) end
    → resends (all_marks false (record { event = connects c false room now; reaction = r } ∷ here)) ≡ []

-- no resend comes after a first send of its connection
abbrev pub ResendsFirst : Bool → List Mark → Type 0
ResendsFirst sent [] = Unit {0}
ResendsFirst sent (begins maximum ∷ ms) = ResendsFirst false ms
ResendsFirst sent (crashes ∷ ms) = ResendsFirst false ms
ResendsFirst sent (sends s ∷ ms) = (sent ≡ true → s.dup ≡ false) × ResendsFirst (cond s.dup sent true) ms
ResendsFirst sent (m ∷ ms) = ResendsFirst sent ms

abbrev pub KeepsResendsFirst : Type 0
KeepsResendsFirst = (client : List ℕ) (steps : List Step) (end : State) → Run (new_session client) steps end → ResendsFirst false (all_marks false steps)
