-- What was sent and not answered, as events tell it (MQTT 5.0, 4.3 and 4.4).
use Rattle.std.specs.Prelude.{◌≡◌, ◌≢◌, ℕ, ◌<◌, ◌⊎◌, Bool, true, false, List, [], ◌∷◌, ◌++◌, Option}
use Rattle.std.specs.List.{AllByRecursion}
use Rattle.mqtt_fields.specs.declared.options.Qos.TheVariants.{AtLeastOnce, ExactlyOnce}
use Rattle.mqtt_packets.specs.declared.connect.Connect.{Connect}
use Rattle.mqtt_packets.specs.declared.packet.Packet.{Packet}
use Rattle.mqtt_packets.specs.declared.packet.Packet.TheVariants as packets
use Rattle.qos_handshakes.specs.Length.{length_of}
use Rattle.law_handshakes.specs.Lists.{Without}
use Rattle.law_handshakes.specs.Resends.{SentCopy, published, owed}
use Rattle.mqtt_sessions.specs.Reaction.{Reaction}
use Rattle.mqtt_sessions.specs.State.{State, new_session}
use Rattle.law_sessions.specs.Order.{firsts, resends}
use Rattle.law_sessions.specs.Resends.{StaysConnected}
use Rattle.law_sessions.specs.Runs.{Event, connects, queues, rooms, takes, Step, Run, connected_after, limit_after}
use Rattle.law_sessions.specs.Sends.{marks_of}
use Rattle.law_deliveries.specs.Again.{all_sent_over}
use Rattle.law_deliveries.specs.Queue.{HasQuota, SentOf, Told, told_after, told_nothing, told_over}

-- the answer to a PUBLISH: PUBACK at QoS 1, and PUBREC at QoS 2
abbrev pub IsAnswerFor : Packet → SentCopy → Type 0
IsAnswerFor (packets.Puback a) x = (x.0 ≡ a.identifier) × (x.1.qos ≡ AtLeastOnce)
IsAnswerFor (packets.Pubrec a) x = (x.0 ≡ a.identifier) × (x.1.qos ≡ ExactlyOnce)
IsAnswerFor p x = ⊥

abbrev pub IsAnswered : Bool → Event → SentCopy → Type 0
IsAnswered on (takes p now room) x = (on ≡ true) × IsAnswerFor p x
IsAnswered on e x = ⊥

-- it is longer than the client takes, at an event by which it may be sent again
abbrev pub IsTooLong : Bool → ℕ → Event → SentCopy → Type 0
IsTooLong on limit (connects c continued room now) x = limit < length_of now x.1
IsTooLong on limit (queues d now) x = (on ≡ true) × (limit < length_of now x.1)
IsTooLong on limit (rooms bytes now) x = (on ≡ true) × (limit < length_of now x.1)
IsTooLong on limit (takes p now room) x = (on ≡ true) × (limit < length_of now x.1)
IsTooLong on limit e x = ⊥

-- this connection didn't send it yet
abbrev pub IsUnsent : (ℕ → Bool) → Event → SentCopy → Type 0
IsUnsent sent (queues d now) x = sent x.0 ≡ false
IsUnsent sent (rooms bytes now) x = sent x.0 ≡ false
IsUnsent sent (takes p now room) x = sent x.0 ≡ false
IsUnsent sent e x = Unit {0}

-- why an event ends what was sent: its own answer comes, or it is too long when it is to be sent again
abbrev pub Ends : Bool → ℕ → (ℕ → Bool) → Event → SentCopy → Type 0
Ends on limit sent e x = IsAnswered on e x ⊎ (IsTooLong on limit e x × IsUnsent sent e x)

-- what was sent first and has not ended, in order: each event appends what it sends first, and takes out what it ends
abbrev pub OpenOver : Bool → ℕ → (ℕ → Bool) → List SentCopy → List Step → List SentCopy → Type 0
OpenOver on limit sent going [] last = last ≡ going
OpenOver on limit sent going (s ∷ ss) last =
    (mid : List SentCopy) × Without (Ends on (limit_after limit s.event) sent s.event) (going ++ firsts (marks_of on s)) mid
    × OpenOver (connected_after on s.event s.reaction) (limit_after limit s.event) (all_sent_over sent (marks_of on s)) mid ss last

abbrev pub IsGoing : List Step → List SentCopy → Type 0
IsGoing steps going = OpenOver false 0 (λ id. false) [] steps going

-- An event takes from what is still to be sent again what it answers, and then a beginning: what it sends again, in order, and what is
-- too long. What is too long after the last that is sent again leaves only where something is sent first then, or quota is left.
pub record SendsAgain (on : Bool) (t : Told) (owes : List SentCopy) (s : Step) (rest : List SentCopy) : Type 0 where
  pub unanswered : List SentCopy
  pub taken : List SentCopy
  pub long : List SentCopy
  pub answers : Without (IsAnswered on s.event) owes unanswered
  pub splits : unanswered ≡ taken ++ (long ++ rest)
  pub sent : SentOf (IsTooLong on t.limit s.event) taken (resends (marks_of on s))
  pub left_out : AllByRecursion (IsTooLong on t.limit s.event) long
  pub room : (long ≡ []) ⊎ ((firsts (marks_of on s) ≢ []) ⊎ HasQuota t)

abbrev pub OwedOver : Told → List SentCopy → List Step → List SentCopy → Type 0
OwedOver t owes [] last = last ≡ owes
OwedOver t owes (s ∷ ss) last = (rest : List SentCopy) × SendsAgain t.on (told_after t s) owes s rest × OwedOver (told_after t s) rest ss last

abbrev pub KeepsOpen : Type 0
KeepsOpen = (client : List ℕ) (steps : List Step) (end : State) → Run (new_session client) steps end → IsGoing steps (published end.outbox.copies)

-- a connection has to send again just what was going when it began
pub record Continues (before here : List Step) (end : State) : Type 0 where
  pub going : List SentCopy
  pub was : IsGoing before going
  pub is : OwedOver (told_over told_nothing before) going here (owed end.outbox.copies)

abbrev pub KeepsOwed : Type 0
KeepsOwed = (client : List ℕ) (before here : List Step) (c : Connect) (continued : Bool) (room : Option ℕ) (now : ℕ) (r : Reaction) (end : State) → AllByRecursion (λ (s : Step). StaysConnected s.event) here
    → Run (new_session client) (before ++ record { event = connects c continued room now; reaction = r } ∷ here) end → Continues before (record { event = connects c continued room now; reaction = r } ∷ here) end
