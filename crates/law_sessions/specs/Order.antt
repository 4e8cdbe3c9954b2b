-- The order of messages (MQTT 5.0, 4.6).
use Rattle.std.specs.Prelude.{◌≡◌, ℕ, ◌<◌, ◌⊎◌, Bool, true, false, cond, List, [], ◌∷◌, ◌++◌}
use Rattle.mqtt_message.specs.declared.delivery.Delivery.{Delivery}
use Rattle.mqtt_message.specs.Messages.{is_alive}
use Rattle.qos_handshakes.specs.Length.{length_of}
use Rattle.qos_handshakes.specs.Outbox.{waiting}
use Rattle.law_handshakes.specs.Lists.{Without}
use Rattle.law_handshakes.specs.Resends.{SentCopy}
use Rattle.mqtt_sessions.specs.Reaction.{Reaction}
use Rattle.mqtt_sessions.specs.Sending.{is_once}
use Rattle.mqtt_sessions.specs.State.{State, new_session}
use Rattle.law_sessions.specs.Runs.{Event, connects, queues, rooms, takes, Step, Run, connected_after, limit_after}
use Rattle.law_sessions.specs.Sends.{Mark, sends, all_marks, sent_once_in, once_by}

-- the PUBLISHes that are sent first, and those that are sent again
abbrev pub first_of : Mark → List SentCopy
first_of (sends s) = cond s.dup [] ((s.id, s.copy) ∷ [])
first_of m = []

abbrev pub again_of : Mark → List SentCopy
again_of (sends s) = cond s.dup ((s.id, s.copy) ∷ []) []
again_of m = []

abbrev pub firsts : List Mark → List SentCopy
firsts [] = []
firsts (m ∷ ms) = first_of m ++ firsts ms

abbrev pub resends : List Mark → List SentCopy
resends [] = []
resends (m ∷ ms) = again_of m ++ resends ms

abbrev pub copies_of : List SentCopy → List Delivery
copies_of [] = []
copies_of (x ∷ xs) = x.1 ∷ copies_of xs

-- the deliveries that are queued at QoS 1 and 2
abbrev pub queued_by : Event → List Delivery
queued_by (queues d now) = cond (is_once d.qos) [] (d ∷ [])
queued_by e = []

abbrev pub all_queued : List Step → List Delivery
all_queued [] = []
all_queued (s ∷ ss) = queued_by s.event ++ all_queued ss

-- its deadline has passed, or it is longer than the client takes
abbrev pub IsLate : ℕ → ℕ → Delivery → Type 0
IsLate now limit x = (is_alive x.message now ≡ false) ⊎ (limit < length_of now x)

-- why an event may leave a delivery out: the queue is full, and says so; or it is late when it is taken from the queue, while the
-- client is connected
abbrev pub LeavesOut : Bool → ℕ → Event → Reaction → Delivery → Type 0
LeavesOut on limit (connects c continued room now) r x = IsLate now limit x
LeavesOut on limit (queues d now) r x = ((r.full ≡ true) × (x ≡ d)) ⊎ ((on ≡ true) × IsLate now limit x)
LeavesOut on limit (rooms bytes now) r x = (on ≡ true) × IsLate now limit x
LeavesOut on limit (takes p now room) r x = (on ≡ true) × IsLate now limit x
LeavesOut on limit e r x = ⊥

abbrev pub LeftOutIn : Bool → ℕ → List Step → Delivery → Type 0
LeftOutIn on limit [] x = ⊥
LeftOutIn on limit (s ∷ ss) x = LeavesOut on (limit_after limit s.event) s.event s.reaction x ⊎ LeftOutIn (connected_after on s.event s.reaction) (limit_after limit s.event) ss x

-- What is sent first at QoS 1 and 2, followed by what waits, is what was queued, in order and unchanged, without what was left
-- out.
abbrev pub KeepsOrder : Type 0
KeepsOrder = (client : List ℕ) (steps : List Step) (end : State) → Run (new_session client) steps end
    → Without (LeftOutIn false 0 steps) (all_queued steps) (copies_of (firsts (all_marks false steps)) ++ waiting end.outbox.copies)

-- each event sends at QoS 0 just the delivery that it queues, where the client is connected and takes it
abbrev pub SendsOnce : Bool → ℕ → List Step → Type 0
SendsOnce on limit [] = Unit {0}
SendsOnce on limit (s ∷ ss) = (sent_once_in s.reaction.packets ≡ once_by on (limit_after limit s.event) s.event) × SendsOnce (connected_after on s.event s.reaction) (limit_after limit s.event) ss

abbrev pub KeepsAtMostOnce : Type 0
KeepsAtMostOnce = (client : List ℕ) (steps : List Step) (end : State) → Run (new_session client) steps end → SendsOnce false 0 steps
