-- What becomes of a copy at QoS 1 or 2 from the event on that queues it (MQTT 5.0, 3.3.2.3.3, 3.1.2.11.4, 4.3, 4.4 and 4.6).
use Rattle.std.specs.Prelude.{◌≡◌, ◌⊎◌, ℕ, Bool, true, false, List, [], ◌∷◌, ◌++◌}
use Rattle.law_handshakes.specs.Resends.{SentCopy, published}
use Rattle.mqtt_message.specs.declared.delivery.Delivery.{Delivery}
use Rattle.mqtt_sessions.specs.Sending.{is_once}
use Rattle.mqtt_sessions.specs.State.{State, new_session}
use Rattle.qos_handshakes.specs.Outbox.{waiting}
use Rattle.law_sessions.specs.Order.{IsLate, firsts}
use Rattle.law_sessions.specs.Runs.{queues, Step, Run, connected_after, limit_after}
use Rattle.law_sessions.specs.Sends.{marks_of}
use Rattle.law_sessions.specs.Sizes.{moment_of}
use Rattle.law_deliveries.specs.Again.{all_sent_over}
use Rattle.law_deliveries.specs.Unanswered.{Ends}

-- something is among others
abbrev pub IsOneOf : {A : Type 0} → A → List A → Type 0
IsOneOf x [] = ⊥
IsOneOf x (y ∷ ys) = (y ≡ x) ⊎ IsOneOf x ys

-- what events tell: whether a connection is open, the longest packet that its client takes, and whether it sent a PUBLISH under an
-- identifier
pub record Channel : Type 0 where
  pub on : Bool
  pub limit : ℕ
  pub sent : ℕ → Bool

abbrev pub no_channel : Channel
no_channel = record { on = false; limit = 0; sent = λ id. false }

abbrev pub channel_after : Channel → Step → Channel
channel_after l s = record { on = connected_after l.on s.event s.reaction; limit = limit_after l.limit s.event; sent = all_sent_over l.sent (marks_of l.on s) }

abbrev pub channel_over : Channel → List Step → Channel
channel_over l [] = l
channel_over l (s ∷ ss) = channel_over (channel_after l s) ss

-- one of the events ends what was sent: its own answer comes, or it is too long when it is to be sent again
abbrev pub EndsAmong : Channel → List Step → SentCopy → Type 0
EndsAmong l [] x = ⊥
EndsAmong l (s ∷ ss) x = Ends l.on (limit_after l.limit s.event) l.sent s.event x ⊎ EndsAmong (channel_after l s) ss x

-- an event sends the copy first under an identifier, and it is unfinished after the later ones, or one of these ends it
abbrev pub IsSentBy : Channel → Step → List Step → Delivery → List SentCopy → Type 0
IsSentBy l s ss x unfinished = (id : ℕ) × IsOneOf (id, x) (firsts (marks_of l.on s)) × (IsOneOf (id, x) unfinished ⊎ EndsAmong (channel_after l s) ss (id, x))

-- an event leaves it out: on an open connection, where its deadline has passed, or it is longer than the client takes
abbrev pub IsLeftOutBy : Channel → Step → Delivery → Type 0
IsLeftOutBy l s x = ((channel_after l s).on ≡ true) × IsLate (moment_of s.event) (channel_after l s).limit x

-- a copy that waits goes on waiting, until one of the events sends it or leaves it out
abbrev pub GoesFrom : Channel → List Step → Delivery → List Delivery → List SentCopy → Type 0
GoesFrom l [] x waits unfinished = IsOneOf x waits
GoesFrom l (s ∷ ss) x waits unfinished = IsSentBy l s ss x unfinished ⊎ IsLeftOutBy l s x ⊎ GoesFrom (channel_after l s) ss x waits unfinished

-- a copy that an event queues: the queue is full, and says so; or it joins the queue, and goes so from this event on
abbrev pub KeepsCopies : Type 0
KeepsCopies =
    (client : List ℕ) (before since : List Step) (s : Step) (x : Delivery) (now : ℕ) (end : State) → s.event ≡ queues x now → is_once x.qos ≡ false → Run (new_session client) (before ++ s ∷ since) end
    → (s.reaction.full ≡ true) ⊎ GoesFrom (channel_over no_channel before) (s ∷ since) x (waiting end.outbox.copies) (published end.outbox.copies)
