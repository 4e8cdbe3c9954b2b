-- The queue of a session, event by event (MQTT 5.0, 4.6 and 4.9).
use Rattle.std.specs.Prelude.{◌≡◌, ℕ, ◌<◌, ◌≤◌, ◌⊎◌, ◌&&◌, not, Bool, true, false, cond, nat_le, List, [], ◌∷◌, ◌++◌, length, IsSome}
use Rattle.std.specs.List.{AllByRecursion}
use Rattle.mqtt_message.specs.declared.delivery.Delivery.{Delivery}
use Rattle.qos_handshakes.specs.Entries.{NoneFree}
use Rattle.qos_handshakes.specs.Outbox.{waiting, in_flight}
use Rattle.mqtt_sessions.specs.Reaction.{Reaction}
use Rattle.mqtt_sessions.specs.Sending.{is_once}
use Rattle.mqtt_sessions.specs.State.{State, new_session}
use Rattle.law_sessions.specs.Exchanges.{Exchange, none}
use Rattle.law_sessions.specs.Order.{IsLate, copies_of, firsts, queued_by}
use Rattle.law_sessions.specs.Quota.{all_after, flying_after, maximum_after}
use Rattle.law_sessions.specs.Runs.{Event, queues, Step, Reacts, Run, connected_after, limit_after}
use Rattle.law_sessions.specs.Sends.{Mark, marks_of, sends_of, sent_in}
use Rattle.law_sessions.specs.Sizes.{moment_of}

-- the queue is full for a delivery at QoS 1 or 2 where 65,536 wait
abbrev pub full_by : Event → ℕ → Bool
full_by (queues d now) count = not (is_once d.qos) && nat_le 65536 count
full_by e count = false

-- an event says so exactly then
abbrev pub KeepsFull : Type 0
KeepsFull = (old new : State) (e : Event) (r : Reaction) → Reacts old e r new → r.full ≡ full_by e (length (waiting old.outbox.copies))

-- never more than 65,536 wait
abbrev pub KeepsBound : Type 0
KeepsBound = (client : List ℕ) (steps : List Step) (end : State) → Run (new_session client) steps end → length (waiting end.outbox.copies) ≤ 65536

-- what an event adds to the queue
abbrev pub joins_by : Event → Reaction → List Delivery
joins_by e r = cond r.full [] (queued_by e)

-- some are sent, in order, and before each of them some may be left out
abbrev pub SentOf : {A : Type 0} → (A → Type 0) → List A → List A → Type 0
SentOf P taken [] = taken ≡ []
SentOf {A = A} P taken (x ∷ xs) = (out : List A) × (rest : List A) × (taken ≡ out ++ x ∷ rest) × AllByRecursion P out × SentOf P rest xs

-- a connection is open on which quota and an identifier are free
pub record HasSpare (s : State) : Type 0 where
  pub linked : IsSome s.link
  pub quota : in_flight s.outbox.copies < s.outbox.maximum
  pub identifier : NoneFree s.outbox.copies → ⊥

-- An event appends its delivery to the queue, and takes a beginning of it: those that it sends first, and those that are late by
-- the moment of this event or too long for the client of this connection. What is left out after the last that is sent leaves only
-- where there is room.
pub record Serves (limit : ℕ) (queue : List Delivery) (s : Step) (HasRoom : Type 0) (rest : List Delivery) : Type 0 where
  pub taken : List Delivery
  pub late : List Delivery
  pub splits : queue ++ joins_by s.event s.reaction ≡ taken ++ (late ++ rest)
  pub sent : SentOf (IsLate (moment_of s.event) limit) taken (copies_of (firsts (sends_of (sent_in s.reaction.packets))))
  pub left_out : AllByRecursion (IsLate (moment_of s.event) limit) late
  pub room : (late ≡ []) ⊎ HasRoom

-- the longest packet that the client of the last connection takes
abbrev pub limit_told : ℕ → List Step → ℕ
limit_told limit [] = limit
limit_told limit (s ∷ ss) = limit_told (limit_after limit s.event) ss

abbrev pub KeepsQueue : Type 0
KeepsQueue = (client : List ℕ) (before : List Step) (s : Step) (mid end : State) → Run (new_session client) before mid → Reacts mid s.event s.reaction end
    → Serves (limit_after (limit_told 0 before) s.event) (waiting mid.outbox.copies) s (HasSpare end) (waiting end.outbox.copies)

-- ---- the queue along a list of events, with the quota as they tell it
abbrev pub exchanges_over : (ℕ → Exchange) → List Mark → ℕ → Exchange
exchanges_over x [] = x
exchanges_over x (m ∷ ms) = exchanges_over (all_after x m) ms

abbrev pub flying_over : (ℕ → Exchange) → List ℕ → List Mark → List ℕ
flying_over x flying [] = flying
flying_over x flying (m ∷ ms) = flying_over (all_after x m) (flying_after x flying m) ms

abbrev pub maximum_over : ℕ → List Mark → ℕ
maximum_over maximum [] = maximum
maximum_over maximum (m ∷ ms) = maximum_over (maximum_after maximum m) ms

-- whether a connection is open, the longest packet that its client takes, the exchanges, those of them whose PUBLISH the connection
-- sent, and its Receive Maximum
pub record Told : Type 0 where
  pub on : Bool
  pub limit : ℕ
  pub exchanges : ℕ → Exchange
  pub flying : List ℕ
  pub maximum : ℕ

abbrev pub told_nothing : Told
told_nothing = record { on = false; limit = 0; exchanges = λ id. none; flying = []; maximum = 0 }

abbrev pub told_after : Told → Step → Told
told_after t s = record {
  on = connected_after t.on s.event s.reaction;
  limit = limit_after t.limit s.event;
  exchanges = exchanges_over t.exchanges (marks_of t.on s);
  flying = flying_over t.exchanges t.flying (marks_of t.on s);
  maximum = maximum_over t.maximum (marks_of t.on s);
}

abbrev pub told_over : Told → List Step → Told
told_over t [] = t
told_over t (s ∷ ss) = told_over (told_after t s) ss

abbrev pub HasQuota : Told → Type 0
HasQuota t = (t.on ≡ true) × (length t.flying < t.maximum)

-- each event says whether the queue is full, and leaves what it doesn't take
abbrev pub QueueOver : Told → List Delivery → List Step → List Delivery → Type 0
QueueOver t queue [] last = last ≡ queue
QueueOver t queue (s ∷ ss) last =
    (rest : List Delivery) × (s.reaction.full ≡ full_by s.event (length queue)) × Serves (told_after t s).limit queue s (HasQuota (told_after t s)) rest × QueueOver (told_after t s) rest ss last

abbrev pub KeepsQueueTold : Type 0
KeepsQueueTold = (client : List ℕ) (steps : List Step) (end : State) → Run (new_session client) steps end → QueueOver told_nothing [] steps (waiting end.outbox.copies)
