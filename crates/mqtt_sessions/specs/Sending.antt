-- Copies for the client (MQTT 5.0, 4.3, 4.6 and 4.9): those sent at once, and those of the queue.
use Rattle.std.specs.Prelude.{◌≡◌, ◌≢◌, ◌<◌, ℕ, Bool, true, false, cond, List, [], ◌∷◌, ◌⊎◌, Option, Some, None, IsSome}
use Rattle.mqtt_fields.specs.declared.options.Qos.{Qos}
use Rattle.mqtt_fields.specs.declared.options.Qos.TheVariants.{AtMostOnce, AtLeastOnce, ExactlyOnce}
use Rattle.mqtt_message.specs.declared.delivery.Delivery.{Delivery}
use Rattle.qos_handshakes.specs.declared.answers.Offer.TheVariants.{Queued, Full, AtEnd}
use Rattle.qos_handshakes.specs.declared.copies.Entry.{Entry}
use Rattle.qos_handshakes.specs.Entries.{Entries}
use Rattle.qos_handshakes.specs.Outbox as outbox
use Rattle.qos_handshakes.specs.Outbox.{Outbox, Sent, OfferStep, NextStep, in_flight, is_owed, waiting}
use Rattle.mqtt_sessions.specs.declared.reaction.Output.{Output}
use Rattle.mqtt_sessions.specs.declared.reaction.Output.TheVariants.{Publish}
use Rattle.mqtt_sessions.specs.Reaction.{Reaction, nothing, says, sends, publishes_of}
use Rattle.mqtt_sessions.specs.State.{State, has_room, limit_of, room_after, room_less, sent_from}

-- one after another, each while there is room
abbrev pub SendsAll : ℕ → ℕ → Option ℕ → Outbox → List Sent → Outbox → Type 0
SendsAll now limit room old [] new = new ≡ old
SendsAll now limit room old (s ∷ ss) new = (has_room room ≡ true) × (mid : Outbox) × NextStep now limit old (Some s) mid × SendsAll now limit (room_less now room s.copy) mid ss new

-- no room is left, or nothing more can be sent
abbrev pub StopsIf : Bool → ℕ → ℕ → Outbox → Outbox → Type 0
StopsIf false now limit old new = new ≡ old
StopsIf true now limit old new = NextStep now limit old None new

-- all that can be sent is sent while there is room
pub record Flushes (now limit : ℕ) (room : Option ℕ) (old : Outbox) (sents : List Sent) (new : Outbox) : Type 0 where
  pub last : Outbox
  pub sends : SendsAll now limit room old sents last
  pub stops : StopsIf (has_room (room_after now room sents)) now limit last new

-- the queue goes on where the client is connected
abbrev pub GoesOn : Option ℕ → ℕ → Option ℕ → Outbox → List Sent → Outbox → Type 0
GoesOn None now room old sents new = (sents ≡ []) × (new ≡ old)
GoesOn (Some limit) now room old sents new = Flushes now limit room old sents new

abbrev pub is_once : Qos → Bool
is_once AtMostOnce = true
is_once AtLeastOnce = false
is_once ExactlyOnce = false

-- a copy at QoS 0 is sent at once, or dropped: where the client isn't connected, or it is too large
abbrev pub once_of : Option ℕ → ℕ → Delivery → List Output
once_of None now d = []
once_of (Some limit) now d = cond (outbox.fits now limit d) (Publish (record { id = 0; dup = false; delivery = d }) ∷ []) []

-- a copy at QoS 1 or 2 joins the queue, and the queue goes on
pub record Queues (old : State) (d : Delivery) (now : ℕ) (r : Reaction) (new : State) : Type 0 where
  pub mid : Outbox
  pub after : Outbox
  pub sents : List Sent
  pub offers : OfferStep old.outbox d Queued mid
  pub goes_on : GoesOn (limit_of old.link) now old.room mid sents after
  pub reacts : r ≡ says (publishes_of sents)
  pub left : new ≡ sent_from old after now sents

-- or the queue is full
pub record Overflows (old : State) (d : Delivery) (r : Reaction) (new : State) : Type 0 where
  pub offers : OfferStep old.outbox d Full old.outbox
  pub reacts : r ≡ record nothing { full = true }
  pub left : new ≡ old

abbrev pub QueueIf : Bool → State → Delivery → ℕ → Reaction → State → Type 0
QueueIf true old d now r new = (r ≡ says (once_of (limit_of old.link) now d)) × (new ≡ old)
QueueIf false old d now r new = Queues old d now r new ⊎ Overflows old d r new

abbrev pub QueueStep : Delivery → ℕ → State → Reaction → State → Type 0
QueueStep d now old r new = QueueIf (is_once d.qos) old d now r new

-- the exchanges of which a resend is owed, in order
abbrev pub owed : Entries → List Entry
owed [] = []
owed (e ∷ es) = cond (is_owed e.1) (e.1 ∷ owed es) (owed es)

-- something may be sent: there is room, quota is free, and a resend is owed or a copy waits
abbrev pub MayFlush : Option ℕ → Outbox → Type 0
MayFlush room o = (has_room room ≡ true) × (in_flight o.copies < o.maximum) × ((owed o.copies ≢ []) ⊎ (waiting o.copies ≢ []))

-- a copy wants memory where it is sent at once, or joins the queue
abbrev pub QueueWantsIf : Bool → Delivery → ℕ → State → Type 0
QueueWantsIf true d now s = sends (once_of (limit_of s.link) now d) ≡ true
QueueWantsIf false d now s = (mid : Outbox) × OfferStep s.outbox d Queued mid

abbrev pub QueueWants : Delivery → ℕ → State → Type 0
QueueWants d now s = QueueWantsIf (is_once d.qos) d now s

-- no place is left for it below 2^62
abbrev pub QueueEnds : Delivery → State → Type 0
QueueEnds d old = (is_once d.qos ≡ false) × OfferStep old.outbox d AtEnd old.outbox

-- ---- the connection takes so many bytes of PUBLISHes from now on, and the queue goes on
abbrev pub with_room : State → ℕ → State
with_room s bytes = record s { room = Some bytes }

pub record RoomStep (bytes now : ℕ) (old : State) (r : Reaction) (new : State) : Type 0 where
  pub after : Outbox
  pub sents : List Sent
  pub goes_on : GoesOn (limit_of old.link) now (Some bytes) old.outbox sents after
  pub reacts : r ≡ says (publishes_of sents)
  pub left : new ≡ sent_from (with_room old bytes) after now sents

-- memory is wanted where the client is connected, and something may be sent
abbrev pub RoomWants : ℕ → State → Type 0
RoomWants bytes s = IsSome s.link × MayFlush (Some bytes) s.outbox
