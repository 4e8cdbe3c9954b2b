-- PUBLISHes that are sent again (MQTT 5.0, 4.4).
use Rattle.std.specs.Prelude.{◌≡◌, ℕ, ◌<◌, ◌==◌, ◌⊎◌, Bool, true, false, cond, List, [], ◌∷◌, ◌++◌, Option, Some, None}
use Rattle.std.specs.List.{AllByRecursion}
use Rattle.qos_handshakes.specs.declared.copies.Entry.{Entry}
use Rattle.qos_handshakes.specs.declared.answers.Ack.TheVariants.{Done}
use Rattle.mqtt_message.specs.declared.delivery.Delivery.{Delivery}
use Rattle.qos_handshakes.specs.Length.{length_of}
use Rattle.qos_handshakes.specs.Entries.{Entries}
use Rattle.qos_handshakes.specs.Outbox.{Outbox, Sent, chosen, stage_id, is_published, is_owed, empty_outbox}
use Rattle.law_handshakes.specs.Runs.{Step, Run, acknowledged, received, resumed, asked, lost}
use Rattle.law_handshakes.specs.Lists.{Without}
use Rattle.qos_handshakes.specs.declared.answers.Rec.TheVariants as rec

-- the identifier and the copy of a PUBLISH
abbrev pub SentCopy : Type 0
SentCopy = ℕ × Delivery

abbrev pub first_publication : Option Sent → List SentCopy
first_publication None = []
first_publication (Some s) = cond s.dup [] ((s.id, s.copy) ∷ [])

abbrev pub resent_publication : Option Sent → List SentCopy
resent_publication None = []
resent_publication (Some s) = cond s.dup ((s.id, s.copy) ∷ []) []

abbrev pub first_sends_of : Step → List SentCopy
first_sends_of (asked now limit answer) = first_publication answer
first_sends_of s = []

abbrev pub resends_of : Step → List SentCopy
resends_of (asked now limit answer) = resent_publication answer
resends_of s = []

abbrev pub all_first_sends : List Step → List SentCopy
all_first_sends [] = []
all_first_sends (s ∷ ss) = first_sends_of s ++ all_first_sends ss

abbrev pub all_resends : List Step → List SentCopy
all_resends [] = []
all_resends (s ∷ ss) = resends_of s ++ all_resends ss

-- why a PUBLISH is sent no more: its answer came, or it was too large to be sent again
abbrev pub Answers : Step → SentCopy → Type 0
Answers (acknowledged id Done) x = x.0 ≡ id
Answers (received id reason rec.Release) x = x.0 ≡ id
Answers (received id reason rec.Ended) x = x.0 ≡ id
Answers (asked now limit answer) x = limit < length_of now x.1
Answers s x = ⊥

abbrev pub AnsweredIn : List Step → SentCopy → Type 0
AnsweredIn [] x = ⊥
AnsweredIn (s ∷ ss) x = Answers s x ⊎ AnsweredIn ss x

-- the exchanges without PUBREC, and those of them whose PUBLISH was not sent on this connection
abbrev pub published_part : Entry → List SentCopy
published_part x = cond (is_published x.stage) ((stage_id x.stage, x.delivery) ∷ []) []

abbrev pub owed_part : Entry → List SentCopy
owed_part x = cond (is_owed x) ((stage_id x.stage, x.delivery) ∷ []) []

abbrev pub published : Entries → List SentCopy
published es = chosen published_part es

abbrev pub owed : Entries → List SentCopy
owed es = chosen owed_part es

-- a call on the connection that goes on
abbrev pub StaysConnected : Step → Type 0
StaysConnected (resumed maximum) = ⊥
StaysConnected lost = ⊥
StaysConnected s = Unit {0}

-- What a connection sends again, followed by what it has still to send again, is what was sent first before it
-- began, in order, without what was answered or too large.
abbrev pub KeepsResendsInOrder : Type 0
KeepsResendsInOrder = (before here : List Step) (maximum : ℕ) (end : Outbox) → AllByRecursion StaysConnected here → Run empty_outbox (before ++ resumed maximum ∷ here) end
    → Without (AnsweredIn (before ++ here)) (all_first_sends before) (all_resends here ++ owed end.copies)

-- whether a first send came on this connection
abbrev pub sent_after : Bool → Step → Bool
sent_after sent (asked now limit (Some s)) = cond s.dup sent true
sent_after sent (resumed maximum) = false
sent_after sent lost = false
sent_after sent s = sent

-- no resend comes after a first send of its connection
abbrev pub ResendsComeFirst : Bool → List Step → Type 0
ResendsComeFirst sent [] = Unit {0}
ResendsComeFirst sent (s ∷ ss) = (sent ≡ true → resends_of s ≡ []) × ResendsComeFirst (sent_after sent s) ss

abbrev pub KeepsResendsFirst : Type 0
KeepsResendsFirst = (steps : List Step) (end : Outbox) → Run empty_outbox steps end → ResendsComeFirst false steps

-- the copy last sent first under an identifier, until its PUBACK or PUBREC
abbrev pub open_sent : ℕ → Option Delivery → Sent → Option Delivery
open_sent id o s = cond s.dup o (cond (s.id == id) (Some s.copy) o)

abbrev pub open_after : ℕ → Option Delivery → Step → Option Delivery
open_after id o (asked now limit (Some s)) = open_sent id o s
open_after id o (acknowledged i Done) = cond (i == id) None o
open_after id o (received i reason rec.Release) = cond (i == id) None o
open_after id o (received i reason rec.Ended) = cond (i == id) None o
open_after id o s = o

-- each resend under the identifier is of that copy
abbrev pub ResendsOpen : ℕ → Option Delivery → List Step → Type 0
ResendsOpen id o [] = Unit {0}
ResendsOpen id o (s ∷ ss) = AllByRecursion (λ x. x.0 ≡ id → o ≡ Some x.1) (resends_of s) × ResendsOpen id (open_after id o s) ss

abbrev pub KeepsResendsOpen : Type 0
KeepsResendsOpen = (id : ℕ) (steps : List Step) (end : Outbox) → Run empty_outbox steps end → ResendsOpen id None steps
