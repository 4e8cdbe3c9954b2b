-- The order of first sends (MQTT 5.0, 4.6).
use Rattle.std.specs.Prelude.{◌≡◌, ◌<◌, ◌⊎◌, false, cond, List, [], ◌∷◌, ◌++◌, Option, Some, None}
use Rattle.qos_handshakes.specs.declared.answers.Offer.{Offer}
use Rattle.qos_handshakes.specs.declared.answers.Offer.TheVariants.{Queued, Full, AtEnd}
use Rattle.mqtt_message.specs.declared.delivery.Delivery.{Delivery}
use Rattle.mqtt_message.specs.Messages.{is_alive}
use Rattle.qos_handshakes.specs.Length.{length_of}
use Rattle.qos_handshakes.specs.Outbox.{Outbox, Sent, waiting, empty_outbox}
use Rattle.law_handshakes.specs.Runs.{Step, Run, offered, asked}
use Rattle.law_handshakes.specs.Lists.{Without}

abbrev pub offers_of : Step → List Delivery
offers_of (offered c answer) = c ∷ []
offers_of s = []

abbrev pub first_of : Option Sent → List Delivery
first_of None = []
first_of (Some s) = cond s.dup [] (s.copy ∷ [])

-- the deliveries first sent
abbrev pub firsts_of : Step → List Delivery
firsts_of (asked now limit answer) = first_of answer
firsts_of s = []

abbrev pub all_offers : List Step → List Delivery
all_offers [] = []
all_offers (s ∷ ss) = offers_of s ++ all_offers ss

abbrev pub all_firsts : List Step → List Delivery
all_firsts [] = []
all_firsts (s ∷ ss) = firsts_of s ++ all_firsts ss

abbrev pub RefusedBy : Offer → Delivery → Delivery → Type 0
RefusedBy Queued c x = ⊥
RefusedBy Full c x = x ≡ c
RefusedBy AtEnd c x = x ≡ c

-- why a call may leave a delivery out: it was refused, or taken from the queue after its deadline or too large
abbrev pub LeavesOut : Step → Delivery → Type 0
LeavesOut (offered c answer) x = RefusedBy answer c x
LeavesOut (asked now limit answer) x = (is_alive x.message now ≡ false) ⊎ (limit < length_of now x)
LeavesOut s x = ⊥

abbrev pub LeftOutIn : List Step → Delivery → Type 0
LeftOutIn [] x = ⊥
LeftOutIn (s ∷ ss) x = LeavesOut s x ⊎ LeftOutIn ss x

-- What is sent first, followed by what waits, is what was offered, in order and unchanged, without what was left out.
abbrev pub KeepsOrder : Type 0
KeepsOrder = (steps : List Step) (end : Outbox) → Run empty_outbox steps end → Without (LeftOutIn steps) (all_offers steps) (all_firsts steps ++ waiting end.copies)
