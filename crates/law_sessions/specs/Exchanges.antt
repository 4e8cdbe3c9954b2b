-- The exchange of one identifier, as events and reactions tell it (MQTT 5.0, 4.3 and 4.4).
use Rattle.std.specs.Prelude.{◌≡◌, ℕ, ◌==◌, ◌⊎◌, nat_lt, true, false, cond, List, [], ◌∷◌, ◌++◌}
use Rattle.mqtt_fields.specs.declared.options.Qos.{Qos}
use Rattle.mqtt_fields.specs.declared.options.Qos.TheVariants.{AtMostOnce, AtLeastOnce, ExactlyOnce}
use Rattle.mqtt_message.specs.declared.delivery.Delivery.{Delivery}
use Rattle.mqtt_sessions.specs.declared.reaction.Output.{Output}
use Rattle.mqtt_sessions.specs.declared.reaction.Output.TheVariants.{Answer}
use Rattle.mqtt_sessions.specs.Answers.{pubrel}
use Rattle.mqtt_sessions.specs.State.{State, new_session}
use Rattle.law_sessions.specs.Runs.{Step, Run}
use Rattle.law_sessions.specs.Sends.{Mark, begins, crashes, acks, recs, comps, sends, marks_by, all_marks}

-- there is none; its PUBLISH was sent first; PUBREC below 0x80 came for it
pub data Exchange : Type 0 where
  none : Exchange
  published : Delivery → Exchange
  released : Exchange

-- PUBACK ends an exchange at QoS 1
abbrev pub acknowledged : Qos → Delivery → Exchange
acknowledged AtMostOnce d = published d
acknowledged AtLeastOnce d = none
acknowledged ExactlyOnce d = published d

abbrev pub after_puback : Exchange → Exchange
after_puback none = none
after_puback (published d) = acknowledged d.qos d
after_puback released = released

-- PUBREC releases an exchange at QoS 2, or ends it from 0x80 on
abbrev pub received : Qos → ℕ → Delivery → Exchange
received AtMostOnce reason d = published d
received AtLeastOnce reason d = published d
received ExactlyOnce reason d = cond (nat_lt reason 128) released none

abbrev pub after_pubrec : ℕ → Exchange → Exchange
after_pubrec reason none = none
after_pubrec reason (published d) = received d.qos reason d
after_pubrec reason released = released

-- PUBCOMP ends one that is released
abbrev pub after_pubcomp : Exchange → Exchange
after_pubcomp none = none
after_pubcomp (published d) = published d
after_pubcomp released = none

abbrev pub exchange_after : ℕ → Exchange → Mark → Exchange
exchange_after id x (begins maximum) = x
exchange_after id x crashes = x
exchange_after id x (acks i) = cond (i == id) (after_puback x) x
exchange_after id x (recs i reason) = cond (i == id) (after_pubrec reason x) x
exchange_after id x (comps i) = cond (i == id) (after_pubcomp x) x
exchange_after id x (sends s) = cond (s.id == id) (cond s.dup x (published s.copy)) x

abbrev pub exchange_over : ℕ → Exchange → List Mark → Exchange
exchange_over id x [] = x
exchange_over id x (m ∷ ms) = exchange_over id (exchange_after id x m) ms

-- what is sent again is what was sent first under its identifier
abbrev pub ResendsBy : ℕ → Exchange → Mark → Type 0
ResendsBy id x (sends s) = s.dup ≡ true → s.id ≡ id → x ≡ published s.copy
ResendsBy id x m = Unit {0}

abbrev pub AllResends : ℕ → Exchange → List Mark → Type 0
AllResends id x [] = Unit {0}
AllResends id x (m ∷ ms) = ResendsBy id x m × AllResends id (exchange_after id x m) ms

-- a resend is of an exchange whose PUBLISH was sent first, with the same delivery, and whose PUBACK or PUBREC didn't come
abbrev pub KeepsResends : Type 0
KeepsResends = (client : List ℕ) (id : ℕ) (steps : List Step) (end : State) → Run (new_session client) steps end → AllResends id none (all_marks false steps)

-- a PUBREL with Success is among packets
abbrev pub Releases : ℕ → List Output → Type 0
Releases id [] = ⊥
Releases id (o ∷ os) = (o ≡ Answer (pubrel id 0)) ⊎ Releases id os

-- a PUBREL with Success is sent only for an exchange whose PUBREC below 0x80 came, by that event or an earlier one
abbrev pub KeepsReleases : Type 0
KeepsReleases = (client : List ℕ) (id : ℕ) (before : List Step) (s : Step) (end : State) → Run (new_session client) (before ++ s ∷ []) end → Releases id s.reaction.packets
    → exchange_over id (exchange_over id none (all_marks false before)) (marks_by true s.event) ≡ released
