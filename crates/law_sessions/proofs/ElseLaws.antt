-- Nothing else is sent.
use Rattle.std.proofs.Common.{ℕ, Bool, true, false, List, [], ◌∷◌, Option, Some, None, refl, ◌∙◌, ap, inl, inr}
use Rattle.std.specs.List.{AllByRecursion}
use Rattle.std.proofs.lemmas.Bool.{cases_Bool}
use Rattle.mqtt_message.specs.declared.delivery.Delivery.{Delivery}
use Rattle.qos_handshakes.specs.Outbox as outbox
use Rattle.qos_handshakes.specs.Outbox.{Sent}
use Rattle.mqtt_sessions.specs.Reaction.{Reaction, publishes_of}
use Rattle.mqtt_sessions.specs.Sending.{is_once, once_of, QueueIf}
use Rattle.mqtt_sessions.specs.State.{State, limit_of}
use Rattle.law_sessions.specs.Runs.{Event, connects, queues, rooms, takes, answers, closes, ticks, finishes, loses, Reacts}
use Rattle.law_sessions.specs.Silence.{IsPublish, SendsOnly, KeepsNothingElse}
use Rattle.law_sessions.proofs.ReleaseLaws.{tick-none}

are-publishes : (ss : List Sent) → AllByRecursion IsPublish (publishes_of ss)
are-publishes [] = tt
are-publishes (s ∷ ss) = (tt, are-publishes ss)

once-publish : (o : Option ℕ) (now : ℕ) (d : Delivery) → AllByRecursion IsPublish (once_of o now d)
once-publish None now d = tt
once-publish (Some limit) now d = elim (cases_Bool (outbox.fits now limit d)) [ inl f ↦ rw f (tt, tt) | inr f ↦ rw f tt ]

queue-publishes : (b : Bool) (old new : State) (d : Delivery) (now : ℕ) (r : Reaction) → QueueIf b old d now r new → AllByRecursion IsPublish r.packets
queue-publishes true old new d now r q = rw q.0 (once-publish (limit_of old.link) now d)
queue-publishes false old new d now r (inl q) = rw q.reacts (are-publishes q.sents)
queue-publishes false old new d now r (inr q) = rw q.reacts tt

only : (old new : State) (e : Event) (r : Reaction) → Reacts old e r new → SendsOnly e r.packets
only old new (connects c continued room now) r h = tt
only old new (queues d now) r h = queue-publishes (is_once d.qos) old new d now r h
only old new (rooms bytes now) r h = rw h.reacts (are-publishes h.sents)
only old new (takes p now room) r h = tt
only old new (answers id codes) r h = tt
only old new (closes now) r h = rw h.0 refl
only old new (ticks now) r h = ap (λ (w : Reaction). w.packets) h.0 ∙ tick-none _ _ _ now old
only old new (finishes now) r h = rw h.0 refl
only old new loses r h = rw h.quiet refl

pub keeps_nothing_else : KeepsNothingElse
keeps_nothing_else = λ old new e r h. only old new e r h
