-- Which answers are among the packets of an event.
use Rattle.std.proofs.Common.{◌≡◌, ℕ, Bool, true, false, cond, List, [], ◌∷◌, ◌++◌, Option, Some, None, refl, ◌∙◌, ap, inl, inr}
use Rattle.std.specs.Prelude.{◌==◌, ◌&&◌, not, is_some, length, replicate}
use Rattle.std.specs.List.{AllByRecursion, list_any}
use Rattle.std.proofs.lemmas.Bool.{cases_Bool}
use Rattle.mqtt_fields.specs.declared.options.Qos.{Qos}
use Rattle.mqtt_fields.specs.declared.options.Qos.TheVariants.{AtMostOnce, AtLeastOnce, ExactlyOnce}
use Rattle.mqtt_fields.specs.Properties.{first_two, first_four}
use Rattle.mqtt_packets.specs.declared.connect.Connect.{Connect}
use Rattle.mqtt_packets.specs.declared.packet.Packet.{Packet}
use Rattle.mqtt_packets.specs.declared.packet.Packet.TheVariants as packets
use Rattle.mqtt_packets.specs.declared.publish.Publish as published
use Rattle.mqtt_topics.specs.Levels.{is_wildcard}
use Rattle.mqtt_message.specs.Accepted.{accepted}
use Rattle.mqtt_message.specs.declared.delivery.Delivery.{Delivery}
use Rattle.mqtt_message.specs.declared.message.Message.{Message}
use Rattle.qos_handshakes.specs.Entries.{find_id}
use Rattle.qos_handshakes.specs.Incoming.{Received, opened}
use Rattle.qos_handshakes.specs.Outbox as outbox
use Rattle.qos_handshakes.specs.Outbox.{Sent}
use Rattle.mqtt_sessions.specs.declared.reaction.Ask.TheVariants as server
use Rattle.mqtt_sessions.specs.declared.reaction.Output.{Output}
use Rattle.mqtt_sessions.specs.declared.reaction.Output.TheVariants.{Answer, Publish}
use Rattle.mqtt_sessions.specs.Answers.{connack, fits, puback, pubrec, pubrel, pubcomp, suback, unsuback}
use Rattle.mqtt_sessions.specs.Arriving.{has_property}
use Rattle.mqtt_sessions.specs.Asking.{asked_of}
use Rattle.mqtt_sessions.specs.Connecting.{OpensIf}
use Rattle.mqtt_sessions.specs.Reaction.{Reaction, publishes_of, pubrels_of}
use Rattle.mqtt_sessions.specs.Sending.{is_once, once_of, QueueIf}
use Rattle.mqtt_sessions.specs.State.{State, Link, limit_in, limit_of}
use Rattle.law_sessions.specs.Aliases.{Topics, topic_under}
use Rattle.law_sessions.specs.Releases.{released_ids}
use Rattle.law_sessions.specs.Runs.{Event, connects, queues, rooms, takes, answers, closes, ticks, finishes, loses, Reacts}
use Rattle.law_sessions.specs.Replies.{Reply, silent, says, asks, both, ends, leaves, reaction_of, has_hundred, is_invalid, reply_under, reply_exactly_once, reply_at, reply_publish, reply_disconnect, reply_pubrec, reply_codes, IsReply}
use Rattle.law_sessions.proofs.AliasLaws.{held}
use Rattle.law_sessions.proofs.ReleaseLaws.{tick-none}
use Rattle.law_sessions.proofs.ReleasedLaws.{keeps_releases_first}
use Rattle.law_sessions.proofs.ReplyLaws.{replies_by_link, keeps_unheard, keeps_codes}

-- an answer has a property
abbrev pub IsShown : (Packet → Type 0) → Output → Type 0
IsShown Q (Publish p) = Unit {0}
IsShown Q (Answer p) = Q p

abbrev pub AreShown : (Packet → Type 0) → List Output → Type 0
AreShown Q os = AllByRecursion (IsShown Q) os

abbrev pub Shows : (Packet → Type 0) → Reply → Type 0
Shows Q silent = Unit {0}
Shows Q (says p) = Q p
Shows Q (asks a) = Unit {0}
Shows Q (both p a) = Q p
Shows Q (ends code) = Unit {0}
Shows Q leaves = Unit {0}

publishes-shown : (Q : Packet → Type 0) (ss : List Sent) → AreShown Q (publishes_of ss)
publishes-shown Q [] = tt
publishes-shown Q (s ∷ ss) = (tt, publishes-shown Q ss)

pubrels-shown : (Q : Packet → Type 0) (ids : List ℕ) (ss : List Sent) → AllByRecursion (λ id. Q (pubrel id 0)) ids → AreShown Q (pubrels_of ids ++ publishes_of ss)
pubrels-shown Q [] ss h = publishes-shown Q ss
pubrels-shown Q (id ∷ ids) ss h = (h.0, pubrels-shown Q ids ss h.1)

nothing-shown : (Q : Packet → Type 0) (os : List Output) → os ≡ [] → AreShown Q os
nothing-shown Q os e = rw e tt

reply-shown : (Q : Packet → Type 0) (limit : ℕ) (x : Reply) (ss : List Sent) → Shows Q x → AreShown Q ((reaction_of limit x).packets ++ publishes_of ss)
reply-shown Q limit silent ss h = publishes-shown Q ss
reply-shown Q limit (says p) ss h = elim (cases_Bool (fits limit p)) [ inl f ↦ rw f (h, publishes-shown Q ss) | inr f ↦ rw f (publishes-shown Q ss) ]
reply-shown Q limit (asks a) ss h = publishes-shown Q ss
reply-shown Q limit (both p a) ss h = elim (cases_Bool (fits limit p)) [ inl f ↦ rw f (h, publishes-shown Q ss) | inr f ↦ rw f (publishes-shown Q ss) ]
reply-shown Q limit (ends code) ss h = publishes-shown Q ss
reply-shown Q limit leaves ss h = publishes-shown Q ss

alone-shown : (Q : Packet → Type 0) (limit : ℕ) (x : Reply) → Shows Q x → AreShown Q (reaction_of limit x).packets
alone-shown Q limit silent h = tt
alone-shown Q limit (says p) h = elim (cases_Bool (fits limit p)) [ inl f ↦ rw f (h, tt) | inr f ↦ rw f tt ]
alone-shown Q limit (asks a) h = tt
alone-shown Q limit (both p a) h = elim (cases_Bool (fits limit p)) [ inl f ↦ rw f (h, tt) | inr f ↦ rw f tt ]
alone-shown Q limit (ends code) h = tt
alone-shown Q limit leaves h = tt

-- ---- the packets that are answered
abbrev pub Allows : (Packet → Type 0) → Packet → State → Type 0
Allows Q (packets.Publish p) s = ((id code : ℕ) → Q (puback id code)) × ((id code : ℕ) → Q (pubrec id code))
Allows Q (packets.Puback a) s = Unit {0}
Allows Q (packets.Pubrec a) s = Shows Q (reply_pubrec (find_id a.identifier s.outbox.copies) a.identifier a.reason)
Allows Q (packets.Pubrel a) s = (code : ℕ) → Q (pubcomp a.identifier code)
Allows Q (packets.Pubcomp a) s = Unit {0}
Allows Q (packets.Subscribe p) s = Q (suback p.identifier (replicate (length p.filters) 145))
Allows Q (packets.Unsubscribe p) s = Q (unsuback p.identifier (replicate (length p.filters) 145))
Allows Q packets.Pingreq s = Q packets.Pingresp
Allows Q p s = Unit {0}

pub one-of : (Q : Packet → Type 0) (b : Bool) (x y : Reply) → Shows Q x → Shows Q y → Shows Q (cond b x y)
one-of Q true x y h k = h
one-of Q false x y h k = k

twice-shown : (Q : Packet → Type 0) (o : Option Bool) (r : Received) (i : ℕ) (refused : Bool) (m : Message) → ((id code : ℕ) → Q (pubrec id code)) → Shows Q (reply_exactly_once o r i refused m)
twice-shown Q (Some true) r i refused m h = h i 0
twice-shown Q (Some false) r i refused m h = one-of Q (has_hundred r) (ends 147) (says (pubrec i 0)) tt (h i 0)
twice-shown Q None r i refused m h =
    let last = cond refused (says (pubrec i 151)) (both (pubrec i 0) (server.Pass m)) in
    one-of Q (has_hundred r) (ends 147) last tt (one-of Q refused (says (pubrec i 151)) (both (pubrec i 0) (server.Pass m)) (h i 151) (h i 0))

at-shown : (Q : Packet → Type 0) (q : Qos) (r : Received) (i : ℕ) (refused : Bool) (m : Message) → ((id code : ℕ) → Q (puback id code)) → ((id code : ℕ) → Q (pubrec id code)) → Shows Q (reply_at q r i refused m)
at-shown Q AtMostOnce r i refused m h k = one-of Q refused silent (asks (server.Pass m)) tt tt
at-shown Q AtLeastOnce r i refused m h k =
    let last = cond refused (says (puback i 151)) (both (puback i 0) (server.Pass m)) in
    one-of Q (has_hundred r) (ends 147) (cond (is_some (opened i r)) (says (puback i 145)) last) tt
    (one-of Q (is_some (opened i r)) (says (puback i 145)) last (h i 145) (one-of Q refused (says (puback i 151)) (both (puback i 0) (server.Pass m)) (h i 151) (h i 0)))
at-shown Q ExactlyOnce r i refused m h k = twice-shown Q (opened i r) r i refused m k

under-shown : (Q : Packet → Type 0) (o : Option (List ℕ)) (s : State) (p : published.Publish) (now : ℕ) (room : Bool) → Allows Q (packets.Publish p) s → Shows Q (reply_under o s p now room)
under-shown Q None s p now room h = tt
under-shown Q (Some topic) s p now room h =
    let m = accepted (record p { topic = topic }) s.kept.client now in
    let x = reply_at p.qos s.incoming p.identifier (p.retain && not room) m in
    one-of Q (has_property 11 p.properties) (ends 130) (cond (list_any is_wildcard p.topic) (ends 144) x) tt (one-of Q (list_any is_wildcard p.topic) (ends 144) x tt (at-shown Q p.qos s.incoming p.identifier (p.retain && not room) m h.0 h.1))

publish-shown : (Q : Packet → Type 0) (told : Topics) (s : State) (p : published.Publish) (now : ℕ) (room : Bool) → Allows Q (packets.Publish p) s → Shows Q (reply_publish told s p now room)
publish-shown Q told s p now room h =
    let o = topic_under told p.topic (first_two 35 p.properties) in
    one-of Q (is_invalid (first_two 35 p.properties)) (ends 148) (reply_under o s p now room) tt (under-shown Q o s p now room h)

disconnect-shown : (Q : Packet → Type 0) (o : Option ℕ) (expiry : ℕ) → Shows Q (reply_disconnect o expiry)
disconnect-shown Q None expiry = tt
disconnect-shown Q (Some new) expiry = one-of Q ((expiry == 0) && not (new == 0)) (ends 130) leaves tt tt

packet-shown : (Q : Packet → Type 0) (told : Topics) (p : Packet) (now : ℕ) (room : Bool) (s : State) (x : Reply) → Allows Q p s → IsReply told p now room s x → Shows Q x
packet-shown Q told (packets.Publish p) now room s x h is = rw is (publish-shown Q told s p now room h)
packet-shown Q told (packets.Puback a) now room s x h is = rw is tt
packet-shown Q told (packets.Pubrec a) now room s x h is = rw is h
packet-shown Q told (packets.Pubrel a) now room s x h is = rw is (h (cond (is_some (opened a.identifier s.incoming)) 0 146))
packet-shown Q told (packets.Pubcomp a) now room s x h is = rw is tt
packet-shown Q told (packets.Subscribe p) now room s x h (inl is) = rw is.1 tt
packet-shown Q told (packets.Subscribe p) now room s x h (inr is) = rw is.1 (one-of Q (is_some (opened p.identifier s.incoming)) (says (suback p.identifier (replicate (length p.filters) 145))) (asks server.Subscribe) h tt)
packet-shown Q told (packets.Unsubscribe p) now room s x h is = rw is (one-of Q (is_some (opened p.identifier s.incoming)) (says (unsuback p.identifier (replicate (length p.filters) 145))) (asks server.Unsubscribe) h tt)
packet-shown Q told packets.Pingreq now room s x h is = rw is h
packet-shown Q told (packets.Disconnect p) now room s x h is = rw is (disconnect-shown Q (first_four 17 p.properties) s.kept.expiry)
packet-shown Q told (packets.Connect p) now room s x h is = rw is tt
packet-shown Q told (packets.Connack p) now room s x h is = rw is tt
packet-shown Q told (packets.Suback p) now room s x h is = rw is tt
packet-shown Q told (packets.Unsuback p) now room s x h is = rw is tt
packet-shown Q told packets.Pingresp now room s x h is = rw is tt
packet-shown Q told (packets.Auth p) now room s x h is = rw is tt

-- ---- the events
abbrev pub AllowsBy : (Packet → Type 0) → Event → State → Type 0
AllowsBy Q (connects c continued room now) s = Q (connack continued c.client s.kept.client) × AllByRecursion (λ id. Q (pubrel id 0)) (released_ids s)
AllowsBy Q (takes p now room) s = Allows Q p s
AllowsBy Q (answers id codes) s = Shows Q (reply_codes (asked_of s.link) id codes)
AllowsBy Q e s = Unit {0}

opens-shown : (Q : Packet → Type 0) (b : Bool) (old new : State) (c : Connect) (p : Packet) (continued : Bool) (room : Option ℕ) (now : ℕ) (r : Reaction) → AllowsBy Q (connects c continued room now) old → OpensIf b old c p room now r new → Reacts old (connects c continued room now) r new → AreShown Q r.packets
opens-shown Q true old new c p continued room now r h o k =
    let first = keeps_releases_first old new c continued room now r k (rw o.reacts refl) in
    rw first.1 (h.0, pubrels-shown Q (released_ids old) first.0 h.1)
opens-shown Q false old new c p continued room now r h o k = rw o.0 tt

once-shown : (Q : Packet → Type 0) (o : Option ℕ) (now : ℕ) (d : Delivery) → AreShown Q (once_of o now d)
once-shown Q None now d = tt
once-shown Q (Some limit) now d = elim (cases_Bool (outbox.fits now limit d)) [ inl f ↦ rw f (tt, tt) | inr f ↦ rw f tt ]

queue-shown : (Q : Packet → Type 0) (b : Bool) (old new : State) (d : Delivery) (now : ℕ) (r : Reaction) → QueueIf b old d now r new → AreShown Q r.packets
queue-shown Q true old new d now r q = rw q.0 (once-shown Q (limit_of old.link) now d)
queue-shown Q false old new d now r (inl q) = rw q.reacts (publishes-shown Q q.sents)
queue-shown Q false old new d now r (inr q) = rw q.reacts tt

takes-shown : (Q : Packet → Type 0) (o : Option Link) (old new : State) (p : Packet) (now : ℕ) (room : Bool) (r : Reaction) → old.link ≡ o → Allows Q p old → Reacts old (takes p now room) r new → AreShown Q r.packets
takes-shown Q None old new p now room r e h k = rw (keeps_unheard old new p now room r e k).0 tt
takes-shown Q (Some l) old new p now room r e h k =
    let x = replies_by_link old new l p now room r e k in
    rw x.gives (reply-shown Q l.limit x.reply x.sents (packet-shown Q (held l) p now room old x.reply h x.is))

answers-shown : (Q : Packet → Type 0) (o : Option Link) (old new : State) (id : ℕ) (codes : List ℕ) (r : Reaction) → old.link ≡ o → Shows Q (reply_codes (asked_of o) id codes) → Reacts old (answers id codes) r new → AreShown Q r.packets
answers-shown Q None old new id codes r e h k = let g = rw e at k in rw g.0 tt
answers-shown Q (Some l) old new id codes r e h k = rw (keeps_codes old new l id codes r e k) (alone-shown Q l.limit (reply_codes l.asked id codes) h)

pub event-shown : (Q : Packet → Type 0) (old new : State) (e : Event) (r : Reaction) → AllowsBy Q e old → Reacts old e r new → AreShown Q r.packets
event-shown Q old new (connects c continued room now) r h k = opens-shown Q (fits (limit_in c.properties) (connack continued c.client old.kept.client)) old new c (connack continued c.client old.kept.client) continued room now r h k.1 k
event-shown Q old new (queues d now) r h k = queue-shown Q (is_once d.qos) old new d now r k
event-shown Q old new (rooms bytes now) r h k = rw k.reacts (publishes-shown Q k.sents)
event-shown Q old new (takes p now room) r h k = takes-shown Q old.link old new p now room r refl h k
event-shown Q old new (answers id codes) r h k = answers-shown Q old.link old new id codes r refl h k
event-shown Q old new (closes now) r h k = rw k.0 tt
event-shown Q old new (ticks now) r h k = nothing-shown Q r.packets (ap (λ (w : Reaction). w.packets) k.0 ∙ tick-none _ _ _ now old)
event-shown Q old new (finishes now) r h k = rw k.0 tt
event-shown Q old new loses r h k = rw k.quiet tt
