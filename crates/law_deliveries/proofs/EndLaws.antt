use Rattle.qos_handshakes.specs.Touched.{is_in}
-- What ends a connection, and that nothing goes out without one.
use Rattle.std.proofs.Common.{◌≡◌, ℕ, ◌⊎◌, Bool, true, false, cond, List, [], ◌∷◌, Option, Some, None, refl, sym, inl, inr}
use Rattle.std.specs.Prelude.{◌==◌, ◌&&◌, nat_lt, not, is_some, length, replicate}
use Rattle.std.specs.List.{list_any}
use Rattle.std.proofs.lemmas.Bool.{cases_Bool}
use Rattle.mqtt_fields.specs.declared.options.Qos.{Qos}
use Rattle.mqtt_fields.specs.declared.options.Qos.TheVariants.{AtMostOnce, AtLeastOnce, ExactlyOnce}
use Rattle.mqtt_fields.specs.Properties.{first_two, first_four}
use Rattle.mqtt_packets.specs.declared.connect.Connect.{Connect}
use Rattle.mqtt_packets.specs.declared.packet.Packet.{Packet}
use Rattle.mqtt_packets.specs.declared.packet.Packet.TheVariants as packets
use Rattle.mqtt_packets.specs.declared.publish.Publish as published
use Rattle.mqtt_topics.specs.Levels.{is_wildcard}
use Rattle.mqtt_message.specs.Accepted.{accepted}
use Rattle.mqtt_message.specs.declared.delivery.Delivery.{Delivery}
use Rattle.mqtt_message.specs.declared.message.Message.{Message}
use Rattle.qos_handshakes.specs.declared.copies.Entry.{Entry}
use Rattle.qos_handshakes.specs.Entries.{find_id}
use Rattle.qos_handshakes.specs.Incoming.{Received, opened}
use Rattle.qos_handshakes.specs.Outbox.{is_released, takes_pubrec}
use Rattle.law_handshakes.specs.Numbers.{AreNumbered}
use Rattle.mqtt_sessions.specs.declared.link.Asked.{Asked}
use Rattle.mqtt_sessions.specs.declared.link.Asked.TheVariants.{Subscribing, Unsubscribing}
use Rattle.mqtt_sessions.specs.declared.reaction.Ask.{Ask}
use Rattle.mqtt_sessions.specs.declared.reaction.Ask.TheVariants as server
use Rattle.mqtt_sessions.specs.Answers.{connack, disconnect, fits, puback, pubrec, pubrel, suback, unsuback}
use Rattle.mqtt_sessions.specs.Arriving.{has_property}
use Rattle.mqtt_sessions.specs.Connecting.{OpensIf}
use Rattle.mqtt_sessions.specs.Ending.{ticked_if, timed_out, has_run_out, is_due, will_due, end_due}
use Rattle.mqtt_sessions.specs.Reaction.{Reaction, Comes}
use Rattle.mqtt_sessions.specs.Sending.{is_once, QueueIf}
use Rattle.mqtt_sessions.specs.State.{State, Link, limit_in, new_session}
use Rattle.law_sessions.specs.Aliases.{Topics, topic_under}
use Rattle.law_sessions.specs.Runs.{Event, connects, queues, rooms, takes, answers, closes, ticks, finishes, loses, Step, Reacts, Run, connected_after, limit_after}
use Rattle.law_sessions.specs.Replies.{Reply, silent, says, asks, both, ends, leaves, reaction_of, has_hundred, is_invalid, reply_under, reply_exactly_once, reply_at, reply_publish, reply_request, reply_disconnect, reply_unknown, reply_known, reply_pubrec, reply_codes, IsReply}
use Rattle.law_sessions.proofs.AliasLaws.{held}
use Rattle.law_sessions.proofs.CallLaws.{numbered-calls}
use Rattle.law_sessions.proofs.ProjectLaws.{project}
use Rattle.law_sessions.proofs.QuietLaws.{HasLimit}
use Rattle.law_sessions.proofs.ReplyLaws.{replies_by_link, keeps_unheard, keeps_codes}
use Rattle.law_deliveries.specs.Ends.{codes_of, codes_by, EndsWithin, KeepsEndCodes, IsOpenFor, IsMute, SpeaksOpen, KeepsMute}

-- ---- replies
abbrev ReplyWithin : List ℕ → Reply → Type 0
ReplyWithin codes silent = Unit {0}
ReplyWithin codes (says p) = is_in 0 codes ≡ true
ReplyWithin codes (asks a) = Unit {0}
ReplyWithin codes (both p a) = is_in 0 codes ≡ true
ReplyWithin codes (ends code) = (is_in code codes ≡ true) × (is_in 0 codes ≡ true)
ReplyWithin codes leaves = is_in 0 codes ≡ true

within-reply : (limit : ℕ) (codes : List ℕ) (x : Reply) → ReplyWithin codes x → EndsWithin codes (reaction_of limit x).end
within-reply limit codes silent h = tt
within-reply limit codes (says p) h = elim (cases_Bool (fits limit p)) [ inl f ↦ rw f tt | inr f ↦ rw f h ]
within-reply limit codes (asks a) h = tt
within-reply limit codes (both p a) h = elim (cases_Bool (fits limit p)) [ inl f ↦ rw f tt | inr f ↦ rw f h ]
within-reply limit codes (ends code) h = elim (cases_Bool (fits limit (disconnect code))) [ inl f ↦ rw f h.0 | inr f ↦ rw f h.1 ]
within-reply limit codes leaves h = h

either : (codes : List ℕ) (b : Bool) (x y : Reply) → ReplyWithin codes x → ReplyWithin codes y → ReplyWithin codes (cond b x y)
either codes true x y h k = h
either codes false x y h k = k

abbrev of_publish : List ℕ
of_publish = 0 ∷ 130 ∷ 144 ∷ 147 ∷ 148 ∷ []

twice-within : (o : Option Bool) (r : Received) (i : ℕ) (refused : Bool) (m : Message) → ReplyWithin of_publish (reply_exactly_once o r i refused m)
twice-within (Some true) r i refused m = refl
twice-within (Some false) r i refused m = either of_publish (has_hundred r) (ends 147) (says (pubrec i 0)) (refl, refl) refl
twice-within None r i refused m = either of_publish (has_hundred r) (ends 147) (cond refused (says (pubrec i 151)) (both (pubrec i 0) (server.Pass m))) (refl, refl) (either of_publish refused (says (pubrec i 151)) (both (pubrec i 0) (server.Pass m)) refl refl)

at-within : (q : Qos) (r : Received) (i : ℕ) (refused : Bool) (m : Message) → ReplyWithin of_publish (reply_at q r i refused m)
at-within AtMostOnce r i refused m = either of_publish refused silent (asks (server.Pass m)) tt tt
at-within AtLeastOnce r i refused m =
    let last = cond refused (says (puback i 151)) (both (puback i 0) (server.Pass m)) in
    either of_publish (has_hundred r) (ends 147) (cond (is_some (opened i r)) (says (puback i 145)) last) (refl, refl)
    (either of_publish (is_some (opened i r)) (says (puback i 145)) last refl (either of_publish refused (says (puback i 151)) (both (puback i 0) (server.Pass m)) refl refl))
at-within ExactlyOnce r i refused m = twice-within (opened i r) r i refused m

under-within : (o : Option (List ℕ)) (s : State) (p : published.Publish) (now : ℕ) (room : Bool) → ReplyWithin of_publish (reply_under o s p now room)
under-within None s p now room = (refl, refl)
under-within (Some topic) s p now room =
    let x = reply_at p.qos s.incoming p.identifier (p.retain && not room) (accepted (record p { topic = topic }) s.kept.client now) in
    either of_publish (has_property 11 p.properties) (ends 130) (cond (list_any is_wildcard p.topic) (ends 144) x) (refl, refl)
    (either of_publish (list_any is_wildcard p.topic) (ends 144) x (refl, refl) (at-within p.qos s.incoming p.identifier (p.retain && not room) (accepted (record p { topic = topic }) s.kept.client now)))

publish-within : (told : Topics) (s : State) (p : published.Publish) (now : ℕ) (room : Bool) → ReplyWithin of_publish (reply_publish told s p now room)
publish-within told s p now room =
    let o = topic_under told p.topic (first_two 35 p.properties) in
    either of_publish (is_invalid (first_two 35 p.properties)) (ends 148) (reply_under o s p now room) (refl, refl) (under-within o s p now room)

unknown-within : (i reason : ℕ) → ReplyWithin (0 ∷ []) (reply_unknown i reason)
unknown-within i reason = elim (cases_Bool (nat_lt reason 128)) [ inl t ↦ rw t refl | inr t ↦ rw t tt ]

known-within : (i reason : ℕ) → ReplyWithin (0 ∷ []) (reply_known i reason)
known-within i reason = elim (cases_Bool (nat_lt reason 128)) [ inl t ↦ rw t refl | inr t ↦ rw t tt ]

pubrec-within : (o : Option Entry) (i reason : ℕ) → ReplyWithin (0 ∷ []) (reply_pubrec o i reason)
pubrec-within None i reason = unknown-within i reason
pubrec-within (Some x) i reason =
    either (0 ∷ []) (is_released x.stage) (says (pubrel i 0)) (cond (takes_pubrec x.delivery.qos x.stage) (reply_known i reason) (reply_unknown i reason)) refl
    (either (0 ∷ []) (takes_pubrec x.delivery.qos x.stage) (reply_known i reason) (reply_unknown i reason) (known-within i reason) (unknown-within i reason))

disconnect-within : (o : Option ℕ) (expiry : ℕ) → ReplyWithin (0 ∷ 130 ∷ []) (reply_disconnect o expiry)
disconnect-within None expiry = refl
disconnect-within (Some new) expiry = either (0 ∷ 130 ∷ []) ((expiry == 0) && not (new == 0)) (ends 130) leaves (refl, refl) refl

request-within : (codes : List ℕ) (r : Received) (i : ℕ) (p : Packet) (a : Ask) → is_in 0 codes ≡ true → ReplyWithin codes (reply_request r i p a)
request-within codes r i p a h = either codes (is_some (opened i r)) (says p) (asks a) h tt

packet-within : (told : Topics) (p : Packet) (now : ℕ) (room : Bool) (s : State) (x : Reply) → IsReply told p now room s x → ReplyWithin (codes_of p) x
packet-within told (packets.Publish p) now room s x is = rw is (publish-within told s p now room)
packet-within told (packets.Puback a) now room s x is = rw is tt
packet-within told (packets.Pubrec a) now room s x is = rw is (pubrec-within (find_id a.identifier s.outbox.copies) a.identifier a.reason)
packet-within told (packets.Pubrel a) now room s x is = rw is refl
packet-within told (packets.Pubcomp a) now room s x is = rw is tt
packet-within told (packets.Subscribe p) now room s x (inl is) = rw is.1 (refl, refl)
packet-within told (packets.Subscribe p) now room s x (inr is) = rw is.1 (request-within (0 ∷ 130 ∷ []) s.incoming p.identifier (suback p.identifier (replicate (length p.filters) 145)) server.Subscribe refl)
packet-within told (packets.Unsubscribe p) now room s x is = rw is (request-within (0 ∷ []) s.incoming p.identifier (unsuback p.identifier (replicate (length p.filters) 145)) server.Unsubscribe refl)
packet-within told packets.Pingreq now room s x is = rw is refl
packet-within told (packets.Disconnect p) now room s x is = rw is (disconnect-within (first_four 17 p.properties) s.kept.expiry)
packet-within told (packets.Connect p) now room s x is = rw is (refl, refl)
packet-within told (packets.Connack p) now room s x is = rw is (refl, refl)
packet-within told (packets.Suback p) now room s x is = rw is (refl, refl)
packet-within told (packets.Unsuback p) now room s x is = rw is (refl, refl)
packet-within told packets.Pingresp now room s x is = rw is (refl, refl)
packet-within told (packets.Auth p) now room s x is = rw is (refl, refl)

codes-within : (a : Option Asked) (id : ℕ) (codes : List ℕ) → ReplyWithin (0 ∷ []) (reply_codes a id codes)
codes-within None id codes = tt
codes-within (Some Subscribing) id codes = refl
codes-within (Some Unsubscribing) id codes = refl

-- ---- the events
takes-within : (o : Option Link) (old new : State) (p : Packet) (now : ℕ) (room : Bool) (r : Reaction) → old.link ≡ o → Reacts old (takes p now room) r new → EndsWithin (codes_of p) r.end
takes-within None old new p now room r e h = rw (keeps_unheard old new p now room r e h).0 tt
takes-within (Some l) old new p now room r e h =
    let k = replies_by_link old new l p now room r e h in
    rw k.gives (within-reply l.limit (codes_of p) k.reply (packet-within (held l) p now room old k.reply k.is))

answers-within : (o : Option Link) (old new : State) (id : ℕ) (codes : List ℕ) (r : Reaction) → old.link ≡ o → Reacts old (answers id codes) r new → EndsWithin (0 ∷ []) r.end
answers-within None old new id codes r e h = let g = rw e at h in rw g.0 tt
answers-within (Some l) old new id codes r e h = rw (keeps_codes old new l id codes r e h) (within-reply l.limit (0 ∷ []) (reply_codes l.asked id codes) (codes-within l.asked id codes))

queue-goes_on : (b : Bool) (old new : State) (d : Delivery) (now : ℕ) (r : Reaction) → QueueIf b old d now r new → r.end ≡ None
queue-goes_on true old new d now r q = rw q.0 refl
queue-goes_on false old new d now r (inl q) = rw q.reacts refl
queue-goes_on false old new d now r (inr q) = rw q.reacts refl

opens-within : (b : Bool) (old new : State) (c : Connect) (p : Packet) (room : Option ℕ) (now : ℕ) (r : Reaction) → OpensIf b old c p room now r new → EndsWithin (0 ∷ []) r.end
opens-within true old new c p room now r h = rw h.reacts tt
opens-within false old new c p room now r h = rw h.0 refl

timed-within : (o : Option Link) (s : State) → EndsWithin (0 ∷ 141 ∷ []) (timed_out o s).reaction.end
timed-within None s = tt
timed-within (Some l) s = elim (cases_Bool (fits l.limit (disconnect 141))) [ inl f ↦ rw f refl | inr f ↦ rw f refl ]

tick-within : (a b c : Bool) (now : ℕ) (s : State) → EndsWithin (0 ∷ 141 ∷ []) (ticked_if a b c now s).reaction.end
tick-within true b c now s = timed-within s.link s
tick-within false true c now s = tt
tick-within false false c now s = tt

within : (old new : State) (e : Event) (r : Reaction) → Reacts old e r new → EndsWithin (codes_by e) r.end
within old new (connects c continued room now) r h = opens-within (fits (limit_in c.properties) (connack continued c.client old.kept.client)) old new c (connack continued c.client old.kept.client) room now r h.1
within old new (queues d now) r h = rw (queue-goes_on (is_once d.qos) old new d now r h) tt
within old new (rooms bytes now) r h = rw h.reacts tt
within old new (takes p now room) r h = takes-within old.link old new p now room r refl h
within old new (answers id codes) r h = answers-within old.link old new id codes r refl h
within old new (closes now) r h = rw h.0 tt
within old new (ticks now) r h = rw h.0 (tick-within (has_run_out old.link now) (is_due (will_due old.kept) now) (is_due (end_due old.kept) now) now old)
within old new (finishes now) r h = rw h.0 tt
within old new loses r h = rw h.quiet tt

pub keeps_end_codes : KeepsEndCodes
keeps_end_codes = λ old new e r h. within old new e r h

-- ---- without a connection
queue-mute : (b : Bool) (old new : State) (d : Delivery) (now : ℕ) (r : Reaction) → old.link ≡ None → QueueIf b old d now r new → r.packets ≡ []
queue-mute true old new d now r none q = rw (q.0, none) refl
queue-mute false old new d now r none (inl q) = let g = rw none at q.goes_on in rw (q.reacts, g.0) refl
queue-mute false old new d now r none (inr q) = rw q.reacts refl

tick-mute : (will end : Bool) (now : ℕ) (old new : State) (r : Reaction) → Comes (ticked_if false will end now old) r new → IsMute r
tick-mute true end now old new r c = rw c.0 (record { packets = refl; last = refl })
tick-mute false end now old new r c = rw c.0 (record { packets = refl; last = refl })

ticks-mute : (old new : State) (now : ℕ) (r : Reaction) → old.link ≡ None → Reacts old (ticks now) r new → IsMute r
ticks-mute old new now r none h =
    let e : has_run_out old.link now ≡ false = rw none refl in
    tick-mute (is_due (will_due old.kept) now) (is_due (end_due old.kept) now) now old new r (rw e at h)

no-link : (o : Option Link) → is_some o ≡ false → o ≡ None
no-link None h = refl
no-link (Some l) h = (cc h)

unless : (on : Bool) (o : Option Link) (M : Type 0) → on ≡ is_some o → (o ≡ None → M) → (on ≡ true) ⊎ M
unless true o M is f = inl refl
unless false o M is f = inr (f (no-link o (sym is)))

mute-step : (on : Bool) (old new : State) (e : Event) (r : Reaction) → on ≡ is_some old.link → Reacts old e r new → IsOpenFor on e ⊎ IsMute r
mute-step on old new (connects c continued room now) r is h = inl tt
mute-step on old new (queues d now) r is h = unless on old.link (IsMute r) is (λ none. record { packets = queue-mute (is_once d.qos) old new d now r none h; last = queue-goes_on (is_once d.qos) old new d now r h })
mute-step on old new (rooms bytes now) r is h = unless on old.link (IsMute r) is (λ none. let g = rw none at h.goes_on in record { packets = rw (h.reacts, g.0) refl; last = rw h.reacts refl })
mute-step on old new (takes p now room) r is h = unless on old.link (IsMute r) is (λ none. let g = (keeps_unheard old new p now room r none h).0 in rw g (record { packets = refl; last = refl }))
mute-step on old new (answers id codes) r is h = unless on old.link (IsMute r) is (λ none. let g = rw none at h in rw g.0 (record { packets = refl; last = refl }))
mute-step on old new (closes now) r is h = inr (rw h.0 (record { packets = refl; last = refl }))
mute-step on old new (ticks now) r is h = unless on old.link (IsMute r) is (λ none. ticks-mute old new now r none h)
mute-step on old new (finishes now) r is h = inr (rw h.0 (record { packets = refl; last = refl }))
mute-step on old new loses r is h = inr (rw h.quiet (record { packets = refl; last = refl }))

mute-run : (on : Bool) (limit : ℕ) (old : State) (steps : List Step) (end : State) → HasLimit limit old.link → on ≡ is_some old.link → AreNumbered old.outbox.copies → Run old steps end → SpeaksOpen on steps
mute-run on limit old [] end is opens n r = tt
mute-run on limit old (s ∷ ss) end is opens n r =
    let p = project on limit old r.0 s.event s.reaction is opens n r.1 in (
      mute-step on old r.0 s.event s.reaction opens r.1,
      mute-run (connected_after on s.event s.reaction) (limit_after limit s.event) r.0 ss end p.limited p.connected (numbered-calls old.outbox p.calls r.0.outbox p.runs n) r.2,
    )

pub keeps_mute : KeepsMute
keeps_mute = λ client steps end r. mute-run false 0 (new_session client) steps end tt refl tt r
