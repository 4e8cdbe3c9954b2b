-- A PUBREL is sent only where PUBREC came.
use Rattle.std.proofs.Common.{◌≡◌, ℕ, ◌<◌, Bool, true, false, cond, List, [], ◌∷◌, ◌++◌, Option, Some, None, refl, sym, ◌∙◌, ap, inl, inr, arith}
use Rattle.std.specs.Prelude.{◌==◌, ◌&&◌, nat_lt, is_some, not, length, replicate}
use Rattle.std.specs.Map.{values_of}
use Rattle.std.specs.List.{AllByRecursion, list_any}
use Rattle.std.proofs.lemmas.Bool.{cases_Bool, eq-eqb, ltb-true}
use Rattle.mqtt_fields.specs.declared.options.Qos.{Qos}
use Rattle.mqtt_fields.specs.declared.options.Qos.TheVariants.{AtMostOnce, AtLeastOnce, ExactlyOnce}
use Rattle.mqtt_packets.specs.declared.ack.Ack.{Ack}
use Rattle.mqtt_packets.specs.declared.connect.Connect.{Connect}
use Rattle.mqtt_packets.specs.declared.packet.Packet.{Packet}
use Rattle.mqtt_packets.specs.declared.packet.Packet.TheVariants as packets
use Rattle.mqtt_packets.specs.declared.publish.Publish as published
use Rattle.mqtt_message.specs.declared.delivery.Delivery.{Delivery}
use Rattle.mqtt_message.specs.declared.message.Message.{Message}
use Rattle.qos_handshakes.specs.declared.copies.Entry.{Entry}
use Rattle.qos_handshakes.specs.declared.copies.Stage.{Stage}
use Rattle.qos_handshakes.specs.declared.copies.Stage.TheVariants.{Waiting, Published, Released}
use Rattle.qos_handshakes.specs.Entries.{Entries, stage_has, has_id, find_id}
use Rattle.qos_handshakes.specs.Incoming.{Received, opened}
use Rattle.qos_handshakes.specs.Outbox as outbox
use Rattle.qos_handshakes.specs.Outbox.{Outbox, Sent, away, is_released, takes_pubrec, stage_pair, released_pair, chosen, sorted, by_release}
use Rattle.law_handshakes.specs.Numbers.{AreNumbered}
use Rattle.law_handshakes.proofs.OpenLaws.{all-both}
use Rattle.law_handshakes.proofs.QuotaLaws.{numbered-later}
use Rattle.law_handshakes.proofs.ReleaseLaws.{all-sorted}
use Rattle.mqtt_sessions.specs.declared.link.Asked.{Asked}
use Rattle.mqtt_sessions.specs.declared.link.Asked.TheVariants.{Subscribing, Unsubscribing}
use Rattle.mqtt_sessions.specs.declared.reaction.Ask.{Ask}
use Rattle.mqtt_sessions.specs.declared.reaction.Output.{Output}
use Rattle.mqtt_sessions.specs.declared.reaction.Output.TheVariants.{Answer, Publish}
use Rattle.mqtt_sessions.specs.declared.reaction.Publication.{Publication}
use Rattle.mqtt_sessions.specs.declared.reaction.Ask.TheVariants as server
use Rattle.mqtt_sessions.specs.Answers.{ack, puback, pubrec, pubrel, suback, unsuback, connack, fits}
use Rattle.mqtt_sessions.specs.Arriving.{has_property}
use Rattle.mqtt_topics.specs.Levels.{is_wildcard}
use Rattle.mqtt_message.specs.Accepted.{accepted}
use Rattle.mqtt_fields.specs.Properties.{first_two, first_four}
use Rattle.law_handshakes.specs.Runs.{resumed}
use Rattle.law_handshakes.proofs.NumberLaws.{numbered-step}
use Rattle.law_handshakes.proofs.ChosenLaws.{append-nil}
use Rattle.mqtt_sessions.specs.Connecting.{OpensIf}
use Rattle.mqtt_sessions.specs.Ending.{timed_out, ticked_if}
use Rattle.mqtt_sessions.specs.Reaction.{Reaction, publishes_of, pubrels_of}
use Rattle.mqtt_sessions.specs.Sending.{is_once, once_of, QueueIf}
use Rattle.mqtt_sessions.specs.State.{State, Link, limit_in, limit_of, new_session}
use Rattle.law_sessions.specs.Aliases.{Topics, topic_under}
use Rattle.law_sessions.proofs.AliasLaws.{held}
use Rattle.law_sessions.specs.Runs.{Event, connects, queues, rooms, takes, answers, closes, ticks, finishes, loses, Reacts}
use Rattle.law_sessions.specs.Sends.{marks_by, all_marks}
use Rattle.law_sessions.specs.Replies.{Reply, silent, says, asks, both, ends, leaves, reaction_of, has_hundred, is_invalid, reply_under, reply_exactly_once, reply_at, reply_publish, reply_request, reply_disconnect, reply_unknown, reply_known, reply_pubrec, reply_codes, IsReply}
use Rattle.law_sessions.specs.Exchanges.{Exchange, none, released, after_pubrec, exchange_over, Releases, KeepsReleases}
use Rattle.law_sessions.proofs.SilenceLaws.{run-split}
use Rattle.law_sessions.proofs.LiftLaws.{keeps_numbers}
use Rattle.law_sessions.proofs.ReplyLaws.{replies_by_link, keeps_unheard, keeps_codes}
use Rattle.law_sessions.proofs.ExchangeLaws.{exchange_at, IsTold, told-away, released-exchange, received-now, told-whole}

-- ---- packets without PUBREL
same-pubrel : (i id code : ℕ) → pubrel i code ≡ pubrel id 0 → (i ≡ id) × ◌≡◌ {A = ℕ} code 0
same-pubrel i id code e = (let same : ack i code ≡ ack id 0 = cc in (ap (λ (a : Ack). a.identifier) same, ap (λ (a : Ack). a.reason) same))

none-published : (id : ℕ) (ss : List Sent) → Releases id (publishes_of ss) → ⊥
none-published id [] h = h
none-published id (s ∷ ss) (inl h) = (cc h)
none-published id (s ∷ ss) (inr h) = none-published id ss h

in-pubrels : (id : ℕ) (G : Type 0) (ids : List ℕ) (ss : List Sent) → AllByRecursion (λ i. i ≡ id → G) ids → Releases id (pubrels_of ids ++ publishes_of ss) → G
in-pubrels id G [] ss all h = absurd (none-published id ss h)
in-pubrels id G (i ∷ ids) ss all (inl h) = (let e : pubrel i 0 ≡ pubrel id 0 = cc in all.0 (same-pubrel i id 0 e).0)
in-pubrels id G (i ∷ ids) ss all (inr h) = in-pubrels id G ids ss all.1 h

publish-one : (id : ℕ) (p : Publication) → Releases id (Publish p ∷ []) → ⊥
publish-one id p (inl h) = (cc h)
publish-one id p (inr h) = h

-- ---- replies
abbrev IsPubrel : ℕ → Reply → Type 0
IsPubrel id silent = ⊥
IsPubrel id (says p) = p ≡ pubrel id 0
IsPubrel id (asks a) = ⊥
IsPubrel id (both p a) = p ≡ pubrel id 0
IsPubrel id (ends code) = ⊥
IsPubrel id leaves = ⊥

one-pubrel : (id : ℕ) (p : Packet) (ss : List Sent) → Releases id (Answer p ∷ publishes_of ss) → p ≡ pubrel id 0
one-pubrel id p ss (inl h) = (cc h)
one-pubrel id p ss (inr h) = absurd (none-published id ss h)

in-reply : (id limit : ℕ) (x : Reply) (ss : List Sent) → Releases id ((reaction_of limit x).packets ++ publishes_of ss) → IsPubrel id x
in-reply id limit silent ss h = none-published id ss h
in-reply id limit (says p) ss h = elim (cases_Bool (fits limit p)) [ inl f ↦ one-pubrel id p ss (rw f at h) | inr f ↦ absurd (none-published id ss (rw f at h)) ]
in-reply id limit (asks a) ss h = none-published id ss h
in-reply id limit (both p a) ss h = elim (cases_Bool (fits limit p)) [ inl f ↦ one-pubrel id p ss (rw f at h) | inr f ↦ absurd (none-published id ss (rw f at h)) ]
in-reply id limit (ends code) ss h = none-published id ss h
in-reply id limit leaves ss h = none-published id ss h

neither : (id : ℕ) (b : Bool) (x y : Reply) → (IsPubrel id x → ⊥) → (IsPubrel id y → ⊥) → IsPubrel id (cond b x y) → ⊥
neither id true x y f g h = f h
neither id false x y f g h = g h

twice-none : (id : ℕ) (o : Option Bool) (r : Received) (i : ℕ) (refused : Bool) (m : Message) → IsPubrel id (reply_exactly_once o r i refused m) → ⊥
twice-none id (Some true) r i refused m = λ h. (cc h)
twice-none id (Some false) r i refused m = neither id (has_hundred r) (ends 147) (says (pubrec i 0)) (λ h. h) (λ h. (cc h))
twice-none id None r i refused m = neither id (has_hundred r) (ends 147) _ (λ h. h) (neither id refused (says (pubrec i 151)) (both (pubrec i 0) (server.Pass m)) (λ h. (cc h)) (λ h. (cc h)))

at-none : (id : ℕ) (q : Qos) (r : Received) (i : ℕ) (refused : Bool) (m : Message) → IsPubrel id (reply_at q r i refused m) → ⊥
at-none id AtMostOnce r i refused m = neither id refused silent (asks (server.Pass m)) (λ h. h) (λ h. h)
at-none id AtLeastOnce r i refused m = neither id (has_hundred r) (ends 147) _ (λ h. h)
    (neither id (is_some (opened i r)) (says (puback i 145)) _ (λ h. (cc h)) (neither id refused (says (puback i 151)) (both (puback i 0) (server.Pass m)) (λ h. (cc h)) (λ h. (cc h))))
at-none id ExactlyOnce r i refused m = twice-none id (opened i r) r i refused m

under-none : (id : ℕ) (o : Option (List ℕ)) (s : State) (p : published.Publish) (now : ℕ) (room : Bool) → IsPubrel id (reply_under o s p now room) → ⊥
under-none id None s p now room = λ h. h
under-none id (Some topic) s p now room = neither id (has_property 11 p.properties) (ends 130) _ (λ h. h)
    (neither id (list_any is_wildcard p.topic) (ends 144) _ (λ h. h) (at-none id p.qos s.incoming p.identifier (p.retain && not room) (accepted (record p { topic = topic }) s.kept.client now)))

publish-none : (id : ℕ) (told : Topics) (s : State) (p : published.Publish) (now : ℕ) (room : Bool) → IsPubrel id (reply_publish told s p now room) → ⊥
publish-none id told s p now room = neither id (is_invalid (first_two 35 p.properties)) (ends 148) _ (λ h. h) (under-none id (topic_under told p.topic (first_two 35 p.properties)) s p now room)

request-none : (id : ℕ) (r : Received) (i : ℕ) (p : Packet) (a : Ask) → (p ≡ pubrel id 0 → ⊥) → IsPubrel id (reply_request r i p a) → ⊥
request-none id r i p a not_it = neither id (is_some (opened i r)) (says p) (asks a) not_it (λ h. h)

disconnect-none : (id : ℕ) (o : Option ℕ) (expiry : ℕ) → IsPubrel id (reply_disconnect o expiry) → ⊥
disconnect-none id None expiry = λ h. h
disconnect-none id (Some new) expiry = neither id ((expiry == 0) && not (new == 0)) (ends 130) leaves (λ h. h) (λ h. h)

codes-none : (id : ℕ) (a : Option Asked) (i : ℕ) (codes : List ℕ) → IsPubrel id (reply_codes a i codes) → ⊥
codes-none id None i codes h = h
codes-none id (Some Subscribing) i codes h = (cc h)
codes-none id (Some Unsubscribing) i codes h = (cc h)

-- ---- the reply to PUBREC
unknown-none : (id i reason : ℕ) → IsPubrel id (reply_unknown i reason) → ⊥
unknown-none id i reason = neither id (nat_lt reason 128) (says (pubrel i 146)) silent (λ h. let e = (same-pubrel i id 146 h).1 in absurd (omega (arith, e))) (λ h. h)

known-released : (id i reason : ℕ) → IsPubrel id (reply_known i reason) → (i ≡ id) × (reason < 128)
known-released id i reason h = elim (cases_Bool (nat_lt reason 128)) [
  | inl t ↦ ((same-pubrel i id 0 (rw t at h)).0, ltb-true reason 128 t)
  | inr t ↦ absurd (rw t at h)
]

pubrec-released : (o : Option Entry) (id i reason : ℕ) (x : Exchange) (es : Entries) → find_id i es ≡ o → IsTold id x es → IsPubrel id (reply_pubrec o i reason) → (i ≡ id) × (after_pubrec reason x ≡ released)
pubrec-released None id i reason x es is told h = absurd (unknown-none id i reason h)
pubrec-released (Some e) id i reason x es is told h = elim (cases_Bool (is_released e.stage)) [
  | inl r ↦
      let same : i ≡ id = (same-pubrel i id 0 (rw r at h)).0 in
      let was : x ≡ released = told e (ap (λ (k : ℕ). find_id k es) (sym same) ∙ is) ∙ released-exchange e.stage e.delivery r in
      (same, ap (after_pubrec reason) was)
  | inr r ↦ elim (cases_Bool (takes_pubrec e.delivery.qos e.stage)) [
    | inl t ↦
        let k = known-released id i reason (rw (r, t) at h) in
        (k.0, ap (after_pubrec reason) (told e (ap (λ (j : ℕ). find_id j es) (sym k.0) ∙ is)) ∙ received-now e.delivery.qos e.stage e.delivery reason refl t k.1)
    | inr t ↦ absurd (unknown-none id i reason (rw (r, t) at h))
  ]
]

packet-released : (aliases : Topics) (p : Packet) (id now : ℕ) (room : Bool) (s : State) (x : Exchange) (y : Reply) → IsTold id x s.outbox.copies → IsReply aliases p now room s y → IsPubrel id y → exchange_over id x (marks_by true (takes p now room)) ≡ released
packet-released aliases (packets.Publish p) id now room s x y told is h = absurd (publish-none id aliases s p now room (rw is at h))
packet-released aliases (packets.Puback a) id now room s x y told is h = absurd (rw is at h)
packet-released aliases (packets.Pubrec a) id now room s x y told is h =
    let k = pubrec-released (find_id a.identifier s.outbox.copies) id a.identifier a.reason x s.outbox.copies refl told (rw is at h) in
    rw (eq-eqb a.identifier id k.0) k.1
packet-released aliases (packets.Pubrel a) id now room s x y told is h = absurd (let bad = rw is at h in cc)
packet-released aliases (packets.Pubcomp a) id now room s x y told is h = absurd (rw is at h)
packet-released aliases (packets.Subscribe p) id now room s x y told (inl is) h = absurd (rw is.1 at h)
packet-released aliases (packets.Subscribe p) id now room s x y told (inr is) h = absurd (request-none id s.incoming p.identifier (suback p.identifier (replicate (length p.filters) 145)) server.Subscribe (λ e. (cc e)) (rw is.1 at h))
packet-released aliases (packets.Unsubscribe p) id now room s x y told is h = absurd (request-none id s.incoming p.identifier (unsuback p.identifier (replicate (length p.filters) 145)) server.Unsubscribe (λ e. (cc e)) (rw is at h))
packet-released aliases packets.Pingreq id now room s x y told is h = absurd (let bad = rw is at h in cc)
packet-released aliases (packets.Disconnect p) id now room s x y told is h = absurd (disconnect-none id (first_four 17 p.properties) s.kept.expiry (rw is at h))
packet-released aliases (packets.Connect p) id now room s x y told is h = absurd (rw is at h)
packet-released aliases (packets.Connack p) id now room s x y told is h = absurd (rw is at h)
packet-released aliases (packets.Suback p) id now room s x y told is h = absurd (rw is at h)
packet-released aliases (packets.Unsuback p) id now room s x y told is h = absurd (rw is at h)
packet-released aliases packets.Pingresp id now room s x y told is h = absurd (rw is at h)
packet-released aliases (packets.Auth p) id now room s x y told is h = absurd (rw is at h)

-- ---- the PUBRELs at the beginning of a connection
part-released : (id : ℕ) (x : Exchange) (s : Stage) (d : Delivery) → (stage_has id s ≡ true → x ≡ exchange_at s d) → AllByRecursion (λ (y : ℕ × ℕ). y.1 ≡ id → x ≡ released) (stage_pair s)
part-released id x Waiting d h = tt
part-released id x (Published i) d h = tt
part-released id x (Released i order) d h = (λ same. h (eq-eqb i id same), tt)

all-released : (id : ℕ) (x : Exchange) (es : Entries) → AreNumbered es → IsTold id x es → AllByRecursion (λ (y : ℕ × ℕ). y.1 ≡ id → x ≡ released) (chosen released_pair es)
all-released id x [] n told = tt
all-released id x (e ∷ es) n told =
    all-both (λ (y : ℕ × ℕ). y.1 ≡ id → x ≡ released) (stage_pair e.1.stage) (chosen released_pair es) (part-released id x e.1.stage e.1.delivery (λ h. told e.1 (rw h refl))) (all-released id x es n.1
    (λ f at_f. elim (cases_Bool (has_id id e.1)) [
      | inl k ↦ absurd (let bad : None ≡ Some f = sym (numbered-later id e.1.stage es k n.0) ∙ at_f in cc)
      | inr k ↦ told f (rw k at_f)
    ]))

all-values : (P : ℕ → Type 0) (xs : List (ℕ × ℕ)) → AllByRecursion (λ (y : ℕ × ℕ). P y.1) xs → AllByRecursion P (values_of xs)
all-values P [] h = tt
all-values P (y ∷ ys) h = (h.0, all-values P ys h.1)

numbered-away : (es : Entries) → AreNumbered es → AreNumbered (away es)
numbered-away es n = numbered-step (record { copies = es; next_place = 1; next_order = 1; maximum = 0 }) (record { copies = away es; next_place = 1; next_order = 1; maximum = 0 }) (resumed 0) refl n

opens-released : (b : Bool) (id : ℕ) (old new : State) (c : Connect) (p : Packet) (room : Option ℕ) (now : ℕ) (r : Reaction) (x : Exchange) → (p ≡ pubrel id 0 → ⊥) → AreNumbered old.outbox.copies → IsTold id x old.outbox.copies → OpensIf b old c p room now r new → Releases id r.packets → x ≡ released
opens-released false id old new c p room now r x not_it n told h t = absurd (rw h.0 at t)
opens-released true id old new c p room now r x not_it n told h t = elim (rw h.reacts at t) [
  | inl e ↦ absurd (not_it (let k : p ≡ pubrel id 0 = cc in k))
  | inr k ↦
      let copies = away old.outbox.copies in
      let all = all-values (λ i. i ≡ id → x ≡ released) (by_release copies) (all-sorted (λ (y : ℕ × ℕ). y.1 ≡ id → x ≡ released) (chosen released_pair copies) (all-released id x copies (numbered-away old.outbox.copies n) (told-away id x old.outbox.copies told))) in
      in-pubrels id (x ≡ released) h.ids h.sents (rw h.lists.0 all) k
]

-- ---- the other events
once-none : (id : ℕ) (o : Option ℕ) (now : ℕ) (d : Delivery) → Releases id (once_of o now d) → ⊥
once-none id None now d h = h
once-none id (Some limit) now d h = elim (cases_Bool (outbox.fits now limit d)) [
  | inl f ↦ publish-one id _ (rw f at h)
  | inr f ↦ rw f at h
]

queue-none : (b : Bool) (id : ℕ) (old new : State) (d : Delivery) (now : ℕ) (r : Reaction) → QueueIf b old d now r new → Releases id r.packets → ⊥
queue-none true id old new d now r q h = once-none id (limit_of old.link) now d (rw q.0 at h)
queue-none false id old new d now r (inl q) h = none-published id q.sents (rw q.reacts at h)
queue-none false id old new d now r (inr q) h = rw q.reacts at h

timed-none : (o : Option Link) (s : State) → (timed_out o s).reaction.packets ≡ []
timed-none None s = refl
timed-none (Some l) s = refl

pub tick-none : (a b c : Bool) (now : ℕ) (s : State) → (ticked_if a b c now s).reaction.packets ≡ []
tick-none true b c now s = timed-none s.link s
tick-none false true c now s = refl
tick-none false false c now s = refl

nothing-in : (id : ℕ) (ps : List Output) → ps ≡ [] → Releases id ps → ⊥
nothing-in id [] e h = h
nothing-in id (p ∷ ps) e h = (cc e)

takes-released : (o : Option Link) (id : ℕ) (old new : State) (p : Packet) (now : ℕ) (room : Bool) (r : Reaction) (x : Exchange) → old.link ≡ o → IsTold id x old.outbox.copies → Reacts old (takes p now room) r new → Releases id r.packets
    → exchange_over id x (marks_by true (takes p now room)) ≡ released
takes-released None id old new p now room r x e told h t = absurd (nothing-in id r.packets (rw (keeps_unheard old new p now room r e h).0 refl) t)
takes-released (Some l) id old new p now room r x e told h t =
    let k = replies_by_link old new l p now room r e h in
    packet-released (held l) p id now room old x k.reply told k.is (in-reply id l.limit k.reply k.sents (rw k.gives at t))

codes-released : (o : Option Link) (id i : ℕ) (codes : List ℕ) (old new : State) (r : Reaction) → old.link ≡ o → Reacts old (answers i codes) r new → Releases id r.packets → ⊥
codes-released None id i codes old new r e h t = nothing-in id r.packets (let g = rw e at h in rw g.0 refl) t
codes-released (Some l) id i codes old new r e h t = codes-none id l.asked i codes (in-reply id l.limit (reply_codes l.asked i codes) [] (rw (append-nil (reaction_of l.limit (reply_codes l.asked i codes)).packets) (rw (keeps_codes old new l i codes r e h) at t)))

event-released : (id : ℕ) (old new : State) (e : Event) (r : Reaction) (x : Exchange) → AreNumbered old.outbox.copies → IsTold id x old.outbox.copies → Reacts old e r new → Releases id r.packets → exchange_over id x (marks_by true e) ≡ released
event-released id old new (connects c continued room now) r x n told h t =
    opens-released (fits (limit_in c.properties) (connack continued c.client old.kept.client)) id old new c (connack continued c.client old.kept.client) room now r x (λ e. (cc e)) n told h.1 t
event-released id old new (queues d now) r x n told h t = absurd (queue-none (is_once d.qos) id old new d now r h t)
event-released id old new (rooms bytes now) r x n told h t = absurd (none-published id h.sents (rw h.reacts at t))
event-released id old new (takes p now room) r x n told h t = takes-released old.link id old new p now room r x refl told h t
event-released id old new (answers i codes) r x n told h t = absurd (codes-released old.link id i codes old new r refl h t)
event-released id old new (closes now) r x n told h t = absurd (nothing-in id r.packets (rw h.0 refl) t)
event-released id old new (ticks now) r x n told h t = absurd (nothing-in id r.packets (ap (λ (w : Reaction). w.packets) h.0 ∙ tick-none _ _ _ now old) t)
event-released id old new (finishes now) r x n told h t = absurd (nothing-in id r.packets (rw h.0 refl) t)
event-released id old new loses r x n told h t = absurd (nothing-in id r.packets (rw h.quiet refl) t)

pub keeps_releases : KeepsReleases
keeps_releases = λ client id before s end run t.
    let m = run-split (new_session client) before (s ∷ []) end run in
    event-released id m.0 m.2.0 s.event s.reaction (exchange_over id none (all_marks false before)) (keeps_numbers client before m.0 m.1) (told-whole client id before m.0 m.1).1 m.2.1 t
