-- Each packet has its reply.
use Rattle.std.proofs.Common.{◌≡◌, ℕ, Bool, true, false, cond, List, [], ◌∷◌, ◌⊎◌, Option, Some, None, refl, sym, subst, ap, ◌∙◌, inl, inr}
use Rattle.std.specs.Prelude.{◌==◌, ◌&&◌, not, is_none, is_some, length, replicate, unwrap_or}
use Rattle.std.specs.List.{list_any}
use Rattle.std.proofs.lemmas.Bool.{cases_Bool, false≢true, lt-ltb, le-ltb}
use Rattle.mqtt_fields.specs.declared.options.Qos.{Qos}
use Rattle.mqtt_fields.specs.declared.options.Qos.TheVariants.{AtMostOnce, AtLeastOnce, ExactlyOnce}
use Rattle.mqtt_fields.specs.Properties.{first_two, first_four}
use Rattle.mqtt_packets.specs.declared.ended.Ended.{Ended}
use Rattle.mqtt_packets.specs.declared.packet.Packet.{Packet}
use Rattle.mqtt_packets.specs.declared.packet.Packet.TheVariants as packets
use Rattle.mqtt_packets.specs.declared.publish.Publish.{Publish}
use Rattle.mqtt_topics.specs.Levels.{is_wildcard}
use Rattle.mqtt_message.specs.Accepted.{accepted}
use Rattle.mqtt_message.specs.declared.message.Message.{Message}
use Rattle.qos_handshakes.specs.declared.answers.Rec.{Rec}
use Rattle.qos_handshakes.specs.declared.answers.Rec.TheVariants as rec
use Rattle.qos_handshakes.specs.declared.copies.Entry.{Entry}
use Rattle.qos_handshakes.specs.declared.copies.Stage.{Stage}
use Rattle.qos_handshakes.specs.declared.copies.Stage.TheVariants.{Waiting, Published, Released}
use Rattle.qos_handshakes.specs.Entries.{find_id}
use Rattle.qos_handshakes.specs.Incoming.{Received, opened}
use Rattle.qos_handshakes.specs.Outbox.{Outbox, Sent, is_released, takes_pubrec, ReceivedIf}
use Rattle.law_handshakes.proofs.ChosenLaws.{append-nil}
use Rattle.mqtt_sessions.specs.declared.link.Asked.{Asked}
use Rattle.mqtt_sessions.specs.declared.link.Asked.TheVariants.{Subscribing, Unsubscribing}
use Rattle.mqtt_sessions.specs.declared.reaction.Ask.{Ask}
use Rattle.mqtt_sessions.specs.declared.reaction.Ask.TheVariants as server
use Rattle.mqtt_sessions.specs.Answers.{puback, pubrec, pubrel, suback, unsuback, fits}
use Rattle.mqtt_sessions.specs.Aliases.{Aliases, alias_of, is_beyond, topic_by, topic_for, topic_of}
use Rattle.mqtt_sessions.specs.Arriving.{has_property, is_unwelcome, arrival_once, arrival_twice, once_by, arrives_twice, message_in, passes_by, publish_by, publish_outcome, setting}
use Rattle.mqtt_sessions.proofs.ArrivingLaws.{set-topic}
use Rattle.mqtt_sessions.specs.Asking.{answer_by}
use Rattle.mqtt_sessions.specs.Ending.{disconnected_by}
use Rattle.mqtt_sessions.specs.Packets.{PubrecBy, SaysUnknown, KindStep, PacketIf}
use Rattle.mqtt_sessions.specs.Reaction.{Reaction, answered, refused, nothing}
use Rattle.mqtt_sessions.specs.State.{Link, State, aliases_of, heard, heard_by, limit_of, new_session}
use Rattle.law_sessions.specs.Aliases.{KeepsTopics, Topics, topic_under, topics_told}
use Rattle.law_sessions.specs.Replies.{Reply, silent, says, asks, both, ends, leaves, reaction_of, has_hundred, is_invalid, reply_under, reply_at_least_once, reply_exactly_once, reply_at, reply_publish, reply_unknown, reply_pubrec, reply_request, reply_disconnect, IsReply, then_sends, IsReplied, reply_codes, KeepsReplies, KeepsUnheard, KeepsCodes}
use Rattle.law_sessions.specs.Runs.{Step, takes, Reacts, Run}
use Rattle.law_sessions.proofs.AliasLaws.{held, held-told}

-- ---- what a reply without PUBLISHes is
then-none : (r : Reaction) → then_sends r [] ≡ r
then-none r = rw (append-nil r.packets) refl

alone : (told : Topics) (limit : ℕ) (p : Packet) (now : ℕ) (room : Bool) (s : State) (r : Reaction) (x : Reply) → IsReply told p now room s x → r ≡ reaction_of limit x → IsReplied told limit p now room s r
alone told limit p now room s r x is gives = record { reply = x; sents = []; is = is; gives = gives ∙ sym (then-none (reaction_of limit x)); queue = inl refl }

says-so : (limit : ℕ) (p : Packet) (s : State) → (answered limit p None s).reaction ≡ reaction_of limit (says p)
says-so limit p s = elim (cases_Bool (fits limit p)) [ inl f ↦ rw f refl | inr f ↦ rw f refl ]

does-both : (limit : ℕ) (p : Packet) (a : Ask) (s : State) → (answered limit p (Some a) s).reaction ≡ reaction_of limit (both p a)
does-both limit p a s = elim (cases_Bool (fits limit p)) [ inl f ↦ rw f refl | inr f ↦ rw f refl ]

-- ---- PUBLISH
once-replied : (refused : Bool) (limit id : ℕ) (m : Message) (s : State) → (once_by (arrival_once s.incoming id) refused limit id m s).reaction ≡ reaction_of limit (reply_at_least_once s.incoming id refused m)
once-replied refused limit id m s = elim (cases_Bool (has_hundred s.incoming)) [
  | inl t ↦ rw t refl
  | inr t ↦ elim (cases_Bool (is_some (opened id s.incoming))) [
    | inl u ↦ rw (t, u) (says-so limit (puback id 145) s)
    | inr u ↦ elim (cases_Bool refused) [
      | inl v ↦ rw (t, u, v) (says-so limit (puback id 151) s)
      | inr v ↦ rw (t, u, v) (does-both limit (puback id 0) (server.Pass m) s)
    ]
  ]
]

twice-replied : (o : Option Bool) (refused : Bool) (limit id : ℕ) (m : Message) (s : State) → opened id s.incoming ≡ o → (arrives_twice (arrival_twice s.incoming id) refused limit id m s).reaction ≡ reaction_of limit (reply_exactly_once o s.incoming id refused m)
twice-replied (Some true) refused limit id m s e = rw e (says-so limit (pubrec id 0) _)
twice-replied (Some false) refused limit id m s e = elim (cases_Bool (has_hundred s.incoming)) [
  | inl t ↦ rw (e, t) refl
  | inr t ↦ rw (e, t) (says-so limit (pubrec id 0) _)
]
twice-replied None refused limit id m s e = elim (cases_Bool (has_hundred s.incoming)) [
  | inl t ↦ rw (e, t) refl
  | inr t ↦ elim (cases_Bool refused) [
    | inl v ↦ rw (e, t, v) (says-so limit (pubrec id 151) _)
    | inr v ↦ rw (e, t, v) (does-both limit (pubrec id 0) (server.Pass m) _)
  ]
]

at-replied : (q : Qos) (p : Publish) (refused : Bool) (limit : ℕ) (m : Message) (s : State) → (passes_by q p refused limit m s).reaction ≡ reaction_of limit (reply_at q s.incoming p.identifier refused m)
at-replied AtMostOnce p refused limit m s = elim (cases_Bool refused) [ inl t ↦ rw t refl | inr t ↦ rw t refl ]
at-replied AtLeastOnce p refused limit m s = once-replied refused limit p.identifier m s
at-replied ExactlyOnce p refused limit m s = twice-replied (opened p.identifier s.incoming) refused limit p.identifier m s refl

-- the topics that a session holds
abbrev topics_in : State → Topics
topics_in s = λ alias. topic_for alias (aliases_of s.link)

pub under-is : (topic : List ℕ) (a : Option ℕ) (known : Aliases) → topic_by topic a known ≡ topic_under (λ alias. topic_for alias known) topic a
under-is [] None known = refl
under-is [] (Some a) known = refl
under-is (b ∷ bs) a known = refl

invalid-is : (a : Option ℕ) → is_beyond a ≡ is_invalid a
invalid-is None = refl
invalid-is (Some a) = refl

-- the message that is passed on is under the topic that the session holds for it
message-under : (p : Publish) (now : ℕ) (s : State) (topic : List ℕ) → topic_of (aliases_of s.link) p ≡ Some topic → message_in p now (setting p s) ≡ accepted (record p { topic = topic }) s.kept.client now
message-under p now s topic is = ap (λ (x : Option (List ℕ)). accepted (record p { topic = unwrap_or x [] }) s.kept.client now) (set-topic s.link p ∙ is)

under-some : (b c : Bool) (topic : List ℕ) (p : Publish) (now : ℕ) (room : Bool) (limit : ℕ) (s : State) → topic_of (aliases_of s.link) p ≡ Some topic
    → (publish_by (cond b (Some 130) (cond c (Some 144) None)) p now room limit s).reaction
    ≡ reaction_of limit (cond b (ends 130) (cond c (ends 144) (reply_at p.qos s.incoming p.identifier (is_unwelcome p room) (accepted (record p { topic = topic }) s.kept.client now))))
under-some true c topic p now room limit s is = refl
under-some false true topic p now room limit s is = refl
under-some false false topic p now room limit s is =
    at-replied p.qos p (is_unwelcome p room) limit (message_in p now (setting p s)) (setting p s)
    ∙ ap (λ (m : Message). reaction_of limit (reply_at p.qos s.incoming p.identifier (is_unwelcome p room) m)) (message-under p now s topic is)

under-replied : (o : Option (List ℕ)) (p : Publish) (now : ℕ) (room : Bool) (limit : ℕ) (s : State) → topic_of (aliases_of s.link) p ≡ o
    → (publish_by (cond (is_none o) (Some 130) (cond (has_property 11 p.properties) (Some 130) (cond (list_any is_wildcard p.topic) (Some 144) None))) p now room limit s).reaction ≡ reaction_of limit (reply_under o s p now room)
under-replied None p now room limit s is = refl
under-replied (Some topic) p now room limit s is = under-some (has_property 11 p.properties) (list_any is_wildcard p.topic) topic p now room limit s is

beyond-replied : (b c : Bool) (o told : Option (List ℕ)) (p : Publish) (now : ℕ) (room : Bool) (limit : ℕ) (s : State) → b ≡ c → o ≡ told → topic_of (aliases_of s.link) p ≡ o
    → (publish_by (cond b (Some 148) (cond (is_none o) (Some 130) (cond (has_property 11 p.properties) (Some 130) (cond (list_any is_wildcard p.topic) (Some 144) None)))) p now room limit s).reaction
    ≡ reaction_of limit (cond c (ends 148) (reply_under told s p now room))
beyond-replied true true o told p now room limit s same under is = refl
beyond-replied true false o told p now room limit s same under is = absurd (false≢true (sym same))
beyond-replied false true o told p now room limit s same under is = absurd (false≢true same)
beyond-replied false false o told p now room limit s same under is = under-replied o p now room limit s is ∙ ap (λ (x : Option (List ℕ)). reaction_of limit (reply_under x s p now room)) under

publish-replied : (p : Publish) (now : ℕ) (room : Bool) (limit : ℕ) (s : State) → (publish_outcome p now room limit s).reaction ≡ reaction_of limit (reply_publish (topics_in s) s p now room)
publish-replied p now room limit s =
    let known = aliases_of s.link in
    beyond-replied (is_beyond (alias_of p)) (is_invalid (alias_of p)) (topic_of known p) (topic_under (topics_in s) p.topic (alias_of p)) p now room limit s (invalid-is (alias_of p)) (under-is p.topic (alias_of p) known) refl

-- the topic of a PUBLISH that the session holds is the one that was told
pub told-under : (client : List ℕ) (steps : List Step) (old : State) (l : Link) (p : Publish) → Run (new_session client) steps old → old.link ≡ Some l → topic_of (aliases_of old.link) p ≡ topic_under (topics_told steps) p.topic (first_two 35 p.properties)
told-under client steps old l p run e =
    ap (λ (o : Option Link). topic_of (aliases_of o) p) e ∙ under-is p.topic (alias_of p) l.aliases ∙ ap (λ (told : Topics). topic_under told p.topic (alias_of p)) (held-told client steps old l run e)

-- ---- PUBREC
unknown-replied : (id reason limit : ℕ) (s new : State) (r : Reaction) → SaysUnknown id reason limit s r new → r ≡ reaction_of limit (reply_unknown id reason)
unknown-replied id reason limit s new r (inl h) = rw (lt-ltb reason 128 h.0) (h.1.0 ∙ says-so limit (pubrel id 146) s)
unknown-replied id reason limit s new r (inr h) = rw (le-ltb reason 128 h.0) h.1

released-not : (s : Stage) (q : Qos) → takes_pubrec q s ≡ true → is_released s ≡ false
released-not Waiting q h = refl
released-not (Published id) q h = refl
released-not (Released id order) AtMostOnce h = absurd (false≢true h)
released-not (Released id order) AtLeastOnce h = absurd (false≢true h)
released-not (Released id order) ExactlyOnce h = absurd (false≢true h)

-- the reply, and then PUBLISHes
abbrev Replies : ℕ → Reaction → Reply → Type 0
Replies limit r x = (sents : List Sent) × (r ≡ then_sends (reaction_of limit x) sents) × ((sents ≡ []) ⊎ (x ≡ silent))

no-more : (limit : ℕ) (r : Reaction) (x : Reply) → r ≡ reaction_of limit x → Replies limit r x
no-more limit r x gives = ([], gives ∙ sym (then-none (reaction_of limit x)), inl refl)

pubrec-replied : (a : Rec) (o : Option Entry) (id reason now limit : ℕ) (s new : State) (mid : Outbox) (r : Reaction) → ReceivedIf o s.outbox id reason a mid → PubrecBy a id reason now limit s mid r new → Replies limit r (reply_pubrec o id reason)
pubrec-replied rec.Release None id reason now limit s new mid r t p = (cc (t.0))
pubrec-replied rec.Ended None id reason now limit s new mid r t p = (cc (t.0))
pubrec-replied rec.Unknown None id reason now limit s new mid r t p = no-more limit r (reply_unknown id reason) (unknown-replied id reason limit _ new r p)
pubrec-replied rec.AtEnd o id reason now limit s new mid r t p = absurd p
pubrec-replied rec.Release (Some x) id reason now limit s new mid r (inl t) p =
    rw (released-not x.stage x.delivery.qos t.0, t.0, lt-ltb reason 128 t.1) (no-more limit r (says (pubrel id 0)) (p.0 ∙ says-so limit (pubrel id 0) _))
pubrec-replied rec.Release (Some x) id reason now limit s new mid r (inr t) p = rw t.0 (no-more limit r (says (pubrel id 0)) (p.0 ∙ says-so limit (pubrel id 0) _))
pubrec-replied rec.Ended (Some x) id reason now limit s new mid r t p = rw (released-not x.stage x.delivery.qos t.0, t.0, le-ltb reason 128 t.1) (p.sents, p.reacts, inr refl)
pubrec-replied rec.Unknown (Some x) id reason now limit s new mid r t p = rw (t.1, t.0) (no-more limit r (reply_unknown id reason) (unknown-replied id reason limit _ new r p))

-- ---- the others
subscribed-replied : (r : Received) (id limit : ℕ) (p : Packet) (a : Ask) (s t : State) (w : Reaction) → w ≡ record nothing { ask = Some a }
    → (cond (is_some (opened id r)) (answered limit p None s) (record { reaction = w; left = t })).reaction ≡ reaction_of limit (reply_request r id p a)
subscribed-replied r id limit p a s t w e = elim (cases_Bool (is_some (opened id r))) [
  | inl h ↦ rw h (says-so limit p s)
  | inr h ↦ rw h e
]

disconnect-replied : (o : Option ℕ) (p : Ended) (limit : ℕ) (s : State) → (disconnected_by o p limit s).reaction ≡ reaction_of limit (reply_disconnect o s.kept.expiry)
disconnect-replied None p limit s = refl
disconnect-replied (Some new) p limit s = elim (cases_Bool ((s.kept.expiry == 0) && not (new == 0))) [ inl h ↦ rw h refl | inr h ↦ rw h refl ]

kind-replied : (p : Packet) (now : ℕ) (room : Bool) (limit : ℕ) (s : State) (r : Reaction) (new : State) → KindStep p now room limit s r new → IsReplied (topics_in s) limit p now room s r
kind-replied (packets.Publish p) now room limit s r new h = alone (topics_in s) limit (packets.Publish p) now room s r _ refl (h.0 ∙ publish-replied p now room limit s)
kind-replied (packets.Puback a) now room limit s r new h = record { reply = silent; sents = h.sents; is = refl; gives = h.reacts; queue = inr (tt, refl) }
kind-replied (packets.Pubrec a) now room limit s r new h =
    let k = pubrec-replied h.answer (find_id a.identifier s.outbox.copies) a.identifier a.reason now limit s new h.mid r h.takes h.goes_on in
    record { reply = reply_pubrec (find_id a.identifier s.outbox.copies) a.identifier a.reason; sents = k.0; is = refl; gives = k.1; queue = elim k.2 [ inl e ↦ inl e | inr e ↦ inr (tt, e) ] }
kind-replied (packets.Pubrel a) now room limit s r new h = alone (topics_in s) limit (packets.Pubrel a) now room s r _ refl (h.0 ∙ says-so limit _ _)
kind-replied (packets.Pubcomp a) now room limit s r new h = record { reply = silent; sents = h.sents; is = refl; gives = h.reacts; queue = inr (tt, refl) }
kind-replied (packets.Subscribe p) now room limit s r new (inl h) = alone (topics_in s) limit (packets.Subscribe p) now room s r (ends 130) (inl (h.0, refl)) h.1.0
kind-replied (packets.Subscribe p) now room limit s r new (inr h) =
    alone (topics_in s) limit (packets.Subscribe p) now room s r _ (inr (h.0, refl)) (h.1.0 ∙ subscribed-replied s.incoming p.identifier limit (suback p.identifier (replicate (length p.filters) 145)) server.Subscribe s _ _ refl)
kind-replied (packets.Unsubscribe p) now room limit s r new h =
    alone (topics_in s) limit (packets.Unsubscribe p) now room s r _ refl (h.0 ∙ subscribed-replied s.incoming p.identifier limit (unsuback p.identifier (replicate (length p.filters) 145)) server.Unsubscribe s _ _ refl)
kind-replied packets.Pingreq now room limit s r new h = alone (topics_in s) limit packets.Pingreq now room s r (says packets.Pingresp) refl (h.0 ∙ says-so limit packets.Pingresp s)
kind-replied (packets.Disconnect p) now room limit s r new h = alone (topics_in s) limit (packets.Disconnect p) now room s r _ refl (h.0 ∙ disconnect-replied (first_four 17 p.properties) p limit s)
kind-replied (packets.Connect p) now room limit s r new h = alone (topics_in s) limit (packets.Connect p) now room s r (ends 130) refl h.0
kind-replied (packets.Connack p) now room limit s r new h = alone (topics_in s) limit (packets.Connack p) now room s r (ends 130) refl h.0
kind-replied (packets.Suback p) now room limit s r new h = alone (topics_in s) limit (packets.Suback p) now room s r (ends 130) refl h.0
kind-replied (packets.Unsuback p) now room limit s r new h = alone (topics_in s) limit (packets.Unsuback p) now room s r (ends 130) refl h.0
kind-replied packets.Pingresp now room limit s r new h = alone (topics_in s) limit packets.Pingresp now room s r (ends 130) refl h.0
kind-replied (packets.Auth p) now room limit s r new h = alone (topics_in s) limit (packets.Auth p) now room s r (ends 130) refl h.0

-- what is answered depends on the moment of the last packet in nothing
under-heard : (o : Option (List ℕ)) (p : Publish) (now : ℕ) (room : Bool) (s : State) → reply_under o (heard s now) p now room ≡ reply_under o s p now room
under-heard None p now room s = refl
under-heard (Some topic) p now room s = refl

same-reply : (told : Topics) (p : Packet) (now : ℕ) (room : Bool) (s : State) (x : Reply) → IsReply told p now room (heard s now) x → IsReply told p now room s x
same-reply told (packets.Publish p) now room s x h =
    h ∙ ap (λ (y : Reply). cond (is_invalid (alias_of p)) (ends 148) y) (under-heard (topic_under told p.topic (alias_of p)) p now room s)
same-reply told (packets.Puback a) now room s x h = h
same-reply told (packets.Pubrec a) now room s x h = h
same-reply told (packets.Pubrel a) now room s x h = h
same-reply told (packets.Pubcomp a) now room s x h = h
same-reply told (packets.Subscribe p) now room s x h = h
same-reply told (packets.Unsubscribe p) now room s x h = h
same-reply told packets.Pingreq now room s x h = h
same-reply told (packets.Disconnect p) now room s x h = h
same-reply told (packets.Connect p) now room s x h = h
same-reply told (packets.Connack p) now room s x h = h
same-reply told (packets.Suback p) now room s x h = h
same-reply told (packets.Unsuback p) now room s x h = h
same-reply told packets.Pingresp now room s x h = h
same-reply told (packets.Auth p) now room s x h = h

heard-topics : (o : Option Link) (now : ℕ) → aliases_of (heard_by o now) ≡ aliases_of o
heard-topics None now = refl
heard-topics (Some l) now = refl

packet-replied : (o : Option ℕ) (old new : State) (limit : ℕ) (p : Packet) (now : ℕ) (room : Bool) (r : Reaction) → o ≡ Some limit → PacketIf o p now room old r new → IsReplied (topics_in old) limit p now room old r
packet-replied None old new limit p now room r e h = (cc e)
packet-replied (Some k) old new limit p now room r e h =
    let same : k ≡ limit = cc e in
    let x = kind-replied p now room limit (heard old now) r new (rw same at h) in
    let is = subst (λ (known : Aliases). IsReply (λ alias. topic_for alias known) p now room (heard old now) x.reply) (heard-topics old.link now) x.is in
    record { reply = x.reply; sents = x.sents; is = same-reply (topics_in old) p now room old x.reply is; gives = x.gives; queue = x.queue }

-- where aliases stand for what the connection holds
pub replies_by_link : (old new : State) (l : Link) (p : Packet) (now : ℕ) (room : Bool) (r : Reaction) → old.link ≡ Some l → Reacts old (takes p now room) r new → IsReplied (held l) l.limit p now room old r
replies_by_link old new l p now room r e h =
    subst (λ (o : Option Link). IsReplied (λ alias. topic_for alias (aliases_of o)) l.limit p now room old r) e (packet-replied (limit_of old.link) old new l.limit p now room r (rw e refl) h)

pub keeps_replies : KeepsReplies
keeps_replies = λ client steps old new l p now room r run e h. subst (λ (told : Topics). IsReplied told l.limit p now room old r) (held-told client steps old l run e) (replies_by_link old new l p now room r e h)

unheard : (o : Option ℕ) (old new : State) (p : Packet) (now : ℕ) (room : Bool) (r : Reaction) → o ≡ None → PacketIf o p now room old r new → (r ≡ nothing) × (new ≡ old)
unheard None old new p now room r e h = h
unheard (Some k) old new p now room r e h = (cc e)

pub keeps_unheard : KeepsUnheard
keeps_unheard = λ old new p now room r e h. unheard (limit_of old.link) old new p now room r (rw e refl) h

codes-replied : (a : Option Asked) (limit id : ℕ) (codes : List ℕ) (s : State) → (answer_by a limit id codes s).reaction ≡ reaction_of limit (reply_codes a id codes)
codes-replied None limit id codes s = refl
codes-replied (Some Subscribing) limit id codes s = says-so limit (suback id codes) _
codes-replied (Some Unsubscribing) limit id codes s = says-so limit (unsuback id codes) _

pub keeps_codes : KeepsCodes
keeps_codes = λ old new l id codes r e h. (rw e at h).0 ∙ codes-replied l.asked l.limit id codes _

-- ---- the topic of a message that is passed on
abbrev Asks : Message → Reply → Type 0
Asks m silent = ⊥
Asks m (says p) = ⊥
Asks m (asks a) = a ≡ server.Pass m
Asks m (both p a) = a ≡ server.Pass m
Asks m (ends code) = ⊥
Asks m leaves = ⊥

asked : (limit : ℕ) (x : Reply) (m : Message) → (reaction_of limit x).ask ≡ Some (server.Pass m) → Asks m x
asked limit silent m e = (cc e)
asked limit (says p) m e = elim (cases_Bool (fits limit p)) [ inl f ↦ (let bad : None ≡ Some (server.Pass m) = rw f at e in cc) | inr f ↦ (let bad : None ≡ Some (server.Pass m) = rw f at e in cc) ]
asked limit (asks a) m e = (cc e)
asked limit (both p a) m e = elim (cases_Bool (fits limit p)) [ inl f ↦ (let this : Some a ≡ Some (server.Pass m) = rw f at e in cc) | inr f ↦ (let this : Some a ≡ Some (server.Pass m) = rw f at e in cc) ]
asked limit (ends code) m e = (cc e)
asked limit leaves m e = (cc e)

if-asks : (b : Bool) (x y : Reply) (k m : Message) → (Asks m x → k ≡ m) → (Asks m y → k ≡ m) → Asks m (cond b x y) → k ≡ m
if-asks true x y k m f g h = f h
if-asks false x y k m f g h = g h

same-pass : (k m : Message) → server.Pass k ≡ server.Pass m → k ≡ m
same-pass k m e = (cc e)

twice-asks : (o : Option Bool) (r : Received) (id : ℕ) (refused : Bool) (k m : Message) → Asks m (reply_exactly_once o r id refused k) → k ≡ m
twice-asks (Some true) r id refused k m h = absurd h
twice-asks (Some false) r id refused k m h = if-asks (has_hundred r) (ends 147) (says (pubrec id 0)) k m (λ z. absurd z) (λ z. absurd z) h
twice-asks None r id refused k m h =
    let last = cond refused (says (pubrec id 151)) (both (pubrec id 0) (server.Pass k)) in
    if-asks (has_hundred r) (ends 147) last k m (λ z. absurd z) (if-asks refused (says (pubrec id 151)) (both (pubrec id 0) (server.Pass k)) k m (λ z. absurd z) (same-pass k m)) h

at-asks : (q : Qos) (r : Received) (id : ℕ) (refused : Bool) (k m : Message) → Asks m (reply_at q r id refused k) → k ≡ m
at-asks AtMostOnce r id refused k m h = if-asks refused silent (asks (server.Pass k)) k m (λ z. absurd z) (same-pass k m) h
at-asks AtLeastOnce r id refused k m h =
    let last = cond refused (says (puback id 151)) (both (puback id 0) (server.Pass k)) in
    if-asks (has_hundred r) (ends 147) (cond (is_some (opened id r)) (says (puback id 145)) last) k m (λ z. absurd z)
    (if-asks (is_some (opened id r)) (says (puback id 145)) last k m (λ z. absurd z) (if-asks refused (says (puback id 151)) (both (puback id 0) (server.Pass k)) k m (λ z. absurd z) (same-pass k m))) h
at-asks ExactlyOnce r id refused k m h = twice-asks (opened id r) r id refused k m h

if-topic : (b : Bool) (x y : Reply) (o : Option (List ℕ)) (m : Message) → (Asks m x → ⊥) → (Asks m y → o ≡ Some m.topic) → Asks m (cond b x y) → o ≡ Some m.topic
if-topic true x y o m f g h = absurd (f h)
if-topic false x y o m f g h = g h

under-topic : (o : Option (List ℕ)) (s : State) (p : Publish) (now : ℕ) (room : Bool) (m : Message) → Asks m (reply_under o s p now room) → o ≡ Some m.topic
under-topic None s p now room m h = absurd h
under-topic (Some topic) s p now room m h =
    let k = accepted (record p { topic = topic }) s.kept.client now in
    let x = reply_at p.qos s.incoming p.identifier (p.retain && not room) k in
    if-topic (has_property 11 p.properties) (ends 130) (cond (list_any is_wildcard p.topic) (ends 144) x) (Some topic) m (λ z. z)
    (if-topic (list_any is_wildcard p.topic) (ends 144) x (Some topic) m (λ z. z) (λ z. ap (λ (y : Message). Some y.topic) (at-asks p.qos s.incoming p.identifier (p.retain && not room) k m z))) h

by-reply : (told : Topics) (limit : ℕ) (s : State) (p : Publish) (now : ℕ) (room : Bool) (r : Reaction) (m : Message) → IsReplied told limit (packets.Publish p) now room s r → r.ask ≡ Some (server.Pass m) → topic_under told p.topic (first_two 35 p.properties) ≡ Some m.topic
by-reply told limit s p now room r m x ask =
    let o = topic_under told p.topic (first_two 35 p.properties) in
    let here : Asks m x.reply = asked limit x.reply m (sym (ap (λ (w : Reaction). w.ask) x.gives) ∙ ask) in
    if-topic (is_invalid (first_two 35 p.properties)) (ends 148) (reply_under o s p now room) o m (λ z. z) (under-topic o s p now room m) (subst (Asks m) x.is here)

by-link : (client : List ℕ) (steps : List Step) (old new : State) (p : Publish) (now : ℕ) (room : Bool) (r : Reaction) (m : Message) → Run (new_session client) steps old → Reacts old (takes (packets.Publish p) now room) r new → r.ask ≡ Some (server.Pass m)
    → (o : Option Link) → old.link ≡ o → topic_under (topics_told steps) p.topic (first_two 35 p.properties) ≡ Some m.topic
by-link client steps old new p now room r m run h ask None e = absurd (let bad : None ≡ Some (server.Pass m) = sym (ap (λ (w : Reaction). w.ask) (keeps_unheard old new (packets.Publish p) now room r e h).0) ∙ ask in cc)
by-link client steps old new p now room r m run h ask (Some l) e = by-reply (topics_told steps) l.limit old p now room r m (keeps_replies client steps old new l (packets.Publish p) now room r run e h) ask

pub keeps_topics : KeepsTopics
keeps_topics = λ client steps old new p now room r m run h ask. by-link client steps old new p now room r m run h ask old.link refl
