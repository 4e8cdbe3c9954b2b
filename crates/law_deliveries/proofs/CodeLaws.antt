-- What waits for codes is what events told.
use Rattle.std.proofs.Common.{◌≡◌, ℕ, zero, suc, ◌⊎◌, Bool, true, false, cond, List, [], ◌∷◌, Option, Some, None, refl, sym, ◌∙◌, ap, inl, inr}
use Rattle.std.specs.Prelude.{◌==◌, ◌&&◌, nat_lt, not, is_some, length, replicate}
use Rattle.std.specs.List.{AllByRecursion}
use Rattle.std.proofs.lemmas.Bool.{cases_Bool}
use Rattle.mqtt_fields.specs.declared.options.Qos.{Qos}
use Rattle.mqtt_fields.specs.declared.options.Qos.TheVariants.{AtMostOnce, AtLeastOnce, ExactlyOnce}
use Rattle.mqtt_fields.specs.Properties.{first_four}
use Rattle.mqtt_packets.specs.declared.connect.Connect.{Connect}
use Rattle.mqtt_packets.specs.declared.ended.Ended.{Ended}
use Rattle.mqtt_packets.specs.declared.packet.Packet.{Packet}
use Rattle.mqtt_packets.specs.declared.packet.Packet.TheVariants as packets
use Rattle.mqtt_packets.specs.declared.publish.Publish.{Publish}
use Rattle.mqtt_packets.specs.declared.subscribe.Subscribe.{Subscribe}
use Rattle.mqtt_packets.specs.declared.unsubscribe.Unsubscribe.{Unsubscribe}
use Rattle.mqtt_message.specs.declared.delivery.Delivery.{Delivery}
use Rattle.mqtt_message.specs.declared.message.Message.{Message}
use Rattle.qos_handshakes.specs.declared.answers.In.{In}
use Rattle.qos_handshakes.specs.declared.answers.In.TheVariants.{New, Repeat, InUse, OverMaximum}
use Rattle.qos_handshakes.specs.declared.answers.Rec.{Rec}
use Rattle.qos_handshakes.specs.declared.answers.Rec.TheVariants as rec
use Rattle.qos_handshakes.specs.declared.copies.Entry.{Entry}
use Rattle.qos_handshakes.specs.Entries.{find_id}
use Rattle.qos_handshakes.specs.Incoming.{Received, opened}
use Rattle.qos_handshakes.specs.Outbox.{Outbox, Sent, is_released, takes_pubrec}
use Rattle.law_handshakes.specs.Numbers.{AreNumbered}
use Rattle.mqtt_sessions.specs.declared.link.Asked.{Asked}
use Rattle.mqtt_sessions.specs.declared.link.Asked.TheVariants.{Subscribing, Unsubscribing}
use Rattle.mqtt_sessions.specs.declared.reaction.Ask.{Ask}
use Rattle.mqtt_sessions.specs.declared.reaction.Ask.TheVariants as server
use Rattle.mqtt_sessions.specs.declared.reaction.Output.{Output}
use Rattle.mqtt_sessions.specs.declared.reaction.Output.TheVariants as out
use Rattle.mqtt_sessions.specs.Answers.{connack, fits, pubcomp, pubrel, suback, unsuback}
use Rattle.mqtt_sessions.specs.Arriving.{after_release, arrival_once, arrival_twice, is_unwelcome, message_in, once_by, passes_by, publish_by, refusal, release_code, setting, setting_by, twice_by}
use Rattle.mqtt_sessions.specs.Asking.{SubscribeStep, answer_by, answer_of, answer_on, asked_of, waiting_by, waiting_for}
use Rattle.mqtt_sessions.specs.Connecting.{OpensIf}
use Rattle.mqtt_sessions.specs.Ending.{disconnected_by, end_due, has_run_out, is_due, ticked_if, timed_out, will_due}
use Rattle.mqtt_sessions.specs.Packets.{KindStep, PacketIf, PubrecBy, SaysUnknown}
use Rattle.mqtt_sessions.specs.Reaction.{Reaction, Comes, answered, nothing}
use Rattle.mqtt_sessions.specs.Sending.{QueueIf, is_once}
use Rattle.mqtt_sessions.specs.State.{Link, State, aliases_of, heard, limit_in, limit_of, new_session}
use Rattle.law_sessions.specs.Aliases.{Topics}
use Rattle.law_sessions.specs.Releases.{released_ids}
use Rattle.law_sessions.specs.Replies.{says, ends, reaction_of, reply_codes, reply_known, reply_pubrec, reply_request, reply_unknown, then_sends, IsReplied}
use Rattle.law_sessions.specs.Runs.{Event, connects, queues, rooms, takes, answers, closes, ticks, finishes, loses, Step, Reacts, Run, connected_after, limit_after}
use Rattle.law_sessions.proofs.AliasLaws.{held}
use Rattle.law_sessions.proofs.CallLaws.{numbered-calls}
use Rattle.law_sessions.proofs.ProjectLaws.{project}
use Rattle.law_sessions.proofs.QuietLaws.{HasLimit}
use Rattle.law_sessions.proofs.ReplyLaws.{replies_by_link, keeps_unheard, keeps_codes}
use Rattle.law_deliveries.specs.Codes.{Question, unless_ended, question_after, IsMeant, AnswersIt, OwnCodes, CodesBy, AllCodes, KeepsAnswers}
use Rattle.law_deliveries.proofs.ShownLaws.{AreShown, Shows, Allows, one-of, event-shown}

-- ---- a reaction ends the connection, or what it waits for stays
abbrev Stays : Option Link → Reaction → State → Type 0
Stays o r new = ((r.end ≡ None) × (asked_of new.link ≡ asked_of o)) ⊎ ((is_some r.end ≡ true) × (new.link ≡ None))

answered-stays : (limit : ℕ) (p : Packet) (ask : Option Ask) (s : State) → Stays s.link (answered limit p ask s).reaction (answered limit p ask s).left
answered-stays limit p ask s = elim (cases_Bool (fits limit p)) [ inl f ↦ rw f (inl (refl, refl)) | inr f ↦ rw f (inr (refl, refl)) ]

comes-stays : (limit : ℕ) (p : Packet) (ask : Option Ask) (s new : State) (r : Reaction) → Comes (answered limit p ask s) r new → Stays s.link r new
comes-stays limit p ask s new r c = rw (c.0, c.1) (answered-stays limit p ask s)

once-stays : (a : In) (unwelcome : Bool) (limit id : ℕ) (m : Message) (s : State) → Stays s.link (once_by a unwelcome limit id m s).reaction (once_by a unwelcome limit id m s).left
once-stays OverMaximum unwelcome limit id m s = inr (refl, refl)
once-stays InUse unwelcome limit id m s = answered-stays limit _ None s
once-stays Repeat unwelcome limit id m s = answered-stays limit _ None s
once-stays New true limit id m s = answered-stays limit _ None s
once-stays New false limit id m s = answered-stays limit _ _ s

twice-stays : (a : In) (unwelcome : Bool) (limit id : ℕ) (m : Message) (s : State) → Stays s.link (twice_by a unwelcome limit id m s).reaction (twice_by a unwelcome limit id m s).left
twice-stays OverMaximum unwelcome limit id m s = inr (refl, refl)
twice-stays InUse unwelcome limit id m s = answered-stays limit _ None s
twice-stays Repeat unwelcome limit id m s = answered-stays limit _ None s
twice-stays New true limit id m s = answered-stays limit _ None s
twice-stays New false limit id m s = answered-stays limit _ _ s

passes-stays : (q : Qos) (p : Publish) (unwelcome : Bool) (limit : ℕ) (m : Message) (s : State) → Stays s.link (passes_by q p unwelcome limit m s).reaction (passes_by q p unwelcome limit m s).left
passes-stays AtMostOnce p unwelcome limit m s = inl (refl, refl)
passes-stays AtLeastOnce p unwelcome limit m s = once-stays (arrival_once s.incoming p.identifier) unwelcome limit p.identifier m s
passes-stays ExactlyOnce p unwelcome limit m s = twice-stays (arrival_twice s.incoming p.identifier) unwelcome limit p.identifier m _

from : (o k : Option Link) (r : Reaction) (new : State) → asked_of k ≡ asked_of o → Stays k r new → Stays o r new
from o k r new same (inl h) = inl (h.0, h.1 ∙ same)
from o k r new same (inr h) = inr h

setting-asked : (o : Option Link) (p : Publish) → asked_of (setting_by o p) ≡ asked_of o
setting-asked None p = refl
setting-asked (Some l) p = refl

publish-stays : (why : Option ℕ) (p : Publish) (now : ℕ) (room : Bool) (limit : ℕ) (s : State) → Stays s.link (publish_by why p now room limit s).reaction (publish_by why p now room limit s).left
publish-stays (Some code) p now room limit s = inr (refl, refl)
publish-stays None p now room limit s =
    let o = passes_by p.qos p (is_unwelcome p room) limit (message_in p now (setting p s)) (setting p s) in
    from s.link (setting_by s.link p) o.reaction o.left (setting-asked s.link p) (passes-stays p.qos p (is_unwelcome p room) limit (message_in p now (setting p s)) (setting p s))

unknown-stays : (id reason limit : ℕ) (s new : State) (r : Reaction) → SaysUnknown id reason limit s r new → Stays s.link r new
unknown-stays id reason limit s new r (inl h) = comes-stays limit (pubrel id 146) None s new r h.1
unknown-stays id reason limit s new r (inr h) = rw (h.1, h.2) (inl (refl, refl))

pubrec-stays : (a : Rec) (id reason now limit : ℕ) (s new : State) (mid : Outbox) (r : Reaction) → PubrecBy a id reason now limit s mid r new → Stays s.link r new
pubrec-stays rec.Release id reason now limit s new mid r h = comes-stays limit (pubrel id 0) None _ new r h
pubrec-stays rec.Ended id reason now limit s new mid r h = rw (h.reacts, h.left) (inl (refl, refl))
pubrec-stays rec.Unknown id reason now limit s new mid r h = unknown-stays id reason limit _ new r h
pubrec-stays rec.AtEnd id reason now limit s new mid r h = absurd h

disconnect-stays : (o : Option ℕ) (p : Ended) (limit : ℕ) (s : State) → Stays s.link (disconnected_by o p limit s).reaction (disconnected_by o p limit s).left
disconnect-stays None p limit s = inr (refl, refl)
disconnect-stays (Some new) p limit s = elim (cases_Bool ((s.kept.expiry == 0) && not (new == 0))) [ inl h ↦ rw h (inr (refl, refl)) | inr h ↦ rw h (inr (refl, refl)) ]

-- ---- what is told
abbrev kind_of : Option Question → Option Asked
kind_of None = None
kind_of (Some x) = Some x.kind

-- where nothing is asked for
stays-told : (b : Bool) (q : Option Question) (o : Option Link) (r : Reaction) (new : State) → Stays o r new → kind_of q ≡ asked_of o → kind_of (unless_ended r (cond b q q)) ≡ asked_of new.link
stays-told true q o r new (inl h) e = rw h.0 (e ∙ sym h.1)
stays-told false q o r new (inl h) e = rw h.0 (e ∙ sym h.1)
stays-told b q o r new (inr h) e = rw (h.0, h.1) refl

-- where it is
asks-told : (b : Bool) (x : Question) (q : Option Question) (limit : ℕ) (p : Packet) (a : Ask) (s : State) (l : Link) (r : Reaction) (new : State) → s.link ≡ Some l → kind_of q ≡ asked_of s.link
    → Comes (cond b (answered limit p None s) (record { reaction = record nothing { ask = Some a }; left = waiting_for (Some x.kind) s })) r new → kind_of (unless_ended r (cond (true && is_some r.ask) (Some x) q)) ≡ asked_of new.link
asks-told true x q limit p a s l r new e k c = elim (cases_Bool (fits limit p)) [ inl f ↦ rw (c.0, c.1, f) k | inr f ↦ rw (c.0, c.1, f) refl ]
asks-told false x q limit p a s l r new e k c = rw (c.0, c.1, e) refl

subscribe-told : (p : Subscribe) (x : Question) (q : Option Question) (limit : ℕ) (s : State) (l : Link) (r : Reaction) (new : State) → x.kind ≡ Subscribing → s.link ≡ Some l → kind_of q ≡ asked_of s.link → SubscribeStep p limit s r new → kind_of (unless_ended r (cond (true && is_some r.ask) (Some x) q)) ≡ asked_of new.link
subscribe-told p x q limit s l r new is e k (inl h) = rw (h.1.0, h.1.1) refl
subscribe-told p x q limit s l r new is e k (inr h) = asks-told (is_some (opened p.identifier s.incoming)) x q limit (suback p.identifier (replicate (length p.filters) 145)) server.Subscribe s l r new e k (rw is h.1)

kind-told : (p : Packet) (q : Option Question) (now : ℕ) (room : Bool) (limit : ℕ) (s new : State) (l : Link) (r : Reaction) → s.link ≡ Some l → kind_of q ≡ asked_of s.link → KindStep p now room limit s r new → kind_of (question_after true q (takes p now room) r) ≡ asked_of new.link
kind-told (packets.Publish p) q now room limit s new l r e k h = stays-told (true && is_some r.ask) q s.link r new (rw (h.0, h.1) (publish-stays (refusal (aliases_of s.link) p) p now room limit s)) k
kind-told (packets.Puback a) q now room limit s new l r e k h = stays-told (true && is_some r.ask) q s.link r new (rw (h.reacts, h.left) (inl (refl, refl))) k
kind-told (packets.Pubrec a) q now room limit s new l r e k h = stays-told (true && is_some r.ask) q s.link r new (pubrec-stays h.answer a.identifier a.reason now limit s new h.mid r h.goes_on) k
kind-told (packets.Pubrel a) q now room limit s new l r e k h = stays-told (true && is_some r.ask) q s.link r new (comes-stays limit (pubcomp a.identifier (release_code s.incoming a.identifier)) None (record s { incoming = after_release s.incoming a.identifier }) new r h) k
kind-told (packets.Pubcomp a) q now room limit s new l r e k h = stays-told (true && is_some r.ask) q s.link r new (rw (h.reacts, h.left) (inl (refl, refl))) k
kind-told (packets.Subscribe p) q now room limit s new l r e k h = subscribe-told p (record { kind = Subscribing; identifier = p.identifier; count = length p.filters }) q limit s l r new refl e k h
kind-told (packets.Unsubscribe p) q now room limit s new l r e k h =
    asks-told (is_some (opened p.identifier s.incoming)) (record { kind = Unsubscribing; identifier = p.identifier; count = length p.filters }) q limit (unsuback p.identifier (replicate (length p.filters) 145)) server.Unsubscribe s l r new e k h
kind-told packets.Pingreq q now room limit s new l r e k h = stays-told (true && is_some r.ask) q s.link r new (comes-stays limit packets.Pingresp None s new r h) k
kind-told (packets.Disconnect p) q now room limit s new l r e k h = stays-told (true && is_some r.ask) q s.link r new (rw (h.0, h.1) (disconnect-stays (first_four 17 p.properties) p limit s)) k
kind-told (packets.Connect p) q now room limit s new l r e k h = stays-told (true && is_some r.ask) q s.link r new (rw (h.0, h.1) (inr (refl, refl))) k
kind-told (packets.Connack p) q now room limit s new l r e k h = stays-told (true && is_some r.ask) q s.link r new (rw (h.0, h.1) (inr (refl, refl))) k
kind-told (packets.Suback p) q now room limit s new l r e k h = stays-told (true && is_some r.ask) q s.link r new (rw (h.0, h.1) (inr (refl, refl))) k
kind-told (packets.Unsuback p) q now room limit s new l r e k h = stays-told (true && is_some r.ask) q s.link r new (rw (h.0, h.1) (inr (refl, refl))) k
kind-told packets.Pingresp q now room limit s new l r e k h = stays-told (true && is_some r.ask) q s.link r new (rw (h.0, h.1) (inr (refl, refl))) k
kind-told (packets.Auth p) q now room limit s new l r e k h = stays-told (true && is_some r.ask) q s.link r new (rw (h.0, h.1) (inr (refl, refl))) k

packet-told : (o : Option Link) (on : Bool) (p : Packet) (q : Option Question) (now : ℕ) (room : Bool) (old new : State) (r : Reaction) → on ≡ is_some o → old.link ≡ o → kind_of q ≡ asked_of o → PacketIf (limit_of o) p now room old r new → kind_of (question_after on q (takes p now room) r) ≡ asked_of new.link
packet-told None on p q now room old new r is e k h = rw (is, h.0, h.1, e) k
packet-told (Some l) on p q now room old new r is e k h = rw is (kind-told p q now room l.limit (heard old now) new (record l { last = now }) r (rw e refl) (rw e k) h)

-- ---- any other event
opens-told : (fit : Bool) (old new : State) (c : Connect) (p : Packet) (room : Option ℕ) (now : ℕ) (r : Reaction) → OpensIf fit old c p room now r new → asked_of new.link ≡ None
opens-told true old new c p room now r h = rw h.left refl
opens-told false old new c p room now r h = rw h.1 refl

queue-told : (b : Bool) (q : Option Question) (old new : State) (d : Delivery) (now : ℕ) (r : Reaction) → kind_of q ≡ asked_of old.link → QueueIf b old d now r new → kind_of (unless_ended r q) ≡ asked_of new.link
queue-told true q old new d now r k h = rw (h.0, h.1) k
queue-told false q old new d now r k (inl h) = rw (h.reacts, h.left) k
queue-told false q old new d now r k (inr h) = rw (h.reacts, h.left) k

waiting-none : (o : Option Link) → asked_of (waiting_by o None) ≡ None
waiting-none None = refl
waiting-none (Some l) = refl

codes-told : (a : Option Asked) (limit id : ℕ) (codes : List ℕ) (s : State) → asked_of s.link ≡ a → asked_of (answer_by a limit id codes s).left.link ≡ None
codes-told None limit id codes s e = e
codes-told (Some a) limit id codes s e = elim (cases_Bool (fits limit (answer_of a id codes))) [ inl f ↦ rw f (waiting-none s.link) | inr f ↦ rw f refl ]

answer-told : (o : Option Link) (id : ℕ) (codes : List ℕ) (s : State) → s.link ≡ o → asked_of (answer_on o id codes s).left.link ≡ None
answer-told None id codes s e = rw e refl
answer-told (Some l) id codes s e = codes-told l.asked l.limit id codes s (rw e refl)

timed-told : (o : Option Link) (q : Option Question) (s : State) → s.link ≡ o → kind_of q ≡ asked_of o → kind_of (unless_ended (timed_out o s).reaction q) ≡ asked_of (timed_out o s).left.link
timed-told None q s e k = rw e k
timed-told (Some l) q s e k = refl

tick-told : (a b c : Bool) (q : Option Question) (now : ℕ) (s : State) → kind_of q ≡ asked_of s.link → kind_of (unless_ended (ticked_if a b c now s).reaction q) ≡ asked_of (ticked_if a b c now s).left.link
tick-told true b c q now s k = timed-told s.link q s refl k
tick-told false true c q now s k = k
tick-told false false c q now s k = k

told : (on : Bool) (q : Option Question) (old new : State) (e : Event) (r : Reaction) → on ≡ is_some old.link → kind_of q ≡ asked_of old.link → Reacts old e r new → kind_of (question_after on q e r) ≡ asked_of new.link
told on q old new (connects c continued room now) r is k h = sym (opens-told (fits (limit_in c.properties) (connack continued c.client old.kept.client)) old new c (connack continued c.client old.kept.client) room now r h.1)
told on q old new (queues d now) r is k h = queue-told (is_once d.qos) q old new d now r k h
told on q old new (rooms bytes now) r is k h = rw (h.reacts, h.left) k
told on q old new (takes p now room) r is k h = packet-told old.link on p q now room old new r is refl k h
told on q old new (answers id codes) r is k h = rw h.1 (sym (answer-told old.link id codes old refl))
told on q old new (closes now) r is k h = rw h.1 refl
told on q old new (ticks now) r is k h = rw (h.0, h.1) (tick-told (has_run_out old.link now) (is_due (will_due old.kept) now) (is_due (end_due old.kept) now) q now old k)
told on q old new (finishes now) r is k h = rw h.1 refl
told on q old new loses r is k h = rw h.link refl

-- ---- codes that are answered
says-it : (limit : ℕ) (p : Packet) → ((reaction_of limit (says p)).packets ≡ out.Answer p ∷ []) ⊎ (((reaction_of limit (says p)).packets ≡ []) × ((reaction_of limit (says p)).end ≡ Some 0))
says-it limit p = elim (cases_Bool (fits limit p)) [ inl f ↦ rw f (inl refl) | inr f ↦ rw f (inr (refl, refl)) ]

reply-answers : (a : Asked) (id : ℕ) (codes : List ℕ) → reply_codes (Some a) id codes ≡ says (answer_of a id codes)
reply-answers Subscribing id codes = refl
reply-answers Unsubscribing id codes = refl

-- the codes of a connection that waits for those of a question, or for none
link-answers : (q : Option Question) (l : Link) (id : ℕ) (codes : List ℕ) (r : Reaction) → kind_of q ≡ l.asked → IsMeant q (answers id codes) → r ≡ reaction_of l.limit (reply_codes l.asked id codes) → AnswersIt q codes r
link-answers None l id codes r k m e = rw (← k) at e
link-answers (Some x) l id codes r k m e =
    let same : r ≡ reaction_of l.limit (says (answer_of x.kind x.identifier codes)) = e ∙ ap (λ (a : Option Asked). reaction_of l.limit (reply_codes a id codes)) (sym k) ∙ ap (reaction_of l.limit) (reply-answers x.kind id codes) ∙ ap (λ (i : ℕ). reaction_of l.limit (says (answer_of x.kind i codes))) m.0 in
    (m.1, rw same (says-it l.limit (answer_of x.kind x.identifier codes)))

none-question : (q : Option Question) → kind_of q ≡ None → q ≡ None
none-question None h = refl
none-question (Some x) h = (cc h)

codes-answered : (o : Option Link) (q : Option Question) (old new : State) (id : ℕ) (codes : List ℕ) (r : Reaction) → old.link ≡ o → kind_of q ≡ asked_of o → IsMeant q (answers id codes) → Reacts old (answers id codes) r new → AnswersIt q codes r
codes-answered None q old new id codes r e k m h = rw (none-question q k) (let g = rw e at h in g.0)
codes-answered (Some l) q old new id codes r e k m h = link-answers q l id codes r k m (keeps_codes old new l id codes r e h)

-- ---- those that a packet brings
replicated : (n : ℕ) → length {A = ℕ} (replicate n 145) ≡ n
replicated zero = refl
replicated (suc n) = ap (λ (k : ℕ). suc k) (replicated n)

-- a packet that asks for codes gets them, or the server is asked
request-none : (r : Received) (id : ℕ) (p : Packet) (a : Ask) (limit : ℕ) (sents : List Sent) (w : Reaction) → w ≡ then_sends (reaction_of limit (reply_request r id p a)) sents → sents ≡ [] → (w.ask ≡ None) ⊎ (w.packets ≡ [])
request-none r id p a limit sents w is none = elim (cases_Bool (is_some (opened id r))) [
  | inl t ↦ elim (cases_Bool (fits limit p)) [ inl f ↦ rw (is, t, f) (inl refl) | inr f ↦ rw (is, t, f) (inl refl) ]
  | inr t ↦ rw (is, t, none) (inr refl)
]

-- what an answer is to a question that was asked for by this packet
abbrev IfCodes : Event → Reaction → Packet → Type 0
IfCodes e r p = OwnCodes e r (out.Answer p)

none-shown : (e : Event) (r : Reaction) (os : List Output) → os ≡ [] → AllByRecursion (OwnCodes e r) os
none-shown e r os is = rw is tt

own-shown : (e : Event) (r : Reaction) (os : List Output) → AreShown (IfCodes e r) os → AllByRecursion (OwnCodes e r) os
own-shown e r [] h = tt
own-shown e r (out.Publish p ∷ os) h = (tt, own-shown e r os h.1)
own-shown e r (out.Answer p ∷ os) h = (h.0, own-shown e r os h.1)

released-shown : (e : Event) (r : Reaction) (ids : List ℕ) → AllByRecursion (λ id. IfCodes e r (pubrel id 0)) ids
released-shown e r [] = tt
released-shown e r (id ∷ ids) = (tt, released-shown e r ids)

-- the packet asks for codes: they are its own, where the server isn't asked
subscribe-own : (p : Subscribe) (now : ℕ) (room : Bool) (old new : State) (r : Reaction) → (r.ask ≡ None) ⊎ (r.packets ≡ []) → Reacts old (takes (packets.Subscribe p) now room) r new → AllByRecursion (OwnCodes (takes (packets.Subscribe p) now room) r) r.packets
subscribe-own p now room old new r (inr none) h = none-shown (takes (packets.Subscribe p) now room) r r.packets none
subscribe-own p now room old new r (inl none) h =
    own-shown (takes (packets.Subscribe p) now room) r r.packets (event-shown (IfCodes (takes (packets.Subscribe p) now room) r) old new (takes (packets.Subscribe p) now room) r (rw (replicated (length p.filters)) refl, none) h)

unsubscribe-own : (p : Unsubscribe) (now : ℕ) (room : Bool) (old new : State) (r : Reaction) → (r.ask ≡ None) ⊎ (r.packets ≡ []) → Reacts old (takes (packets.Unsubscribe p) now room) r new → AllByRecursion (OwnCodes (takes (packets.Unsubscribe p) now room) r) r.packets
unsubscribe-own p now room old new r (inr none) h = none-shown (takes (packets.Unsubscribe p) now room) r r.packets none
unsubscribe-own p now room old new r (inl none) h =
    own-shown (takes (packets.Unsubscribe p) now room) r r.packets (event-shown (IfCodes (takes (packets.Unsubscribe p) now room) r) old new (takes (packets.Unsubscribe p) now room) r (rw (replicated (length p.filters)) refl, none) h)

ends-none : (code limit : ℕ) (sents : List Sent) (w : Reaction) → w ≡ then_sends (reaction_of limit (ends code)) sents → w.ask ≡ None
ends-none code limit sents w is = rw is refl

subscribe-either : (told : Topics) (p : Subscribe) (limit now : ℕ) (room : Bool) (s : State) (r : Reaction) → IsReplied told limit (packets.Subscribe p) now room s r → (r.ask ≡ None) ⊎ (r.packets ≡ [])
subscribe-either told p limit now room s r x = elim x.is [
  | inl h ↦ inl (ends-none 130 limit x.sents r (rw h.1 at x.gives))
  | inr h ↦ elim x.queue [
    | inl none ↦ request-none s.incoming p.identifier (suback p.identifier (replicate (length p.filters) 145)) server.Subscribe limit x.sents r (rw h.1 at x.gives) none
    | inr bad ↦ absurd bad.0
  ]
]

unsubscribe-either : (told : Topics) (p : Unsubscribe) (limit now : ℕ) (room : Bool) (s : State) (r : Reaction) → IsReplied told limit (packets.Unsubscribe p) now room s r → (r.ask ≡ None) ⊎ (r.packets ≡ [])
unsubscribe-either told p limit now room s r x = elim x.queue [
  | inl none ↦ request-none s.incoming p.identifier (unsuback p.identifier (replicate (length p.filters) 145)) server.Unsubscribe limit x.sents r (let is = x.is in rw is at x.gives) none
  | inr bad ↦ absurd bad.0
]

-- any other packet brings none
other-own : (p : Packet) (now : ℕ) (room : Bool) (old new : State) (r : Reaction) → Allows (IfCodes (takes p now room) r) p old → Reacts old (takes p now room) r new → AllByRecursion (OwnCodes (takes p now room) r) r.packets
other-own p now room old new r a h = own-shown (takes p now room) r r.packets (event-shown (IfCodes (takes p now room) r) old new (takes p now room) r a h)

unknown-free : (e : Event) (r : Reaction) (i reason : ℕ) → Shows (IfCodes e r) (reply_unknown i reason)
unknown-free e r i reason = elim (cases_Bool (nat_lt reason 128)) [ inl t ↦ rw t tt | inr t ↦ rw t tt ]

known-free : (e : Event) (r : Reaction) (i reason : ℕ) → Shows (IfCodes e r) (reply_known i reason)
known-free e r i reason = elim (cases_Bool (nat_lt reason 128)) [ inl t ↦ rw t tt | inr t ↦ rw t tt ]

pubrec-free : (e : Event) (r : Reaction) (o : Option Entry) (i reason : ℕ) → Shows (IfCodes e r) (reply_pubrec o i reason)
pubrec-free e r None i reason = unknown-free e r i reason
pubrec-free e r (Some x) i reason =
    one-of (IfCodes e r) (is_released x.stage) (says (pubrel i 0)) (cond (takes_pubrec x.delivery.qos x.stage) (reply_known i reason) (reply_unknown i reason)) tt
    (one-of (IfCodes e r) (takes_pubrec x.delivery.qos x.stage) (reply_known i reason) (reply_unknown i reason) (known-free e r i reason) (unknown-free e r i reason))

linked-own : (l : Link) (p : Packet) (now : ℕ) (room : Bool) (old new : State) (r : Reaction) → old.link ≡ Some l → Reacts old (takes p now room) r new → AllByRecursion (OwnCodes (takes p now room) r) r.packets
linked-own l (packets.Subscribe p) now room old new r e h = subscribe-own p now room old new r (subscribe-either (held l) p l.limit now room old r (replies_by_link old new l (packets.Subscribe p) now room r e h)) h
linked-own l (packets.Unsubscribe p) now room old new r e h = unsubscribe-own p now room old new r (unsubscribe-either (held l) p l.limit now room old r (replies_by_link old new l (packets.Unsubscribe p) now room r e h)) h
linked-own l (packets.Publish p) now room old new r e h = other-own (packets.Publish p) now room old new r (λ i code. tt, λ i code. tt) h
linked-own l (packets.Puback a) now room old new r e h = other-own (packets.Puback a) now room old new r tt h
linked-own l (packets.Pubrec a) now room old new r e h = other-own (packets.Pubrec a) now room old new r (pubrec-free (takes (packets.Pubrec a) now room) r (find_id a.identifier old.outbox.copies) a.identifier a.reason) h
linked-own l (packets.Pubrel a) now room old new r e h = other-own (packets.Pubrel a) now room old new r (λ code. tt) h
linked-own l (packets.Pubcomp a) now room old new r e h = other-own (packets.Pubcomp a) now room old new r tt h
linked-own l packets.Pingreq now room old new r e h = other-own packets.Pingreq now room old new r tt h
linked-own l (packets.Disconnect p) now room old new r e h = other-own (packets.Disconnect p) now room old new r tt h
linked-own l (packets.Connect p) now room old new r e h = other-own (packets.Connect p) now room old new r tt h
linked-own l (packets.Connack p) now room old new r e h = other-own (packets.Connack p) now room old new r tt h
linked-own l (packets.Suback p) now room old new r e h = other-own (packets.Suback p) now room old new r tt h
linked-own l (packets.Unsuback p) now room old new r e h = other-own (packets.Unsuback p) now room old new r tt h
linked-own l packets.Pingresp now room old new r e h = other-own packets.Pingresp now room old new r tt h
linked-own l (packets.Auth p) now room old new r e h = other-own (packets.Auth p) now room old new r tt h

packet-own : (o : Option Link) (p : Packet) (now : ℕ) (room : Bool) (old new : State) (r : Reaction) → old.link ≡ o → Reacts old (takes p now room) r new → AllByRecursion (OwnCodes (takes p now room) r) r.packets
packet-own None p now room old new r e h = none-shown (takes p now room) r r.packets (rw (keeps_unheard old new p now room r e h).0 refl)
packet-own (Some l) p now room old new r e h = linked-own l p now room old new r e h

codes-by : (q : Option Question) (old new : State) (e : Event) (r : Reaction) → kind_of q ≡ asked_of old.link → Reacts old e r new → CodesBy q e r
codes-by q old new (connects c continued room now) r k h =
    own-shown (connects c continued room now) r r.packets (event-shown (IfCodes (connects c continued room now) r) old new (connects c continued room now) r (tt, released-shown (connects c continued room now) r (released_ids old)) h)
codes-by q old new (queues d now) r k h = own-shown (queues d now) r r.packets (event-shown (IfCodes (queues d now) r) old new (queues d now) r tt h)
codes-by q old new (rooms bytes now) r k h = own-shown (rooms bytes now) r r.packets (event-shown (IfCodes (rooms bytes now) r) old new (rooms bytes now) r tt h)
codes-by q old new (takes p now room) r k h = packet-own old.link p now room old new r refl h
codes-by q old new (answers id codes) r k h = λ m. codes-answered old.link q old new id codes r refl k m h
codes-by q old new (closes now) r k h = own-shown (closes now) r r.packets (event-shown (IfCodes (closes now) r) old new (closes now) r tt h)
codes-by q old new (ticks now) r k h = own-shown (ticks now) r r.packets (event-shown (IfCodes (ticks now) r) old new (ticks now) r tt h)
codes-by q old new (finishes now) r k h = own-shown (finishes now) r r.packets (event-shown (IfCodes (finishes now) r) old new (finishes now) r tt h)
codes-by q old new loses r k h = own-shown loses r r.packets (event-shown (IfCodes loses r) old new loses r tt h)

codes-run : (on : Bool) (limit : ℕ) (q : Option Question) (old : State) (steps : List Step) (end : State) → HasLimit limit old.link → on ≡ is_some old.link → AreNumbered old.outbox.copies → kind_of q ≡ asked_of old.link → Run old steps end → AllCodes on q steps
codes-run on limit q old [] end is opens n k r = tt
codes-run on limit q old (s ∷ ss) end is opens n k r =
    let p = project on limit old r.0 s.event s.reaction is opens n r.1 in (
      codes-by q old r.0 s.event s.reaction k r.1,
      codes-run (connected_after on s.event s.reaction) (limit_after limit s.event) (question_after on q s.event s.reaction) r.0 ss end p.limited p.connected (numbered-calls old.outbox p.calls r.0.outbox p.runs n) (told on q old r.0 s.event s.reaction opens k r.1) r.2,
    )

pub keeps_answers : KeepsAnswers
keeps_answers = λ client steps end r. codes-run false 0 None (new_session client) steps end tt refl tt refl r
