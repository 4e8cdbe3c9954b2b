use Rattle.qos_handshakes.specs.Touched.{is_in}
-- What packets show is what a session holds, event by event.
use Rattle.std.proofs.Common.{◌≡◌, ℕ, ◌+◌, ◌≤◌, Bool, true, false, cond, List, [], ◌∷◌, Option, Some, None, length, refl, sym, ◌∙◌, ap, subst, arith, inl, inr}
use Rattle.std.specs.Prelude.{◌==◌, ◌&&◌, nat_le, is_some, not}
use Rattle.std.specs.BTreeMap.{is_at, insert_entry}
use Rattle.std.specs.Map.{remove_entry}
use Rattle.std.specs.Ordering.{nat_cmp}
use Rattle.std.proofs.lemmas.Bool.{cases_Bool, and_parts, eq-eqb, leb-true, le-leb, false≢true}
use Rattle.mqtt_fields.specs.declared.options.Qos.{Qos}
use Rattle.mqtt_fields.specs.declared.options.Qos.TheVariants.{AtMostOnce, AtLeastOnce, ExactlyOnce}
use Rattle.mqtt_fields.specs.Numbers.{vbi}
use Rattle.mqtt_fields.specs.Properties.{first_four}
use Rattle.mqtt_packets.specs.declared.connect.Connect.{Connect}
use Rattle.mqtt_packets.specs.declared.ended.Ended.{Ended}
use Rattle.mqtt_packets.specs.declared.packet.Packet.{Packet}
use Rattle.mqtt_packets.specs.declared.packet.Packet.TheVariants as packets
use Rattle.mqtt_packets.specs.declared.publish.Publish.{Publish}
use Rattle.mqtt_packets.specs.declared.subscribe.Subscribe.{Subscribe}
use Rattle.mqtt_message.specs.declared.delivery.Delivery.{Delivery}
use Rattle.mqtt_message.specs.declared.message.Message.{Message}
use Rattle.qos_handshakes.specs.declared.answers.In.{In}
use Rattle.qos_handshakes.specs.declared.answers.In.TheVariants.{New, Repeat, InUse, OverMaximum}
use Rattle.qos_handshakes.specs.declared.answers.Rec.{Rec}
use Rattle.qos_handshakes.specs.declared.answers.Rec.TheVariants as rec
use Rattle.qos_handshakes.specs.Incoming.{Received, opened, of_before}
use Rattle.qos_handshakes.specs.Outbox.{Outbox}
use Rattle.law_handshakes.specs.Numbers.{AreNumbered}
use Rattle.mqtt_sessions.specs.declared.link.Asked.{Asked}
use Rattle.mqtt_sessions.specs.declared.reaction.Ask.{Ask}
use Rattle.mqtt_sessions.specs.Answers.{pubrec, pubrel, connack, fits}
use Rattle.mqtt_sessions.specs.Lengths.{assigned_length}
use Rattle.mqtt_sessions.specs.Arriving.{refusal, message_in, setting, is_full, is_unwelcome, arrival_once, arrival_twice, once_by, arrives_twice, passes_by, publish_by, pubrel_outcome}
use Rattle.mqtt_sessions.specs.Asking.{SubscribeStep, answer_by, answer_on}
use Rattle.mqtt_sessions.specs.Connecting.{OpensIf}
use Rattle.mqtt_sessions.specs.Ending.{disconnected_by, timed_out, ticked_if}
use Rattle.mqtt_sessions.specs.Packets.{PubrecBy, SaysUnknown, KindStep, PacketIf}
use Rattle.mqtt_sessions.specs.Reaction.{Reaction, Comes, answered}
use Rattle.mqtt_sessions.specs.Sending.{is_once, QueueIf}
use Rattle.mqtt_sessions.specs.State.{State, Link, aliases_of, heard, limit_in, limit_of, new_session}
use Rattle.mqtt_sessions.proofs.LengthLaws.{pubrec_length, connack_fit}
use Rattle.law_sessions.specs.Arrivals.{is_exactly_once}
use Rattle.law_sessions.specs.Runs.{Event, connects, queues, rooms, takes, answers, closes, ticks, finishes, loses, Step, Reacts, Run, connected_after, limit_after}
use Rattle.law_sessions.proofs.QuietLaws.{HasLimit}
use Rattle.law_sessions.proofs.CallLaws.{numbered-calls}
use Rattle.law_sessions.proofs.ProjectLaws.{project}
use Rattle.law_deliveries.specs.Open.{OpenExchanges, none_open, pubrec_in, opens_one, with_one, without_one, open_after, open_over, connected_over}
use Rattle.law_deliveries.proofs.ClientLaws.{event-client}
use Rattle.law_deliveries.proofs.OpenLaws.{Knows, known-none, known-some, knows-none, knows-new, knows-ended, knows-unknown, knows-begun}

-- ---- the events that leave what is open
abbrev Leaves : State → State → Type 0
Leaves old new = new.incoming ≡ old.incoming

answered-leaves : (limit : ℕ) (p : Packet) (ask : Option Ask) (s : State) → (answered limit p ask s).left.incoming ≡ s.incoming
answered-leaves limit p ask s = elim (cases_Bool (fits limit p)) [ inl f ↦ rw f refl | inr f ↦ rw f refl ]

comes-leaves : (limit : ℕ) (p : Packet) (ask : Option Ask) (s : State) (r : Reaction) (new : State) → Comes (answered limit p ask s) r new → Leaves s new
comes-leaves limit p ask s r new c = rw c.1 (answered-leaves limit p ask s)

opens-leaves : (b : Bool) (old new : State) (c : Connect) (p : Packet) (room : Option ℕ) (now : ℕ) (r : Reaction) → OpensIf b old c p room now r new → new.incoming ≡ of_before old.incoming
opens-leaves true old new c p room now r h = rw h.left refl
opens-leaves false old new c p room now r h = rw h.1 refl

queue-leaves : (b : Bool) (old new : State) (d : Delivery) (now : ℕ) (r : Reaction) → QueueIf b old d now r new → Leaves old new
queue-leaves true old new d now r q = rw q.1 refl
queue-leaves false old new d now r (inl q) = rw q.left refl
queue-leaves false old new d now r (inr q) = rw q.left refl

unknown-leaves : (id reason limit : ℕ) (s new : State) (r : Reaction) → SaysUnknown id reason limit s r new → Leaves s new
unknown-leaves id reason limit s new r (inl h) = comes-leaves limit (pubrel id 146) None s r new h.1
unknown-leaves id reason limit s new r (inr h) = rw h.2 refl

pubrec-leaves : (a : Rec) (id reason now limit : ℕ) (s new : State) (mid : Outbox) (r : Reaction) → PubrecBy a id reason now limit s mid r new → Leaves s new
pubrec-leaves rec.Release id reason now limit s new mid r h = comes-leaves limit (pubrel id 0) None _ r new h
pubrec-leaves rec.Ended id reason now limit s new mid r h = rw h.left refl
pubrec-leaves rec.Unknown id reason now limit s new mid r h = unknown-leaves id reason limit _ new r h
pubrec-leaves rec.AtEnd id reason now limit s new mid r h = absurd h

asks-leaves : (b : Bool) (limit : ℕ) (p : Packet) (s t : State) (w : Reaction) → Leaves s t → (cond b (answered limit p None s) (record { reaction = w; left = t })).left.incoming ≡ s.incoming
asks-leaves true limit p s t w e = answered-leaves limit p None s
asks-leaves false limit p s t w e = e

subscribe-leaves : (p : Subscribe) (limit : ℕ) (s new : State) (r : Reaction) → SubscribeStep p limit s r new → Leaves s new
subscribe-leaves p limit s new r (inl h) = rw h.1.1 refl
subscribe-leaves p limit s new r (inr h) = rw h.1.1 (asks-leaves (is_some (opened p.identifier s.incoming)) limit _ s _ _ refl)

disconnect-leaves : (o : Option ℕ) (p : Ended) (limit : ℕ) (s : State) → (disconnected_by o p limit s).left.incoming ≡ s.incoming
disconnect-leaves None p limit s = refl
disconnect-leaves (Some new) p limit s = elim (cases_Bool ((s.kept.expiry == 0) && not (new == 0))) [ inl h ↦ rw h refl | inr h ↦ rw h refl ]

codes-leaves : (a : Option Asked) (limit id : ℕ) (codes : List ℕ) (s : State) → (answer_by a limit id codes s).left.incoming ≡ s.incoming
codes-leaves None limit id codes s = refl
codes-leaves (Some a) limit id codes s = answered-leaves limit _ None _

answer-leaves : (o : Option Link) (id : ℕ) (codes : List ℕ) (s : State) → (answer_on o id codes s).left.incoming ≡ s.incoming
answer-leaves None id codes s = refl
answer-leaves (Some l) id codes s = codes-leaves l.asked l.limit id codes s

timed-leaves : (o : Option Link) (s : State) → (timed_out o s).left.incoming ≡ s.incoming
timed-leaves None s = refl
timed-leaves (Some l) s = refl

tick-leaves : (a b c : Bool) (now : ℕ) (s : State) → (ticked_if a b c now s).left.incoming ≡ s.incoming
tick-leaves true b c now s = timed-leaves s.link s
tick-leaves false true c now s = refl
tick-leaves false false c now s = refl

once-leaves : (a : In) (unwelcome : Bool) (limit id : ℕ) (m : Message) (s : State) → (once_by a unwelcome limit id m s).left.incoming ≡ s.incoming
once-leaves OverMaximum unwelcome limit id m s = refl
once-leaves InUse unwelcome limit id m s = answered-leaves limit _ None s
once-leaves Repeat unwelcome limit id m s = answered-leaves limit _ None s
once-leaves New true limit id m s = answered-leaves limit _ None s
once-leaves New false limit id m s = answered-leaves limit _ _ s

-- ---- PUBLISH
abbrev after_publish : Publish → Reaction → OpenExchanges → OpenExchanges
after_publish p r o = cond (opens_one p r o) (with_one p.identifier o) o

-- it opens nothing
none-opens : (p : Publish) (r : Reaction) (o : OpenExchanges) → (is_exactly_once p.qos ≡ true → pubrec_in p.identifier r.packets ≡ true → is_in p.identifier o.all ≡ true) → after_publish p r o ≡ o
none-opens p r o h = elim (cases_Bool (is_exactly_once p.qos)) [
  | inl q ↦ elim (cases_Bool (pubrec_in p.identifier r.packets)) [
    | inl u ↦ rw (q, u, h q u) refl
    | inr u ↦ rw (q, u) refl
  ]
  | inr q ↦ rw q refl
]

-- it opens one
one-opens : (p : Publish) (r : Reaction) (o : OpenExchanges) → is_exactly_once p.qos ≡ true → pubrec_in p.identifier r.packets ≡ true → is_in p.identifier o.all ≡ false → after_publish p r o ≡ with_one p.identifier o
one-opens p r o q u v = rw (q, u, v) refl

still : (p : Publish) (r : Reaction) (o : OpenExchanges) (old new : Received) → Knows o old → new ≡ old → (is_exactly_once p.qos ≡ true → pubrec_in p.identifier r.packets ≡ true → is_in p.identifier o.all ≡ true) → Knows (after_publish p r o) new
still p r o old new k same h = rw (none-opens p r o h, same) k

silent-not : (id : ℕ) (r : Reaction) (P : Type 0) → r.packets ≡ [] → pubrec_in id r.packets ≡ true → P
silent-not id r P none is = let bad : false ≡ true = rw none at is in absurd (false≢true bad)

-- PUBREC 0x97 isn't below 0x80
quota-not : (id limit : ℕ) (r : Reaction) (s : State) (P : Type 0) → r ≡ (answered limit (pubrec id 151) None s).reaction → pubrec_in id r.packets ≡ true → P
quota-not id limit r s P is h = elim (cases_Bool (fits limit (pubrec id 151))) [
  | inl f ↦ let bad : false ≡ true = rw (is, f, eq-eqb id id refl) at h in absurd (false≢true bad)
  | inr f ↦ let bad : false ≡ true = rw (is, f) at h in absurd (false≢true bad)
]

success-is : (id limit : ℕ) (r : Reaction) (ask : Option Ask) (s : State) → 5 ≤ limit → r ≡ (answered limit (pubrec id 0) ask s).reaction → pubrec_in id r.packets ≡ true
success-is id limit r ask s long is =
    let f : fits limit (pubrec id 0) ≡ true = rw (pubrec_length id 0) (le-leb 4 limit (omega (arith, long))) in
    rw (is, f, eq-eqb id id refl) refl

-- at QoS 2
twice-knows : (x : Option Bool) (unwelcome : Bool) (limit : ℕ) (p : Publish) (m : Message) (o : OpenExchanges) (s new : State) (r : Reaction) → 5 ≤ limit → Knows o s.incoming → p.qos ≡ ExactlyOnce → opened p.identifier s.incoming ≡ x
    → Comes (arrives_twice (arrival_twice s.incoming p.identifier) unwelcome limit p.identifier m s) r new → Knows (after_publish p r o) new.incoming
twice-knows (Some true) unwelcome limit p m o s new r long k q e c =
    let d = rw e at c in
    still p r o s.incoming new.incoming k (rw d.1 (answered-leaves limit _ None _)) (λ _ _. (known-some o s.incoming p.identifier true k e).0)
twice-knows (Some false) unwelcome limit p m o s new r long k q e c = elim (cases_Bool (is_full s.incoming)) [
  | inl t ↦ let d = rw (e, t) at c in still p r o s.incoming new.incoming k (rw d.1 refl) (λ _ _. (known-some o s.incoming p.identifier false k e).0)
  | inr t ↦ let d = rw (e, t) at c in still p r o s.incoming new.incoming k (rw d.1 (answered-leaves limit _ None _)) (λ _ _. (known-some o s.incoming p.identifier false k e).0)
]
twice-knows None unwelcome limit p m o s new r long k q e c = elim (cases_Bool (is_full s.incoming)) [
  | inl t ↦ let d = rw (e, t) at c in still p r o s.incoming new.incoming k (rw d.1 refl) (λ _ u. silent-not p.identifier r _ (rw d.0 refl) u)
  | inr t ↦ elim (cases_Bool unwelcome) [
    | inl v ↦
        let d = rw (e, t, v) at c in
        still p r o s.incoming new.incoming k (rw d.1 (answered-leaves limit _ None _)) (λ _ u. quota-not p.identifier limit r _ _ d.0 u)
    | inr v ↦
        let d = rw (e, t, v) at c in
        let left : new.incoming ≡ insert_entry nat_cmp s.incoming p.identifier true = rw d.1 (answered-leaves limit _ _ _) in
        let one : after_publish p r o ≡ with_one p.identifier o = one-opens p r o (rw q refl) (success-is p.identifier limit r _ _ long d.0) (known-none o s.incoming p.identifier k e) in
        rw (one, left) (knows-new o s.incoming p.identifier k e)
  ]
]

not-twice : (p : Publish) (P : Type 0) → is_exactly_once p.qos ≡ false → is_exactly_once p.qos ≡ true → P
not-twice p P f t = absurd (false≢true (sym f ∙ t))

passes-knows : (q : Qos) (unwelcome : Bool) (limit : ℕ) (p : Publish) (m : Message) (o : OpenExchanges) (s new : State) (r : Reaction) → 5 ≤ limit → Knows o s.incoming → p.qos ≡ q → Comes (passes_by q p unwelcome limit m s) r new → Knows (after_publish p r o) new.incoming
passes-knows AtMostOnce unwelcome limit p m o s new r long k q c = still p r o s.incoming new.incoming k (rw c.1 refl) (λ t _. not-twice p _ (rw q refl) t)
passes-knows AtLeastOnce unwelcome limit p m o s new r long k q c = still p r o s.incoming new.incoming k (rw c.1 (once-leaves (arrival_once s.incoming p.identifier) unwelcome limit p.identifier m s)) (λ t _. not-twice p _ (rw q refl) t)
passes-knows ExactlyOnce unwelcome limit p m o s new r long k q c = twice-knows (opened p.identifier s.incoming) unwelcome limit p m o s new r long k q refl c

publish-knows : (x : Option ℕ) (limit : ℕ) (p : Publish) (now : ℕ) (room : Bool) (o : OpenExchanges) (s new : State) (r : Reaction) → 5 ≤ limit → Knows o s.incoming → Comes (publish_by x p now room limit s) r new → Knows (after_publish p r o) new.incoming
publish-knows (Some code) limit p now room o s new r long k c = still p r o s.incoming new.incoming k (rw c.1 refl) (λ _ u. silent-not p.identifier r _ (rw c.0 refl) u)
publish-knows None limit p now room o s new r long k c = passes-knows p.qos (is_unwelcome p room) limit p (message_in p now (setting p s)) o (setting p s) new r long k refl c

-- ---- PUBREL
pubrel-knows : (x : Option Bool) (id limit : ℕ) (o : OpenExchanges) (s new : State) (r : Reaction) → opened id s.incoming ≡ x → Knows o s.incoming → Comes (pubrel_outcome id limit s) r new → Knows (without_one id o) new.incoming
pubrel-knows None id limit o s new r e k c =
    let same : new.incoming ≡ s.incoming = rw (c.1, e) (answered-leaves limit _ None _) in
    rw same (knows-unknown o s.incoming id k e)
pubrel-knows (Some b) id limit o s new r e k c =
    let gone : new.incoming ≡ remove_entry (is_at (nat_cmp id)) s.incoming = rw (c.1, e) (answered-leaves limit _ None _) in
    rw gone (knows-ended o s.incoming id b k e)

-- ---- packets
alike : (o : OpenExchanges) (old new : Received) → Knows o old → new ≡ old → Knows o new
alike o old new k same = rw same k

kind-knows : (p : Packet) (now : ℕ) (room : Bool) (limit : ℕ) (o : OpenExchanges) (s new : State) (r : Reaction) → 5 ≤ limit → Knows o s.incoming → KindStep p now room limit s r new → Knows (open_after true o (takes p now room) r) new.incoming
kind-knows (packets.Publish p) now room limit o s new r long k h = publish-knows (refusal (aliases_of s.link) p) limit p now room o s new r long k h
kind-knows (packets.Puback a) now room limit o s new r long k h = alike o s.incoming new.incoming k (rw h.left refl)
kind-knows (packets.Pubrec a) now room limit o s new r long k h = alike o s.incoming new.incoming k (pubrec-leaves h.answer a.identifier a.reason now limit s new h.mid r h.goes_on)
kind-knows (packets.Pubrel a) now room limit o s new r long k h = pubrel-knows (opened a.identifier s.incoming) a.identifier limit o s new r refl k h
kind-knows (packets.Pubcomp a) now room limit o s new r long k h = alike o s.incoming new.incoming k (rw h.left refl)
kind-knows (packets.Subscribe p) now room limit o s new r long k h = alike o s.incoming new.incoming k (subscribe-leaves p limit s new r h)
kind-knows (packets.Unsubscribe p) now room limit o s new r long k h = alike o s.incoming new.incoming k (rw h.1 (asks-leaves (is_some (opened p.identifier s.incoming)) limit _ s _ _ refl))
kind-knows packets.Pingreq now room limit o s new r long k h = alike o s.incoming new.incoming k (comes-leaves limit _ None s r new h)
kind-knows (packets.Disconnect p) now room limit o s new r long k h = alike o s.incoming new.incoming k (rw h.1 (disconnect-leaves (first_four 17 p.properties) p limit s))
kind-knows (packets.Connect p) now room limit o s new r long k h = alike o s.incoming new.incoming k (rw h.1 refl)
kind-knows (packets.Connack p) now room limit o s new r long k h = alike o s.incoming new.incoming k (rw h.1 refl)
kind-knows (packets.Suback p) now room limit o s new r long k h = alike o s.incoming new.incoming k (rw h.1 refl)
kind-knows (packets.Unsuback p) now room limit o s new r long k h = alike o s.incoming new.incoming k (rw h.1 refl)
kind-knows packets.Pingresp now room limit o s new r long k h = alike o s.incoming new.incoming k (rw h.1 refl)
kind-knows (packets.Auth p) now room limit o s new r long k h = alike o s.incoming new.incoming k (rw h.1 refl)

-- without a connection nothing is told
unheard-open : (p : Packet) (now : ℕ) (room : Bool) (o : OpenExchanges) (r : Reaction) → r.packets ≡ [] → open_after false o (takes p now room) r ≡ o
unheard-open (packets.Publish p) now room o r none = none-opens p r o (λ _ u. silent-not p.identifier r _ none u)
unheard-open (packets.Puback a) now room o r none = refl
unheard-open (packets.Pubrec a) now room o r none = refl
unheard-open (packets.Pubrel a) now room o r none = refl
unheard-open (packets.Pubcomp a) now room o r none = refl
unheard-open (packets.Subscribe p) now room o r none = refl
unheard-open (packets.Unsubscribe p) now room o r none = refl
unheard-open packets.Pingreq now room o r none = refl
unheard-open (packets.Disconnect p) now room o r none = refl
unheard-open (packets.Connect p) now room o r none = refl
unheard-open (packets.Connack p) now room o r none = refl
unheard-open (packets.Suback p) now room o r none = refl
unheard-open (packets.Unsuback p) now room o r none = refl
unheard-open packets.Pingresp now room o r none = refl
unheard-open (packets.Auth p) now room o r none = refl

-- an open connection takes a packet of five bytes
abbrev pub IsLong : Bool → ℕ → Type 0
IsLong on limit = on ≡ true → 5 ≤ limit

packet-knows : (l : Option Link) (on : Bool) (limit : ℕ) (p : Packet) (now : ℕ) (room : Bool) (o : OpenExchanges) (old new : State) (r : Reaction) → on ≡ is_some l → HasLimit limit l → IsLong on limit → Knows o old.incoming → PacketIf (limit_of l) p now room old r new
    → Knows (open_after on o (takes p now room) r) new.incoming
packet-knows None on limit p now room o old new r opens is long k h =
    let none : r.packets ≡ [] = rw h.0 refl in
    let at : open_after on o (takes p now room) r ≡ o = ap (λ (b : Bool). open_after b o (takes p now room) r) opens ∙ unheard-open p now room o r none in
    let same : new.incoming ≡ old.incoming = rw h.1 refl in
    subst (λ (x : OpenExchanges). Knows x new.incoming) (sym at) (alike o old.incoming new.incoming k same)
packet-knows (Some l) on limit p now room o old new r opens is long k h =
    subst (λ (b : Bool). Knows (open_after b o (takes p now room) r) new.incoming) (sym opens) (kind-knows p now room l.limit o (heard old now) new r (rw is (long opens)) k h)

event-knows : (on : Bool) (limit : ℕ) (o : OpenExchanges) (old new : State) (e : Event) (r : Reaction) → on ≡ is_some old.link → HasLimit limit old.link → IsLong on limit → Knows o old.incoming → Reacts old e r new → Knows (open_after on o e r) new.incoming
event-knows on limit o old new (connects c continued room now) r opens is long k h =
    let before = opens-leaves (fits (limit_in c.properties) (connack continued c.client old.kept.client)) old new c _ room now r h.1 in
    rw before (knows-begun o old.incoming k)
event-knows on limit o old new (queues d now) r opens is long k h = alike o old.incoming new.incoming k (queue-leaves (is_once d.qos) old new d now r h)
event-knows on limit o old new (rooms bytes now) r opens is long k h = alike o old.incoming new.incoming k (rw h.left refl)
event-knows on limit o old new (takes p now room) r opens is long k h = packet-knows old.link on limit p now room o old new r opens is long k h
event-knows on limit o old new (answers i codes) r opens is long k h = alike o old.incoming new.incoming k (rw h.1 (answer-leaves old.link i codes old))
event-knows on limit o old new (closes now) r opens is long k h = alike o old.incoming new.incoming k (rw h.1 refl)
event-knows on limit o old new (ticks now) r opens is long k h = alike o old.incoming new.incoming k (rw h.1 (tick-leaves _ _ _ now old))
event-knows on limit o old new (finishes now) r opens is long k h = alike o old.incoming new.incoming k (rw h.1 refl)
event-knows on limit o old new loses r opens is long k h = rw h.incoming (knows-begun o old.incoming k)

-- ---- how long the packets are that a client takes whose CONNACK fits
connack-long : (present : Bool) (given client : List ℕ) (limit : ℕ) → fits limit (connack present given client) ≡ true → 5 ≤ limit
connack-long present given client limit h =
    let n = 11 + assigned_length given client in
    let m = 2 + length (vbi.bytes n) + n in
    let t : nat_le (1 + length (vbi.bytes m) + m) limit ≡ true = connack_fit present given client limit n m refl refl ∙ h in
    let le = leb-true (1 + length (vbi.bytes m) + m) limit t in
    omega (arith, le)

opens-long : (b : Bool) (old new : State) (c : Connect) (continued : Bool) (room : Option ℕ) (now : ℕ) (r : Reaction) → fits (limit_in c.properties) (connack continued c.client old.kept.client) ≡ b → OpensIf b old c (connack continued c.client old.kept.client) room now r new → IsLong (not (is_some r.end)) (limit_in c.properties)
opens-long true old new c continued room now r is h = λ _. connack-long continued c.client old.kept.client (limit_in c.properties) is
opens-long false old new c continued room now r is h = λ on. let bad : false ≡ true = rw h.0 at on in absurd (false≢true bad)

goes-on : (on ended : Bool) (limit : ℕ) → IsLong on limit → IsLong (on && not ended) limit
goes-on on ended limit long = λ t. long (and_parts on (not ended) t).0

long-after : (on : Bool) (limit : ℕ) (old new : State) (e : Event) (r : Reaction) → IsLong on limit → Reacts old e r new → IsLong (connected_after on e r) (limit_after limit e)
long-after on limit old new (connects c continued room now) r long h = opens-long (fits (limit_in c.properties) (connack continued c.client old.kept.client)) old new c continued room now r refl h.1
long-after on limit old new (queues d now) r long h = goes-on on (is_some r.end) limit long
long-after on limit old new (rooms bytes now) r long h = goes-on on (is_some r.end) limit long
long-after on limit old new (takes p now room) r long h = goes-on on (is_some r.end) limit long
long-after on limit old new (answers i codes) r long h = goes-on on (is_some r.end) limit long
long-after on limit old new (closes now) r long h = λ t. absurd (false≢true t)
long-after on limit old new (ticks now) r long h = goes-on on (is_some r.end) limit long
long-after on limit old new (finishes now) r long h = λ t. absurd (false≢true t)
long-after on limit old new loses r long h = λ t. absurd (false≢true t)

-- ---- over a list of events
pub record Stands (client : List ℕ) (on : Bool) (o : OpenExchanges) (s : State) : Type 0 where
  pub limit : ℕ
  pub limited : HasLimit limit s.link
  pub connected : on ≡ is_some s.link
  pub numbered : AreNumbered s.outbox.copies
  pub long : IsLong on limit
  pub knows : Knows o s.incoming
  pub of : s.kept.client ≡ client

walk : (client : List ℕ) (on : Bool) (o : OpenExchanges) (old : State) (steps : List Step) (end : State) → Stands client on o old → Run old steps end → Stands client (connected_over on steps) (open_over on o steps) end
walk client on o old [] end h r = rw r h
walk client on o old (s ∷ ss) end h r =
    let p = project on h.limit old r.0 s.event s.reaction h.limited h.connected h.numbered r.1 in
    walk client (connected_after on s.event s.reaction) (open_after on o s.event s.reaction) r.0 ss end (record {
      limit = limit_after h.limit s.event;
      limited = p.limited;
      connected = p.connected;
      numbered = numbered-calls old.outbox p.calls r.0.outbox p.runs h.numbered;
      long = long-after on h.limit old r.0 s.event s.reaction h.long r.1;
      knows = event-knows on h.limit o old r.0 s.event s.reaction h.connected h.limited h.long h.knows r.1;
      of = event-client old r.0 s.event s.reaction r.1 ∙ h.of;
    }) r.2

pub stands : (client : List ℕ) (steps : List Step) (end : State) → Run (new_session client) steps end → Stands client (connected_over false steps) (open_over false none_open steps) end
stands client steps end r = walk client false none_open (new_session client) steps end (record { limit = 0; limited = tt; connected = refl; numbered = tt; long = λ t. absurd (false≢true t); knows = knows-none; of = refl }) r
