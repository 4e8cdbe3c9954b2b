use Rattle.qos_handshakes.specs.Touched.{is_in}
-- A PUBREL is sent only for an exchange that has not ended.
use Rattle.std.proofs.Common.{◌≡◌, ℕ, Bool, true, false, cond, List, [], ◌∷◌, ◌++◌, Option, Some, None, refl, ap, inl, inr, arith}
use Rattle.std.specs.Prelude.{◌==◌, ◌&&◌, nat_lt, is_some}
use Rattle.std.specs.List.{AllByRecursion}
use Rattle.std.proofs.lemmas.Bool.{cases_Bool, eq-eqb, false≢true}
use Rattle.mqtt_fields.specs.declared.options.Qos.{Qos}
use Rattle.mqtt_fields.specs.declared.options.Qos.TheVariants.{AtMostOnce, AtLeastOnce, ExactlyOnce}
use Rattle.mqtt_packets.specs.declared.ack.Ack.{Ack}
use Rattle.mqtt_packets.specs.declared.packet.Packet.{Packet}
use Rattle.mqtt_packets.specs.declared.packet.Packet.TheVariants as packets
use Rattle.qos_handshakes.specs.declared.copies.Entry.{Entry}
use Rattle.qos_handshakes.specs.declared.copies.Stage.{Stage}
use Rattle.qos_handshakes.specs.declared.copies.Stage.TheVariants.{Waiting, Published, Released}
use Rattle.qos_handshakes.specs.Entries.{find_id}
use Rattle.qos_handshakes.specs.Outbox.{Outbox, is_released, takes_pubrec, empty_outbox}
use Rattle.law_handshakes.specs.Numbers.{AreNumbered}
use Rattle.law_handshakes.specs.Releases.{pubrecs_after}
use Rattle.law_handshakes.specs.Runs as low
use Rattle.law_handshakes.proofs.NumberLaws.{numbered-step}
use Rattle.law_handshakes.proofs.ReleaseLaws.{AreDistinct, IsKnown, pairs, has-released, known-step}
use Rattle.mqtt_sessions.specs.declared.reaction.Output.{Output}
use Rattle.mqtt_sessions.specs.declared.reaction.Output.TheVariants.{Answer, Publish}
use Rattle.mqtt_sessions.specs.Answers.{ack, pubrel}
use Rattle.mqtt_sessions.specs.State.{State, Link}
use Rattle.mqtt_sessions.specs.Asking.{asked_of}
use Rattle.mqtt_sessions.specs.declared.link.Asked.{Asked}
use Rattle.mqtt_sessions.specs.declared.link.Asked.TheVariants.{Subscribing, Unsubscribing}
use Rattle.law_sessions.specs.Exchanges.{Releases}
use Rattle.law_sessions.specs.Releases.{released_ids, is_unreleased, released_after}
use Rattle.law_sessions.specs.Replies.{reply_unknown, reply_pubrec, reply_codes}
use Rattle.law_sessions.specs.Runs.{Event, connects, queues, rooms, takes, answers, closes, ticks, finishes, loses, Step, Reacts}
use Rattle.law_sessions.proofs.CallLaws.{Call}
use Rattle.law_sessions.proofs.LiftLaws.{whole}
use Rattle.law_sessions.proofs.ReleasedLaws.{keeps_released}
use Rattle.law_sessions.proofs.ReplyLaws.{keeps_unheard}
use Rattle.law_deliveries.specs.Released.{KeepsReleasesHeld}
use Rattle.law_deliveries.proofs.ShownLaws.{AreShown, Shows, Allows, AllowsBy, event-shown}

-- ---- lists
-- what holds where an identifier is in a list holds at its place there
all-has : (id : ℕ) (G : Type 0) (xs : List ℕ) → (is_in id xs ≡ true → G) → AllByRecursion (λ i. i ≡ id → G) xs
all-has id G [] f = tt
all-has id G (x ∷ xs) f = (
  λ same. f (rw (eq-eqb x id same) refl),
  all-has id G xs (λ h. f (elim (cases_Bool (x == id)) [ inl t ↦ rw t refl | inr t ↦ rw t h ])),
)

has-last : (id : ℕ) (xs : List ℕ) → is_in id (xs ++ id ∷ []) ≡ true
has-last id [] = rw (eq-eqb id id refl) refl
has-last id (x ∷ xs) = elim (cases_Bool (x == id)) [ inl t ↦ rw t refl | inr t ↦ rw t (has-last id xs) ]

-- ---- a PUBREL among packets
same-pubrel : (i id code : ℕ) → pubrel i code ≡ pubrel id 0 → (i ≡ id) × ◌≡◌ {A = ℕ} code 0
same-pubrel i id code e = (let same : ack i code ≡ ack id 0 = cc in (ap (λ (a : Ack). a.identifier) same, ap (λ (a : Ack). a.reason) same))

-- what follows where a packet is the PUBREL
abbrev IfPubrel : ℕ → Type 0 → Packet → Type 0
IfPubrel id G p = p ≡ pubrel id 0 → G

among : (id : ℕ) (G : Type 0) (os : List Output) → AreShown (IfPubrel id G) os → Releases id os → G
among id G [] all h = absurd h
among id G (Publish p ∷ os) all (inl h) = (cc h)
among id G (Publish p ∷ os) all (inr h) = among id G os all.1 h
among id G (Answer p ∷ os) all (inl h) = all.0 (let e : p ≡ pubrel id 0 = cc in e)
among id G (Answer p ∷ os) all (inr h) = among id G os all.1 h

-- ---- PUBREC
pub released-not : (q : Qos) (s : Stage) → is_released s ≡ true → takes_pubrec q s ≡ false
released-not q Waiting h = absurd (false≢true h)
released-not q (Published id) h = absurd (false≢true h)
released-not AtMostOnce (Released id order) h = refl
released-not AtLeastOnce (Released id order) h = refl
released-not ExactlyOnce (Released id order) h = refl

unknown-shown : (id i reason : ℕ) (G : Type 0) → Shows (IfPubrel id G) (reply_unknown i reason)
unknown-shown id i reason G = elim (cases_Bool (nat_lt reason 128)) [
  | inl t ↦ rw t (λ e. absurd (let bad = (same-pubrel i id 146 e).1 in omega (arith, bad)))
  | inr t ↦ rw t tt
]

-- the exchange is among those that are released after it
pubrec-shown : (o : Option Entry) (id i reason : ℕ) (old : State) → find_id i old.outbox.copies ≡ o → AreDistinct (pairs old.outbox.copies)
    → Shows (IfPubrel id (is_in id (cond (true && (is_unreleased o && nat_lt reason 128)) (released_ids old ++ i ∷ []) (released_ids old)) ≡ true)) (reply_pubrec o i reason)
pubrec-shown None id i reason old is distinct = unknown-shown id i reason _
pubrec-shown (Some x) id i reason old is distinct = elim (cases_Bool (is_released x.stage)) [
  | inl r ↦ rw (r, released-not x.delivery.qos x.stage r) (λ e.
      let same = (same-pubrel i id 0 e).0 in
      rw (← same) (has-released i x old.outbox.copies distinct is r))
  | inr r ↦ elim (cases_Bool (takes_pubrec x.delivery.qos x.stage)) [
    | inl t ↦ elim (cases_Bool (nat_lt reason 128)) [
      | inl u ↦ rw (r, t, u) (λ e. let same = (same-pubrel i id 0 e).0 in rw same (has-last id (released_ids old)))
      | inr u ↦ rw (r, t, u) tt
    ]
    | inr t ↦ rw (r, t) (unknown-shown id i reason _)
  ]
]

-- ---- the orders of release are distinct
pub distinct-run : (K : List ℕ) (start : Outbox) (calls : List Call) (end : Outbox) → low.Run start calls end → AreNumbered start.copies → IsKnown K start → AreDistinct (pairs end.copies)
distinct-run K start [] end r n k = rw r k.distinct
distinct-run K start (c ∷ cs) end r n k = distinct-run (pubrecs_after K c) r.0 cs end r.2 (numbered-step start r.0 c r.1 n) (known-step K start r.0 c r.1 n k).1

-- ---- the events
-- the exchange is among those of the list that an event leaves
abbrev Held : ℕ → State → Event → Type 0
Held id old e = is_in id (released_after old e) ≡ true

none-asked : (a : Option Asked) (id i : ℕ) (codes : List ℕ) (G : Type 0) → Shows (IfPubrel id G) (reply_codes a i codes)
none-asked None id i codes G = tt
none-asked (Some Subscribing) id i codes G = λ e. (cc e)
none-asked (Some Unsubscribing) id i codes G = λ e. (cc e)

packet-allows : (p : Packet) (id now : ℕ) (room : Bool) (old : State) → is_some old.link ≡ true → AreDistinct (pairs old.outbox.copies) → Allows (IfPubrel id (Held id old (takes p now room))) p old
packet-allows (packets.Publish p) id now room old on d = (λ i code e. (cc e), λ i code e. (cc e))
packet-allows (packets.Puback a) id now room old on d = tt
packet-allows (packets.Pubrec a) id now room old on d = rw on (pubrec-shown (find_id a.identifier old.outbox.copies) id a.identifier a.reason old refl d)
packet-allows (packets.Pubrel a) id now room old on d = λ code e. (cc e)
packet-allows (packets.Pubcomp a) id now room old on d = tt
packet-allows (packets.Subscribe p) id now room old on d = λ e. (cc e)
packet-allows (packets.Unsubscribe p) id now room old on d = λ e. (cc e)
packet-allows packets.Pingreq id now room old on d = λ e. (cc e)
packet-allows (packets.Disconnect p) id now room old on d = tt
packet-allows (packets.Connect p) id now room old on d = tt
packet-allows (packets.Connack p) id now room old on d = tt
packet-allows (packets.Suback p) id now room old on d = tt
packet-allows (packets.Unsuback p) id now room old on d = tt
packet-allows packets.Pingresp id now room old on d = tt
packet-allows (packets.Auth p) id now room old on d = tt

all-map : (P Q : ℕ → Type 0) → ((i : ℕ) → P i → Q i) → (xs : List ℕ) → AllByRecursion P xs → AllByRecursion Q xs
all-map P Q f [] h = tt
all-map P Q f (x ∷ xs) h = (f x h.0, all-map P Q f xs h.1)

allows : (e : Event) (id : ℕ) (old : State) → ((p : Packet) (now : ℕ) (room : Bool) → e ≡ takes p now room → is_some old.link ≡ true) → AreDistinct (pairs old.outbox.copies) → AllowsBy (IfPubrel id (Held id old e)) e old
allows (connects c continued room now) id old on d =
    let G = Held id old (connects c continued room now) in
    (λ e. (cc e), all-map (λ i. i ≡ id → G) (λ i. IfPubrel id G (pubrel i 0)) (λ i same e. same (same-pubrel i id 0 e).0) (released_ids old) (all-has id G (released_ids old) (λ h. h)))
allows (queues d now) id old on k = tt
allows (rooms bytes now) id old on d = tt
allows (takes p now room) id old on d = packet-allows p id now room old (on p now room refl) d
allows (answers i codes) id old on d = none-asked (asked_of old.link) id i codes _
allows (closes now) id old on d = tt
allows (ticks now) id old on d = tt
allows (finishes now) id old on d = tt
allows loses id old on d = tt

-- a packet without a connection brings none
heard : (o : Option Link) (id : ℕ) (old new : State) (s : Step) → old.link ≡ o → Reacts old s.event s.reaction new → Releases id s.reaction.packets → (p : Packet) (now : ℕ) (room : Bool) → s.event ≡ takes p now room → is_some old.link ≡ true
heard None id old new s e h t p now room is =
    absurd (let none = (keeps_unheard old new p now room s.reaction e (rw is at h)).0 in (rw none at t))
heard (Some l) id old new s e h t p now room is = rw e refl

pub keeps_releases_held : KeepsReleasesHeld
keeps_releases_held = λ client id before s mid end run step t.
    let w = whole client before mid run in
    let d = distinct-run [] empty_outbox w.calls mid.outbox w.runs tt (record { is = refl; distinct = tt; below = tt }) in
    let G = Held id mid s.event in
    rw (keeps_released client before s mid end run step)
    (among id G s.reaction.packets (event-shown (IfPubrel id G) mid end s.event s.reaction (allows s.event id mid (heard mid.link id mid end s refl step t) d) step) t)
