-- Each event comes to something.
use Rattle.std.proofs.Common.{◌≡◌, ◌⊎◌, ℕ, ◌+◌, ◌<◌, ◌≤◌, ◌^◌, Bool, true, false, List, [], ◌∷◌, ◌++◌, Option, Some, None, length, refl, sym, ◌∙◌, inl, inr, true≢false, arith}
use Rattle.std.specs.Map.{values_of}
use Rattle.std.proofs.lemmas.Bool.{cases_Bool, cases_lt}
use Rattle.mqtt_fields.specs.Numbers.{is_text}
use Rattle.mqtt_fields.specs.Options.{no_local_of}
use Rattle.mqtt_packets.specs.declared.connect.Connect.{Connect}
use Rattle.mqtt_packets.specs.declared.packet.Packet.{Packet}
use Rattle.mqtt_packets.specs.declared.packet.Packet.TheVariants as packets
use Rattle.mqtt_packets.specs.declared.subscribe.Subscribe.{Subscribe}
use Rattle.mqtt_packets.specs.declared.subscribe.SubscribeFilter.{SubscribeFilter}
use Rattle.mqtt_topics.specs.Testing.{is_filter, is_shared}
use Rattle.mqtt_topics.specs.Topics.{IsFilter}
use Rattle.mqtt_topics.proofs.Testing.{decides_filter}
use Rattle.mqtt_message.specs.declared.delivery.Delivery.{Delivery}
use Rattle.qos_handshakes.specs.declared.answers.Ack.TheVariants.{Done, Unknown}
use Rattle.qos_handshakes.specs.declared.answers.Rec.TheVariants as rec
use Rattle.qos_handshakes.specs.declared.copies.Entry.{Entry}
use Rattle.qos_handshakes.specs.Entries.{as_released, drop_id, find_id, write_id}
use Rattle.qos_handshakes.specs.Incoming.{of_before}
use Rattle.qos_handshakes.specs.Outbox.{ReceivedIf, away, by_release, is_acknowledged, is_completed, is_released, order_above, takes_pubrec, waiting, waiting_entry}
use Rattle.mqtt_sessions.specs.declared.reaction.Output.TheVariants.{Answer}
use Rattle.mqtt_sessions.specs.Answers.{connack, fits}
use Rattle.mqtt_sessions.specs.Asking.{AsksNoLocalShare, IsNoLocalShare, SubscribeStep}
use Rattle.mqtt_sessions.specs.Connecting.{OpensIf, begun, resumed_by}
use Rattle.mqtt_sessions.specs.Packets.{KindStep, PacketEndsIf, PacketIf, PubackStep, PubcompStep, PubrecStep, SaysUnknown}
use Rattle.mqtt_sessions.specs.Reaction.{Reaction, nothing, publishes_of, pubrels_of, says}
use Rattle.mqtt_sessions.specs.Sending.{QueueEnds, QueueIf, RoomStep, is_once, with_room}
use Rattle.mqtt_sessions.specs.State.{Link, State, cut, heard, limit_in, limit_of, sent_from, with_outbox}
use Rattle.law_sessions.specs.Runs.{Event, connects, queues, rooms, takes, answers, closes, ticks, finishes, loses, MayCome, ends_of}
use Rattle.law_deliveries.specs.Outcomes.{HasOutcome, KeepsOutcome}
use Rattle.law_deliveries.proofs.FlushLaws.{flush}

-- a reaction answers a step
abbrev Some-of : (Reaction → State → Type 0) → Type 0
Some-of Step = (r : Reaction) × (new : State) × Step r new

-- ---- connect
opens-some : (b : Bool) (old : State) (c : Connect) (p : Packet) (room : Option ℕ) (now : ℕ) → Some-of (OpensIf b old c p room now)
opens-some true old c p room now =
    let mid = resumed_by old.outbox c in
    let f = flush now (limit_in c.properties) room mid in
    let ids = values_of (by_release mid.copies) in
    (says (Answer p ∷ pubrels_of ids ++ publishes_of f.sents), sent_from (begun old c room now) f.new now f.sents, record { after = f.new; ids = ids; sents = f.sents; lists = (refl, refl); flushes = f.flushes; reacts = refl; left = refl })
opens-some false old c p room now = (record nothing { end = Some 0 }, cut (begun old c room now), (refl, refl))

-- ---- queue
queues-some : (o : Option Link) (old : State) (d : Delivery) (now : ℕ) → old.link ≡ o → length (waiting old.outbox.copies) < 65536 → old.outbox.next_place < 2 ^ 62 → Some-of (QueueIf false old d now)
queues-some None old d now e some below =
    let mid = record old.outbox { copies = old.outbox.copies ++ (old.outbox.next_place, waiting_entry d) ∷ []; next_place = old.outbox.next_place + 1 } in
    (says (publishes_of []), sent_from old mid now [], inl (record { mid = mid; after = mid; sents = []; offers = (some, below, refl); goes_on = rw e (refl, refl); reacts = refl; left = refl }))
queues-some (Some l) old d now e some below =
    let mid = record old.outbox { copies = old.outbox.copies ++ (old.outbox.next_place, waiting_entry d) ∷ []; next_place = old.outbox.next_place + 1 } in
    let f = flush now l.limit old.room mid in
    (says (publishes_of f.sents), sent_from old f.new now f.sents, inl (record { mid = mid; after = f.new; sents = f.sents; offers = (some, below, refl); goes_on = rw e f.flushes; reacts = refl; left = refl }))

queue-ends : (b : Bool) (old : State) (d : Delivery) (now : ℕ) → is_once d.qos ≡ b → Some-of (QueueIf b old d now) ⊎ QueueEnds d old
queue-ends true old d now is = inl (_, old, (refl, refl))
queue-ends false old d now is = elim (cases_lt (length (waiting old.outbox.copies)) 65536) [
  | inl some ↦ elim (cases_lt old.outbox.next_place (2 ^ 62)) [
    | inl below ↦ inl (queues-some old.link old d now refl some below)
    | inr past ↦ inr (is, (some, past, refl))
  ]
  | inr full ↦ inl (record nothing { full = true }, old, inr (record { offers = (full, refl); reacts = refl; left = refl }))
]

-- ---- room
room-some : (o : Option Link) (old : State) (bytes now : ℕ) → old.link ≡ o → Some-of (RoomStep bytes now old)
room-some None old bytes now e = (says (publishes_of []), sent_from (with_room old bytes) old.outbox now [], record { after = old.outbox; sents = []; goes_on = rw e (refl, refl); reacts = refl; left = refl })
room-some (Some l) old bytes now e =
    let f = flush now l.limit (Some bytes) old.outbox in
    (says (publishes_of f.sents), sent_from (with_room old bytes) f.new now f.sents, record { after = f.new; sents = f.sents; goes_on = rw e f.flushes; reacts = refl; left = refl })

-- ---- PUBACK and PUBCOMP
puback-some : (b : Bool) (id now limit : ℕ) (s : State) → is_acknowledged (find_id id s.outbox.copies) ≡ b → Some-of (PubackStep id now limit s)
puback-some true id now limit s is =
    let mid = record s.outbox { copies = drop_id id s.outbox.copies } in
    let f = flush now limit s.room mid in
    (says (publishes_of f.sents), sent_from s f.new now f.sents, record { answer = Done; mid = mid; after = f.new; sents = f.sents; takes = (is, refl); goes_on = f.flushes; reacts = refl; left = refl })
puback-some false id now limit s is =
    (says (publishes_of []), sent_from s s.outbox now [], record { answer = Unknown; mid = s.outbox; after = s.outbox; sents = []; takes = (is, refl); goes_on = (refl, refl); reacts = refl; left = refl })

pubcomp-some : (b : Bool) (id now limit : ℕ) (s : State) → is_completed (find_id id s.outbox.copies) ≡ b → Some-of (PubcompStep id now limit s)
pubcomp-some true id now limit s is =
    let mid = record s.outbox { copies = drop_id id s.outbox.copies } in
    let f = flush now limit s.room mid in
    (says (publishes_of f.sents), sent_from s f.new now f.sents, record { answer = Done; mid = mid; after = f.new; sents = f.sents; takes = (is, refl); goes_on = f.flushes; reacts = refl; left = refl })
pubcomp-some false id now limit s is =
    (says (publishes_of []), sent_from s s.outbox now [], record { answer = Unknown; mid = s.outbox; after = s.outbox; sents = []; takes = (is, refl); goes_on = (refl, refl); reacts = refl; left = refl })

-- ---- PUBREC
unknown-some : (id reason limit : ℕ) (s : State) → Some-of (SaysUnknown id reason limit s)
unknown-some id reason limit s = elim (cases_lt reason 128) [
  | inl below ↦ (_, _, inl (below, (refl, refl)))
  | inr above ↦ (nothing, s, inr (above, refl, refl))
]

-- the session holds no exchange of it
stranger-some : (id reason now limit : ℕ) (s : State) → find_id id s.outbox.copies ≡ None → Some-of (PubrecStep id reason now limit s)
stranger-some id reason now limit s is =
    let u = unknown-some id reason limit (with_outbox s s.outbox) in
    (u.0, u.1, record { answer = rec.Unknown; mid = s.outbox; takes = rw is (refl, refl); goes_on = u.2 })

pubrec-ends : (x : Entry) (id reason now limit : ℕ) (s : State) → find_id id s.outbox.copies ≡ Some x
    → Some-of (PubrecStep id reason now limit s) ⊎ ((takes_pubrec x.delivery.qos x.stage ≡ true) × (reason < 128) × (2 ^ 62 ≤ s.outbox.next_order) × (s.outbox ≡ s.outbox))
pubrec-ends x id reason now limit s is = elim (cases_Bool (takes_pubrec x.delivery.qos x.stage)) [
  | inl t ↦ elim (cases_lt reason 128) [
    | inl below ↦ elim (cases_lt s.outbox.next_order (2 ^ 62)) [
      | inl some ↦
          let mid = record s.outbox { copies = write_id (as_released id s.outbox.next_order) id s.outbox.copies; next_order = s.outbox.next_order + 1 } in
          inl (_, _, record { answer = rec.Release; mid = mid; takes = rw is (inl (t, below, some, refl)); goes_on = (refl, refl) })
      | inr past ↦ inr (t, below, past, refl)
    ]
    | inr above ↦
        let mid = record s.outbox { copies = drop_id id s.outbox.copies } in
        let f = flush now limit s.room mid in
        inl (says (publishes_of f.sents), sent_from s f.new now f.sents, record { answer = rec.Ended; mid = mid; takes = rw is (t, above, refl); goes_on = record { after = f.new; sents = f.sents; flushes = f.flushes; reacts = refl; left = refl } })
  ]
  | inr t ↦ elim (cases_Bool (is_released x.stage)) [
    | inl u ↦ inl (_, _, record { answer = rec.Release; mid = s.outbox; takes = rw is (inr (u, refl)); goes_on = (refl, refl) })
    | inr u ↦
        let w = unknown-some id reason limit (with_outbox s s.outbox) in
        inl (w.0, w.1, record { answer = rec.Unknown; mid = s.outbox; takes = rw is (t, u, refl); goes_on = w.2 })
  ]
]

pubrec-by : (o : Option Entry) (id reason now limit : ℕ) (s : State) → find_id id s.outbox.copies ≡ o → Some-of (PubrecStep id reason now limit s) ⊎ ReceivedIf o s.outbox id reason rec.AtEnd s.outbox
pubrec-by None id reason now limit s is = inl (stranger-some id reason now limit s is)
pubrec-by (Some x) id reason now limit s is = pubrec-ends x id reason now limit s is

-- ---- SUBSCRIBE: it asks for No Local on a shared filter, or it doesn't
never-both : (a b : ℕ) → a < b → b ≤ a → ⊥
never-both a b h k = omega (arith, h, k)

is-filter : (text : List ℕ) → IsFilter text ⊎ (IsFilter text → ⊥)
is-filter text = elim (cases_lt (length text) (2 ^ 16)) [
  | inl short ↦ elim (cases_Bool (is_text text)) [
    | inl is ↦ elim (cases_Bool (is_filter text)) [
      | inl passes ↦ inl ((decides_filter text (short, is)).0 passes)
      | inr fails ↦ inr (λ f. true≢false (sym ((decides_filter text f.fits).1 f) ∙ fails))
    ]
    | inr other ↦ inr (λ f. true≢false (sym f.fits.1 ∙ other))
  ]
  | inr long ↦ inr (λ f. never-both (length text) (2 ^ 16) f.fits.0 long)
]

is-no-local : (f : SubscribeFilter) → IsNoLocalShare f ⊎ (IsNoLocalShare f → ⊥)
is-no-local f = elim (cases_Bool (no_local_of f.options)) [
  | inl option ↦ elim (cases_Bool (is_shared f.filter)) [
    | inl shared ↦ elim (is-filter f.filter) [
      | inl filter ↦ inl (option, filter, shared)
      | inr none ↦ inr (λ h. none h.1)
    ]
    | inr plain ↦ inr (λ h. true≢false (sym h.2 ∙ plain))
  ]
  | inr without ↦ inr (λ h. true≢false (sym h.0 ∙ without))
]

asks-or-not : (fs : List SubscribeFilter) → AsksNoLocalShare fs ⊎ (AsksNoLocalShare fs → ⊥)
asks-or-not [] = inr (λ h. h)
asks-or-not (f ∷ fs) = elim (is-no-local f) [
  | inl asks ↦ inl (inl asks)
  | inr plain ↦ elim (asks-or-not fs) [
    | inl asks ↦ inl (inr asks)
    | inr none ↦ inr (λ h. elim h [ inl one ↦ plain one | inr more ↦ none more ])
  ]
]

subscribe-some : (p : Subscribe) (limit : ℕ) (s : State) → Some-of (SubscribeStep p limit s)
subscribe-some p limit s = elim (asks-or-not p.filters) [
  | inl asks ↦ (_, _, inl (asks, (refl, refl)))
  | inr none ↦ (_, _, inr (none, (refl, refl)))
]

kind-ends : (p : Packet) (now : ℕ) (room : Bool) (limit : ℕ) (old : State) → Some-of (KindStep p now room limit (heard old now)) ⊎ PacketEndsIf (Some limit) p old
kind-ends (packets.Publish p) now room limit old = inl (_, _, (refl, refl))
kind-ends (packets.Puback a) now room limit old = inl (puback-some (is_acknowledged (find_id a.identifier old.outbox.copies)) a.identifier now limit (heard old now) refl)
kind-ends (packets.Pubrec a) now room limit old = pubrec-by (find_id a.identifier old.outbox.copies) a.identifier a.reason now limit (heard old now) refl
kind-ends (packets.Pubrel a) now room limit old = inl (_, _, (refl, refl))
kind-ends (packets.Pubcomp a) now room limit old = inl (pubcomp-some (is_completed (find_id a.identifier old.outbox.copies)) a.identifier now limit (heard old now) refl)
kind-ends (packets.Subscribe p) now room limit old = inl (subscribe-some p limit (heard old now))
kind-ends (packets.Unsubscribe p) now room limit old = inl (_, _, (refl, refl))
kind-ends packets.Pingreq now room limit old = inl (_, _, (refl, refl))
kind-ends (packets.Disconnect p) now room limit old = inl (_, _, (refl, refl))
kind-ends (packets.Connect p) now room limit old = inl (_, _, (refl, refl))
kind-ends (packets.Connack p) now room limit old = inl (_, _, (refl, refl))
kind-ends (packets.Suback p) now room limit old = inl (_, _, (refl, refl))
kind-ends (packets.Unsuback p) now room limit old = inl (_, _, (refl, refl))
kind-ends packets.Pingresp now room limit old = inl (_, _, (refl, refl))
kind-ends (packets.Auth p) now room limit old = inl (_, _, (refl, refl))

packet-ends : (o : Option ℕ) (p : Packet) (now : ℕ) (room : Bool) (old : State) → Some-of (PacketIf o p now room old) ⊎ PacketEndsIf o p old
packet-ends None p now room old = inl (nothing, old, (refl, refl))
packet-ends (Some limit) p now room old = kind-ends p now room limit old

-- ---- the events
outcome : (old : State) (e : Event) → MayCome e old → HasOutcome old e ⊎ ends_of e old
outcome old (connects c continued room now) may =
    let answer = connack continued c.client old.kept.client in
    let s = opens-some (fits (limit_in c.properties) answer) old c answer room now in
    inl (s.0, s.1, (may, s.2))
outcome old (queues d now) may = queue-ends (is_once d.qos) old d now refl
outcome old (rooms bytes now) may = inl (room-some old.link old bytes now refl)
outcome old (takes p now room) may = packet-ends (limit_of old.link) p now room old
outcome old (answers id codes) may = inl (_, _, (refl, refl))
outcome old (closes now) may = inl (_, _, (refl, refl))
outcome old (ticks now) may = inl (_, _, (refl, refl))
outcome old (finishes now) may = inl (_, _, (refl, refl))
outcome old loses may = inl (
  nothing,
  record { kept = old.kept; outbox = record { copies = away old.outbox.copies; next_place = old.outbox.next_place; next_order = order_above old.outbox.copies; maximum = 0 }; incoming = of_before old.incoming; link = None; room = None },
  record { quiet = refl; kept = refl; outbox = refl; incoming = refl; link = refl; room = refl },
)

pub keeps_outcome : KeepsOutcome
keeps_outcome = outcome
