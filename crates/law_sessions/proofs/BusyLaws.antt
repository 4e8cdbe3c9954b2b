-- Nothing is held back on a connection that goes on.
use Rattle.std.proofs.Common.{◌≡◌, ℕ, ◌+◌, Bool, true, false, List, [], ◌∷◌, Option, Some, None, IsSome, refl, sym, ◌∙◌, inl, inr}
use Rattle.std.specs.Prelude.{◌==◌}
use Rattle.std.proofs.lemmas.Bool.{cases_Bool, eqb-true, eq-eqb, false≢true}
use Rattle.mqtt_packets.specs.declared.connect.Connect.{Connect}
use Rattle.mqtt_packets.specs.declared.packet.Packet.{Packet}
use Rattle.mqtt_packets.specs.declared.packet.Packet.TheVariants as packets
use Rattle.mqtt_message.specs.declared.delivery.Delivery.{Delivery}
use Rattle.qos_handshakes.specs.declared.answers.Ack.{Ack}
use Rattle.qos_handshakes.specs.declared.answers.Ack.TheVariants.{Done, Unknown}
use Rattle.qos_handshakes.specs.declared.answers.Rec.{Rec}
use Rattle.qos_handshakes.specs.declared.answers.Rec.TheVariants as rec
use Rattle.qos_handshakes.specs.declared.copies.Entry.{Entry}
use Rattle.qos_handshakes.specs.declared.copies.Stage.{Stage}
use Rattle.qos_handshakes.specs.declared.copies.Stage.TheVariants.{Waiting, Published, Released}
use Rattle.qos_handshakes.specs.Entries.{Entries, stage_has, has_id, find_id, write_id, as_released}
use Rattle.qos_handshakes.specs.Outbox.{Outbox, Sent, is_owed, EndStep, ReceivedIf, ReceivedStep}
use Rattle.qos_handshakes.proofs.EntryLaws.{in_flight-write_id}
use Rattle.law_handshakes.specs.Quota.{CannotSend}
use Rattle.law_handshakes.specs.Resends.{owed}
use Rattle.law_handshakes.proofs.OrderLaws.{waiting-write_id}
use Rattle.law_handshakes.proofs.QuotaLaws.{busy-next}
use Rattle.mqtt_sessions.specs.Answers.{pubrel, connack, fits}
use Rattle.mqtt_sessions.specs.Connecting.{OpensIf, resumed_by}
use Rattle.mqtt_sessions.specs.Packets.{GoesOnAfter, PubrecBy, PacketIf}
use Rattle.mqtt_sessions.specs.Reaction.{Reaction}
use Rattle.mqtt_sessions.specs.Sending.{Flushes, StopsIf, GoesOn, is_once, QueueIf, RoomStep}
use Rattle.mqtt_sessions.specs.State.{State, Link, has_room, heard, limit_in, limit_of, room_after, with_outbox, new_session}
use Rattle.law_sessions.specs.Runs.{Event, connects, queues, rooms, takes, answers, closes, ticks, finishes, loses, Step, Reacts, Run}
use Rattle.law_sessions.specs.Numbers.{KeepsBusy}
use Rattle.law_sessions.proofs.QuietLaws.{HasLimit, IsQuiet, IsHandshake, none-some, quiet-answer, quiet-tick, kinds}
use Rattle.law_sessions.proofs.SilenceLaws.{own}
use Rattle.law_sessions.proofs.ProjectLaws.{comes-quiet, unknown-quiet, heard-limit}

-- after a flush nothing more can be sent, where room is left
stop-busy : (more : Bool) (now limit : ℕ) (old new : Outbox) → StopsIf more now limit old new → more ≡ true → CannotSend new
stop-busy true now limit old new s more = busy-next now limit old new s
stop-busy false now limit old new s more = absurd (false≢true more)

flush-busy : (now limit : ℕ) (room : Option ℕ) (old new : Outbox) (sents : List Sent) → Flushes now limit room old sents new → has_room (room_after now room sents) ≡ true → CannotSend new
flush-busy now limit room old new sents f more = stop-busy (has_room (room_after now room sents)) now limit f.last new f.stops more

same-busy : (old new : Outbox) → new ≡ old → CannotSend old → CannotSend new
same-busy old new same h = rw same h

-- ---- a PUBREC below 0x80 frees nothing
owed-written : (id order : ℕ) (es : Entries) → owed es ≡ [] → owed (write_id (as_released id order) id es) ≡ []
owed-written id order [] none = refl
owed-written id order (e ∷ es) none = elim (cases_Bool (is_owed e.1)) [
  | inl o ↦ (let bad = rw o at none in cc)
  | inr o ↦ elim (cases_Bool (has_id id e.1)) [
    | inl h ↦ rw h (rw o at none)
    | inr h ↦ rw (h, o) (owed-written id order es (rw o at none))
  ]
]

same-id : (k id : ℕ) (s : Stage) → stage_has id s ≡ true → stage_has k s ≡ true → (id == k) ≡ true
same-id k id Waiting h g = absurd (false≢true h)
same-id k id (Published i) h g = eq-eqb id k (sym (eqb-true i id h) ∙ eqb-true i k g)
same-id k id (Released i order) h g = eq-eqb id k (sym (eqb-true i id h) ∙ eqb-true i k g)

id-written : (k id order : ℕ) (es : Entries) → IsSome (find_id k es) → IsSome (find_id k (write_id (as_released id order) id es))
id-written k id order [] some = some
id-written k id order (e ∷ es) some = elim (cases_Bool (has_id id e.1)) [
  | inl h ↦ elim (cases_Bool (has_id k e.1)) [
    | inl g ↦ rw (h, same-id k id e.1.stage h g) refl
    | inr g ↦ elim (cases_Bool (id == k)) [ inl n ↦ rw (h, n) refl | inr n ↦ rw (h, n) (rw g at some) ]
  ]
  | inr h ↦ elim (cases_Bool (has_id k e.1)) [
    | inl g ↦ rw (h, g) refl
    | inr g ↦ rw (h, g) (id-written k id order es (rw g at some))
  ]
]

release-busy : (id order : ℕ) (old : Outbox) → CannotSend old → CannotSend (record old { copies = write_id (as_released id order) id old.copies; next_order = order + 1 })
release-busy id order old (inl h) = inl (rw (in_flight-write_id (as_released id order) (λ _. refl) id old.copies) h)
release-busy id order old (inr (none, inl h)) = inr (owed-written id order old.copies none, inl (λ k a b. id-written k id order old.copies (h k a b)))
release-busy id order old (inr (none, inr h)) = inr (owed-written id order old.copies none, inr (waiting-write_id (as_released id order) (λ _. refl) id old.copies ∙ h))

-- where an exchange ends the queue goes on; else nothing is sent
ack-busy : (a : Ack) (ends : Bool) (id now limit : ℕ) (room : Option ℕ) (old mid new : Outbox) (sents : List Sent) → EndStep ends old id a mid → GoesOnAfter a now limit room mid sents new → (has_room room ≡ true → CannotSend old) → has_room (room_after now room sents) ≡ true
    → CannotSend new
ack-busy Done ends id now limit room old mid new sents s f h more = flush-busy now limit room mid new sents f more
ack-busy Unknown ends id now limit room old mid new sents s f h more = same-busy old new (f.1 ∙ s.1) (h (rw f.0 at more))

known-busy : (o : Option Entry) (id reason : ℕ) (old mid : Outbox) → ReceivedIf o old id reason rec.Release mid → CannotSend old → CannotSend mid
known-busy None id reason old mid s h = same-busy old mid s.1 h
known-busy (Some x) id reason old mid (inl s) h = rw s.3 (release-busy id old.next_order old h)
known-busy (Some x) id reason old mid (inr s) h = same-busy old mid s.1 h

unknown-busy : (o : Option Entry) (id reason : ℕ) (old mid : Outbox) → ReceivedIf o old id reason rec.Unknown mid → CannotSend old → CannotSend mid
unknown-busy None id reason old mid s h = same-busy old mid s.1 h
unknown-busy (Some x) id reason old mid s h = same-busy old mid s.2 h

-- ---- the events
abbrev IsBusy : State → Type 0
IsBusy s = IsSome s.link → has_room s.room ≡ true → CannotSend s.outbox

-- where it is connected
abbrev IsStuck : State → Type 0
IsStuck s = has_room s.room ≡ true → CannotSend s.outbox

rec-busy : (a : Rec) (limit : ℕ) (s new : State) (id reason now : ℕ) (mid : Outbox) (r : Reaction) → HasLimit limit s.link → ReceivedStep s.outbox id reason a mid → PubrecBy a id reason now limit s mid r new → IsStuck s → IsStuck new
rec-busy rec.Release limit s new id reason now mid r is t p h =
    let q = comes-quiet limit (pubrel id 0) (with_outbox s mid) new r is p in
    λ more. same-busy mid new.outbox q.same (known-busy (find_id id s.outbox.copies) id reason s.outbox mid t (h (rw q.held at more)))
rec-busy rec.Unknown limit s new id reason now mid r is t p h =
    let q = unknown-quiet id reason limit (with_outbox s mid) new r is p in
    λ more. same-busy mid new.outbox q.same (unknown-busy (find_id id s.outbox.copies) id reason s.outbox mid t (h (rw q.held at more)))
rec-busy rec.Ended limit s new id reason now mid r is t p h = rw p.left (flush-busy now limit s.room mid p.after p.sents p.flushes)
rec-busy rec.AtEnd limit s new id reason now mid r is t p h = absurd p

cut-busy : (s : State) → s.link ≡ None → IsBusy s
cut-busy s none = λ some. absurd (none-some s.link none some)

quiet-busy : (limit : ℕ) (o : Option ℕ) (old new : State) (r : Reaction) → r.end ≡ o → IsQuiet limit old r new → IsBusy old → IsBusy new
quiet-busy limit None old new r e q b = λ some more. same-busy old.outbox new.outbox q.same (b (sym (q.stays e) ∙ some) (rw q.held at more))
quiet-busy limit (Some code) old new r e q b = cut-busy new (q.ends (rw e refl)).1

goes-busy : (o : Option Link) (now : ℕ) (room : Option ℕ) (old new : Outbox) (sents : List Sent) → IsSome o → GoesOn (limit_of o) now room old sents new → has_room (room_after now room sents) ≡ true → CannotSend new
goes-busy None now room old new sents some g more = absurd (false≢true some)
goes-busy (Some l) now room old new sents some g more = flush-busy now l.limit room old new sents g more

queue-busy : (b : Bool) (old new : State) (d : Delivery) (now : ℕ) (r : Reaction) → QueueIf b old d now r new → IsBusy old → IsBusy new
queue-busy true old new d now r q h = rw q.1 h
queue-busy false old new d now r (inl q) h = rw q.left (λ some more. goes-busy old.link now old.room q.mid q.after q.sents some q.goes_on more)
queue-busy false old new d now r (inr q) h = rw q.left h

room-busy : (old new : State) (bytes now : ℕ) (r : Reaction) → RoomStep bytes now old r new → IsBusy new
room-busy old new bytes now r q = rw q.left (λ some more. goes-busy old.link now (Some bytes) old.outbox q.after q.sents some q.goes_on more)

handshake-busy : (limit : ℕ) (s new : State) (p : Packet) (now : ℕ) (r : Reaction) → HasLimit limit s.link → IsHandshake p now limit s r new → IsStuck s → IsStuck new
handshake-busy limit s new (packets.Puback a) now r is p h = rw p.left (ack-busy p.answer _ a.identifier now limit s.room s.outbox p.mid p.after p.sents p.takes p.goes_on h)
handshake-busy limit s new (packets.Pubrec a) now r is p h = rec-busy p.answer limit s new a.identifier a.reason now p.mid r is p.takes p.goes_on h
handshake-busy limit s new (packets.Pubcomp a) now r is p h = rw p.left (ack-busy p.answer _ a.identifier now limit s.room s.outbox p.mid p.after p.sents p.takes p.goes_on h)
handshake-busy limit s new p now r is t h = absurd t

packet-busy : (o : Option Link) (old new : State) (p : Packet) (now : ℕ) (room : Bool) (r : Reaction) → old.link ≡ o → PacketIf (limit_of o) p now room old r new → IsBusy old → IsBusy new
packet-busy None old new p now room r is h b = cut-busy new (rw h.1 is)
packet-busy (Some l) old new p now room r is h b =
    let before : IsStuck old = b (rw is refl) in
    let limited = heard-limit l.limit now l old refl is in
    elim (kinds p now room l.limit (heard old now) r new limited h) [
      | inl q ↦ λ _ more. same-busy old.outbox new.outbox q.0.same (before (rw q.0.held at more))
      | inr t ↦ λ _. handshake-busy l.limit (heard old now) new p now r limited t before
    ]

opens-busy : (b : Bool) (old new : State) (c : Connect) (p : Packet) (room : Option ℕ) (now : ℕ) (r : Reaction) → OpensIf b old c p room now r new → IsBusy new
opens-busy true old new c p room now r h = rw h.left (λ some. flush-busy now (limit_in c.properties) room (resumed_by old.outbox c) h.after h.sents h.flushes)
opens-busy false old new c p room now r h = cut-busy new (rw h.1 refl)

busy-step : (old new : State) (e : Event) (r : Reaction) → Reacts old e r new → IsBusy old → IsBusy new
busy-step old new (connects c continued room now) r h b = opens-busy (fits (limit_in c.properties) (connack continued c.client old.kept.client)) old new c _ room now r h.1
busy-step old new (queues d now) r h b = queue-busy (is_once d.qos) old new d now r h b
busy-step old new (rooms bytes now) r h b = room-busy old new bytes now r h
busy-step old new (takes p now room) r h b = packet-busy old.link old new p now room r refl h b
busy-step old new (answers id codes) r h b = let w = own old.link in quiet-busy w.0 r.end old new r refl (quiet-answer old.link w.0 id codes old r new refl w.1 h) b
busy-step old new (closes now) r h b = cut-busy new (rw h.1 refl)
busy-step old new (ticks now) r h b = let w = own old.link in quiet-busy w.0 r.end old new r refl (quiet-tick w.0 now old r new w.1 h) b
busy-step old new (finishes now) r h b = cut-busy new (rw h.1 refl)
busy-step old new loses r h b = cut-busy new h.link

busy-run : (old : State) (steps : List Step) (end : State) → Run old steps end → IsBusy old → IsBusy end
busy-run old [] end r b = rw r b
busy-run old (s ∷ ss) end r b = busy-run r.0 ss end r.2 (busy-step old r.0 s.event s.reaction r.1 b)

pub keeps_busy : KeepsBusy
keeps_busy = λ client steps end r. busy-run (new_session client) steps end r (λ some. absurd (false≢true some))
