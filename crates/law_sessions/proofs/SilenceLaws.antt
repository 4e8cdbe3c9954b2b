-- After a close nothing is sent.
use Rattle.std.proofs.Common.{◌≡◌, ℕ, Bool, true, false, List, [], ◌∷◌, ◌++◌, Option, Some, None, IsSome, refl, inl, inr}
use Rattle.std.specs.List.{AllByRecursion}
use Rattle.mqtt_packets.specs.declared.connect.Connect.{Connect}
use Rattle.mqtt_packets.specs.declared.packet.Packet.{Packet}
use Rattle.mqtt_packets.specs.declared.packet.Packet.TheVariants as packets
use Rattle.mqtt_message.specs.declared.delivery.Delivery.{Delivery}
use Rattle.qos_handshakes.specs.declared.answers.Rec.{Rec}
use Rattle.qos_handshakes.specs.declared.answers.Rec.TheVariants as rec
use Rattle.qos_handshakes.specs.Outbox.{Outbox}
use Rattle.mqtt_sessions.specs.Answers.{pubrel, connack, fits}
use Rattle.mqtt_sessions.specs.Connecting.{OpensIf}
use Rattle.mqtt_sessions.specs.Ending.{ticked_if, has_run_out, is_due, will_due, end_due}
use Rattle.mqtt_sessions.specs.Packets.{PubrecBy, SaysUnknown, PacketIf}
use Rattle.mqtt_sessions.specs.Reaction.{Reaction, Comes, answered}
use Rattle.mqtt_sessions.specs.Sending.{is_once, QueueIf, RoomStep}
use Rattle.mqtt_sessions.specs.State.{State, Link, heard, limit_in, limit_of, with_outbox, new_session}
use Rattle.law_sessions.specs.Runs.{Event, connects, queues, rooms, takes, answers, closes, ticks, finishes, loses, Step, Reacts, Run}
use Rattle.law_sessions.specs.Silence.{Closes, BeginsNone, IsSilent, KeepsSilence}
use Rattle.law_sessions.proofs.QuietLaws.{HasLimit, IsQuiet, IsHandshake, none-some, quiet-answered, quiet-answer, quiet-tick, kinds}

-- nothing is sent, and there is no connection
abbrev pub IsOver : Reaction → State → Type 0
IsOver r new = (r.packets ≡ []) × (new.link ≡ None)

-- ---- the event that closes
opens-on : (b : Bool) (old new : State) (c : Connect) (p : Packet) (room : Option ℕ) (now : ℕ) (r : Reaction) → OpensIf b old c p room now r new → IsSome r.end → IsOver r new
opens-on true old new c p room now r h t = absurd (none-some r.end (rw h.reacts refl) t)
opens-on false old new c p room now r h t = rw h.0 (rw h.1 (refl, refl))

queue-on : (b : Bool) (old new : State) (d : Delivery) (now : ℕ) (r : Reaction) → QueueIf b old d now r new → r.end ≡ None
queue-on true old new d now r q = rw q.0 refl
queue-on false old new d now r (inl q) = rw q.reacts refl
queue-on false old new d now r (inr q) = rw q.reacts refl

answered-ends : (limit : ℕ) (p : Packet) (s new : State) (r : Reaction) → HasLimit limit s.link → Comes (answered limit p None s) r new → IsSome r.end → IsOver r new
answered-ends limit p s new r is c t =
    let q : IsQuiet limit s r new = rw c.0 (rw c.1 (quiet-answered limit p None s s refl refl refl is)) in q.ends t

unknown-ends : (id reason limit : ℕ) (s new : State) (r : Reaction) → HasLimit limit s.link → SaysUnknown id reason limit s r new → IsSome r.end → IsOver r new
unknown-ends id reason limit s new r is (inl h) t = answered-ends limit (pubrel id 146) s new r is h.1 t
unknown-ends id reason limit s new r is (inr h) t = absurd (none-some r.end (rw h.1 refl) t)

pubrec-ends : (a : Rec) (id reason now limit : ℕ) (s new : State) (mid : Outbox) (r : Reaction) → HasLimit limit s.link → PubrecBy a id reason now limit s mid r new → IsSome r.end → IsOver r new
pubrec-ends rec.Release id reason now limit s new mid r is h t = answered-ends limit (pubrel id 0) (with_outbox s mid) new r is h t
pubrec-ends rec.Ended id reason now limit s new mid r is h t = absurd (none-some r.end (rw h.reacts refl) t)
pubrec-ends rec.Unknown id reason now limit s new mid r is h t = unknown-ends id reason limit (with_outbox s mid) new r is h t
pubrec-ends rec.AtEnd id reason now limit s new mid r is h t = absurd h

pub handshake-ends : (p : Packet) (now limit : ℕ) (s new : State) (r : Reaction) → HasLimit limit s.link → IsHandshake p now limit s r new → IsSome r.end → IsOver r new
handshake-ends (packets.Puback a) now limit s new r is h t = absurd (none-some r.end (rw h.reacts refl) t)
handshake-ends (packets.Pubrec a) now limit s new r is h t = pubrec-ends h.answer a.identifier a.reason now limit s new h.mid r is h.goes_on t
handshake-ends (packets.Pubcomp a) now limit s new r is h t = absurd (none-some r.end (rw h.reacts refl) t)
handshake-ends p now limit s new r is h t = absurd h

pub heard-limit : (now : ℕ) (l : Link) (s : State) → s.link ≡ Some l → HasLimit l.limit (heard s now).link
heard-limit now l s e = rw e refl

packet-ends : (o : Option Link) (old new : State) (p : Packet) (now : ℕ) (room : Bool) (r : Reaction) → old.link ≡ o → PacketIf (limit_of o) p now room old r new → IsSome r.end → IsOver r new
packet-ends None old new p now room r e h t = absurd (none-some r.end (rw h.0 refl) t)
packet-ends (Some l) old new p now room r e h t = elim (kinds p now room l.limit (heard old now) r new (heard-limit now l old e) h) [
  | inl q ↦ q.0.ends t
  | inr k ↦ handshake-ends p now l.limit (heard old now) new r (heard-limit now l old e) k t
]

-- any open connection has a limit
pub own : (o : Option Link) → (limit : ℕ) × HasLimit limit o
own None = (0, tt)
own (Some l) = (l.limit, refl)

closing-step : (old new : State) (e : Event) (r : Reaction) → Reacts old e r new → Closes e r → IsOver r new
closing-step old new (connects c continued room now) r h t = opens-on (fits (limit_in c.properties) (connack continued c.client old.kept.client)) old new c _ room now r h.1 t
closing-step old new (queues d now) r h t = absurd (none-some r.end (queue-on (is_once d.qos) old new d now r h) t)
closing-step old new (rooms bytes now) r h t = absurd (none-some r.end (rw h.reacts refl) t)
closing-step old new (takes p now room) r h t = packet-ends old.link old new p now room r refl h t
closing-step old new (answers id codes) r h t = let w = own old.link in (quiet-answer old.link w.0 id codes old r new refl w.1 h).ends t
closing-step old new (closes now) r h t = rw h.0 (rw h.1 (refl, refl))
closing-step old new (ticks now) r h t = let w = own old.link in (quiet-tick w.0 now old r new w.1 h).ends t
closing-step old new (finishes now) r h t = rw h.0 (rw h.1 (refl, refl))
closing-step old new loses r h t = rw (h.quiet, h.link) (refl, refl)

-- ---- an event without a connection
queue-silent : (b : Bool) (old new : State) (d : Delivery) (now : ℕ) (r : Reaction) → old.link ≡ None → QueueIf b old d now r new → IsOver r new
queue-silent true old new d now r none q = rw (q.0, none) (rw (q.1, none) (refl, refl))
queue-silent false old new d now r none (inl q) =
    let g = rw none at q.goes_on in rw (q.reacts, g.0) (rw q.left (refl, none))
queue-silent false old new d now r none (inr q) = rw q.reacts (rw q.left (refl, none))

room-silent : (old new : State) (bytes now : ℕ) (r : Reaction) → old.link ≡ None → RoomStep bytes now old r new → IsOver r new
room-silent old new bytes now r none q = let g = rw none at q.goes_on in rw (q.reacts, g.0) (rw q.left (refl, none))

tick-over : (will end : Bool) (now : ℕ) (old new : State) (r : Reaction) → old.link ≡ None → Comes (ticked_if false will end now old) r new → IsOver r new
tick-over true end now old new r none c = rw c.0 (rw c.1 (refl, none))
tick-over false end now old new r none c = rw c.0 (rw c.1 (refl, none))

tick-silent : (old new : State) (now : ℕ) (r : Reaction) → old.link ≡ None → Reacts old (ticks now) r new → IsOver r new
tick-silent old new now r none h =
    let e : has_run_out old.link now ≡ false = rw none refl in
    tick-over (is_due (will_due old.kept) now) (is_due (end_due old.kept) now) now old new r none (rw e at h)

silent-step : (old new : State) (e : Event) (r : Reaction) → old.link ≡ None → BeginsNone e → Reacts old e r new → IsOver r new
silent-step old new (connects c continued room now) r none b h = absurd b
silent-step old new (queues d now) r none b h = queue-silent (is_once d.qos) old new d now r none h
silent-step old new (rooms bytes now) r none b h = room-silent old new bytes now r none h
silent-step old new (takes p now room) r none b h = let g = rw none at h in rw g.0 (rw g.1 (refl, refl))
silent-step old new (answers id codes) r none b h = let g = rw none at h in rw g.0 (rw g.1 (refl, refl))
silent-step old new (closes now) r none b h = rw h.0 (rw h.1 (refl, refl))
silent-step old new (ticks now) r none b h = tick-silent old new now r none h
silent-step old new (finishes now) r none b h = rw h.0 (rw h.1 (refl, refl))
silent-step old new loses r none b h = rw (h.quiet, h.link) (refl, refl)

silent-run : (old : State) (steps : List Step) (end : State) → old.link ≡ None → AllByRecursion (λ (t : Step). BeginsNone t.event) steps → Run old steps end → AllByRecursion IsSilent steps
silent-run old [] end none b r = tt
silent-run old (s ∷ ss) end none b r = let t = silent-step old r.0 s.event s.reaction none b.0 r.1 in (t.0, silent-run r.0 ss end t.1 b.1 r.2)

pub run-split : (start : State) (before after : List Step) (end : State) → Run start (before ++ after) end → (mid : State) × Run start before mid × Run mid after end
run-split start [] after end r = (start, refl, r)
run-split start (s ∷ before) after end r = let t = run-split r.0 before after end r.2 in (t.0, (r.0, r.1, t.1), t.2)

pub keeps_silence : KeepsSilence
keeps_silence = λ client before after s end run closing quiet.
    let t = run-split (new_session client) before (s ∷ after) end run in
    let c = closing-step t.0 t.2.0 s.event s.reaction t.2.1 closing in
    (c.0, silent-run t.2.0 after end c.1 quiet t.2.2)
