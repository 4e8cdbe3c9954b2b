-- What is sent while room is counted.
use Rattle.std.proofs.Common.{◌≡◌, ℕ, ◌+◌, ◌-◌, ◌<◌, Bool, true, false, List, [], ◌∷◌, Option, Some, None, refl, sym, ◌∙◌, ap, inl, inr, arith}
use Rattle.std.specs.Prelude.{is_some}
use Rattle.std.proofs.lemmas.Bool.{false≢true, ltb-true, lt-ltb}
use Rattle.mqtt_packets.specs.declared.connect.Connect.{Connect}
use Rattle.mqtt_packets.specs.declared.packet.Packet.{Packet}
use Rattle.mqtt_packets.specs.declared.packet.Packet.TheVariants as packets
use Rattle.mqtt_message.specs.declared.delivery.Delivery.{Delivery}
use Rattle.qos_handshakes.specs.declared.answers.Ack.{Ack}
use Rattle.qos_handshakes.specs.declared.answers.Ack.TheVariants.{Done, Unknown}
use Rattle.qos_handshakes.specs.declared.answers.Offer.TheVariants.{Queued}
use Rattle.qos_handshakes.specs.declared.answers.Rec.{Rec}
use Rattle.qos_handshakes.specs.declared.answers.Rec.TheVariants as rec
use Rattle.qos_handshakes.specs.Length.{length_of}
use Rattle.qos_handshakes.specs.Outbox.{Outbox, Sent, ReceivedStep}
use Rattle.law_handshakes.specs.Runs.{offered, acknowledged, completed, received, resumed}
use Rattle.law_handshakes.specs.Numbers.{AreNumbered}
use Rattle.law_handshakes.proofs.NumberLaws.{numbered-step}
use Rattle.mqtt_sessions.specs.Answers.{connack, fits, pubrel}
use Rattle.mqtt_sessions.specs.Connecting.{OpensIf, resumed_by}
use Rattle.mqtt_sessions.specs.Packets.{GoesOnAfter, PacketIf, PubrecBy}
use Rattle.mqtt_sessions.specs.Reaction.{Reaction, publishes_of}
use Rattle.mqtt_sessions.specs.Sending.{Flushes, GoesOn, QueueIf, SendsAll, is_once}
use Rattle.mqtt_sessions.specs.State.{Link, State, has_room, heard, limit_in, limit_of, new_session, room_after, room_less, with_outbox}
use Rattle.law_sessions.specs.Room.{AllFitRoom, IsLeftOf, KeepsLeft, KeepsRoom, KeepsUntold, KeepsWaiting, Room, SentsFit, left_of, room_at, room_by, room_over, room_told, room_with, room_with_all, uncounted}
use Rattle.law_sessions.specs.Runs.{Event, connects, queues, rooms, takes, answers, closes, ticks, finishes, loses, Reacts, Run, Step, connected_after, limit_after}
use Rattle.law_sessions.specs.Sends.{maximum_in, sent_in}
use Rattle.law_sessions.specs.Sizes.{moment_of}
use Rattle.law_sessions.proofs.CallLaws.{flushed, numbered-calls, sent-publishes, sent-pubrels}
use Rattle.law_sessions.proofs.ProjectLaws.{comes-quiet, heard-limit, none-queued, project, unknown-quiet}
use Rattle.law_sessions.proofs.QuietLaws.{HasLimit, IsHandshake, IsQuiet, kinds, none-sent, quiet-answer, quiet-tick}
use Rattle.law_sessions.proofs.SilenceLaws.{own}

-- there is room for each
abbrev AllHave : ℕ → Option ℕ → List Sent → Type 0
AllHave now room [] = Unit {0}
AllHave now room (s ∷ ss) = (has_room room ≡ true) × AllHave now (room_less now room s.copy) ss

-- what an event sends, while there is room, and what it leaves of it
record Spends (room : Option ℕ) (old : State) (now : ℕ) (r : Reaction) (new : State) : Type 0 where
  pub sents : List Sent
  pub is : AreNumbered old.outbox.copies → sent_in r.packets ≡ sents
  pub none : sents ≡ [] → sent_in r.packets ≡ []
  pub have : AllHave now room sents
  pub left : new.room ≡ room_after now room sents

-- ---- a flush
sends-have : (now limit : ℕ) (room : Option ℕ) (old last : Outbox) (ss : List Sent) → SendsAll now limit room old ss last → AllHave now room ss
sends-have now limit room old last [] h = tt
sends-have now limit room old last (s ∷ ss) h = (h.0, sends-have now limit (room_less now room s.copy) h.1 last ss h.3)

flush-sent : (now limit : ℕ) (room : Option ℕ) (old new : Outbox) (ss : List Sent) → Flushes now limit room old ss new → AreNumbered old.copies → sent_in (publishes_of ss) ≡ ss
flush-sent now limit room old new ss f n = sent-publishes now limit ss (flushed now limit room old new ss n f).sound

goes-have : (o : Option ℕ) (now : ℕ) (room : Option ℕ) (old new : Outbox) (ss : List Sent) → GoesOn o now room old ss new → AllHave now room ss
goes-have None now room old new ss g = rw g.0 tt
goes-have (Some limit) now room old new ss g = sends-have now limit room old g.last ss g.sends

goes-sent : (o : Option ℕ) (now : ℕ) (room : Option ℕ) (old new : Outbox) (ss : List Sent) → GoesOn o now room old ss new → AreNumbered old.copies → sent_in (publishes_of ss) ≡ ss
goes-sent None now room old new ss g n = rw g.0 refl
goes-sent (Some limit) now room old new ss g n = flush-sent now limit room old new ss g n

after-have : (a : Ack) (now limit : ℕ) (room : Option ℕ) (old new : Outbox) (ss : List Sent) → GoesOnAfter a now limit room old ss new → AllHave now room ss
after-have Done now limit room old new ss f = sends-have now limit room old f.last ss f.sends
after-have Unknown now limit room old new ss g = rw g.0 tt

after-sent : (a : Ack) (now limit : ℕ) (room : Option ℕ) (old new : Outbox) (ss : List Sent) → GoesOnAfter a now limit room old ss new → AreNumbered old.copies → sent_in (publishes_of ss) ≡ ss
after-sent Done now limit room old new ss f n = flush-sent now limit room old new ss f n
after-sent Unknown now limit room old new ss g n = rw g.0 refl

-- ---- an event that sends nothing
spends-none : (room : Option ℕ) (old : State) (now : ℕ) (r : Reaction) (new : State) → sent_in r.packets ≡ [] → new.room ≡ room → Spends room old now r new
spends-none room old now r new none same = record { sents = []; is = λ n. none; none = λ _. none; have = tt; left = same }

spends-quiet : (limit : ℕ) (old : State) (now : ℕ) (r : Reaction) (new : State) → IsQuiet limit old r new → Spends old.room old now r new
spends-quiet limit old now r new q = spends-none old.room old now r new (none-sent limit r.packets q.plain) q.held

-- ---- connect
opens-spends : (b : Bool) (old new : State) (c : Connect) (p : Packet) (room : Option ℕ) (now : ℕ) (r : Reaction) → OpensIf b old c p room now r new → Spends room old now r new
opens-spends true old new c p room now r h = record {
  sents = h.sents;
  is = λ n. rw (h.reacts, sent-pubrels h.ids) (flush-sent now (limit_in c.properties) room (resumed_by old.outbox c) h.after h.sents h.flushes (numbered-step old.outbox (resumed_by old.outbox c) (resumed (maximum_in c)) refl n));
  none = λ e. rw (h.reacts, sent-pubrels h.ids, e) refl;
  have = sends-have now (limit_in c.properties) room (resumed_by old.outbox c) h.flushes.last h.sents h.flushes.sends;
  left = rw h.left refl;
}
opens-spends false old new c p room now r h = spends-none room old now r new (rw h.0 refl) (rw h.1 refl)

-- ---- queue
queue-spends : (b : Bool) (old new : State) (d : Delivery) (now : ℕ) (r : Reaction) → QueueIf b old d now r new → Spends old.room old now r new
queue-spends true old new d now r q = spends-none old.room old now r new (rw (q.0, none-queued old.link now d) refl) (rw q.1 refl)
queue-spends false old new d now r (inl q) = record {
  sents = q.sents;
  is = λ n. rw q.reacts (goes-sent (limit_of old.link) now old.room q.mid q.after q.sents q.goes_on (numbered-step old.outbox q.mid (offered d Queued) q.offers n));
  none = λ e. rw (q.reacts, e) refl;
  have = goes-have (limit_of old.link) now old.room q.mid q.after q.sents q.goes_on;
  left = rw q.left refl;
}
queue-spends false old new d now r (inr q) = spends-none old.room old now r new (rw q.reacts refl) (rw q.left refl)

-- ---- room
room-spends : (old new : State) (bytes now : ℕ) (r : Reaction) → Reacts old (rooms bytes now) r new → Spends (Some bytes) old now r new
room-spends old new bytes now r q = record {
  sents = q.sents;
  is = λ n. rw q.reacts (goes-sent (limit_of old.link) now (Some bytes) old.outbox q.after q.sents q.goes_on n);
  none = λ e. rw (q.reacts, e) refl;
  have = goes-have (limit_of old.link) now (Some bytes) old.outbox q.after q.sents q.goes_on;
  left = rw q.left refl;
}

-- ---- packets
rec-spends : (a : Rec) (limit : ℕ) (s new : State) (id reason now : ℕ) (mid : Outbox) (r : Reaction) → HasLimit limit s.link → ReceivedStep s.outbox id reason a mid → PubrecBy a id reason now limit s mid r new → Spends s.room s now r new
rec-spends rec.Release limit s new id reason now mid r is t p =
    let q = comes-quiet limit (pubrel id 0) (with_outbox s mid) new r is p in
    spends-none s.room s now r new (none-sent limit r.packets q.plain) q.held
rec-spends rec.Unknown limit s new id reason now mid r is t p =
    let q = unknown-quiet id reason limit (with_outbox s mid) new r is p in
    spends-none s.room s now r new (none-sent limit r.packets q.plain) q.held
rec-spends rec.Ended limit s new id reason now mid r is t p = record {
  sents = p.sents;
  is = λ n. rw p.reacts (flush-sent now limit s.room mid p.after p.sents p.flushes (numbered-step s.outbox mid (received id reason rec.Ended) t n));
  none = λ e. rw (p.reacts, e) refl;
  have = sends-have now limit s.room mid p.flushes.last p.sents p.flushes.sends;
  left = rw p.left refl;
}
rec-spends rec.AtEnd limit s new id reason now mid r is t p = absurd p

handshake-spends : (limit : ℕ) (s new : State) (p : Packet) (now : ℕ) (r : Reaction) → HasLimit limit s.link → IsHandshake p now limit s r new → Spends s.room s now r new
handshake-spends limit s new (packets.Puback a) now r is p = record {
  sents = p.sents;
  is = λ n. rw p.reacts (after-sent p.answer now limit s.room p.mid p.after p.sents p.goes_on (numbered-step s.outbox p.mid (acknowledged a.identifier p.answer) p.takes n));
  none = λ e. rw (p.reacts, e) refl;
  have = after-have p.answer now limit s.room p.mid p.after p.sents p.goes_on;
  left = rw p.left refl;
}
handshake-spends limit s new (packets.Pubrec a) now r is p = rec-spends p.answer limit s new a.identifier a.reason now p.mid r is p.takes p.goes_on
handshake-spends limit s new (packets.Pubcomp a) now r is p = record {
  sents = p.sents;
  is = λ n. rw p.reacts (after-sent p.answer now limit s.room p.mid p.after p.sents p.goes_on (numbered-step s.outbox p.mid (completed a.identifier p.answer) p.takes n));
  none = λ e. rw (p.reacts, e) refl;
  have = after-have p.answer now limit s.room p.mid p.after p.sents p.goes_on;
  left = rw p.left refl;
}
handshake-spends limit s new p now r is h = absurd h

packet-spends : (o : Option Link) (old new : State) (p : Packet) (now : ℕ) (room : Bool) (r : Reaction) → old.link ≡ o → PacketIf (limit_of o) p now room old r new → Spends old.room old now r new
packet-spends None old new p now room r e h = spends-none old.room old now r new (rw h.0 refl) (rw h.1 refl)
packet-spends (Some l) old new p now room r e h =
    let is = heard-limit l.limit now l old refl e in
    elim (kinds p now room l.limit (heard old now) r new is h) [
      | inl q ↦ spends-none old.room old now r new (none-sent l.limit r.packets q.0.plain) q.0.held
      | inr t ↦
          let w = handshake-spends l.limit (heard old now) new p now r is t in
          record { sents = w.sents; is = w.is; none = w.none; have = w.have; left = w.left }
    ]

-- ---- the events
spends : (old new : State) (e : Event) (r : Reaction) → Reacts old e r new → Spends (room_at old.room e) old (moment_of e) r new
spends old new (connects c continued room now) r h = opens-spends (fits (limit_in c.properties) (connack continued c.client old.kept.client)) old new c (connack continued c.client old.kept.client) room now r h.1
spends old new (queues d now) r h = queue-spends (is_once d.qos) old new d now r h
spends old new (rooms bytes now) r h = room-spends old new bytes now r h
spends old new (takes p now room) r h = packet-spends old.link old new p now room r refl h
spends old new (answers id codes) r h = let w = own old.link in spends-quiet w.0 old 0 r new (quiet-answer old.link w.0 id codes old r new refl w.1 h)
spends old new (closes now) r h = spends-none old.room old now r new (rw h.0 refl) (rw h.1 refl)
spends old new (ticks now) r h = let w = own old.link in spends-quiet w.0 old now r new (quiet-tick w.0 now old r new w.1 h)
spends old new (finishes now) r h = spends-none old.room old now r new (rw h.0 refl) (rw h.1 refl)
spends old new loses r h = spends-none None old 0 r new (rw h.quiet refl) h.room

-- ---- where none is left
none-have : (now : ℕ) (room : Option ℕ) (ss : List Sent) → AllHave now room ss → has_room room ≡ false → ss ≡ []
none-have now room [] h none = refl
none-have now room (s ∷ ss) h none = absurd (false≢true (sym none ∙ h.0))

pub keeps_waiting : KeepsWaiting
keeps_waiting = λ old new e r h none. let w = spends old new e r h in w.none (none-have (moment_of e) (room_at old.room e) w.sents w.have none)

-- ---- as events tell it
less-taken : (given taken length : ℕ) → given - taken - length ≡ given - (taken + length)
less-taken given taken length = omega arith

less-left : (o : Option ℕ) (taken now : ℕ) (d : Delivery) → room_less now (left_of o taken) d ≡ left_of o (taken + length_of now d)
less-left None taken now d = refl
less-left (Some given) taken now d = ap (λ (n : ℕ). Some n) (less-taken given taken (length_of now d))

more-left : (given taken : ℕ) → 0 < given - taken → taken < given
more-left given taken h = omega arith

is-left : (o : Option ℕ) (taken : ℕ) → has_room (left_of o taken) ≡ true → IsLeftOf o taken
is-left None taken h = tt
is-left (Some given) taken h = more-left given taken (ltb-true 0 (given - taken) h)

less-given : (given taken : ℕ) → taken < given → 0 < given - taken
less-given given taken h = omega arith

-- and the other way
pub left-room : (o : Option ℕ) (taken : ℕ) → IsLeftOf o taken → has_room (left_of o taken) ≡ true
left-room None taken h = refl
left-room (Some given) taken h = lt-ltb 0 (given - taken) (less-given given taken h)

sents-fit : (m : Room) (now : ℕ) (ss : List Sent) → AllHave now (left_of m.given m.taken) ss → SentsFit m now ss
sents-fit m now [] h = tt
sents-fit m now (s ∷ ss) h = (is-left m.given m.taken h.0, sents-fit (room_with m now s) now ss (rw (less-left m.given m.taken now s.copy) at h.1))

all-left : (m : Room) (now : ℕ) (ss : List Sent) → room_after now (left_of m.given m.taken) ss ≡ left_of (room_with_all m now ss).given (room_with_all m now ss).taken
all-left m now [] = refl
all-left m now (s ∷ ss) = rw (less-left m.given m.taken now s.copy) (all-left (room_with m now s) now ss)

-- what a session holds of its room is what events tell
abbrev Holds : Room → State → Type 0
Holds m s = s.room ≡ left_of m.given m.taken

none-taken : (given : ℕ) → given ≡ given - 0
none-taken given = omega arith

untaken : (o : Option ℕ) → o ≡ left_of o 0
untaken None = refl
untaken (Some given) = ap (λ (n : ℕ). Some n) (none-taken given)

at-by : (m : Room) (s : State) (e : Event) → Holds m s → room_at s.room e ≡ left_of (room_by m e).given (room_by m e).taken
at-by m s (connects c continued room now) h = untaken room
at-by m s (queues d now) h = h
at-by m s (rooms bytes now) h = untaken (Some bytes)
at-by m s (takes p now room) h = h
at-by m s (answers id codes) h = h
at-by m s (closes now) h = h
at-by m s (ticks now) h = h
at-by m s (finishes now) h = h
at-by m s loses h = refl

-- one event
record Fits (m : Room) (s : Step) (new : State) : Type 0 where
  pub fit : SentsFit (room_by m s.event) (moment_of s.event) (sent_in s.reaction.packets)
  pub holds : Holds (room_told m s) new

fits-step : (m : Room) (old new : State) (s : Step) → AreNumbered old.outbox.copies → Holds m old → Reacts old s.event s.reaction new → Fits m s new
fits-step m old new s n h step =
    let w = spends old new s.event s.reaction step in
    let at = at-by m old s.event h in
    let is = w.is n in
    record {
      fit = rw is (sents-fit (room_by m s.event) (moment_of s.event) w.sents (rw at at w.have));
      holds = w.left ∙ ap (λ (o : Option ℕ). room_after (moment_of s.event) o w.sents) at ∙ rw is (all-left (room_by m s.event) (moment_of s.event) w.sents);
    }

record FitAll (m : Room) (steps : List Step) (end : State) : Type 0 where
  pub fit : AllFitRoom m steps
  pub holds : Holds (room_over m steps) end

fit-run : (on : Bool) (limit : ℕ) (m : Room) (old : State) (steps : List Step) (end : State) → HasLimit limit old.link → on ≡ is_some old.link → AreNumbered old.outbox.copies → Holds m old → Run old steps end → FitAll m steps end
fit-run on limit m old [] end is opens n h r = record { fit = tt; holds = rw r h }
fit-run on limit m old (s ∷ ss) end is opens n h r =
    let one = fits-step m old r.0 s n h r.1 in
    let p = project on limit old r.0 s.event s.reaction is opens n r.1 in
    let more = fit-run (connected_after on s.event s.reaction) (limit_after limit s.event) (room_told m s) r.0 ss end p.limited p.connected (numbered-calls old.outbox p.calls r.0.outbox p.runs n) one.holds r.2 in
    record { fit = (one.fit, more.fit); holds = more.holds }

whole : (client : List ℕ) (steps : List Step) (end : State) → Run (new_session client) steps end → FitAll uncounted steps end
whole client steps end r = fit-run false 0 uncounted (new_session client) steps end tt refl tt refl r

pub keeps_room : KeepsRoom
keeps_room = λ client steps end r. (whole client steps end r).fit

pub keeps_left : KeepsLeft
keeps_left = λ client steps end r. (whole client steps end r).holds

none-given : (o : Option ℕ) (taken : ℕ) → o ≡ None → left_of o taken ≡ None
none-given o taken e = rw e refl

pub keeps_untold : KeepsUntold
keeps_untold = λ client steps end r none. let m = room_over uncounted steps in (whole client steps end r).holds ∙ none-given m.given m.taken none
