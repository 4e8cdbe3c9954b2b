-- Each event of a session is a list of calls of its handshakes.
use Rattle.std.proofs.Common.{◌≡◌, ℕ, Bool, true, false, List, [], ◌∷◌, ◌++◌, Option, Some, None, refl, sym, ◌∙◌, inl, inr}
use Rattle.std.specs.Prelude.{is_some, cond, not, ◌&&◌}
use Rattle.std.specs.List.{AllByRecursion}
use Rattle.std.proofs.lemmas.Bool.{cases_Bool}
use Rattle.mqtt_packets.specs.declared.ack.Ack as ack_packets
use Rattle.mqtt_packets.specs.declared.connect.Connect.{Connect}
use Rattle.mqtt_packets.specs.declared.packet.Packet.{Packet}
use Rattle.mqtt_packets.specs.declared.packet.Packet.TheVariants as packets
use Rattle.mqtt_message.specs.declared.delivery.Delivery.{Delivery}
use Rattle.qos_handshakes.specs.declared.answers.Ack.{Ack}
use Rattle.qos_handshakes.specs.declared.answers.Ack.TheVariants.{Done, Unknown}
use Rattle.qos_handshakes.specs.declared.answers.Offer.TheVariants.{Queued, Full}
use Rattle.qos_handshakes.specs.declared.answers.Rec.{Rec}
use Rattle.qos_handshakes.specs.declared.answers.Rec.TheVariants as rec
use Rattle.qos_handshakes.specs.Outbox as outbox
use Rattle.qos_handshakes.specs.Outbox.{Outbox, Sent, ReceivedStep}
use Rattle.law_handshakes.specs.Runs as low
use Rattle.law_handshakes.specs.Runs.{offered, acknowledged, completed, received, resumed, listed, asked, lost}
use Rattle.law_handshakes.specs.Numbers.{AreNumbered}
use Rattle.law_handshakes.specs.Order as low_order
use Rattle.law_handshakes.specs.Order.{all_offers}
use Rattle.law_handshakes.specs.Resends as low_resends
use Rattle.law_handshakes.specs.Resends.{SentCopy, Answers, AnsweredIn}
use Rattle.law_handshakes.proofs.NumberLaws.{numbered-step}
use Rattle.mqtt_sessions.specs.declared.reaction.Output.{Output}
use Rattle.mqtt_sessions.specs.Answers.{pubrel, connack, fits}
use Rattle.mqtt_sessions.specs.Connecting.{Opens, OpensIf, ConnectStep, resumed_by}
use Rattle.mqtt_sessions.specs.Packets.{GoesOnAfter, PubackStep, PubcompStep, PubrecBy, SaysUnknown, KindStep, PacketIf}
use Rattle.mqtt_sessions.specs.Reaction.{Reaction, Comes, answered, packet_of, publishes_of}
use Rattle.mqtt_sessions.specs.Sending.{is_once, once_of, GoesOn, QueueIf, RoomStep}
use Rattle.mqtt_sessions.specs.State.{State, Link, heard, limit_in, limit_of, with_outbox}
use Rattle.law_sessions.specs.Runs.{Event, connects, queues, rooms, takes, answers, closes, ticks, finishes, loses, Reacts, connected_after, limit_after}
use Rattle.law_sessions.specs.Sends.{marks_by, sends_of, maximum_in, sent_in, sent_once_in, once_by}
use Rattle.law_sessions.specs.Order.{queued_by, LeavesOut}
use Rattle.law_sessions.specs.Sizes.{moment_of, AllFit}
use Rattle.law_sessions.proofs.LeastLaws.{IsLeast}
use Rattle.law_sessions.proofs.SizeLaws.{publish-length, pubrel-fits}
use Rattle.law_sessions.specs.Resends.{EndsIt, StaysConnected}
use Rattle.law_sessions.proofs.QuietLaws.{HasLimit, IsQuiet, IsHandshake, none-sent, none-once, answers-fit, quiet-answered, quiet-answer, quiet-tick, still, kinds}
use Rattle.law_sessions.proofs.CallLaws.{Call, call_marks, HasNumbers, Follows, flushed, unchanged, sent-publishes, once-publishes, sent-pubrels, once-pubrels, publishes-fit, pubrels-fit}

-- what the calls of an event show, where `on` is whether the client is connected
pub record Shows (on : Bool) (limit : ℕ) (e : Event) (r : Reaction) (calls : List Call) : Type 0 where
  pub offers : all_offers calls ≡ queued_by e
  pub marks : call_marks calls ≡ marks_by on e ++ sends_of (sent_in r.packets)
  pub once : sent_once_in r.packets ≡ once_by on limit e
  pub sized : AllFit limit (moment_of e) r
  pub left_out : (x : Delivery) → low_order.LeftOutIn calls x → LeavesOut on limit e r x
  pub answered : (x : SentCopy) → AnsweredIn calls x → EndsIt on limit e x
  pub stays : StaysConnected e → AllByRecursion low_resends.StaysConnected calls
  pub numbers : AllByRecursion HasNumbers calls

pub record Projects (on : Bool) (limit : ℕ) (old : Outbox) (e : Event) (r : Reaction) (new : State) : Type 0 where
  pub calls : List Call
  pub runs : low.Run old calls new.outbox
  pub shows : Shows on (limit_after limit e) e r calls
  pub least : AllByRecursion (IsLeast new.outbox.copies) (sent_in r.packets)
  pub limited : HasLimit (limit_after limit e) new.link
  pub connected : connected_after on e r ≡ is_some new.link

-- ---- an event without calls
abbrev IsQuietEvent : Bool → ℕ → Event → Reaction → Type 0
IsQuietEvent on limit e r = (queued_by e ≡ []) × (marks_by on e ≡ []) × (once_by on limit e ≡ [])

quiet : (on : Bool) (limit : ℕ) (old : Outbox) (e : Event) (r : Reaction) (new : State) → IsQuietEvent on (limit_after limit e) e r → sent_in r.packets ≡ [] → sent_once_in r.packets ≡ [] → AllFit (limit_after limit e) (moment_of e) r → new.outbox ≡ old → HasLimit (limit_after limit e) new.link
    → connected_after on e r ≡ is_some new.link → Projects on limit old e r new
quiet on limit old e r new plain none once sized same limited connected = record {
  calls = [];
  runs = same;
  shows = record {
    offers = rw plain.0 refl;
    marks = rw (plain.1, none) refl;
    once = rw plain.2 once;
    sized = sized;
    left_out = λ x h. absurd h;
    answered = λ x h. absurd h;
    stays = λ _. tt;
    numbers = tt;
  };
  least = rw none tt;
  limited = limited;
  connected = connected;
}

-- the connection after a quiet event
pub after-quiet : (limit : ℕ) (on : Bool) (o : Option ℕ) (s : State) (r : Reaction) (new : State) → IsQuiet limit s r new → on ≡ is_some s.link → r.end ≡ o → (on && not (is_some r.end)) ≡ is_some new.link
after-quiet limit on None s r new q is e = rw e (let k = q.stays e in elim (cases_Bool on) [ inl t ↦ rw t (sym (k ∙ sym is ∙ t)) | inr t ↦ rw t (sym (k ∙ sym is ∙ t)) ])
after-quiet limit on (Some code) s r new q is e =
    let none = (q.ends (rw e refl)).1 in rw (e, none) (elim (cases_Bool on) [ inl t ↦ rw t refl | inr t ↦ rw t refl ])

-- ---- queue
stays-on : (on : Bool) (r : Reaction) (k : Option Link) → r.end ≡ None → on ≡ is_some k → (on && not (is_some r.end)) ≡ is_some k
stays-on true r k e is = rw e is
stays-on false r k e is = is

-- calls after the first, which there are on an open connection alone
record GoesOnward (now limit : ℕ) (o : Option Link) (old : Outbox) (sents : List Sent) (new : Outbox) : Type 0 where
  pub follows : Follows now limit old sents new
  pub left_out : (x : Delivery) → low_order.LeftOutIn follows.calls x → is_some o ≡ true
  pub answered : (x : SentCopy) → AnsweredIn follows.calls x → is_some o ≡ true

queued : (limit : ℕ) (o : Option Link) (room : Option ℕ) (old new : Outbox) (now : ℕ) (sents : List Sent) → HasLimit limit o → AreNumbered old.copies → GoesOn (limit_of o) now room old sents new → GoesOnward now limit o old sents new
queued limit None room old new now sents is n g = record { follows = unchanged now limit old new sents g.0 g.1; left_out = λ x h. absurd h; answered = λ x h. absurd h }
queued limit (Some l) room old new now sents is n g = record { follows = flushed now limit room old new sents n (rw is at g); left_out = λ x h. refl; answered = λ x h. refl }

pub none-queued : (o : Option Link) (now : ℕ) (d : Delivery) → sent_in (once_of (limit_of o) now d) ≡ []
none-queued None now d = refl
none-queued (Some l) now d = elim (cases_Bool (outbox.fits now l.limit d)) [ inl h ↦ rw h refl | inr h ↦ rw h refl ]

once-queued : (limit : ℕ) (o : Option Link) (now : ℕ) (d : Delivery) → HasLimit limit o → sent_once_in (once_of (limit_of o) now d) ≡ cond (is_some o && outbox.fits now limit d) (record { id = 0; dup = false; delivery = d } ∷ []) []
once-queued limit None now d is = refl
once-queued limit (Some l) now d is = rw (← is) (elim (cases_Bool (outbox.fits now l.limit d)) [ inl h ↦ rw h refl | inr h ↦ rw h refl ])

once-fits : (limit : ℕ) (o : Option Link) (now : ℕ) (d : Delivery) → HasLimit limit o → AllByRecursion (λ (x : Output). fits limit (packet_of now x) ≡ true) (once_of (limit_of o) now d)
once-fits limit None now d is = tt
once-fits limit (Some l) now d is = elim (cases_Bool (outbox.fits now l.limit d)) [
  | inl h ↦ rw h (rw (publish-length d now 0 false, ← is) h, tt)
  | inr h ↦ rw h tt
]

project-queue : (b on : Bool) (limit : ℕ) (old new : State) (d : Delivery) (now : ℕ) (r : Reaction) → is_once d.qos ≡ b → HasLimit limit old.link → on ≡ is_some old.link → AreNumbered old.outbox.copies → QueueIf b old d now r new
    → Projects on limit old.outbox (queues d now) r new
project-queue true on limit old new d now r is limited opens n q = record {
  calls = [];
  runs = rw q.1 refl;
  shows = record {
    offers = rw is refl;
    marks = rw (q.0, none-queued old.link now d) refl;
    once = rw (q.0, is, opens) (once-queued limit old.link now d limited);
    sized = rw q.0 (record { packets = once-fits limit old.link now d limited; last = tt });
    left_out = λ x h. absurd h;
    answered = λ x h. absurd h;
    stays = λ _. tt;
    numbers = tt;
  };
  least = rw (q.0, none-queued old.link now d) tt;
  limited = rw q.1 limited;
  connected = rw q.1 (stays-on on r old.link (rw q.0 refl) opens);
}
project-queue false on limit old new d now r is limited opens n (inl q) =
    let w = queued limit old.link old.room q.mid q.after now q.sents limited (numbered-step old.outbox q.mid (offered d Queued) q.offers n) q.goes_on in
    let f = w.follows in
    record {
      calls = offered d Queued ∷ f.calls;
      runs = (q.mid, q.offers, rw q.left f.runs);
      shows = record {
        offers = rw (is, f.offers) refl;
        marks = rw (q.reacts, sent-publishes now limit q.sents f.sound) f.marks;
        once = rw (q.reacts, is) (once-publishes now limit q.sents f.sound);
        sized = rw q.reacts (record { packets = publishes-fit now limit q.sents f.sound; last = tt });
        left_out = λ x h. elim h [ inl g ↦ absurd g | inr g ↦ inr (opens ∙ w.left_out x g, f.left_out x g) ];
        answered = λ x h. elim h [ inl g ↦ absurd g | inr g ↦ (opens ∙ w.answered x g, f.answered x g) ];
        stays = λ _. (tt, f.stays);
        numbers = (tt, f.numbers);
      };
      least = rw (q.reacts, sent-publishes now limit q.sents f.sound, q.left) f.least;
      limited = rw q.left limited;
      connected = rw q.left (stays-on on r old.link (rw q.reacts refl) opens);
    }
project-queue false on limit old new d now r is limited opens n (inr q) = record {
  calls = offered d Full ∷ [];
  runs = (old.outbox, q.offers, rw q.left refl);
  shows = record {
    offers = rw is refl;
    marks = rw q.reacts refl;
    once = rw (q.reacts, is) refl;
    sized = rw q.reacts (record { packets = tt; last = tt });
    left_out = λ x h. elim h [ inl g ↦ inl (rw q.reacts refl, g) | inr g ↦ absurd g ];
    answered = λ x h. elim h [ inl g ↦ absurd g | inr g ↦ absurd g ];
    stays = λ _. (tt, tt);
    numbers = (tt, tt);
  };
  least = rw q.reacts tt;
  limited = rw q.left limited;
  connected = rw q.left (stays-on on r old.link (rw q.reacts refl) opens);
}

-- ---- room
project-room : (on : Bool) (limit : ℕ) (old new : State) (bytes now : ℕ) (r : Reaction) → HasLimit limit old.link → on ≡ is_some old.link → AreNumbered old.outbox.copies → RoomStep bytes now old r new
    → Projects on limit old.outbox (rooms bytes now) r new
project-room on limit old new bytes now r limited opens n q =
    let w = queued limit old.link (Some bytes) old.outbox q.after now q.sents limited n q.goes_on in
    let f = w.follows in
    record {
      calls = f.calls;
      runs = rw q.left f.runs;
      shows = record {
        offers = f.offers;
        marks = rw (q.reacts, sent-publishes now limit q.sents f.sound) f.marks;
        once = rw q.reacts (once-publishes now limit q.sents f.sound);
        sized = rw q.reacts (record { packets = publishes-fit now limit q.sents f.sound; last = tt });
        left_out = λ x g. (opens ∙ w.left_out x g, f.left_out x g);
        answered = λ x g. (opens ∙ w.answered x g, f.answered x g);
        stays = λ _. f.stays;
        numbers = f.numbers;
      };
      least = rw (q.reacts, sent-publishes now limit q.sents f.sound, q.left) f.least;
      limited = rw q.left limited;
      connected = rw q.left (stays-on on r old.link (rw q.reacts refl) opens);
    }

-- ---- connect
-- its first call takes the client's Receive Maximum
pub record Begun (on : Bool) (limit : ℕ) (old : Outbox) (c : Connect) (e : Event) (r : Reaction) (new : State) : Type 0 where
  pub rest : List Call
  pub runs : low.Run old (resumed (maximum_in c) ∷ rest) new.outbox
  pub shows : Shows on (limit_after limit e) e r (resumed (maximum_in c) ∷ rest)
  pub least : AllByRecursion (IsLeast new.outbox.copies) (sent_in r.packets)
  pub limited : HasLimit (limit_after limit e) new.link
  pub connected : connected_after on e r ≡ is_some new.link
  pub stays : AllByRecursion low_resends.StaysConnected rest

begun-opens : (on : Bool) (limit : ℕ) (old new : State) (c : Connect) (p : Packet) (continued : Bool) (room : Option ℕ) (now : ℕ) (r : Reaction) → AreNumbered old.outbox.copies → fits (limit_in c.properties) p ≡ true → ((id : ℕ) → fits (limit_in c.properties) (pubrel id 0) ≡ true) → Opens old c p room now r new → Begun on limit old.outbox c (connects c continued room now) r new
begun-opens on limit old new c p continued room now r n fit rels o =
    let f = flushed now (limit_in c.properties) room (resumed_by old.outbox c) o.after o.sents (numbered-step old.outbox (resumed_by old.outbox c) (resumed (maximum_in c)) refl n) o.flushes in
    record {
      rest = listed o.ids ∷ f.calls;
      runs = (resumed_by old.outbox c, refl, (resumed_by old.outbox c, o.lists, rw o.left f.runs));
      shows = record {
        offers = f.offers;
        marks = rw (o.reacts, sent-pubrels o.ids, sent-publishes now (limit_in c.properties) o.sents f.sound, f.marks) refl;
        once = rw (o.reacts, once-pubrels o.ids, once-publishes now (limit_in c.properties) o.sents f.sound) refl;
        sized = rw o.reacts (record { packets = (fit, pubrels-fit now (limit_in c.properties) o.ids (publishes_of o.sents) rels (publishes-fit now (limit_in c.properties) o.sents f.sound)); last = tt });
        left_out = λ x h. elim h [ inl g ↦ absurd g | inr g ↦ elim g [ inl k ↦ absurd k | inr k ↦ f.left_out x k ] ];
        answered = λ x h. elim h [ inl g ↦ absurd g | inr g ↦ elim g [ inl k ↦ absurd k | inr k ↦ f.answered x k ] ];
        stays = λ h. absurd h;
        numbers = (tt, (tt, f.numbers));
      };
      least = rw (o.reacts, sent-pubrels o.ids, sent-publishes now (limit_in c.properties) o.sents f.sound, o.left) f.least;
      limited = rw o.left refl;
      connected = rw (o.reacts, o.left) refl;
      stays = (tt, f.stays);
    }

begun-if : (b on : Bool) (limit : ℕ) (old new : State) (c : Connect) (p : Packet) (continued : Bool) (room : Option ℕ) (now : ℕ) (r : Reaction) → AreNumbered old.outbox.copies → fits (limit_in c.properties) p ≡ b → (fits (limit_in c.properties) p ≡ true → (id : ℕ) → fits (limit_in c.properties) (pubrel id 0) ≡ true) → OpensIf b old c p room now r new → Begun on limit old.outbox c (connects c continued room now) r new
begun-if true on limit old new c p continued room now r n fit rels o = begun-opens on limit old new c p continued room now r n fit (rels fit) o
begun-if false on limit old new c p continued room now r n fit rels o = record {
  rest = [];
  runs = (resumed_by old.outbox c, refl, rw o.1 refl);
  shows = record {
    offers = refl;
    marks = rw o.0 refl;
    once = rw o.0 refl;
    sized = rw o.0 (record { packets = tt; last = inl refl });
    left_out = λ x h. elim h [ inl g ↦ absurd g | inr g ↦ absurd g ];
    answered = λ x h. elim h [ inl g ↦ absurd g | inr g ↦ absurd g ];
    stays = λ h. absurd h;
    numbers = (tt, tt);
  };
  least = rw o.0 tt;
  limited = rw o.1 tt;
  connected = rw (o.0, o.1) refl;
  stays = tt;
}

pub begun : (on : Bool) (limit : ℕ) (old new : State) (c : Connect) (continued : Bool) (room : Option ℕ) (now : ℕ) (r : Reaction) → AreNumbered old.outbox.copies → ConnectStep c continued room now old r new → Begun on limit old.outbox c (connects c continued room now) r new
begun on limit old new c continued room now r n h =
    begun-if (fits (limit_in c.properties) (connack continued c.client old.kept.client)) on limit old new c (connack continued c.client old.kept.client) continued room now r n refl
    (λ fit id. pubrel-fits continued c.client old.kept.client (limit_in c.properties) id fit) h

-- ---- answers for what was sent
after-ack : (a : Ack) (now limit : ℕ) (room : Option ℕ) (old new : Outbox) (sents : List Sent) → AreNumbered old.copies → GoesOnAfter a now limit room old sents new → Follows now limit old sents new
after-ack Done now limit room old new sents n h = flushed now limit room old new sents n h
after-ack Unknown now limit room old new sents n h = unchanged now limit old new sents h.0 h.1

answers-ack : (id : ℕ) (a : Ack) (x : SentCopy) → Answers (acknowledged id a) x → x.0 ≡ id
answers-ack id Done x h = h
answers-ack id Unknown x h = absurd h

answers-rec : (id reason : ℕ) (a : Rec) (x : SentCopy) → Answers (received id reason a) x → x.0 ≡ id
answers-rec id reason rec.Release x h = h
answers-rec id reason rec.Ended x h = h
answers-rec id reason rec.Unknown x h = absurd h
answers-rec id reason rec.AtEnd x h = absurd h

project-puback : (limit : ℕ) (s new : State) (a : ack_packets.Ack) (now : ℕ) (room : Bool) (r : Reaction) → HasLimit limit s.link → true ≡ is_some s.link → AreNumbered s.outbox.copies → PubackStep a.identifier now limit s r new
    → Projects true limit s.outbox (takes (packets.Puback a) now room) r new
project-puback limit s new a now room r is opens n p =
    let f = after-ack p.answer now limit s.room p.mid p.after p.sents (numbered-step s.outbox p.mid (acknowledged a.identifier p.answer) p.takes n) p.goes_on in
    record {
      calls = acknowledged a.identifier p.answer ∷ f.calls;
      runs = (p.mid, p.takes, rw p.left f.runs);
      shows = record {
        offers = f.offers;
        marks = rw (p.reacts, sent-publishes now limit p.sents f.sound, f.marks) refl;
        once = rw p.reacts (once-publishes now limit p.sents f.sound);
        sized = rw p.reacts (record { packets = publishes-fit now limit p.sents f.sound; last = tt });
        left_out = λ x h. elim h [ inl g ↦ absurd g | inr g ↦ (refl, f.left_out x g) ];
        answered = λ x h. elim h [ inl g ↦ (refl, inl (answers-ack a.identifier p.answer x g)) | inr g ↦ (refl, inr (f.answered x g)) ];
        stays = λ _. (tt, f.stays);
        numbers = (tt, f.numbers);
      };
      least = rw (p.reacts, sent-publishes now limit p.sents f.sound, p.left) f.least;
      limited = rw p.left is;
      connected = rw p.left (stays-on true r s.link (rw p.reacts refl) opens);
    }

project-pubcomp : (limit : ℕ) (s new : State) (a : ack_packets.Ack) (now : ℕ) (room : Bool) (r : Reaction) → HasLimit limit s.link → true ≡ is_some s.link → AreNumbered s.outbox.copies → PubcompStep a.identifier now limit s r new
    → Projects true limit s.outbox (takes (packets.Pubcomp a) now room) r new
project-pubcomp limit s new a now room r is opens n p =
    let f = after-ack p.answer now limit s.room p.mid p.after p.sents (numbered-step s.outbox p.mid (completed a.identifier p.answer) p.takes n) p.goes_on in
    record {
      calls = completed a.identifier p.answer ∷ f.calls;
      runs = (p.mid, p.takes, rw p.left f.runs);
      shows = record {
        offers = f.offers;
        marks = rw (p.reacts, sent-publishes now limit p.sents f.sound, f.marks) refl;
        once = rw p.reacts (once-publishes now limit p.sents f.sound);
        sized = rw p.reacts (record { packets = publishes-fit now limit p.sents f.sound; last = tt });
        left_out = λ x h. elim h [ inl g ↦ absurd g | inr g ↦ (refl, f.left_out x g) ];
        answered = λ x h. elim h [ inl g ↦ absurd g | inr g ↦ (refl, inr (f.answered x g)) ];
        stays = λ _. (tt, f.stays);
        numbers = (tt, f.numbers);
      };
      least = rw (p.reacts, sent-publishes now limit p.sents f.sound, p.left) f.least;
      limited = rw p.left is;
      connected = rw p.left (stays-on true r s.link (rw p.reacts refl) opens);
    }

-- a PUBREC after which nothing is sent
received-quiet : (k : Rec) (limit : ℕ) (s new : State) (a : ack_packets.Ack) (now : ℕ) (room : Bool) (r : Reaction) (mid : Outbox) → true ≡ is_some s.link → HasNumbers (received a.identifier a.reason k)
    → ReceivedStep s.outbox a.identifier a.reason k mid → IsQuiet limit (with_outbox s mid) r new → Projects true limit s.outbox (takes (packets.Pubrec a) now room) r new
received-quiet k limit s new a now room r mid opens numbers step q = record {
  calls = received a.identifier a.reason k ∷ [];
  runs = (mid, step, q.same);
  shows = record {
    offers = refl;
    marks = rw (none-sent limit r.packets q.plain) refl;
    once = none-once limit r.packets q.plain;
    sized = record { packets = answers-fit limit now r.packets q.plain; last = q.last };
    left_out = λ x h. elim h [ inl g ↦ absurd g | inr g ↦ absurd g ];
    answered = λ x h. elim h [ inl g ↦ (refl, inl (answers-rec a.identifier a.reason k x g)) | inr g ↦ absurd g ];
    stays = λ _. (tt, tt);
    numbers = (numbers, tt);
  };
  least = rw (none-sent limit r.packets q.plain) tt;
  limited = q.limited;
  connected = after-quiet limit true r.end (with_outbox s mid) r new q opens refl;
}

pub comes-quiet : (limit : ℕ) (p : Packet) (s new : State) (r : Reaction) → HasLimit limit s.link → Comes (answered limit p None s) r new → IsQuiet limit s r new
comes-quiet limit p s new r is c = rw c.0 (rw c.1 (quiet-answered limit p None s s refl refl refl is))

pub unknown-quiet : (id reason limit : ℕ) (s new : State) (r : Reaction) → HasLimit limit s.link → SaysUnknown id reason limit s r new → IsQuiet limit s r new
unknown-quiet id reason limit s new r is (inl h) = comes-quiet limit (pubrel id 146) s new r is h.1
unknown-quiet id reason limit s new r is (inr h) = rw (h.1, h.2) (still limit s s None false false refl refl refl is)

project-pubrec : (k : Rec) (limit : ℕ) (s new : State) (a : ack_packets.Ack) (now : ℕ) (room : Bool) (r : Reaction) (mid : Outbox) → HasLimit limit s.link → true ≡ is_some s.link → AreNumbered s.outbox.copies
    → ReceivedStep s.outbox a.identifier a.reason k mid → PubrecBy k a.identifier a.reason now limit s mid r new → Projects true limit s.outbox (takes (packets.Pubrec a) now room) r new
project-pubrec rec.Release limit s new a now room r mid is opens n step p = received-quiet rec.Release limit s new a now room r mid opens tt step (comes-quiet limit (pubrel a.identifier 0) (with_outbox s mid) new r is p)
project-pubrec rec.Unknown limit s new a now room r mid is opens n step p = received-quiet rec.Unknown limit s new a now room r mid opens tt step (unknown-quiet a.identifier a.reason limit (with_outbox s mid) new r is p)
project-pubrec rec.AtEnd limit s new a now room r mid is opens n step p = absurd p
project-pubrec rec.Ended limit s new a now room r mid is opens n step p =
    let f = flushed now limit s.room mid p.after p.sents (numbered-step s.outbox mid (received a.identifier a.reason rec.Ended) step n) p.flushes in
    record {
      calls = received a.identifier a.reason rec.Ended ∷ f.calls;
      runs = (mid, step, rw p.left f.runs);
      shows = record {
        offers = f.offers;
        marks = rw (p.reacts, sent-publishes now limit p.sents f.sound, f.marks) refl;
        once = rw p.reacts (once-publishes now limit p.sents f.sound);
        sized = rw p.reacts (record { packets = publishes-fit now limit p.sents f.sound; last = tt });
        left_out = λ x h. elim h [ inl g ↦ absurd g | inr g ↦ (refl, f.left_out x g) ];
        answered = λ x h. elim h [ inl g ↦ (refl, inl (answers-rec a.identifier a.reason rec.Ended x g)) | inr g ↦ (refl, inr (f.answered x g)) ];
        stays = λ _. (tt, f.stays);
        numbers = (tt, f.numbers);
      };
      least = rw (p.reacts, sent-publishes now limit p.sents f.sound, p.left) f.least;
      limited = rw p.left is;
      connected = rw p.left (stays-on true r s.link (rw p.reacts refl) opens);
    }

project-handshake : (limit : ℕ) (s new : State) (p : Packet) (now : ℕ) (room : Bool) (r : Reaction) → HasLimit limit s.link → true ≡ is_some s.link → AreNumbered s.outbox.copies → IsHandshake p now limit s r new
    → Projects true limit s.outbox (takes p now room) r new
project-handshake limit s new (packets.Puback a) now room r is opens n h = project-puback limit s new a now room r is opens n h
project-handshake limit s new (packets.Pubrec a) now room r is opens n h = project-pubrec h.answer limit s new a now room r h.mid is opens n h.takes h.goes_on
project-handshake limit s new (packets.Pubcomp a) now room r is opens n h = project-pubcomp limit s new a now room r is opens n h
project-handshake limit s new p now room r is opens n h = absurd h

project-kind : (limit : ℕ) (s new : State) (p : Packet) (now : ℕ) (room : Bool) (r : Reaction) → HasLimit limit s.link → true ≡ is_some s.link → AreNumbered s.outbox.copies → KindStep p now room limit s r new
    → Projects true limit s.outbox (takes p now room) r new
project-kind limit s new p now room r is opens n h = elim (kinds p now room limit s r new is h) [
  | inl q ↦ quiet true limit s.outbox (takes p now room) r new (refl, q.1, refl) (none-sent limit r.packets q.0.plain) (none-once limit r.packets q.0.plain) (record { packets = answers-fit limit now r.packets q.0.plain; last = q.0.last }) q.0.same q.0.limited (after-quiet limit true r.end s r new q.0 opens refl)
  | inr t ↦ project-handshake limit s new p now room r is opens n t
]

pub heard-limit : (limit now : ℕ) (l : Link) (s : State) → l.limit ≡ limit → s.link ≡ Some l → HasLimit limit (heard s now).link
heard-limit limit now l s is e = rw e is

project-packet : (o : Option Link) (on : Bool) (limit : ℕ) (old new : State) (p : Packet) (now : ℕ) (room : Bool) (r : Reaction) → old.link ≡ o → HasLimit limit o → on ≡ is_some o → AreNumbered old.outbox.copies → PacketIf (limit_of o) p now room old r new
    → Projects on limit old.outbox (takes p now room) r new
project-packet None on limit old new p now room r e is opens n h =
    rw opens (quiet false limit old.outbox (takes p now room) r new (refl, refl, refl) (rw h.0 refl) (rw h.0 refl) (rw h.0 (record { packets = tt; last = tt })) (rw h.1 refl) (rw (h.1, e) tt) (rw (h.1, e) refl))
project-packet (Some l) on limit old new p now room r e is opens n h =
    rw opens (project-kind limit (heard old now) new p now room r (heard-limit limit now l old is e) (rw e refl) n (rw is at h))

-- ---- the others
project-quiet : (on : Bool) (limit : ℕ) (old new : State) (e : Event) (r : Reaction) → IsQuietEvent on (limit_after limit e) e r → connected_after on e r ≡ (on && not (is_some r.end)) → limit_after limit e ≡ limit → on ≡ is_some old.link → IsQuiet limit old r new → Projects on limit old.outbox e r new
project-quiet on limit old new e r plain alike same opens q =
    quiet on limit old.outbox e r new plain (none-sent limit r.packets q.plain) (none-once limit r.packets q.plain) (record { packets = answers-fit (limit_after limit e) (moment_of e) r.packets (rw same q.plain); last = rw same q.last }) q.same (rw same q.limited) (alike ∙ after-quiet limit on r.end old r new q opens refl)

project-lost : (on : Bool) (limit : ℕ) (old new : State) (r : Reaction) → Reacts old loses r new → Projects on limit old.outbox loses r new
project-lost on limit old new r h = record {
  calls = lost ∷ [];
  runs = (new.outbox, h.outbox, refl);
  shows = record {
    offers = refl;
    marks = rw h.quiet refl;
    once = rw h.quiet refl;
    sized = rw h.quiet (record { packets = tt; last = tt });
    left_out = λ x t. elim t [ inl g ↦ absurd g | inr g ↦ absurd g ];
    answered = λ x t. elim t [ inl g ↦ absurd g | inr g ↦ absurd g ];
    stays = λ t. absurd t;
    numbers = (tt, tt);
  };
  least = rw h.quiet tt;
  limited = rw h.link tt;
  connected = rw h.link refl;
}

pub project : (on : Bool) (limit : ℕ) (old new : State) (e : Event) (r : Reaction) → HasLimit limit old.link → on ≡ is_some old.link → AreNumbered old.outbox.copies → Reacts old e r new → Projects on limit old.outbox e r new
project on limit old new (connects c continued room now) r is opens n h =
    let b = begun on limit old new c continued room now r n h.1 in
    record { calls = resumed (maximum_in c) ∷ b.rest; runs = b.runs; shows = b.shows; least = b.least; limited = b.limited; connected = b.connected }
project on limit old new (queues d now) r is opens n h = project-queue (is_once d.qos) on limit old new d now r refl is opens n h
project on limit old new (rooms bytes now) r is opens n h = project-room on limit old new bytes now r is opens n h
project on limit old new (takes p now room) r is opens n h = project-packet old.link on limit old new p now room r refl is opens n h
project on limit old new (answers id codes) r is opens n h = project-quiet on limit old new (answers id codes) r (refl, refl, refl) refl refl opens (quiet-answer old.link limit id codes old r new refl is h)
project on limit old new (closes now) r is opens n h = quiet on limit old.outbox (closes now) r new (refl, refl, refl) (rw h.0 refl) (rw h.0 refl) (rw h.0 (record { packets = tt; last = tt })) (rw h.1 refl) (rw h.1 tt) (rw h.1 refl)
project on limit old new (ticks now) r is opens n h = project-quiet on limit old new (ticks now) r (refl, refl, refl) refl refl opens (quiet-tick limit now old r new is h)
project on limit old new (finishes now) r is opens n h = quiet on limit old.outbox (finishes now) r new (refl, refl, refl) (rw h.0 refl) (rw h.0 refl) (rw h.0 (record { packets = tt; last = tt })) (rw h.1 refl) (rw h.1 tt) (rw h.1 refl)
project on limit old new loses r is opens n h = project-lost on limit old new r h
