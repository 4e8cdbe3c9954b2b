-- A run of sends, with the packets that they write.
use Rattle.std.proofs.Common.{◌≡◌, ◌≢◌, ℕ, ◌+◌, ◌<◌, ◌≤◌, Bool, true, false, cond, List, [], ◌∷◌, ◌++◌, Option, Some, None, Result, Ok, Err, refl, ap, sym, subst, ◌∙◌, arith, inl, inr, append_assoc}
use Rattle.std.specs.Result.{OnErr}
use Rattle.std.proofs.lemmas.Bool.{cases_Bool, false≢true}
use Rattle.mqtt_packets.specs.Written.{HasSpelling}
use Rattle.mqtt_message.specs.declared.delivery.Delivery.{Delivery}
use Rattle.qos_handshakes.specs.declared.answers.Offer.TheVariants.{Queued}
use Rattle.qos_handshakes.specs.declared.copies.Entry.{Entry}
use Rattle.qos_handshakes.specs.declared.copies.Stage.{Stage}
use Rattle.qos_handshakes.specs.declared.copies.Stage.TheVariants.{Waiting, Published, Released}
use Rattle.qos_handshakes.specs.Entries.{Entries}
use Rattle.qos_handshakes.specs.Outbox.{Outbox, Sent, NextStep, OfferStep, is_owed, waits, waiting, fits, is_sendable, first_owed, after_resend, first_waiting, after_send}
use Rattle.qos_handshakes.proofs.EntryLaws.{waits-owed}
use Rattle.mqtt_sessions.specs.declared.reaction.Output.{Output}
use Rattle.mqtt_sessions.specs.declared.reaction.Output.TheVariants.{Answer}
use Rattle.mqtt_sessions.specs.Answers.{pubrel}
use Rattle.mqtt_sessions.specs.Reaction.{AreSpelled, Reaction, packet_of, publish_of, publishes_of, pubrels_of, says}
use Rattle.mqtt_sessions.specs.Sending.{SendsAll, StopsIf, Flushes, GoesOn, MayFlush, QueueIf, QueueStep, RoomStep, is_once, owed, with_room}
use Rattle.mqtt_sessions.specs.State.{State, has_room, limit_of, room_after, room_less, with_outbox}

-- ---- each send leaves less to be sent
abbrev pub weight : Entry → ℕ
weight x = cond (is_owed x) 1 (cond (waits x.stage) 1 0)

abbrev pub to_send : Entries → ℕ
to_send [] = 0
to_send (e ∷ es) = weight e.1 + to_send es

owed-here : (s : Stage) (h : Bool) (d : Delivery) → is_owed (record { stage = s; here = h; delivery = d }) ≡ true → weight (record { stage = s; here = true; delivery = d }) ≡ 0
owed-here Waiting h d o = absurd (false≢true o)
owed-here (Published id) h d o = refl
owed-here (Released id order) h d o = absurd (false≢true o)

resend-most : (now limit : ℕ) (es : Entries) → to_send (after_resend now limit es) ≤ to_send es
resend-most now limit [] = omega arith
resend-most now limit (e ∷ es) = elim (cases_Bool (is_owed e.1)) [
  | inl o ↦ elim (cases_Bool (fits now limit e.1.delivery)) [
    | inl g ↦ rw (o, g) (omega (arith, owed-here e.1.stage e.1.here e.1.delivery o))
    | inr g ↦ rw (o, g) (omega (arith, resend-most now limit es))
  ]
  | inr o ↦ rw (o, o) (omega (arith, resend-most now limit es))
]

resend-less : (now limit : ℕ) (s : Sent) (es : Entries) → first_owed now limit es ≡ Some s → to_send (after_resend now limit es) < to_send es
resend-less now limit s [] is = (cc is)
resend-less now limit s (e ∷ es) is = elim (cases_Bool (is_owed e.1)) [
  | inl o ↦ elim (cases_Bool (fits now limit e.1.delivery)) [
    | inl g ↦ rw (o, g) (omega (arith, owed-here e.1.stage e.1.here e.1.delivery o))
    | inr g ↦ rw (o, g) (omega (arith, resend-most now limit es))
  ]
  | inr o ↦ rw (o, o) (omega (arith, resend-less now limit s es (rw o at is)))
]

send-less : (now limit id : ℕ) (d : Delivery) (es : Entries) → first_waiting now limit es ≡ Some d → to_send (after_send now limit id es) < to_send es
send-less now limit id d [] is = (cc is)
send-less now limit id d (e ∷ es) is = elim (cases_Bool (waits e.1.stage)) [
  | inl w ↦ let o = waits-owed e.1 w in elim (cases_Bool (is_sendable now limit e.1.delivery)) [
    | inl g ↦ rw (w, g, o) (omega arith)
    | inr g ↦ rw (w, g, o) (omega (arith, send-less now limit id d es (rw (w, g) at is)))
  ]
  | inr w ↦ rw (w, w) (omega (arith, send-less now limit id d es (rw w at is)))
]

pub sends-less : (now limit : ℕ) (old new : Outbox) (s : Sent) → NextStep now limit old (Some s) new → to_send new.copies < to_send old.copies
sends-less now limit old new s (inl n) = rw n.left (resend-less now limit s old.copies n.sent)
sends-less now limit old new s (inr n) =
    rw n.left (omega (arith, send-less now limit s.id s.copy (after_resend now limit old.copies) n.sent, resend-most now limit old.copies))

-- ---- what has been sent, and written
pub spelled-append : (now : ℕ) (ps qs : List Output) → AreSpelled now ps → AreSpelled now qs → AreSpelled now (ps ++ qs)
spelled-append now [] qs all more = more
spelled-append now (p ∷ ps) qs all more = (all.0, spelled-append now ps qs all.1 more)

pub record HasSent (now limit : ℕ) (start : Option ℕ) (old : Outbox) (before : List Output) (room : Option ℕ) (outbox : Outbox) (packets : List Output) : Type 0 where
  pub sents : List Sent
  pub sends : SendsAll now limit start old sents outbox
  pub left : room ≡ room_after now start sents
  pub written : packets ≡ before ++ publishes_of sents
  pub spelled : AreSpelled now packets

append-nil : {A : Type 0} (xs : List A) → xs ++ [] ≡ xs
append-nil [] = refl
append-nil (x ∷ xs) = ap (λ ys. x ∷ ys) (append-nil xs)

pub sent-none : (now limit : ℕ) (start : Option ℕ) (old : Outbox) (before : List Output) → AreSpelled now before → HasSent now limit start old before start old before
sent-none now limit start old before all = record { sents = []; sends = refl; left = refl; written = sym (append-nil before); spelled = all }

pub room-more : (now : ℕ) (room : Option ℕ) (sents : List Sent) (s : Sent) → room_after now room (sents ++ s ∷ []) ≡ room_less now (room_after now room sents) s.copy
room-more now room [] s = refl
room-more now room (t ∷ sents) s = room-more now (room_less now room t.copy) sents s

pub sends-more : (now limit : ℕ) (room : Option ℕ) (old mid new : Outbox) (sents : List Sent) (s : Sent) → SendsAll now limit room old sents mid → has_room (room_after now room sents) ≡ true → NextStep now limit mid (Some s) new
    → SendsAll now limit room old (sents ++ s ∷ []) new
sends-more now limit room old mid new [] s all has n = (has, new, rw (← all) n, refl)
sends-more now limit room old mid new (t ∷ sents) s all has n = (all.0, all.1, all.2, sends-more now limit (room_less now room t.copy) all.1 mid new sents s all.3 has n)

publishes-more : (sents : List Sent) (s : Sent) → publishes_of (sents ++ s ∷ []) ≡ publishes_of sents ++ publish_of s ∷ []
publishes-more [] s = refl
publishes-more (t ∷ sents) s = ap (λ (ps : List Output). publish_of t ∷ ps) (publishes-more sents s)

pub sent-more : (now limit : ℕ) (start : Option ℕ) (old : Outbox) (before : List Output) (room : Option ℕ) (mid new : Outbox) (packets : List Output) (s : Sent) → HasSent now limit start old before room mid packets → has_room room ≡ true
    → NextStep now limit mid (Some s) new → HasSpelling (packet_of now (publish_of s)) → HasSent now limit start old before (room_less now room s.copy) new (packets ++ publish_of s ∷ [])
sent-more now limit start old before room mid new packets s h has n is = record {
  sents = h.sents ++ s ∷ [];
  sends = sends-more now limit start old mid new h.sents s h.sends (subst (λ (left : Option ℕ). has_room left ≡ true) h.left has) n;
  left = ap (λ (left : Option ℕ). room_less now left s.copy) h.left ∙ sym (room-more now start h.sents s);
  written = rw (h.written, publishes-more h.sents s, append_assoc before (publishes_of h.sents) (publish_of s ∷ [])) refl;
  spelled = spelled-append now packets (publish_of s ∷ []) h.spelled (is, tt);
}

pub sent-all : (now limit : ℕ) (start : Option ℕ) (old : Outbox) (before : List Output) (room : Option ℕ) (last new : Outbox) (packets : List Output) → HasSent now limit start old before room last packets → StopsIf (has_room room) now limit last new
    → (sents : List Sent) × Flushes now limit start old sents new × (packets ≡ before ++ publishes_of sents) × (room ≡ room_after now start sents)
sent-all now limit start old before room last new packets h stops =
    (h.sents, record { last = last; sends = h.sends; stops = subst (λ (left : Option ℕ). StopsIf (has_room left) now limit last new) h.left stops }, h.written, h.left)

-- no room is left, or nothing more can be sent
pub stops-full : (now limit : ℕ) (has : Bool) (last : Outbox) → has ≡ false → StopsIf has now limit last last
stops-full now limit true last is = absurd (false≢true (sym is))
stops-full now limit false last is = refl

pub stops-none : (now limit : ℕ) (has : Bool) (last new : Outbox) → has ≡ true → NextStep now limit last None new → StopsIf has now limit last new
stops-none now limit true last new is n = n
stops-none now limit false last new is n = absurd (false≢true is)

-- ---- where something may be sent
pub on-err : {A E : Type 0} (r : Result A E) (P : Type 0) → P → OnErr r P
on-err (Ok a) P p = tt
on-err (Err e) P p = p

some-owed : (now limit : ℕ) (s : Sent) (es : Entries) → first_owed now limit es ≡ Some s → owed es ≢ []
some-owed now limit s [] is = λ n. (cc is)
some-owed now limit s (e ∷ es) is = elim (cases_Bool (is_owed e.1)) [
  | inl o ↦ rw o (λ n. (cc n))
  | inr o ↦ rw o (some-owed now limit s es (rw o at is))
]

first-waits : (now limit : ℕ) (d : Delivery) (es : Entries) → first_waiting now limit es ≡ Some d → waiting es ≢ []
first-waits now limit d [] is = λ n. (cc is)
first-waits now limit d (e ∷ es) is = elim (cases_Bool (waits e.1.stage)) [
  | inl w ↦ rw w (λ n. (cc n))
  | inr w ↦ rw w (first-waits now limit d es (rw w at is))
]

some-waits : (now limit : ℕ) (d : Delivery) (es : Entries) → first_waiting now limit (after_resend now limit es) ≡ Some d → waiting es ≢ []
some-waits now limit d [] is = λ n. (cc is)
some-waits now limit d (e ∷ es) is = elim (cases_Bool (waits e.1.stage)) [
  | inl w ↦ rw w (λ n. (cc n))
  | inr w ↦ rw w (elim (cases_Bool (is_owed e.1)) [
    | inl o ↦ elim (cases_Bool (fits now limit e.1.delivery)) [
      | inl g ↦ first-waits now limit d es (rw (o, g, w) at is)
      | inr g ↦ some-waits now limit d es (rw (o, g) at is)
    ]
    | inr o ↦ some-waits now limit d es (rw (o, w) at is)
  ])
]

may-send : (now limit : ℕ) (room : Option ℕ) (old new : Outbox) (s : Sent) → has_room room ≡ true → NextStep now limit old (Some s) new → MayFlush room old
may-send now limit room old new s has (inl n) = (has, n.quota, inl (some-owed now limit s old.copies n.sent))
may-send now limit room old new s has (inr n) = (has, n.quota, inr (some-waits now limit s.copy old.copies n.sent))

may-from : (now limit : ℕ) (start room : Option ℕ) (old mid : Outbox) (sents : List Sent) → SendsAll now limit start old sents mid → room ≡ room_after now start sents → MayFlush room mid → MayFlush start old
may-from now limit start room old mid [] all left may = subst (λ (r : Option ℕ). MayFlush r old) left (subst (λ (o : Outbox). MayFlush room o) all may)
may-from now limit start room old mid (s ∷ sents) all left may = may-send now limit start old all.1 s all.0 all.2

pub may-flush : (now limit : ℕ) (start : Option ℕ) (old : Outbox) (before : List Output) (room : Option ℕ) (mid : Outbox) (packets : List Output) → HasSent now limit start old before room mid packets → MayFlush room mid → MayFlush start old
may-flush now limit start old before room mid packets h may = may-from now limit start room old mid h.sents h.sends h.left may

pub may-flush-more : (now limit : ℕ) (start : Option ℕ) (old : Outbox) (before : List Output) (room : Option ℕ) (mid new : Outbox) (packets : List Output) (s : Sent) → HasSent now limit start old before room mid packets → has_room room ≡ true
    → NextStep now limit mid (Some s) new → MayFlush start old
may-flush-more now limit start old before room mid new packets s h has n = may-flush now limit start old before room mid packets h (may-send now limit room mid new s has n)

-- ---- where the client isn't connected
pub joins : (old : State) (d : Delivery) (now : ℕ) (mid : Outbox) (r : Reaction) → is_once d.qos ≡ false → limit_of old.link ≡ None → OfferStep old.outbox d Queued mid → r ≡ says [] → QueueStep d now old r (with_outbox old mid)
joins old d now mid r kept none offers is = subst (λ b. QueueIf b old d now r (with_outbox old mid)) (sym kept)
    (inl (record { mid = mid; after = mid; sents = []; offers = offers; goes_on = subst (λ l. GoesOn l now old.room mid [] mid) (sym none) (refl, refl); reacts = is; left = refl }))

pub has-made-room : (old : State) (bytes now : ℕ) (r : Reaction) → limit_of old.link ≡ None → r ≡ says [] → RoomStep bytes now old r (with_room old bytes)
has-made-room old bytes now r none is = record { after = old.outbox; sents = []; goes_on = subst (λ l. GoesOn l now (Some bytes) old.outbox [] old.outbox) (sym none) (refl, refl); reacts = is; left = refl }

pub pubrels-more : (ids : List ℕ) (id : ℕ) → pubrels_of (ids ++ id ∷ []) ≡ pubrels_of ids ++ Answer (pubrel id 0) ∷ []
pubrels-more [] id = refl
pubrels-more (k ∷ ids) id = ap (λ (ps : List Output). Answer (pubrel k 0) ∷ ps) (pubrels-more ids id)
