-- What an event takes from the queue.
use Rattle.std.proofs.Common.{◌≡◌, ℕ, ◌+◌, ◌<◌, ◌≤◌, ◌⊎◌, Bool, true, false, not, List, [], ◌∷◌, ◌++◌, Option, Some, None, length, refl, sym, ◌∙◌, ap, inl, inr, arith, append_assoc, length-append}
use Rattle.std.specs.Prelude.{◌&&◌, nat_le}
use Rattle.std.specs.List.{AllByRecursion}
use Rattle.std.proofs.lemmas.Bool.{cases_Bool, and_cases, leb-false, leb-true, le-leb}
use Rattle.mqtt_packets.specs.declared.connect.Connect.{Connect}
use Rattle.mqtt_packets.specs.declared.packet.Packet.{Packet}
use Rattle.mqtt_message.specs.declared.delivery.Delivery.{Delivery}
use Rattle.mqtt_message.specs.Messages.{is_alive}
use Rattle.qos_handshakes.specs.Length.{length_of}
use Rattle.qos_handshakes.specs.Entries.{Entries, NoneFree, find_id, has_id}
use Rattle.qos_handshakes.specs.Outbox.{Outbox, Sent, NextStep, after_resend, after_send, first_owed, first_waiting, fits, in_flight, is_owed, is_sendable, resent, waiting, waits}
use Rattle.qos_handshakes.proofs.Indexed.{waits-has}
use Rattle.law_handshakes.proofs.ChosenLaws.{append-nil}
use Rattle.law_handshakes.proofs.OrderLaws.{resent-dup, waiting-after_resend}
use Rattle.mqtt_sessions.specs.Answers.{connack, fits as fits_in}
use Rattle.mqtt_sessions.specs.Connecting.{OpensIf}
use Rattle.mqtt_sessions.specs.Ending.{ticked_if, timed_out, has_run_out, is_due, will_due, end_due}
use Rattle.mqtt_sessions.specs.Reaction.{Reaction}
use Rattle.mqtt_sessions.specs.Sending.{SendsAll, StopsIf, is_once, QueueIf}
use Rattle.mqtt_sessions.specs.State.{State, Link, has_room, limit_in, new_session, room_after, room_less}
use Rattle.law_sessions.specs.Order.{IsLate, copies_of, firsts}
use Rattle.law_sessions.specs.Replies.{Reply, silent, says, asks, both, ends, leaves, reaction_of, reply_codes}
use Rattle.law_sessions.specs.Runs.{Event, connects, queues, rooms, takes, answers, closes, ticks, finishes, loses, Step, Reacts, Run, limit_after}
use Rattle.law_sessions.specs.Sends.{sends_of}
use Rattle.law_sessions.specs.Sizes.{moment_of}
use Rattle.law_sessions.proofs.LiftLaws.{limit_over, keeps_numbers, whole}
use Rattle.law_sessions.proofs.ReplyLaws.{replies_by_link, keeps_unheard, keeps_codes}
use Rattle.law_deliveries.specs.Queue.{full_by, joins_by, KeepsFull, KeepsBound, SentOf, HasSpare, Serves, limit_told, KeepsQueue}
use Rattle.law_deliveries.proofs.ShapeLaws.{Shape, shape}

-- ---- whether the queue is full
reply-full : (limit : ℕ) (x : Reply) → (reaction_of limit x).full ≡ false
reply-full limit silent = refl
reply-full limit (says p) = elim (cases_Bool (fits_in limit p)) [ inl f ↦ rw f refl | inr f ↦ rw f refl ]
reply-full limit (asks a) = refl
reply-full limit (both p a) = elim (cases_Bool (fits_in limit p)) [ inl f ↦ rw f refl | inr f ↦ rw f refl ]
reply-full limit (ends code) = refl
reply-full limit leaves = refl

takes-full : (o : Option Link) (old new : State) (p : Packet) (now : ℕ) (room : Bool) (r : Reaction) → old.link ≡ o → Reacts old (takes p now room) r new → r.full ≡ false
takes-full None old new p now room r e h = rw (keeps_unheard old new p now room r e h).0 refl
takes-full (Some l) old new p now room r e h = let k = replies_by_link old new l p now room r e h in rw k.gives (reply-full l.limit k.reply)

answers-full : (o : Option Link) (old new : State) (id : ℕ) (codes : List ℕ) (r : Reaction) → old.link ≡ o → Reacts old (answers id codes) r new → r.full ≡ false
answers-full None old new id codes r e h = let g = rw e at h in rw g.0 refl
answers-full (Some l) old new id codes r e h = rw (keeps_codes old new l id codes r e h) (reply-full l.limit (reply_codes l.asked id codes))

timed-full : (o : Option Link) (s : State) → (timed_out o s).reaction.full ≡ false
timed-full None s = refl
timed-full (Some l) s = refl

tick-full : (a b c : Bool) (now : ℕ) (s : State) → (ticked_if a b c now s).reaction.full ≡ false
tick-full true b c now s = timed-full s.link s
tick-full false true c now s = refl
tick-full false false c now s = refl

opens-full : (b : Bool) (old new : State) (c : Connect) (p : Packet) (room : Option ℕ) (now : ℕ) (r : Reaction) → OpensIf b old c p room now r new → r.full ≡ false
opens-full true old new c p room now r h = rw h.reacts refl
opens-full false old new c p room now r h = rw h.0 refl

below-limit : (n : ℕ) → n < 65536 → nat_le 65536 n ≡ false
below-limit n h = elim (cases_Bool (nat_le 65536 n)) [ inl t ↦ absurd (let le = leb-true 65536 n t in omega (arith, le, h)) | inr f ↦ f ]

queue-full : (b : Bool) (old new : State) (d : Delivery) (now : ℕ) (r : Reaction) → QueueIf b old d now r new → r.full ≡ (not b && nat_le 65536 (length (waiting old.outbox.copies)))
queue-full true old new d now r q = rw q.0 refl
queue-full false old new d now r (inl q) = rw (q.reacts, below-limit (length (waiting old.outbox.copies)) q.offers.0) refl
queue-full false old new d now r (inr q) = rw (q.reacts, le-leb 65536 (length (waiting old.outbox.copies)) q.offers.0) refl

pub full-step : (old new : State) (e : Event) (r : Reaction) → Reacts old e r new → r.full ≡ full_by e (length (waiting old.outbox.copies))
full-step old new (connects c continued room now) r h = opens-full (fits_in (limit_in c.properties) (connack continued c.client old.kept.client)) old new c (connack continued c.client old.kept.client) room now r h.1
full-step old new (queues d now) r h = queue-full (is_once d.qos) old new d now r h
full-step old new (rooms bytes now) r h = rw h.reacts refl
full-step old new (takes p now room) r h = takes-full old.link old new p now room r refl h
full-step old new (answers id codes) r h = answers-full old.link old new id codes r refl h
full-step old new (closes now) r h = rw h.0 refl
full-step old new (ticks now) r h = rw h.0 (tick-full (has_run_out old.link now) (is_due (will_due old.kept) now) (is_due (end_due old.kept) now) now old)
full-step old new (finishes now) r h = rw h.0 refl
full-step old new loses r h = rw h.quiet refl

pub keeps_full : KeepsFull
keeps_full = λ old new e r h. full-step old new e r h

-- ---- what is sent of the queue
late-one : (now limit : ℕ) (x : Delivery) → is_sendable now limit x ≡ false → IsLate now limit x
late-one now limit x h = elim (and_cases (is_alive x.message now) (fits now limit x) h) [ inl a ↦ inl a | inr b ↦ inr (leb-false (length_of now x) limit b) ]

-- before the one that is sent stand those that are left out
record Splits (now limit : ℕ) (queue : List Delivery) (c : Delivery) (rest : List Delivery) : Type 0 where
  pub out : List Delivery
  pub is : queue ≡ out ++ c ∷ rest
  pub late : AllByRecursion (IsLate now limit) out

split : (now limit id : ℕ) (c : Delivery) (es : Entries) → first_waiting now limit es ≡ Some c → Splits now limit (waiting es) c (waiting (after_send now limit id es))
split now limit id c [] h = (cc h)
split now limit id c (e ∷ es) h = elim (cases_Bool (waits e.1.stage)) [
  | inl w ↦ elim (cases_Bool (is_sendable now limit e.1.delivery)) [
    | inl g ↦
        let f : Some e.1.delivery ≡ Some c = rw (w, g) at h in
        let same : e.1.delivery ≡ c = cc in
        rw (w, g) (record { out = []; is = ap (λ (z : Delivery). z ∷ waiting es) same; late = tt })
    | inr g ↦
        let k = split now limit id c es (rw (w, g) at h) in
        rw (w, g) (record { out = e.1.delivery ∷ k.out; is = ap (λ (t : List Delivery). e.1.delivery ∷ t) k.is; late = (late-one now limit e.1.delivery g, k.late) })
  ]
  | inr w ↦ rw (w, w) (split now limit id c es (rw w at h))
]

-- where none can be sent, all are late, and none is left
all-late : (now limit id : ℕ) (es : Entries) → first_waiting now limit es ≡ None → AllByRecursion (IsLate now limit) (waiting es) × (waiting (after_send now limit id es) ≡ [])
all-late now limit id [] h = (tt, refl)
all-late now limit id (e ∷ es) h = elim (cases_Bool (waits e.1.stage)) [
  | inl w ↦ elim (cases_Bool (is_sendable now limit e.1.delivery)) [
    | inl g ↦ (let bad : Some e.1.delivery ≡ None = rw (w, g) at h in cc)
    | inr g ↦ let k = all-late now limit id es (rw (w, g) at h) in rw (w, g) ((late-one now limit e.1.delivery g, k.0), k.1)
  ]
  | inr w ↦ rw (w, w) (all-late now limit id es (rw w at h))
]

-- ---- what is free where some are left out last
pub flying-unowed : (now limit : ℕ) (es : Entries) → first_owed now limit es ≡ None → in_flight (after_resend now limit es) ≤ in_flight es
flying-unowed now limit [] none = omega arith
flying-unowed now limit (e ∷ es) none = elim (cases_Bool (is_owed e.1)) [
  | inl h ↦ elim (cases_Bool (fits now limit e.1.delivery)) [
    | inl g ↦ let bad : Some (resent e.1) ≡ None = rw (h, g) at none in cc
    | inr g ↦ rw (h, g) (omega (arith, flying-unowed now limit es (rw (h, g) at none)))
  ]
  | inr h ↦ rw h (omega (arith, flying-unowed now limit es (rw h at none)))
]

pub flying-unsent : (now limit id : ℕ) (es : Entries) → first_waiting now limit es ≡ None → in_flight (after_send now limit id es) ≤ in_flight es
flying-unsent now limit id [] none = omega arith
flying-unsent now limit id (e ∷ es) none = elim (cases_Bool (waits e.1.stage)) [
  | inl h ↦ elim (cases_Bool (is_sendable now limit e.1.delivery)) [
    | inl g ↦ let bad : Some e.1.delivery ≡ None = rw (h, g) at none in cc
    | inr g ↦ rw (h, g) (omega (arith, flying-unsent now limit id es (rw (h, g) at none)))
  ]
  | inr h ↦ rw h (omega (arith, flying-unsent now limit id es (rw h at none)))
]

pub found-unsent : (k now limit id : ℕ) (es : Entries) → first_waiting now limit es ≡ None → find_id k (after_send now limit id es) ≡ find_id k es
found-unsent k now limit id [] h = refl
found-unsent k now limit id (e ∷ es) h = elim (cases_Bool (waits e.1.stage)) [
  | inl t ↦ elim (cases_Bool (is_sendable now limit e.1.delivery)) [
    | inl g ↦ (let bad : Some e.1.delivery ≡ None = rw (t, g) at h in cc)
    | inr g ↦ rw (t, g, waits-has k e.1.stage t) (found-unsent k now limit id es (rw (t, g) at h))
  ]
  | inr t ↦ rw t (elim (cases_Bool (has_id k e.1)) [ inl i ↦ rw i refl | inr i ↦ rw i (found-unsent k now limit id es (rw t at h)) ])
]

-- ---- a flush
abbrev Firsts : List Sent → List Delivery
Firsts ss = copies_of (firsts (sends_of ss))

record Takes (now limit : ℕ) (queue : List Delivery) (sents : List Sent) (new : Outbox) : Type 0 where
  pub taken : List Delivery
  pub late : List Delivery
  pub splits : queue ≡ taken ++ (late ++ waiting new.copies)
  pub sent : SentOf (IsLate now limit) taken (Firsts sents)
  pub left_out : AllByRecursion (IsLate now limit) late
  pub spare : (late ≡ []) ⊎ ((in_flight new.copies < new.maximum) × (NoneFree new.copies → ⊥))

takes-none : (now limit : ℕ) (queue : List Delivery) (new : Outbox) → queue ≡ waiting new.copies → Takes now limit queue [] new
takes-none now limit queue new e = record { taken = []; late = []; splits = e; sent = refl; left_out = tt; spare = inl refl }

-- a queue that isn't empty isn't
pub none-or-some : {A : Type 0} (xs : List A) (M : Type 0) → ((xs ≡ [] → ⊥) → M) → (xs ≡ []) ⊎ M
none-or-some [] M f = inl refl
none-or-some (x ∷ xs) M f = inr (f (λ e. (cc e)))

stops-takes : (now limit : ℕ) (old new : Outbox) → NextStep now limit old None new → Takes now limit (waiting old.copies) [] new
stops-takes now limit old new s = elim s.step [
  | inl t ↦ takes-none now limit (waiting old.copies) new (rw t.1 refl)
  | inr t ↦ elim t [
    | inl u ↦ takes-none now limit (waiting old.copies) new (rw (u.3, waiting-after_resend now limit old.copies) refl)
    | inr u ↦
        let es = after_resend now limit old.copies in
        let all = all-late now limit 0 es u.2 in
        let same : waiting es ≡ waiting old.copies = waiting-after_resend now limit old.copies in
        let a = flying-unowed now limit old.copies u.1 in
        let b = flying-unsent now limit 0 es u.2 in
        let q = u.0 in
        rw (u.3) (record {
          taken = [];
          late = waiting old.copies;
          splits = rw all.1 (sym (append-nil (waiting old.copies)));
          sent = refl;
          left_out = rw same at all.0;
          spare = none-or-some (waiting old.copies) _ (λ some. (omega (arith, a, b, q), λ none. some (sym same ∙ u.4 (λ k low high. rw (found-unsent k now limit 0 es u.2) at (none k low high)))));
        })
  ]
]

stop-takes : (more : Bool) (now limit : ℕ) (old new : Outbox) → StopsIf more now limit old new → Takes now limit (waiting old.copies) [] new
stop-takes true now limit old new s = stops-takes now limit old new s
stop-takes false now limit old new s = takes-none now limit (waiting old.copies) new (rw s refl)

flush-takes : (more : Bool) (now limit : ℕ) (room : Option ℕ) (old last new : Outbox) (sents : List Sent) → SendsAll now limit room old sents last → StopsIf more now limit last new → Takes now limit (waiting old.copies) sents new
flush-takes more now limit room old last new [] all stops = stop-takes more now limit old new (rw all at stops)
flush-takes more now limit room old last new (s ∷ ss) all stops =
    let k = flush-takes more now limit (room_less now room s.copy) all.1 last new ss all.3 stops in
    elim all.2 [
      | inl n ↦
          let dup : s.dup ≡ true = resent-dup now limit s old.copies n.sent in
          let queue : waiting old.copies ≡ waiting all.1.copies = rw n.left (sym (waiting-after_resend now limit old.copies)) in
          record { taken = k.taken; late = k.late; splits = queue ∙ k.splits; sent = rw dup k.sent; left_out = k.left_out; spare = k.spare }
      | inr n ↦
          let es = after_resend now limit old.copies in
          let t = split now limit s.id s.copy es n.sent in
          let queue : waiting old.copies ≡ t.out ++ s.copy ∷ waiting all.1.copies = rw n.left (sym (waiting-after_resend now limit old.copies) ∙ t.is) in
          record {
            taken = t.out ++ s.copy ∷ k.taken;
            late = k.late;
            splits = queue ∙ ap (λ (w : List Delivery). t.out ++ s.copy ∷ w) k.splits ∙ sym (append_assoc t.out (s.copy ∷ k.taken) (k.late ++ waiting new.copies));
            sent = rw n.first (t.out, k.taken, refl, t.late, k.sent);
            left_out = k.left_out;
            spare = k.spare;
          }
    ]

-- ---- the events
pub serves : (limit : ℕ) (old : Outbox) (s : Step) (new : State) → Shape (moment_of s.event) limit old (joins_by s.event s.reaction) s.reaction new → Serves limit (waiting old.copies) s (HasSpare new) (waiting new.outbox.copies)
serves limit old s new (inl k) = record { taken = []; late = []; splits = sym k.queue; sent = rw k.sent refl; left_out = tt; room = inl refl }
serves limit old s new (inr k) =
    let t = flush-takes (has_room (room_after (moment_of s.event) k.room k.sents)) (moment_of s.event) limit k.room k.mid k.flushes.last new.outbox k.sents k.flushes.sends k.flushes.stops in
    record {
      taken = t.taken;
      late = t.late;
      splits = sym k.queue ∙ t.splits;
      sent = rw k.sent t.sent;
      left_out = t.left_out;
      room = elim t.spare [ inl e ↦ inl e | inr h ↦ inr (record { linked = k.linked; quota = h.0; identifier = h.1 }) ];
    }

same-limit : (limit : ℕ) (steps : List Step) → limit_told limit steps ≡ limit_over limit steps
same-limit limit [] = refl
same-limit limit (s ∷ ss) = same-limit (limit_after limit s.event) ss

pub keeps_queue : KeepsQueue
keeps_queue = λ client before s mid end run step.
    let p = whole client before mid run in
    rw (same-limit 0 before)
    (serves (limit_after (limit_over 0 before) s.event) mid.outbox s end (shape (limit_over 0 before) mid end s.event s.reaction p.limited (keeps_numbers client before mid run) step))

-- ---- the bound
longer : (xs ys zs : List Delivery) → length zs ≤ length (xs ++ (ys ++ zs))
longer xs ys zs = omega (arith, length-append xs (ys ++ zs), length-append ys zs)

joins-short : (e : Event) (r : Reaction) (n : ℕ) → r.full ≡ full_by e n → n ≤ 65536 → n + length (joins_by e r) ≤ 65536
joins-short (connects c continued room now) r n f h = rw f (omega (arith, h))
joins-short (queues d now) r n f h = elim (cases_Bool (is_once d.qos)) [
  | inl once ↦ rw (f, once) (omega (arith, h))
  | inr once ↦ elim (cases_Bool (nat_le 65536 n)) [
    | inl t ↦ rw (f, once, t) (omega (arith, h))
    | inr t ↦ rw (f, once, t) (let lt = leb-false 65536 n t in omega (arith, lt))
  ]
]
joins-short (rooms bytes now) r n f h = rw f (omega (arith, h))
joins-short (takes p now room) r n f h = rw f (omega (arith, h))
joins-short (answers id codes) r n f h = rw f (omega (arith, h))
joins-short (closes now) r n f h = rw f (omega (arith, h))
joins-short (ticks now) r n f h = rw f (omega (arith, h))
joins-short (finishes now) r n f h = rw f (omega (arith, h))
joins-short loses r n f h = rw f (omega (arith, h))

bound-step : (limit : ℕ) (s : Step) (old new : State) → Serves limit (waiting old.outbox.copies) s (HasSpare new) (waiting new.outbox.copies) → Reacts old s.event s.reaction new → length (waiting old.outbox.copies) ≤ 65536 → length (waiting new.outbox.copies) ≤ 65536
bound-step limit s old new k step h =
    let short = joins-short s.event s.reaction (length (waiting old.outbox.copies)) (full-step old new s.event s.reaction step) h in
    let all : length (waiting old.outbox.copies ++ joins_by s.event s.reaction) ≡ length (k.taken ++ (k.late ++ waiting new.outbox.copies)) = ap (λ (xs : List Delivery). length xs) k.splits in
    omega (arith, short, all, length-append (waiting old.outbox.copies) (joins_by s.event s.reaction), longer k.taken k.late (waiting new.outbox.copies))

run-more : (start old new : State) (before : List Step) (s : Step) → Run start before old → Reacts old s.event s.reaction new → Run start (before ++ s ∷ []) new
run-more start old new [] s r step = (new, rw r at step, refl)
run-more start old new (t ∷ ts) s r step = (r.0, r.1, run-more r.0 old new ts s r.2 step)

bound-run : (client : List ℕ) (before : List Step) (old : State) (steps : List Step) (end : State) → Run (new_session client) before old → Run old steps end → length (waiting old.outbox.copies) ≤ 65536 → length (waiting end.outbox.copies) ≤ 65536
bound-run client before old [] end r t h = rw t h
bound-run client before old (s ∷ ss) end r t h =
    bound-run client (before ++ s ∷ []) t.0 ss end (run-more (new_session client) old t.0 before s r t.1) t.2 (bound-step _ s old t.0 (keeps_queue client before s old t.0 r t.1) t.1 h)

pub keeps_bound : KeepsBound
keeps_bound = λ client steps end r. bound-run client [] (new_session client) steps end refl r (omega arith)
