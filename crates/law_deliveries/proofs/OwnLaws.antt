-- An exchange ends by its own answer alone: the calls.
use Rattle.std.proofs.Common.{◌≡◌, ℕ, ◌<◌, ◌⊎◌, Bool, true, false, List, [], ◌∷◌, ◌++◌, Option, Some, None, refl, sym, inl, inr, append_assoc}
use Rattle.std.specs.Prelude.{not}
use Rattle.std.specs.List.{AllByRecursion}
use Rattle.std.proofs.lemmas.Bool.{and_parts, cases_Bool, eqb-true, false≢true, leb-false}
use Rattle.mqtt_fields.specs.declared.options.Qos.{Qos}
use Rattle.mqtt_fields.specs.declared.options.Qos.TheVariants.{AtMostOnce, AtLeastOnce, ExactlyOnce}
use Rattle.mqtt_message.specs.declared.delivery.Delivery.{Delivery}
use Rattle.qos_handshakes.specs.declared.answers.Ack.TheVariants.{Done, Unknown}
use Rattle.qos_handshakes.specs.declared.answers.Rec.{Rec}
use Rattle.qos_handshakes.specs.declared.answers.Rec.TheVariants as rec
use Rattle.qos_handshakes.specs.declared.copies.Entry.{Entry}
use Rattle.qos_handshakes.specs.declared.copies.Stage.{Stage}
use Rattle.qos_handshakes.specs.declared.copies.Stage.TheVariants.{Waiting, Published, Released}
use Rattle.qos_handshakes.specs.Length.{length_of}
use Rattle.qos_handshakes.specs.Entries.{Entries, as_released, find_id, stage_has}
use Rattle.qos_handshakes.specs.Outbox.{Outbox, Sent, EndStep, NextStep, ReceivedIf, after_resend, fits, is_acknowledged, is_owed, is_published, stage_id, takes_puback, takes_pubrec}
use Rattle.law_handshakes.specs.Lists.{Without}
use Rattle.law_handshakes.specs.Resends as low_resends
use Rattle.law_handshakes.specs.Resends.{SentCopy, AnsweredIn, all_first_sends, all_resends, first_publication, first_sends_of, owed, owed_part, published, published_part, resends_of}
use Rattle.law_handshakes.specs.Runs as low
use Rattle.law_handshakes.specs.Runs.{offered, acknowledged, completed, received, resumed, listed, asked, lost, Takes}
use Rattle.law_handshakes.proofs.ChosenLaws.{append-nil, chosen-none_sent, without-after, without-dropped, without-kept, without-refl, without-same, without-then, without-written}
use Rattle.law_handshakes.proofs.LaidLaws.{AreLaid, chosen-first, laid-resent, laid-step}
use Rattle.law_handshakes.proofs.OpenLaws.{all-left, all-tail}
use Rattle.law_handshakes.proofs.OrderLaws.{resent-dup}
use Rattle.law_handshakes.proofs.ResendLaws.{found-has, owed-step, published-step, published-waits}
use Rattle.law_sessions.specs.Sends.{Mark, acks, recs}
use Rattle.law_sessions.specs.Order.{firsts}
use Rattle.law_sessions.proofs.CallLaws.{Call, call_marks}

-- why a call ends what was sent, where Q is of what it may send again
abbrev pub EndsBy : (SentCopy → Type 0) → Call → SentCopy → Type 0
EndsBy Q (acknowledged id Done) x = (x.0 ≡ id) × (x.1.qos ≡ AtLeastOnce)
EndsBy Q (received id reason rec.Release) x = (x.0 ≡ id) × (x.1.qos ≡ ExactlyOnce)
EndsBy Q (received id reason rec.Ended) x = (x.0 ≡ id) × (x.1.qos ≡ ExactlyOnce)
EndsBy Q (asked now limit answer) x = (limit < length_of now x.1) × Q x
EndsBy Q c x = ⊥

abbrev pub EndsIn : (SentCopy → Type 0) → List Call → SentCopy → Type 0
EndsIn Q [] x = ⊥
EndsIn Q (c ∷ cs) x = EndsBy Q c x ⊎ EndsIn Q cs x

-- under an identifier at a QoS
abbrev Own : ℕ → Qos → SentCopy → Type 0
Own id q x = (x.0 ≡ id) × (x.1.qos ≡ q)

own-published : (id : ℕ) (q : Qos) (s : Stage) (here : Bool) (c : Delivery) → stage_has id s ≡ true → c.qos ≡ q → AllByRecursion (Own id q) (published_part (record { stage = s; here = here; delivery = c }))
own-published id q Waiting here c h e = tt
own-published id q (Published i) here c h e = ((eqb-true i id h, e), tt)
own-published id q (Released i order) here c h e = tt

own-owed : (id : ℕ) (q : Qos) (s : Stage) (here : Bool) (c : Delivery) → stage_has id s ≡ true → c.qos ≡ q → AllByRecursion (Own id q) (owed_part (record { stage = s; here = here; delivery = c }))
own-owed id q Waiting here c h e = tt
own-owed id q (Published i) true c h e = tt
own-owed id q (Published i) false c h e = ((eqb-true i id h, e), tt)
own-owed id q (Released i order) here c h e = tt

once-taken : (q : Qos) (s : Stage) → takes_puback q s ≡ true → q ≡ AtLeastOnce
once-taken AtMostOnce s h = absurd (false≢true h)
once-taken AtLeastOnce s h = refl
once-taken ExactlyOnce s h = absurd (false≢true h)

twice-taken : (q : Qos) (s : Stage) → takes_pubrec q s ≡ true → q ≡ ExactlyOnce
twice-taken AtMostOnce s h = absurd (false≢true h)
twice-taken AtLeastOnce s h = absurd (false≢true h)
twice-taken ExactlyOnce s h = refl

found-once : (o : Option Entry) → is_acknowledged o ≡ true → (x : Entry) × (o ≡ Some x) × (x.delivery.qos ≡ AtLeastOnce)
found-once None h = absurd (false≢true h)
found-once (Some x) h = (x, refl, once-taken x.delivery.qos x.stage h)

-- ---- what was sent first
published-ack : (old new : Outbox) (id : ℕ) → EndStep (is_acknowledged (find_id id old.copies)) old id Done new → Without (Own id AtLeastOnce) (published old.copies ++ []) (published new.copies)
published-ack old new id s =
    let f = found-once (find_id id old.copies) s.0 in
    rw (append-nil (published old.copies), s.1) (without-dropped (Own id AtLeastOnce) published_part id f.0 old.copies f.1 (own-published id AtLeastOnce f.0.stage f.0.here f.0.delivery (found-has id f.0 old.copies f.1) f.2))

published-rec : (Q : SentCopy → Type 0) (o : Option Entry) (old new : Outbox) (id reason : ℕ) (a : Rec) → find_id id old.copies ≡ o → ReceivedIf o old id reason a new → Without (EndsBy Q (received id reason a)) (published old.copies) (published new.copies)
published-rec Q None old new id reason a is s = rw s.1 (without-refl _ (published old.copies))
published-rec Q (Some x) old new id reason rec.Release is (inl s) =
    rw s.3 (without-written (Own id ExactlyOnce) published_part (as_released id old.next_order) id x old.copies is refl (own-published id ExactlyOnce x.stage x.here x.delivery (found-has id x old.copies is) (twice-taken x.delivery.qos x.stage s.0)))
published-rec Q (Some x) old new id reason rec.Release is (inr s) = rw s.1 (without-refl (Own id ExactlyOnce) (published old.copies))
published-rec Q (Some x) old new id reason rec.Ended is s =
    rw s.2 (without-dropped (Own id ExactlyOnce) published_part id x old.copies is (own-published id ExactlyOnce x.stage x.here x.delivery (found-has id x old.copies is) (twice-taken x.delivery.qos x.stage s.0)))
published-rec Q (Some x) old new id reason rec.Unknown is s = rw s.2 (without-refl _ (published old.copies))
published-rec Q (Some x) old new id reason rec.AtEnd is s = rw s.3 (without-refl _ (published old.copies))

-- what is too long to be sent again was owed
abbrev Long : (SentCopy → Type 0) → ℕ → ℕ → SentCopy → Type 0
Long Q now limit x = (limit < length_of now x.1) × Q x

published-again : (Q : SentCopy → Type 0) (now limit : ℕ) (es : Entries) → AllByRecursion Q (owed es) → Without (Long Q now limit) (published es) (published (after_resend now limit es))
published-again Q now limit [] h = refl
published-again Q now limit (e ∷ es) h = elim (cases_Bool (is_owed e.1)) [
  | inl t ↦
      let p = (and_parts (is_published e.1.stage) (not e.1.here) t).0 in
      let k : AllByRecursion Q ((stage_id e.1.stage, e.1.delivery) ∷ owed es) = rw t at h in
      elim (cases_Bool (fits now limit e.1.delivery)) [
        | inl g ↦ rw (t, g) (without-refl (Long Q now limit) (published (e ∷ es)))
        | inr g ↦ rw (t, g, p) (inl ((leb-false (length_of now e.1.delivery) limit g, k.0), published-again Q now limit es k.1))
      ]
  | inr t ↦ rw t (without-kept (Long Q now limit) (published_part e.1) (published es) (published (after_resend now limit es)) (published-again Q now limit es (rw t at h)))
]

published-next : (Q : SentCopy → Type 0) (now limit : ℕ) (old new : Outbox) (a : Option Sent) → NextStep now limit old a new → AreLaid old.copies → AllByRecursion Q (owed old.copies) → Without (Long Q now limit) (published old.copies ++ first_publication a) (published new.copies)
published-next Q now limit old new None s h k = elim s.step [
  | inl t ↦ rw (t.1, append-nil (published old.copies)) (without-refl (Long Q now limit) (published old.copies))
  | inr t ↦ elim t [
    | inl u ↦ rw (u.3, append-nil (published old.copies)) (published-again Q now limit old.copies k)
    | inr u ↦ rw (u.3, append-nil (published old.copies), chosen-none_sent published_part now limit 0 (λ x w. published-waits x.stage x.here x.delivery w) (after_resend now limit old.copies) u.2) (published-again Q now limit old.copies k)
  ]
]
published-next Q now limit old new (Some x) (inl s) h k = rw (resent-dup now limit x old.copies s.sent, s.left, append-nil (published old.copies)) (published-again Q now limit old.copies k)
published-next Q now limit old new (Some x) (inr s) h k =
    rw (s.first, s.left, chosen-first published_part (λ y w z. published-waits y.stage y.here y.delivery w) now limit x.id x.copy (after_resend now limit old.copies) (laid-resent now limit old.copies h) s.sent)
    (without-after (Long Q now limit) (published old.copies) (published (after_resend now limit old.copies)) ((x.id, x.copy) ∷ []) (published-again Q now limit old.copies k))

open-step : (Q : SentCopy → Type 0) (old new : Outbox) (c : Call) → Takes old c new → AreLaid old.copies → AllByRecursion Q (owed old.copies) → Without (EndsBy Q c) (published old.copies ++ first_sends_of c) (published new.copies)
open-step Q old new (offered d a) s h k = published-step old new (offered d a) s h
open-step Q old new (acknowledged id Done) s h k = published-ack old new id s
open-step Q old new (acknowledged id Unknown) s h k = published-step old new (acknowledged id Unknown) s h
open-step Q old new (completed id a) s h k = published-step old new (completed id a) s h
open-step Q old new (received id reason a) s h k = rw (append-nil (published old.copies)) (published-rec Q (find_id id old.copies) old new id reason a refl s)
open-step Q old new (resumed maximum) s h k = published-step old new (resumed maximum) s h
open-step Q old new (listed ids) s h k = published-step old new (listed ids) s h
open-step Q old new (asked now limit a) s h k = published-next Q now limit old new a s h k
open-step Q old new lost s h k = published-step old new lost s h

pub laid-calls : (start : Outbox) (calls : List Call) (end : Outbox) → low.Run start calls end → AreLaid start.copies → AreLaid end.copies
laid-calls start [] end r h = rw r h
laid-calls start (c ∷ cs) end r h = laid-calls r.0 cs end r.2 (laid-step start r.0 c r.1 h)

-- ---- what is owed
without-both : (P Q : SentCopy → Type 0) (xs ys : List SentCopy) → AllByRecursion Q xs → Without P xs ys → Without (λ (x : SentCopy). P x × Q x) xs ys
without-both P Q [] ys h w = w
without-both P Q (x ∷ xs) ys h (inl w) = inl ((w.0, h.0), without-both P Q xs ys h.1 w.1)
without-both P Q (x ∷ xs) ys h (inr w) = inr (w.0, w.1, without-both P Q xs w.0 h.1 w.2)

owed-ack : (old new : Outbox) (id : ℕ) → EndStep (is_acknowledged (find_id id old.copies)) old id Done new → Without (Own id AtLeastOnce) (owed old.copies) (owed new.copies)
owed-ack old new id s =
    let f = found-once (find_id id old.copies) s.0 in
    rw s.1 (without-dropped (Own id AtLeastOnce) owed_part id f.0 old.copies f.1 (own-owed id AtLeastOnce f.0.stage f.0.here f.0.delivery (found-has id f.0 old.copies f.1) f.2))

owed-rec : (Q : SentCopy → Type 0) (o : Option Entry) (old new : Outbox) (id reason : ℕ) (a : Rec) → find_id id old.copies ≡ o → ReceivedIf o old id reason a new → Without (EndsBy Q (received id reason a)) (owed old.copies) (owed new.copies)
owed-rec Q None old new id reason a is s = rw s.1 (without-refl _ (owed old.copies))
owed-rec Q (Some x) old new id reason rec.Release is (inl s) =
    rw s.3 (without-written (Own id ExactlyOnce) owed_part (as_released id old.next_order) id x old.copies is refl (own-owed id ExactlyOnce x.stage x.here x.delivery (found-has id x old.copies is) (twice-taken x.delivery.qos x.stage s.0)))
owed-rec Q (Some x) old new id reason rec.Release is (inr s) = rw s.1 (without-refl (Own id ExactlyOnce) (owed old.copies))
owed-rec Q (Some x) old new id reason rec.Ended is s =
    rw s.2 (without-dropped (Own id ExactlyOnce) owed_part id x old.copies is (own-owed id ExactlyOnce x.stage x.here x.delivery (found-has id x old.copies is) (twice-taken x.delivery.qos x.stage s.0)))
owed-rec Q (Some x) old new id reason rec.Unknown is s = rw s.2 (without-refl _ (owed old.copies))
owed-rec Q (Some x) old new id reason rec.AtEnd is s = rw s.3 (without-refl _ (owed old.copies))

pub owes-step : (Q : SentCopy → Type 0) (old new : Outbox) (c : Call) → low_resends.StaysConnected c → Takes old c new → AllByRecursion Q (owed old.copies) → Without (EndsBy Q c) (owed old.copies) (resends_of c ++ owed new.copies)
owes-step Q old new (offered d a) k s h = owed-step old new (offered d a) k s
owes-step Q old new (acknowledged id Done) k s h = owed-ack old new id s
owes-step Q old new (acknowledged id Unknown) k s h = owed-step old new (acknowledged id Unknown) k s
owes-step Q old new (completed id a) k s h = owed-step old new (completed id a) k s
owes-step Q old new (received id reason a) k s h = owed-rec Q (find_id id old.copies) old new id reason a refl s
owes-step Q old new (resumed maximum) k s h = absurd k
owes-step Q old new (listed ids) k s h = owed-step old new (listed ids) k s
owes-step Q old new (asked now limit a) k s h = without-both (λ (x : SentCopy). limit < length_of now x.1) Q (owed old.copies) (resends_of (asked now limit a) ++ owed new.copies) h (owed-step old new (asked now limit a) k s)
owes-step Q old new lost k s h = absurd k

-- a call leaves what is owed of a kind, where the connection goes on or all is of it
abbrev pub KeepsKind : (SentCopy → Type 0) → Call → Type 0
KeepsKind Q c = low_resends.StaysConnected c ⊎ ((x : SentCopy) → Q x)

pub all-of : (Q : SentCopy → Type 0) → ((x : SentCopy) → Q x) → (xs : List SentCopy) → AllByRecursion Q xs
all-of Q f [] = tt
all-of Q f (x ∷ xs) = (f x, all-of Q f xs)

kind-step : (Q : SentCopy → Type 0) (old new : Outbox) (c : Call) → KeepsKind Q c → Takes old c new → AllByRecursion Q (owed old.copies) → AllByRecursion Q (owed new.copies)
kind-step Q old new c (inl k) s h = all-tail Q (resends_of c) (owed new.copies) (all-left (EndsBy Q c) Q (owed old.copies) (resends_of c ++ owed new.copies) h (owes-step Q old new c k s h))
kind-step Q old new c (inr f) s h = all-of Q f (owed new.copies)

pub open-calls : (Q : SentCopy → Type 0) (start : Outbox) (calls : List Call) (end : Outbox) → low.Run start calls end → AreLaid start.copies → AllByRecursion (KeepsKind Q) calls → AllByRecursion Q (owed start.copies) → Without (EndsIn Q calls) (published start.copies ++ all_first_sends calls) (published end.copies)
open-calls Q start [] end r h k q = rw r (without-same _ (published start.copies ++ []) (published start.copies) (sym (append-nil (published start.copies))))
open-calls Q start (c ∷ cs) end r h k q =
    rw (← append_assoc (published start.copies) (first_sends_of c) (all_first_sends cs))
    (without-then (EndsBy Q c) (EndsIn Q cs) (EndsIn Q (c ∷ cs)) (λ x p. inl p) (λ x p. inr p) (published start.copies ++ first_sends_of c) (all_first_sends cs) [] (published r.0.copies) (published end.copies)
    (open-step Q start r.0 c r.1 h q) (open-calls Q r.0 cs end r.2 (laid-step start r.0 c r.1 h) k.1 (kind-step Q start r.0 c k.0 r.1 q)))

abbrev pub Any : SentCopy → Type 0
Any x = Unit {0}

-- ---- what the calls show
pub sends-marks : (cs : List Call) → all_first_sends cs ≡ firsts (call_marks cs)
sends-marks [] = refl
sends-marks (offered c a ∷ cs) = sends-marks cs
sends-marks (acknowledged id a ∷ cs) = sends-marks cs
sends-marks (completed id a ∷ cs) = sends-marks cs
sends-marks (received id reason a ∷ cs) = sends-marks cs
sends-marks (resumed maximum ∷ cs) = sends-marks cs
sends-marks (listed ids ∷ cs) = sends-marks cs
sends-marks (asked now limit None ∷ cs) = sends-marks cs
sends-marks (asked now limit (Some s) ∷ cs) = rw (sends-marks cs) refl
sends-marks (lost ∷ cs) = sends-marks cs

-- its answer is among marks
abbrev pub AnsweredBy : Mark → SentCopy → Type 0
AnsweredBy (acks id) x = (x.0 ≡ id) × (x.1.qos ≡ AtLeastOnce)
AnsweredBy (recs id reason) x = (x.0 ≡ id) × (x.1.qos ≡ ExactlyOnce)
AnsweredBy m x = ⊥

abbrev pub AnsweredAmong : List Mark → SentCopy → Type 0
AnsweredAmong [] x = ⊥
AnsweredAmong (m ∷ ms) x = AnsweredBy m x ⊎ AnsweredAmong ms x

-- it is too long, whatever its identifier, and of the kind, or its answer is among the marks
abbrev pub Causes : (SentCopy → Type 0) → List Call → SentCopy → Type 0
Causes Q cs x = (((k : ℕ) → AnsweredIn cs (k, x.1)) × Q x) ⊎ AnsweredAmong (call_marks cs) x

later-cause : (Q : SentCopy → Type 0) (c : Call) (cs : List Call) (x : SentCopy) → (AnsweredAmong (call_marks cs) x → AnsweredAmong (call_marks (c ∷ cs)) x) → Causes Q cs x → Causes Q (c ∷ cs) x
later-cause Q c cs x f (inl h) = inl (λ k. inr (h.0 k), h.1)
later-cause Q c cs x f (inr h) = inr (f h)

pub causes : (Q : SentCopy → Type 0) (cs : List Call) (x : SentCopy) → EndsIn Q cs x → Causes Q cs x
causes Q [] x h = absurd h
causes Q (offered d a ∷ cs) x (inl h) = absurd h
causes Q (offered d a ∷ cs) x (inr h) = later-cause Q (offered d a) cs x (λ t. t) (causes Q cs x h)
causes Q (acknowledged id Done ∷ cs) x (inl h) = inr (inl h)
causes Q (acknowledged id Unknown ∷ cs) x (inl h) = absurd h
causes Q (acknowledged id a ∷ cs) x (inr h) = later-cause Q (acknowledged id a) cs x (λ t. inr t) (causes Q cs x h)
causes Q (completed id a ∷ cs) x (inl h) = absurd h
causes Q (completed id a ∷ cs) x (inr h) = later-cause Q (completed id a) cs x (λ t. inr t) (causes Q cs x h)
causes Q (received id reason rec.Release ∷ cs) x (inl h) = inr (inl h)
causes Q (received id reason rec.Ended ∷ cs) x (inl h) = inr (inl h)
causes Q (received id reason rec.Unknown ∷ cs) x (inl h) = absurd h
causes Q (received id reason rec.AtEnd ∷ cs) x (inl h) = absurd h
causes Q (received id reason a ∷ cs) x (inr h) = later-cause Q (received id reason a) cs x (λ t. inr t) (causes Q cs x h)
causes Q (resumed maximum ∷ cs) x (inl h) = absurd h
causes Q (resumed maximum ∷ cs) x (inr h) = later-cause Q (resumed maximum) cs x (λ t. inr t) (causes Q cs x h)
causes Q (listed ids ∷ cs) x (inl h) = absurd h
causes Q (listed ids ∷ cs) x (inr h) = later-cause Q (listed ids) cs x (λ t. t) (causes Q cs x h)
causes Q (asked now limit a ∷ cs) x (inl h) = inl (λ k. inl h.0, h.1)
causes Q (asked now limit None ∷ cs) x (inr h) = later-cause Q (asked now limit None) cs x (λ t. t) (causes Q cs x h)
causes Q (asked now limit (Some s) ∷ cs) x (inr h) = later-cause Q (asked now limit (Some s)) cs x (λ t. inr t) (causes Q cs x h)
causes Q (lost ∷ cs) x (inl h) = absurd h
causes Q (lost ∷ cs) x (inr h) = later-cause Q lost cs x (λ t. inr t) (causes Q cs x h)
