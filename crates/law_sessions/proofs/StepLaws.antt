-- Each call of a session's exchanges has one outcome.
use Rattle.std.proofs.Common.{◌≡◌, ℕ, ◌+◌, ◌^◌, Bool, true, false, cond, List, [], ◌∷◌, ◌++◌, Option, Some, None, length, refl, sym, ap, ◌∙◌, inl, inr, arith}
use Rattle.std.specs.Prelude.{IsSome, nat_lt}
use Rattle.std.proofs.lemmas.Bool.{cases_Bool, cases_lt, lt-ltb, le-ltb, false≢true}
use Rattle.mqtt_fields.specs.declared.options.Qos.{Qos}
use Rattle.mqtt_fields.specs.declared.options.Qos.TheVariants.{AtMostOnce, AtLeastOnce, ExactlyOnce}
use Rattle.mqtt_message.specs.declared.delivery.Delivery.{Delivery}
use Rattle.qos_handshakes.specs.declared.answers.Ack.{Ack}
use Rattle.qos_handshakes.specs.declared.answers.Ack.TheVariants.{Done, Unknown}
use Rattle.qos_handshakes.specs.declared.answers.Offer.{Offer}
use Rattle.qos_handshakes.specs.declared.answers.Offer.TheVariants.{Queued, Full, AtEnd}
use Rattle.qos_handshakes.specs.declared.answers.Rec.{Rec}
use Rattle.qos_handshakes.specs.declared.answers.Rec.TheVariants as rec
use Rattle.qos_handshakes.specs.declared.copies.Entry.{Entry}
use Rattle.qos_handshakes.specs.declared.copies.Stage.{Stage}
use Rattle.qos_handshakes.specs.declared.copies.Stage.TheVariants.{Waiting, Published, Released}
use Rattle.qos_handshakes.specs.Entries.{Entries, IsLeastFree, as_released, drop_id, find_id, write_id}
use Rattle.qos_handshakes.specs.Outbox.{Outbox, Sent, NextStep, OfferStep, EndStep, ReceivedFor, ReceivedIf, SendsNothing, after_resend, after_send, first_owed, first_waiting, is_released, takes_pubrec, waiting, waiting_entry, waits}
use Rattle.mqtt_sessions.specs.Sending.{Flushes, SendsAll, StopsIf}
use Rattle.mqtt_sessions.specs.State.{has_room, room_after, room_less}

-- ---- offers
offer_answer : Outbox → Offer
offer_answer o = cond (nat_lt (length (waiting o.copies)) 65536) (cond (nat_lt o.next_place (2 ^ 62)) Queued AtEnd) Full

left_by : Outbox → Delivery → Offer → Outbox
left_by o d Queued = record o { copies = o.copies ++ (o.next_place, waiting_entry d) ∷ []; next_place = o.next_place + 1 }
left_by o d Full = o
left_by o d AtEnd = o

offer-is : (old new : Outbox) (d : Delivery) (a : Offer) → OfferStep old d a new → (a ≡ offer_answer old) × (new ≡ left_by old d a)
unfolding offer_answer left_by
offer-is old new d Queued h =
    let some : nat_lt (length (waiting old.copies)) 65536 ≡ true = lt-ltb (length (waiting old.copies)) 65536 h.0 in
    let below : nat_lt old.next_place (2 ^ 62) ≡ true = lt-ltb old.next_place (2 ^ 62) h.1 in
    (rw (some, below) refl, h.2)
offer-is old new d Full h =
    let none : nat_lt (length (waiting old.copies)) 65536 ≡ false = le-ltb (length (waiting old.copies)) 65536 h.0 in
    (rw none refl, h.1)
offer-is old new d AtEnd h =
    let some : nat_lt (length (waiting old.copies)) 65536 ≡ true = lt-ltb (length (waiting old.copies)) 65536 h.0 in
    let past : nat_lt old.next_place (2 ^ 62) ≡ false = le-ltb old.next_place (2 ^ 62) h.1 in
    (rw (some, past) refl, h.2)

pub offer-once : (old new new' : Outbox) (d : Delivery) (a a' : Offer) → OfferStep old d a new → OfferStep old d a' new' → (a ≡ a') × (new ≡ new')
offer-once old new new' d a a' h h' =
    let x = offer-is old new d a h in
    let y = offer-is old new' d a' h' in
    let same : a ≡ a' = x.0 ∙ sym y.0 in
    (same, x.1 ∙ ap (left_by old d) same ∙ sym y.1)

-- ---- PUBACK and PUBCOMP
pub end-once : (ends : Bool) (old new new' : Outbox) (id : ℕ) (a a' : Ack) → EndStep ends old id a new → EndStep ends old id a' new' → (a ≡ a') × (new ≡ new')
end-once ends old new new' id Done Done h h' = (refl, h.1 ∙ sym h'.1)
end-once ends old new new' id Unknown Unknown h h' = (refl, h.1 ∙ sym h'.1)
end-once ends old new new' id Done Unknown h h' = absurd (false≢true (sym h'.0 ∙ h.0))
end-once ends old new new' id Unknown Done h h' = absurd (false≢true (sym h.0 ∙ h'.0))

-- ---- PUBREC
received_answer : Bool → Bool → ℕ → ℕ → Rec
received_answer takes released reason order = cond takes (cond (nat_lt reason 128) (cond (nat_lt order (2 ^ 62)) rec.Release rec.AtEnd) rec.Ended) (cond released rec.Release rec.Unknown)

received_left : Bool → Outbox → ℕ → Rec → Outbox
received_left takes old id rec.Release = cond takes (record old { copies = write_id (as_released id old.next_order) id old.copies; next_order = old.next_order + 1 }) old
received_left takes old id rec.Ended = record old { copies = drop_id id old.copies }
received_left takes old id rec.Unknown = old
received_left takes old id rec.AtEnd = old

released-none : (q : Qos) (s : Stage) → is_released s ≡ true → takes_pubrec q s ≡ false
released-none AtMostOnce s h = refl
released-none AtLeastOnce s h = refl
released-none ExactlyOnce Waiting h = refl
released-none ExactlyOnce (Published id) h = absurd (false≢true h)
released-none ExactlyOnce (Released id order) h = refl

received-is : (old new : Outbox) (id reason : ℕ) (x : Entry) (a : Rec) → ReceivedFor old id reason x a new
    → (a ≡ received_answer (takes_pubrec x.delivery.qos x.stage) (is_released x.stage) reason old.next_order) × (new ≡ received_left (takes_pubrec x.delivery.qos x.stage) old id a)
unfolding received_answer received_left
received-is old new id reason x rec.Release (inl h) =
    let below : nat_lt reason 128 ≡ true = lt-ltb reason 128 h.1 in
    let some : nat_lt old.next_order (2 ^ 62) ≡ true = lt-ltb old.next_order (2 ^ 62) h.2 in
    (rw (h.0, below, some) refl, rw h.0 h.3)
received-is old new id reason x rec.Release (inr h) =
    let none = released-none x.delivery.qos x.stage h.0 in
    (rw (none, h.0) refl, rw none h.1)
received-is old new id reason x rec.Ended h =
    let above : nat_lt reason 128 ≡ false = le-ltb reason 128 h.1 in
    (rw (h.0, above) refl, h.2)
received-is old new id reason x rec.Unknown h = (rw (h.0, h.1) refl, h.2)
received-is old new id reason x rec.AtEnd h =
    let below : nat_lt reason 128 ≡ true = lt-ltb reason 128 h.1 in
    let past : nat_lt old.next_order (2 ^ 62) ≡ false = le-ltb old.next_order (2 ^ 62) h.2 in
    (rw (h.0, below, past) refl, h.3)

pub received-once : (o : Option Entry) (old new new' : Outbox) (id reason : ℕ) (a a' : Rec) → ReceivedIf o old id reason a new → ReceivedIf o old id reason a' new' → (a ≡ a') × (new ≡ new')
received-once None old new new' id reason a a' h h' = (h.0 ∙ sym h'.0, h.1 ∙ sym h'.1)
received-once (Some x) old new new' id reason a a' h h' =
    let f = received-is old new id reason x a h in
    let g = received-is old new' id reason x a' h' in
    let same : a ≡ a' = f.0 ∙ sym g.0 in
    (same, f.1 ∙ ap (received_left (takes_pubrec x.delivery.qos x.stage) old id) same ∙ sym g.1)

-- ---- the next PUBLISH
none-some : {A : Type 0} (o : Option A) → o ≡ None → IsSome o → ⊥
none-some None is some = false≢true some
none-some (Some x) is some = cc

not-both : {A : Type 0} (o : Option A) (x : A) → o ≡ None → o ≡ Some x → ⊥
not-both o x none some = let bad : None ≡ Some x = sym none ∙ some in cc

same-item : {A : Type 0} (o : Option A) (x y : A) → o ≡ Some x → o ≡ Some y → x ≡ y
same-item o x y h h' = let same : Some x ≡ Some y = sym h ∙ h' in cc

pub least-once : (es : Entries) (i j : ℕ) → IsLeastFree es i → IsLeastFree es j → i ≡ j
least-once es i j f g = elim (cases_lt i j) [
  | inl lt ↦ absurd (none-some (find_id i es) f.free (g.least i f.first lt))
  | inr ge ↦ elim (cases_lt j i) [
    | inl lt ↦ absurd (none-some (find_id j es) g.free (f.least j g.first lt))
    | inr le ↦ omega (arith, ge, le)
  ]
]

-- where nothing waits, nothing is left out
stays-idle : (now limit id : ℕ) (es : Entries) → waiting es ≡ [] → after_send now limit id es ≡ es
stays-idle now limit id [] none = refl
stays-idle now limit id (e ∷ es) none = elim (cases_Bool (waits e.1.stage)) [
  | inl w ↦ (let bad : e.1.delivery ∷ waiting es ≡ [] = rw w at none in cc)
  | inr w ↦ rw w (ap (λ (rest : Entries). e ∷ rest) (stays-idle now limit id es (rw w at none)))
]

module _ (now limit : ℕ) (old : Outbox) where
  nothing-once : (new new' : Outbox) → SendsNothing now limit old new → SendsNothing now limit old new' → new ≡ new'
  nothing-once new new' n m = elim n.step [
    | inl a ↦ elim m.step [
      | inl b ↦ a.1 ∙ sym b.1
      | inr t ↦ elim t [
        | inl b ↦ absurd (omega (arith, a.0, b.0))
        | inr b ↦ absurd (omega (arith, a.0, b.0))
      ]
    ]
    | inr s ↦ elim s [
      | inl a ↦ elim m.step [
        | inl b ↦ absurd (omega (arith, a.0, b.0))
        | inr t ↦ elim t [
          | inl b ↦ a.3 ∙ sym b.3
          | inr b ↦ a.3 ∙ ap (λ (es : Entries). record old { copies = es }) (sym (stays-idle now limit 0 (after_resend now limit old.copies) (b.4 a.2))) ∙ sym b.3
        ]
      ]
      | inr a ↦ elim m.step [
        | inl b ↦ absurd (omega (arith, a.0, b.0))
        | inr t ↦ elim t [
          | inl b ↦ a.3 ∙ ap (λ (es : Entries). record old { copies = es }) (stays-idle now limit 0 (after_resend now limit old.copies) (a.4 b.2)) ∙ sym b.3
          | inr b ↦ a.3 ∙ sym b.3
        ]
      ]
    ]
  ]

  nothing-some : (new new' : Outbox) (s : Sent) → SendsNothing now limit old new → NextStep now limit old (Some s) new' → ⊥
  nothing-some new new' s n (inl h) = elim n.step [
    | inl a ↦ (let q = h.quota in omega (arith, a.0, q))
    | inr t ↦ elim t [
      | inl a ↦ not-both (first_owed now limit old.copies) s a.1 h.sent
      | inr a ↦ not-both (first_owed now limit old.copies) s a.1 h.sent
    ]
  ]
  nothing-some new new' s n (inr h) = elim n.step [
    | inl a ↦ (let q = h.quota in omega (arith, a.0, q))
    | inr t ↦ elim t [
      | inl a ↦ none-some (find_id s.id (after_resend now limit old.copies)) h.number.free (a.2 s.id h.number.first h.number.last)
      | inr a ↦ not-both (first_waiting now limit (after_resend now limit old.copies)) s.copy a.2 h.sent
    ]
  ]

  some-once : (new new' : Outbox) (s t : Sent) → NextStep now limit old (Some s) new → NextStep now limit old (Some t) new' → (s ≡ t) × (new ≡ new')
  some-once new new' s t (inl h) (inl g) = (same-item (first_owed now limit old.copies) s t h.sent g.sent, h.left ∙ sym g.left)
  some-once new new' s t (inl h) (inr g) = absurd (not-both (first_owed now limit old.copies) s g.none_owed h.sent)
  some-once new new' s t (inr h) (inl g) = absurd (not-both (first_owed now limit old.copies) t h.none_owed g.sent)
  some-once new new' s t (inr h) (inr g) =
      let es = after_resend now limit old.copies in
      let id : s.id ≡ t.id = least-once es s.id t.id h.number g.number in
      let dup : s.dup ≡ t.dup = h.first ∙ sym g.first in
      let copy : s.copy ≡ t.copy = same-item (first_waiting now limit es) s.copy t.copy h.sent g.sent in
      (same-sent s t id dup copy, h.left ∙ ap (λ (i : ℕ). record old { copies = after_send now limit i es }) id ∙ sym g.left)
    where
      same-sent : (s t : Sent) → s.id ≡ t.id → s.dup ≡ t.dup → s.copy ≡ t.copy → s ≡ t
      same-sent s t id dup copy =
          ap (λ (i : ℕ). record { id = i; dup = s.dup; copy = s.copy }) id ∙ ap (λ (b : Bool). record { id = t.id; dup = b; copy = s.copy }) dup ∙ ap (λ (d : Delivery). record { id = t.id; dup = t.dup; copy = d }) copy

-- ---- all that can be sent
stops-once : (more : Bool) (now limit : ℕ) (old new new' : Outbox) → StopsIf more now limit old new → StopsIf more now limit old new' → new ≡ new'
stops-once true now limit old new new' s t = nothing-once now limit old new new' s t
stops-once false now limit old new new' s t = s ∙ sym t

stops-some : (more : Bool) (now limit : ℕ) (old new new' : Outbox) (s : Sent) → more ≡ true → StopsIf more now limit old new → NextStep now limit old (Some s) new' → ⊥
stops-some true now limit old new new' s more stops next = nothing-some now limit old new new' s stops next
stops-some false now limit old new new' s more stops next = false≢true more

sends-once : (now limit : ℕ) (room : Option ℕ) (old last last' new new' : Outbox) (ss ts : List Sent) → SendsAll now limit room old ss last → StopsIf (has_room (room_after now room ss)) now limit last new → SendsAll now limit room old ts last' → StopsIf (has_room (room_after now room ts)) now limit last' new'
    → (ss ≡ ts) × (new ≡ new')
sends-once now limit room old last last' new new' [] [] all stops all' stops' = (refl, stops-once (has_room room) now limit old new new' (rw all at stops) (rw all' at stops'))
sends-once now limit room old last last' new new' [] (t ∷ ts) all stops all' stops' = absurd (stops-some (has_room room) now limit old new all'.1 t all'.0 (rw all at stops) all'.2)
sends-once now limit room old last last' new new' (s ∷ ss) [] all stops all' stops' = absurd (stops-some (has_room room) now limit old new' all.1 s all.0 (rw all' at stops') all.2)
sends-once now limit room old last last' new new' (s ∷ ss) (t ∷ ts) all stops all' stops' =
    let one = some-once now limit old all.1 all'.1 s t all.2 all'.2 in
    let more = sends-once now limit (room_less now room s.copy) all.1 last last' new new' ss ts all.3 stops (rw (← one.1, ← one.0) at all'.3) (rw (← one.0) at stops') in
    (rw (one.0, more.0) refl, more.1)

pub flushes-once : (now limit : ℕ) (room : Option ℕ) (old new new' : Outbox) (ss ts : List Sent) → Flushes now limit room old ss new → Flushes now limit room old ts new' → (ss ≡ ts) × (new ≡ new')
flushes-once now limit room old new new' ss ts f g = sends-once now limit room old f.last g.last new new' ss ts f.sends f.stops g.sends g.stops
