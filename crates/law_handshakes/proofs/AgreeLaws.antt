-- The entries that calls lead to don't contradict each other.
use Rattle.std.proofs.Common.{◌≡◌, ◌≢◌, ℕ, ◌+◌, ◌<◌, ◌≤◌, ◌^◌, Bool, true, false, not, cond, List, [], ◌∷◌, ◌++◌, Option, Some, None, refl, sym, ◌∙◌, ap, arith, inl, inr}
use Rattle.std.specs.Prelude.{◌&&◌, nat_le, nat_lt, is_some}
use Rattle.std.specs.List.{AllByRecursion}
use Rattle.std.specs.Cmp.Derive.{both_true}
use Rattle.std.proofs.lemmas.Bool.{cases_Bool, eq-eqb, ne_eqb, ltb-true, false≢true}
use Rattle.std.proofs.lemmas.Bool.Decides.{nat_tests}
use Rattle.mqtt_fields.specs.declared.options.Qos.{Qos}
use Rattle.mqtt_fields.specs.declared.options.Qos.TheVariants.{AtMostOnce, AtLeastOnce, ExactlyOnce}
use Rattle.qos_handshakes.specs.declared.answers.Offer.{Offer}
use Rattle.qos_handshakes.specs.declared.answers.Offer.TheVariants.{Queued, Full, AtEnd}
use Rattle.qos_handshakes.specs.declared.answers.Ack.{Ack}
use Rattle.qos_handshakes.specs.declared.answers.Ack.TheVariants.{Done, Unknown}
use Rattle.qos_handshakes.specs.declared.answers.Rec.{Rec}
use Rattle.qos_handshakes.specs.declared.answers.Rec.TheVariants as rec
use Rattle.qos_handshakes.specs.declared.copies.Entry.{Entry}
use Rattle.qos_handshakes.specs.declared.copies.Stage.{Stage}
use Rattle.qos_handshakes.specs.declared.copies.Stage.TheVariants.{Waiting, Published, Released}
use Rattle.mqtt_message.specs.declared.delivery.Delivery.{Delivery}
use Rattle.qos_handshakes.specs.Entries.{Entries, stage_has, has_id, find_id, drop_id, write_id, as_released}
use Rattle.qos_handshakes.specs.Outbox.{Outbox, Sent, waits, waiting_entry, away, is_published, is_owed, fits, is_sendable, after_resend, after_send, stage_order, order_above, NextStep, OfferStep, EndStep, ReceivedIf, empty_outbox}
use Rattle.qos_handshakes.specs.Restored.{agree, first_place, all_wait, was_released, has_order, is_free, is_asked, stage_fits}
use Rattle.law_handshakes.specs.Runs.{Step, offered, acknowledged, completed, received, resumed, listed, asked, lost, Takes, Run}
use Rattle.law_handshakes.specs.Numbers.{AreNumbered, IsNumbered, NoneHas}
use Rattle.law_handshakes.specs.Kept.{IsAnswered, KeepsAgreed}
use Rattle.law_handshakes.proofs.NumberLaws.{keeps_numbers, none-away}

-- where the first of those that wait stands, after a stage
abbrev pub past : Stage → ℕ → ℕ
past Waiting first = first + 1
past (Published id) first = first
past (Released id order) first = first

-- those that wait stand at the places from the first on, past all others, and orders of release are distinct, and below a bound
abbrev pub Faces : Stage → ℕ → ℕ → ℕ → Entries → Type 0
Faces Waiting place first bound later = place ≡ first
Faces (Published id) place first bound later = place < first
Faces (Released id order) place first bound later = (place < first) × (1 ≤ order) × (order < bound) × (has_order order later ≡ false)

-- places rise from above one to below the next
abbrev pub IsSound : ℕ → ℕ → ℕ → ℕ → Entries → Type 0
IsSound low first next bound [] = (low < next) × (first ≡ next)
IsSound low first next bound (e ∷ es) = (low < e.0) × (e.1.delivery.qos ≢ AtMostOnce) × Faces e.1.stage e.0 first bound es × IsSound e.0 (past e.1.stage first) next bound es

lower : (l low first next bound : ℕ) (es : Entries) → l ≤ low → IsSound low first next bound es → IsSound l first next bound es
lower l low first next bound [] le h = (omega (arith, le, h.0), h.1)
lower l low first next bound (e ∷ es) le h = (omega (arith, le, h.0), h.1, h.2, h.3)

-- what a stage faces, where later entries have changed
faces-map : (s : Stage) (place first bound : ℕ) (es fs : Entries) → ((o : ℕ) → o < bound → has_order o es ≡ false → has_order o fs ≡ false) → Faces s place first bound es → Faces s place first bound fs
faces-map Waiting place first bound es fs m h = h
faces-map (Published id) place first bound es fs m h = h
faces-map (Released id order) place first bound es fs m h = (h.0, h.1, h.2, m order h.2 h.3)

-- ---- orders of release
has-head : (o : ℕ) (e : ℕ × Entry) (es : Entries) → has_order o (e ∷ es) ≡ false → was_released o e.1.stage ≡ false
has-head o e es h = elim (cases_Bool (was_released o e.1.stage)) [ inl t ↦ absurd (false≢true (sym h ∙ rw t refl)) | inr f ↦ f ]

has-tail : (o : ℕ) (e : ℕ × Entry) (es : Entries) → has_order o (e ∷ es) ≡ false → has_order o es ≡ false
has-tail o e es h = rw (has-head o e es h) at h

has-cons : (o : ℕ) (e : ℕ × Entry) (es : Entries) → was_released o e.1.stage ≡ false → has_order o es ≡ false → has_order o (e ∷ es) ≡ false
has-cons o e es h n = rw h n

has-pushed : (o place : ℕ) (c : Delivery) (es : Entries) → has_order o es ≡ false → has_order o (es ++ (place, waiting_entry c) ∷ []) ≡ false
has-pushed o place c [] h = refl
has-pushed o place c (e ∷ es) h = has-cons o e (es ++ (place, waiting_entry c) ∷ []) (has-head o e es h) (has-pushed o place c es (has-tail o e es h))

has-dropped : (o id : ℕ) (es : Entries) → has_order o es ≡ false → has_order o (drop_id id es) ≡ false
has-dropped o id [] h = refl
has-dropped o id (e ∷ es) h = elim (cases_Bool (has_id id e.1)) [
  | inl t ↦ rw t (has-tail o e es h)
  | inr f ↦ rw f (has-cons o e (drop_id id es) (has-head o e es h) (has-dropped o id es (has-tail o e es h)))
]

has-released : (o id order : ℕ) (es : Entries) → order ≢ o → has_order o es ≡ false → has_order o (write_id (as_released id order) id es) ≡ false
has-released o id order [] ne h = refl
has-released o id order (e ∷ es) ne h = elim (cases_Bool (has_id id e.1)) [
  | inl t ↦ rw t (has-cons o (e.0, as_released id order e.1) es (ne_eqb order o ne) (has-tail o e es h))
  | inr f ↦ rw f (has-cons o e (write_id (as_released id order) id es) (has-head o e es h) (has-released o id order es ne (has-tail o e es h)))
]

has-away : (o : ℕ) (es : Entries) → has_order o es ≡ false → has_order o (away es) ≡ false
has-away o [] h = refl
has-away o (e ∷ es) h = has-cons o (e.0, record e.1 { here = false }) (away es) (has-head o e es h) (has-away o es (has-tail o e es h))

has-resent : (o now limit : ℕ) (es : Entries) → has_order o es ≡ false → has_order o (after_resend now limit es) ≡ false
has-resent o now limit [] h = refl
has-resent o now limit (e ∷ es) h = elim (cases_Bool (is_owed e.1)) [
  | inl t ↦ elim (cases_Bool (fits now limit e.1.delivery)) [
    | inl g ↦ rw (t, g) (has-cons o (e.0, record e.1 { here = true }) es (has-head o e es h) (has-tail o e es h))
    | inr g ↦ rw (t, g) (has-resent o now limit es (has-tail o e es h))
  ]
  | inr f ↦ rw f (has-cons o e (after_resend now limit es) (has-head o e es h) (has-resent o now limit es (has-tail o e es h)))
]

has-sent : (o now limit id : ℕ) (es : Entries) → has_order o es ≡ false → has_order o (after_send now limit id es) ≡ false
has-sent o now limit id [] h = refl
has-sent o now limit id (e ∷ es) h = elim (cases_Bool (waits e.1.stage)) [
  | inl t ↦ elim (cases_Bool (is_sendable now limit e.1.delivery)) [
    | inl g ↦ rw (t, g) (has-tail o e es h)
    | inr g ↦ rw (t, g) (has-sent o now limit id es (has-tail o e es h))
  ]
  | inr f ↦ rw f (has-cons o e (after_send now limit id es) (has-head o e es h) (has-sent o now limit id es (has-tail o e es h)))
]

was-below : (s : Stage) (place first bound : ℕ) (later : Entries) → Faces s place first bound later → was_released bound s ≡ false
was-below Waiting place first bound later h = refl
was-below (Published id) place first bound later h = refl
was-below (Released id order) place first bound later h = ne_eqb order bound (omega (arith, h.2))

-- the bound is the order of none
fresh : (low first next bound : ℕ) (es : Entries) → IsSound low first next bound es → has_order bound es ≡ false
fresh low first next bound [] h = refl
fresh low first next bound (e ∷ es) h = has-cons bound e es (was-below e.1.stage e.0 first bound es h.2) (fresh e.0 (past e.1.stage first) next bound es h.3)

-- ---- the calls
pushed : (low first next bound : ℕ) (c : Delivery) (es : Entries) → c.qos ≢ AtMostOnce → IsSound low first next bound es → IsSound low first (next + 1) bound (es ++ (next, waiting_entry c) ∷ [])
pushed low first next bound c [] q h = (h.0, q, sym h.1, (omega arith, ap (λ (n : ℕ). n + 1) h.1))
pushed low first next bound c (e ∷ es) q h = (h.0, h.1, faces-map e.1.stage e.0 first bound es _ (λ o _ n. has-pushed o next c es n) h.2, pushed e.0 (past e.1.stage first) next bound c es q h.3)

past-exchange : (id first : ℕ) (s : Stage) → stage_has id s ≡ true → past s first ≡ first
past-exchange id first Waiting h = absurd (false≢true h)
past-exchange id first (Published i) h = refl
past-exchange id first (Released i o) h = refl

place-exchange : (id place first bound : ℕ) (s : Stage) (later : Entries) → stage_has id s ≡ true → Faces s place first bound later → place < first
place-exchange id place first bound Waiting later h f = absurd (false≢true h)
place-exchange id place first bound (Published i) later h f = f
place-exchange id place first bound (Released i o) later h f = f.0

dropped : (low first next bound id : ℕ) (es : Entries) → IsSound low first next bound es → IsSound low first next bound (drop_id id es)
dropped low first next bound id [] h = h
dropped low first next bound id (e ∷ es) h = elim (cases_Bool (has_id id e.1)) [
  | inl t ↦ rw t (lower low e.0 first next bound es (omega (arith, h.0)) (rw (past-exchange id first e.1.stage t) at h.3))
  | inr f ↦ rw f (h.0, h.1, faces-map e.1.stage e.0 first bound es _ (λ o _ n. has-dropped o id es n) h.2, dropped e.0 (past e.1.stage first) next bound id es h.3)
]

faces-more : (s : Stage) (place first bound more : ℕ) (later : Entries) → bound ≤ more → Faces s place first bound later → Faces s place first more later
faces-more Waiting place first bound more later le h = h
faces-more (Published id) place first bound more later le h = h
faces-more (Released id order) place first bound more later le h = (h.0, h.1, omega (arith, le, h.2), h.3)

pub more : (low first next bound above : ℕ) (es : Entries) → bound ≤ above → IsSound low first next bound es → IsSound low first next above es
more low first next bound above [] le h = h
more low first next bound above (e ∷ es) le h = (h.0, h.1, faces-more e.1.stage e.0 first bound above es le h.2, more e.0 (past e.1.stage first) next bound above es le h.3)

released : (low first next bound id : ℕ) (es : Entries) → 1 ≤ bound → IsSound low first next bound es → IsSound low first next (bound + 1) (write_id (as_released id bound) id es)
released low first next bound id [] least h = h
released low first next bound id (e ∷ es) least h = elim (cases_Bool (has_id id e.1)) [
  | inl t ↦ rw t (
    h.0,
    h.1,
    (place-exchange id e.0 first bound e.1.stage es t h.2, least, omega arith, fresh e.0 (past e.1.stage first) next bound es h.3),
    more e.0 first next bound (bound + 1) es (omega arith) (rw (past-exchange id first e.1.stage t) at h.3),
  )
  | inr f ↦ rw f (
    h.0,
    h.1,
    faces-more e.1.stage e.0 first bound (bound + 1) _ (omega arith) (faces-map e.1.stage e.0 first bound es _ (λ o lt n. has-released o id bound es (omega (arith, lt)) n) h.2),
    released e.0 (past e.1.stage first) next bound id es least h.3,
  )
]

gone : (low first next bound : ℕ) (es : Entries) → IsSound low first next bound es → IsSound low first next bound (away es)
gone low first next bound [] h = h
gone low first next bound (e ∷ es) h = (h.0, h.1, faces-map e.1.stage e.0 first bound es _ (λ o _ n. has-away o es n) h.2, gone e.0 (past e.1.stage first) next bound es h.3)

past-published : (first : ℕ) (s : Stage) (b : Bool) → (is_published s && b) ≡ true → past s first ≡ first
past-published first Waiting b h = absurd (false≢true h)
past-published first (Published id) b h = refl
past-published first (Released id order) b h = absurd (false≢true h)

resent : (low first next bound now limit : ℕ) (es : Entries) → IsSound low first next bound es → IsSound low first next bound (after_resend now limit es)
resent low first next bound now limit [] h = h
resent low first next bound now limit (e ∷ es) h = elim (cases_Bool (is_owed e.1)) [
  | inl t ↦ elim (cases_Bool (fits now limit e.1.delivery)) [
    | inl g ↦ rw (t, g) (h.0, h.1, h.2, h.3)
    | inr g ↦ rw (t, g) (lower low e.0 first next bound _ (omega (arith, h.0)) (resent e.0 first next bound now limit es (rw (past-published first e.1.stage (not e.1.here) t) at h.3)))
  ]
  | inr f ↦ rw f (h.0, h.1, faces-map e.1.stage e.0 first bound es _ (λ o _ n. has-resent o now limit es n) h.2, resent e.0 (past e.1.stage first) next bound now limit es h.3)
]

past-waits : (first : ℕ) (s : Stage) → waits s ≡ true → past s first ≡ first + 1
past-waits first Waiting w = refl
past-waits first (Published id) w = absurd (false≢true w)
past-waits first (Released id order) w = absurd (false≢true w)

place-waits : (place first bound : ℕ) (s : Stage) (later : Entries) → waits s ≡ true → Faces s place first bound later → place ≡ first
place-waits place first bound Waiting later w f = f
place-waits place first bound (Published id) later w f = absurd (false≢true w)
place-waits place first bound (Released id order) later w f = absurd (false≢true w)

past-other : (first : ℕ) (s : Stage) → waits s ≡ false → past s first ≡ first
past-other first Waiting w = absurd (false≢true (sym w))
past-other first (Published id) w = refl
past-other first (Released id order) w = refl

faces-further : (place first f bound : ℕ) (s : Stage) (later : Entries) → waits s ≡ false → first ≤ f → Faces s place first bound later → Faces s place f bound later
faces-further place first f bound Waiting later w le h = absurd (false≢true (sym w))
faces-further place first f bound (Published id) later w le h = omega (arith, le, h)
faces-further place first f bound (Released id order) later w le h = (omega (arith, le, h.0), h.1, h.2, h.3)

sent : (low first next bound now limit id : ℕ) (es : Entries) → IsSound low first next bound es → (f : ℕ) × (first ≤ f) × IsSound low f next bound (after_send now limit id es)
sent low first next bound now limit id [] h = (first, omega arith, h)
sent low first next bound now limit id (e ∷ es) h = elim (cases_Bool (waits e.1.stage)) [
  | inl w ↦
      let at = place-waits e.0 first bound e.1.stage es w h.2 in
      let rest = rw (past-waits first e.1.stage w) at h.3 in
      elim (cases_Bool (is_sendable now limit e.1.delivery)) [
        | inl g ↦ rw (w, g) (first + 1, omega arith, (h.0, h.1, omega (arith, at), rest))
        | inr g ↦ let r = sent e.0 (first + 1) next bound now limit id es rest in rw (w, g) (r.0, omega (arith, r.1), lower low e.0 r.0 next bound _ (omega (arith, h.0)) r.2)
      ]
  | inr w ↦
      let r = sent e.0 first next bound now limit id es (rw (past-other first e.1.stage w) at h.3) in
      rw w (
        r.0,
        r.1,
        (
          h.0,
          h.1,
          faces-further e.0 first r.0 bound e.1.stage _ w r.1 (faces-map e.1.stage e.0 first bound es _ (λ o _ n. has-sent o now limit id es n) h.2),
          rw (past-other r.0 e.1.stage w) r.2,
        ),
      )
]

-- ---- the order after a crash
pub above-head : (o a : ℕ) → (a ≤ cond (nat_lt o a) a (o + 1)) × (o < cond (nat_lt o a) a (o + 1))
above-head o a = elim (cases_Bool (nat_lt o a)) [
  | inl t ↦ rw t (omega arith, ltb-true o a t)
  | inr f ↦ rw f (grind (arith, nat_tests), omega arith)
]

faces-own : (s : Stage) (place first bound above : ℕ) (later : Entries) → stage_order s < above → Faces s place first bound later → Faces s place first above later
faces-own Waiting place first bound above later lt h = h
faces-own (Published id) place first bound above later lt h = h
faces-own (Released id order) place first bound above later lt h = (h.0, h.1, lt, h.3)

ordered : (low first next bound : ℕ) (es : Entries) → IsSound low first next bound es → IsSound low first next (order_above es) es
ordered low first next bound [] h = h
ordered low first next bound (e ∷ es) h =
    let t = above-head (stage_order e.1.stage) (order_above es) in
    (h.0, h.1, faces-own e.1.stage e.0 first bound (order_above (e ∷ es)) es t.1 h.2, more e.0 (past e.1.stage first) next (order_above es) (order_above (e ∷ es)) es t.0 (ordered e.0 (past e.1.stage first) next bound es h.3))

order-below : (s : Stage) (place first bound : ℕ) (later : Entries) → 1 ≤ bound → Faces s place first bound later → stage_order s < bound
order-below Waiting place first bound later least h = omega (arith, least)
order-below (Published id) place first bound later least h = omega (arith, least)
order-below (Released id order) place first bound later least h = h.2

above-most : (low first next bound : ℕ) (es : Entries) → 1 ≤ bound → IsSound low first next bound es → order_above es ≤ bound
above-most low first next bound [] least h = least
above-most low first next bound (e ∷ es) least h = elim (cases_Bool (nat_lt (stage_order e.1.stage) (order_above es))) [
  | inl t ↦ rw t (above-most e.0 (past e.1.stage first) next bound es least h.3)
  | inr f ↦ rw f (omega (arith, order-below e.1.stage e.0 first bound es least h.2))
]

pub above-least : (es : Entries) → 1 ≤ order_above es
above-least [] = omega arith
above-least (e ∷ es) = elim (cases_Bool (nat_lt (stage_order e.1.stage) (order_above es))) [
  | inl t ↦ rw t (above-least es)
  | inr f ↦ rw f (omega arith)
]

-- ---- over a run
pub record Stands (o : Outbox) : Type 0 where
  pub first : ℕ
  pub sound : IsSound 0 first o.next_place o.next_order o.copies
  pub end : o.next_place ≤ 2 ^ 62
  pub least : 1 ≤ o.next_order
  pub most : o.next_order ≤ 2 ^ 62

stands-offer : (old new : Outbox) (c : Delivery) (a : Offer) → c.qos ≢ AtMostOnce → OfferStep old c a new → Stands old → Stands new
stands-offer old new c Queued q s h = rw s.2 (record { first = h.first; sound = pushed 0 h.first old.next_place old.next_order c old.copies q h.sound; end = omega (arith, s.1); least = h.least; most = h.most })
stands-offer old new c Full q s h = rw s.1 h
stands-offer old new c AtEnd q s h = rw s.2 h

stands-dropped : (old : Outbox) (id : ℕ) → Stands old → Stands (record old { copies = drop_id id old.copies })
stands-dropped old id h = record { first = h.first; sound = dropped 0 h.first old.next_place old.next_order id old.copies h.sound; end = h.end; least = h.least; most = h.most }

stands-end : (ends : Bool) (old new : Outbox) (id : ℕ) (a : Ack) → EndStep ends old id a new → Stands old → Stands new
stands-end ends old new id Done s h = rw s.1 (stands-dropped old id h)
stands-end ends old new id Unknown s h = rw s.1 h

stands-received : (o : Option Entry) (old new : Outbox) (id reason : ℕ) (a : Rec) → ReceivedIf o old id reason a new → Stands old → Stands new
stands-received None old new id reason a s h = rw s.1 h
stands-received (Some x) old new id reason rec.Release (inl s) h =
    rw s.3 (record { first = h.first; sound = released 0 h.first old.next_place old.next_order id old.copies h.least h.sound; end = h.end; least = omega arith; most = omega (arith, s.2) })
stands-received (Some x) old new id reason rec.Release (inr s) h = rw s.1 h
stands-received (Some x) old new id reason rec.Ended s h = rw s.2 (stands-dropped old id h)
stands-received (Some x) old new id reason rec.Unknown s h = rw s.2 h
stands-received (Some x) old new id reason rec.AtEnd s h = rw s.3 h

stands-resent : (now limit : ℕ) (old : Outbox) → Stands old → Stands (record old { copies = after_resend now limit old.copies })
stands-resent now limit old h = record { first = h.first; sound = resent 0 h.first old.next_place old.next_order now limit old.copies h.sound; end = h.end; least = h.least; most = h.most }

stands-sent : (now limit id : ℕ) (old : Outbox) → Stands old → Stands (record old { copies = after_send now limit id (after_resend now limit old.copies) })
stands-sent now limit id old h =
    let r = sent 0 h.first old.next_place old.next_order now limit id _ (resent 0 h.first old.next_place old.next_order now limit old.copies h.sound) in
    record { first = r.0; sound = r.2; end = h.end; least = h.least; most = h.most }

stands-next : (now limit : ℕ) (old new : Outbox) (a : Option Sent) → NextStep now limit old a new → Stands old → Stands new
stands-next now limit old new None s h = elim s.step [
  | inl t ↦ rw t.1 h
  | inr t ↦ elim t [
    | inl u ↦ rw u.3 (stands-resent now limit old h)
    | inr u ↦ rw u.3 (stands-sent now limit 0 old h)
  ]
]
stands-next now limit old new (Some x) (inl s) h = rw s.left (stands-resent now limit old h)
stands-next now limit old new (Some x) (inr s) h = rw s.left (stands-sent now limit x.id old h)

stands-step : (old new : Outbox) (s : Step) → IsAnswered s → Takes old s new → Stands old → Stands new
stands-step old new (offered c a) q s h = stands-offer old new c a q s h
stands-step old new (acknowledged id a) q s h = stands-end _ old new id a s h
stands-step old new (completed id a) q s h = stands-end _ old new id a s h
stands-step old new (received id reason a) q s h = stands-received _ old new id reason a s h
stands-step old new (resumed maximum) q s h = rw s (record { first = h.first; sound = gone 0 h.first old.next_place old.next_order old.copies h.sound; end = h.end; least = h.least; most = h.most })
stands-step old new (listed ids) q s h = rw s.1 h
stands-step old new (asked now limit a) q s h = stands-next now limit old new a s h
stands-step old new lost q s h = rw s (record {
  first = h.first;
  sound = gone 0 h.first old.next_place (order_above old.copies) old.copies (ordered 0 h.first old.next_place old.next_order old.copies h.sound);
  end = h.end;
  least = above-least old.copies;
  most = omega (arith, above-most 0 h.first old.next_place old.next_order old.copies h.least h.sound, h.most);
})

pub stands-run : (start : Outbox) (steps : List Step) (end : Outbox) → AllByRecursion IsAnswered steps → Run start steps end → Stands start → Stands end
stands-run start [] end q r h = rw r h
stands-run start (s ∷ ss) end q r h = stands-run r.0 ss end q.1 r.2 (stands-step start r.0 s q.0 r.1 h)

-- ---- what agrees
pub test-le : (a b : ℕ) → a ≤ b → nat_le a b ≡ true
test-le a b le = grind (arith, nat_tests)

test-lt : (a b : ℕ) → a < b → nat_lt a b ≡ true
test-lt a b lt = grind (arith, nat_tests)

place-other : (place first bound : ℕ) (s : Stage) (later : Entries) → waits s ≡ false → Faces s place first bound later → place < first
place-other place first bound Waiting later w f = absurd (false≢true (sym w))
place-other place first bound (Published id) later w f = f
place-other place first bound (Released id order) later w f = f.0

first-past : (low first next bound : ℕ) (es : Entries) → IsSound low first next bound es → low < first_place next (away es)
first-past low first next bound [] h = h.0
first-past low first next bound (e ∷ es) h = h.0

-- after one that waits all wait, and the next stands beside it
tail-waits : (p next bound : ℕ) (es : Entries) → IsSound p (p + 1) next bound es → (all_wait (away es) ≡ true) × (p + 1 ≡ first_place next (away es))
tail-waits p next bound [] h = (refl, h.1)
tail-waits p next bound (e ∷ es) h = elim (cases_Bool (waits e.1.stage)) [
  | inl w ↦
      let at = place-waits e.0 (p + 1) bound e.1.stage es w h.2 in
      let rest : IsSound e.0 (e.0 + 1) next bound es = rw at (rw (past-waits (p + 1) e.1.stage w, at) at h.3) in
      (both_true w (tail-waits e.0 next bound es rest).0, sym at)
  | inr w ↦ absurd (let lt : e.0 < p + 1 = place-other e.0 (p + 1) bound e.1.stage es w h.2 in omega (arith, lt, h.0))
]

asked-qos : (q : Qos) → q ≢ AtMostOnce → is_asked q ≡ true
asked-qos AtMostOnce ne = absurd (ne refl)
asked-qos AtLeastOnce ne = refl
asked-qos ExactlyOnce ne = refl

none-some : (o : Option Entry) → o ≡ None → not (is_some o) ≡ true
none-some None h = refl
none-some (Some x) h = (cc h)

free-id : (id : ℕ) (es : Entries) → 1 ≤ id → NoneHas id es → is_free id (away es) ≡ true
free-id id es least none = let apart : id ≢ 0 = omega (arith, least) in both_true (ap not (ne_eqb id 0 apart)) (none-some (find_id id (away es)) (none-away id es none))

stage-agrees : (s : Stage) (place first next bound : ℕ) (es : Entries) → bound ≤ 2 ^ 62 → IsNumbered s es → Faces s place first bound es → IsSound place (past s first) next bound es → stage_fits next (away es) place s ≡ true
stage-agrees Waiting place first next bound es most n f h =
    let t = tail-waits place next bound es (rw (sym f) at h) in both_true t.0 (eq-eqb (place + 1) (first_place next (away es)) t.1)
stage-agrees (Published id) place first next bound es most n f h = free-id id es n.0 n.2
stage-agrees (Released id order) place first next bound es most n f h =
    both_true (free-id id es n.0 n.2) (both_true (test-le 1 order f.1) (both_true (test-lt order (2 ^ 62) (omega (arith, f.2, most))) (ap not (has-away order es f.3))))

pub agrees : (low first next bound : ℕ) (es : Entries) → next ≤ 2 ^ 62 → bound ≤ 2 ^ 62 → AreNumbered es → IsSound low first next bound es → agree next (away es) ≡ true
agrees low first next bound [] end most n h = both_true (test-le 1 next (omega (arith, h.0))) (test-le next (2 ^ 62) end)
agrees low first next bound (e ∷ es) end most n h = both_true
    (both_true (test-le 1 e.0 (omega (arith, h.0))) (both_true (test-lt e.0 (first_place next (away es)) (first-past e.0 (past e.1.stage first) next bound es h.3)) (both_true (asked-qos e.1.delivery.qos h.1) (stage-agrees e.1.stage e.0 first next bound es most n.0 h.2 h.3))))
    (agrees e.0 (past e.1.stage first) next bound es end most n.1 h.3)

pub keeps-agreed : KeepsAgreed
keeps-agreed = λ steps end q r.
    let h = stands-run empty_outbox steps end q r (record { first = 1; sound = (omega arith, refl); end = omega arith; least = omega arith; most = omega arith }) in
    agrees 0 h.first end.next_place end.next_order end.copies h.end h.most (keeps_numbers steps end r) h.sound
