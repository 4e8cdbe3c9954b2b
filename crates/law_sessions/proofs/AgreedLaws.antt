-- Entries that agree stand as calls leave them.
use Rattle.std.proofs.Common.{◌≡◌, ◌≢◌, ℕ, ◌+◌, ◌<◌, ◌≤◌, ◌^◌, Bool, true, false, not, cond, [], ◌∷◌, Option, Some, None, refl, sym, ◌∙◌, subst, arith, inl, inr}
use Rattle.std.specs.Prelude.{◌==◌, nat_le, nat_lt, is_some}
use Rattle.std.specs.List.{AllByRecursion}
use Rattle.std.proofs.lemmas.Bool.{cases_Bool, false≢true, and_parts, eqb-true, eq-eqb, leb-true, ltb-true}
use Rattle.mqtt_fields.specs.declared.options.Qos.{Qos}
use Rattle.mqtt_fields.specs.declared.options.Qos.TheVariants.{AtMostOnce, AtLeastOnce, ExactlyOnce}
use Rattle.qos_handshakes.specs.declared.copies.Entry.{Entry}
use Rattle.qos_handshakes.specs.declared.copies.Stage.{Stage}
use Rattle.qos_handshakes.specs.declared.copies.Stage.TheVariants.{Waiting, Published, Released}
use Rattle.qos_handshakes.specs.Entries.{Entries, AllPlacesBelow, find_id}
use Rattle.qos_handshakes.specs.Outbox.{waits, stage_id, stage_order, order_above}
use Rattle.qos_handshakes.specs.Restored.{agree, all_wait, first_place, has_order, is_asked, is_free, precedes, restored, stage_fits}
use Rattle.law_handshakes.specs.Numbers.{AreNumbered, IsNumbered}
use Rattle.law_handshakes.proofs.AgreeLaws.{past, Faces, IsSound, Stands, more, above-head, above-least}

-- ---- what agrees
both : (next : ℕ) (e : ℕ × Entry) (es : Entries) → agree next (e ∷ es) ≡ true → (precedes next es e.0 e.1 ≡ true) × (agree next es ≡ true)
both next e es a = and_parts (precedes next es e.0 e.1) (agree next es) a

pub agree-next : (next : ℕ) (es : Entries) → agree next es ≡ true → (1 ≤ next) × (next ≤ 2 ^ 62)
agree-next next [] a = let p = and_parts (nat_le 1 next) _ a in (leb-true 1 next p.0, leb-true next _ p.1)
agree-next next (e ∷ es) a = agree-next next es (both next e es a).1

record Parts (next place : ℕ) (x : Entry) (es : Entries) : Type 0 where
  least : 1 ≤ place
  before : place < first_place next es
  asked : x.delivery.qos ≢ AtMostOnce
  stage : stage_fits next es place x.stage ≡ true

asked-not : (q : Qos) → is_asked q ≡ true → q ≢ AtMostOnce
asked-not AtMostOnce a = absurd (false≢true a)
asked-not AtLeastOnce a = λ z. (cc z)
asked-not ExactlyOnce a = λ z. (cc z)

parts : (next place : ℕ) (x : Entry) (es : Entries) → precedes next es place x ≡ true → Parts next place x es
parts next place x es p =
    let a = and_parts (nat_le 1 place) _ p in
    let b = and_parts (nat_lt place (first_place next es)) _ a.1 in
    let c = and_parts (not x.here) _ b.1 in
    let d = and_parts (is_asked x.delivery.qos) _ c.1 in
    record { least = leb-true 1 place a.0; before = ltb-true place (first_place next es) b.0; asked = asked-not x.delivery.qos d.0; stage = d.1 }

-- the place of the first that waits, or the next
first_waiting : ℕ → Entries → ℕ
first_waiting next [] = next
first_waiting next (e ∷ es) = cond (waits e.1.stage) e.0 (first_waiting next es)

waiting-past : (next : ℕ) (es : Entries) → agree next es ≡ true → first_place next es ≤ first_waiting next es
unfolding first_waiting
waiting-past next [] a = omega arith
waiting-past next (e ∷ es) a = elim (cases_Bool (waits e.1.stage)) [
  | inl t ↦ rw t (omega arith)
  | inr f ↦
      let b = both next e es a in
      let lt = (parts next e.0 e.1 es b.0).before in
      let le = waiting-past next es b.1 in
      rw f (omega (arith, lt, le))
]

all-waiting : (next : ℕ) (es : Entries) → all_wait es ≡ true → first_waiting next es ≡ first_place next es
unfolding first_waiting
all-waiting next [] w = refl
all-waiting next (e ∷ es) w = rw (and_parts (waits e.1.stage) (all_wait es) w).0 refl

not-has : (b : Bool) → not b ≡ true → b ≡ false
not-has true n = absurd (false≢true n)
not-has false n = refl

-- ---- each stands where it may
-- of an entry, with the place that its stage leaves to the first that waits
stands-stage : (next place : ℕ) (s : Stage) (es : Entries) → agree next es ≡ true → place < first_place next es → stage_fits next es place s ≡ true
    → Faces s place (cond (waits s) place (first_waiting next es)) (cond (nat_lt (stage_order s) (order_above es)) (order_above es) (stage_order s + 1)) es × (past s (cond (waits s) place (first_waiting next es)) ≡ first_waiting next es)
stands-stage next place Waiting es a lt f =
    let p = and_parts (all_wait es) _ f in
    (refl, eqb-true (place + 1) (first_place next es) p.1 ∙ sym (all-waiting next es p.0))
stands-stage next place (Published id) es a lt f = (let le = waiting-past next es a in omega (arith, lt, le), refl)
stands-stage next place (Released id order) es a lt f =
    let le = waiting-past next es a in
    let g = and_parts (is_free id es) _ f in
    let h = and_parts (nat_le 1 order) _ g.1 in
    let k = and_parts (nat_lt order _) _ h.1 in
    ((omega (arith, lt, le), leb-true 1 order h.0, (above-head order (order_above es)).1, not-has (has_order order es) k.1), refl)

stands-all : (low next : ℕ) (es : Entries) → agree next es ≡ true → low < first_place next es → IsSound low (first_waiting next es) next (order_above es) es
unfolding first_waiting
stands-all low next [] a lt = (lt, refl)
stands-all low next (e ∷ es) a lt =
    let b = both next e es a in
    let p = parts next e.0 e.1 es b.0 in
    let s = stands-stage next e.0 e.1.stage es b.1 p.before p.stage in
    let rest = more e.0 (first_waiting next es) next (order_above es) (order_above (e ∷ es)) es (above-head (stage_order e.1.stage) (order_above es)).0 (stands-all e.0 next es b.1 p.before) in
    (lt, p.asked, s.0, subst (λ (f : ℕ). IsSound e.0 f next (order_above (e ∷ es)) es) (sym s.1) rest)

-- ---- orders
stage-order : (next place : ℕ) (s : Stage) (es : Entries) → stage_fits next es place s ≡ true → stage_order s < 2 ^ 62
stage-order next place Waiting es f = omega arith
stage-order next place (Published id) es f = omega arith
stage-order next place (Released id order) es f =
    let g = and_parts (is_free id es) _ f in
    let h = and_parts (nat_le 1 order) _ g.1 in
    ltb-true order _ (and_parts (nat_lt order _) _ h.1).0

orders-small : (next : ℕ) (es : Entries) → agree next es ≡ true → order_above es ≤ 2 ^ 62
orders-small next [] a = omega arith
orders-small next (e ∷ es) a =
    let b = both next e es a in
    let small = stage-order next e.0 e.1.stage es (parts next e.0 e.1 es b.0).stage in
    elim (cases_Bool (nat_lt (stage_order e.1.stage) (order_above es))) [
      | inl t ↦ rw t (orders-small next es b.1)
      | inr f ↦ rw f (omega (arith, small))
    ]

first-least : (next : ℕ) (es : Entries) → agree next es ≡ true → 0 < first_place next es
first-least next [] a = let p = agree-next next [] a in omega (arith, p.0)
first-least next (e ∷ es) a = let b = both next e es a in let p = (parts next e.0 e.1 es b.0).least in omega (arith, p)

pub stands-restored : (next : ℕ) (es : Entries) → agree next es ≡ true → Stands (restored next es)
stands-restored next es a = record {
  first = first_waiting next es;
  sound = stands-all 0 next es a (first-least next es a);
  end = (agree-next next es a).1;
  least = above-least es;
  most = orders-small next es a;
}

-- ---- identifiers
none-of : (o : Option Entry) → not (is_some o) ≡ true → o ≡ None
none-of None f = refl
none-of (Some x) f = absurd (false≢true f)

free-parts : (id : ℕ) (es : Entries) → is_free id es ≡ true → (1 ≤ id) × (find_id id es ≡ None)
free-parts id es f =
    let p = and_parts (not (id == 0)) (not (is_some (find_id id es))) f in
    let apart : id ≢ 0 = λ z. false≢true (sym (not-has (id == 0) p.0) ∙ eq-eqb id 0 z) in
    (omega (arith, apart), none-of (find_id id es) p.1)

numbered-stage : (next place : ℕ) (s : Stage) (es : Entries) → stage_id s < 2 ^ 16 → stage_fits next es place s ≡ true → IsNumbered s es
numbered-stage next place Waiting es small f = tt
numbered-stage next place (Published id) es small f = let p = free-parts id es f in (p.0, omega (arith, small), p.1)
numbered-stage next place (Released id order) es small f = let p = free-parts id es (and_parts (is_free id es) _ f).0 in (p.0, omega (arith, small), p.1)

pub numbered-agreed : (next : ℕ) (es : Entries) → AllByRecursion (λ e. stage_id e.1.stage < 2 ^ 16) es → agree next es ≡ true → AreNumbered es
numbered-agreed next [] small a = tt
numbered-agreed next (e ∷ es) small a =
    let b = both next e es a in
    (numbered-stage next e.0 e.1.stage es small.0 (parts next e.0 e.1 es b.0).stage, numbered-agreed next es small.1 b.1)

-- ---- places
pub next-past : (low first next bound : ℕ) (es : Entries) → IsSound low first next bound es → low < next
next-past low first next bound [] h = h.0
next-past low first next bound (e ∷ es) h = let k = next-past e.0 (past e.1.stage first) next bound es h.3 in omega (arith, h.0, k)

pub sound-below : (low first next bound : ℕ) (es : Entries) → IsSound low first next bound es → AllPlacesBelow es next
sound-below low first next bound [] h = tt
sound-below low first next bound (e ∷ es) h = (next-past e.0 (past e.1.stage first) next bound es h.3, sound-below e.0 (past e.1.stage first) next bound es h.3)
