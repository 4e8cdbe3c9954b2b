-- The copies of a session without those that wait.
use Rattle.std.proofs.Common.{◌≡◌, ◌≢◌, inl, inr, ℕ, zero, suc, ◌<◌, ◌≤◌, ◌^◌, Bool, true, false, cond, not, ◌&&◌, ◌||◌, List, [], ◌∷◌, length, Option, Some, None, arith, refl, sym, ap, subst, ◌∙◌}
use Rattle.std.specs.Prelude.{nat_le, nat_lt, is_some, ◌==◌}
use Rattle.std.specs.List.{AllByRecursion, filter}
use Rattle.std.proofs.lemmas.Bool.{and_parts, cases_Bool, leb-true, ltb-true}
use Rattle.std.proofs.lemmas.Bool.Decides.{nat_tests}
use Rattle.mqtt_message.specs.declared.delivery.Delivery.{Delivery}
use Rattle.qos_handshakes.specs.declared.copies.Entry.{Entry}
use Rattle.qos_handshakes.specs.declared.copies.Stage.{Stage}
use Rattle.qos_handshakes.specs.declared.copies.Stage.TheVariants.{Waiting, Published, Released}
use Rattle.qos_handshakes.specs.Entries.{Entries, find_id, has_id, stage_has}
use Rattle.qos_handshakes.specs.Outbox.{waiting, waits}
use Rattle.qos_handshakes.specs.Restored.{agree, first_place, has_order, is_asked, is_free, precedes, stage_fits, was_released}
use Rattle.session_rows.specs.Durable.{Durable, HasForm, IsDurable}
use Rattle.session_rows.specs.Fields.{main}
use Rattle.session_rows.specs.Reachable.{IsReachable}
use Rattle.row_drops.specs.Dropping.{ended, exchanges, without_queue}

pub all_left : (P : ℕ × Entry → Type 0) (es : Entries) → AllByRecursion P es → AllByRecursion P (exchanges es)
all_left P [] all = tt
all_left P (e ∷ es) all = by (waits e.1.stage) (all_left P es all.1)
  where
    by : (b : Bool) → AllByRecursion P (exchanges es) → AllByRecursion P (cond (not b) (e ∷ exchanges es) (exchanges es))
    by true rest = rest
    by false rest = (all.0, rest)

none_wait : (es : Entries) → waiting (exchanges es) ≡ []
none_wait [] = refl
none_wait (e ∷ es) = by (waits e.1.stage) refl (none_wait es)
  where
    by : (b : Bool) → waits e.1.stage ≡ b → waiting (exchanges es) ≡ [] → waiting (cond (not b) (e ∷ exchanges es) (exchanges es)) ≡ []
    by true is rest = rest
    by false is rest = rw is rest

-- ---- identifiers and orders of release are those of exchanges
no_id : (id : ℕ) (s : Stage) → waits s ≡ true → stage_has id s ≡ false
no_id id Waiting is = refl
no_id id (Published i) is = absurd (cc)
no_id id (Released i order) is = absurd (cc)

no_order : (order : ℕ) (s : Stage) → waits s ≡ true → was_released order s ≡ false
no_order order Waiting is = refl
no_order order (Published i) is = absurd (cc)
no_order order (Released i o) is = absurd (cc)

ids_left : (id : ℕ) (es : Entries) → find_id id (exchanges es) ≡ find_id id es
ids_left id [] = refl
ids_left id (e ∷ es) = by (waits e.1.stage) refl (ids_left id es)
  where
    by : (b : Bool) → waits e.1.stage ≡ b → find_id id (exchanges es) ≡ find_id id es → find_id id (cond (not b) (e ∷ exchanges es) (exchanges es)) ≡ cond (has_id id e.1) (Some e.1) (find_id id es)
    by true is rest = rw (no_id id e.1.stage is) rest
    by false is rest = ap (cond (has_id id e.1) (Some e.1)) rest

orders_left : (order : ℕ) (es : Entries) → has_order order (exchanges es) ≡ has_order order es
orders_left order [] = refl
orders_left order (e ∷ es) = by (waits e.1.stage) refl (orders_left order es)
  where
    by : (b : Bool) → waits e.1.stage ≡ b → has_order order (exchanges es) ≡ has_order order es → has_order order (cond (not b) (e ∷ exchanges es) (exchanges es)) ≡ (was_released order e.1.stage || has_order order es)
    by true is rest = rw (no_order order e.1.stage is) rest
    by false is rest = ap (λ b. was_released order e.1.stage || b) rest

free_left : (id : ℕ) (es : Entries) → is_free id (exchanges es) ≡ is_free id es
free_left id es = ap (λ o. not (id == 0) && not (is_some o)) (ids_left id es)

fits_left : (next : ℕ) (es : Entries) (place : ℕ) (s : Stage) → waits s ≡ false → stage_fits next (exchanges es) place s ≡ stage_fits next es place s
fits_left next es place Waiting is = absurd (cc)
fits_left next es place (Published id) is = free_left id es
fits_left next es place (Released id order) is = λ i. free_left id es i && (nat_le 1 order && (nat_lt order (2 ^ 62) && not (orders_left order es i)))

-- ---- places
below : (e : ℕ × Entry) (next : ℕ) (es : Entries) → precedes next es e.0 e.1 ≡ true → e.0 < first_place next es
below e next es is = ltb-true _ _ (and_parts _ _ (and_parts (nat_le 1 e.0) _ is).1).0

both : (a b : Bool) → a ≡ true → b ≡ true → (a && b) ≡ true
both true b e f = f
both false b e f = absurd (cc)

less : (a b : ℕ) → a < b → nat_lt a b ≡ true
less a b low = grind (arith, nat_tests)

first_later : (next : ℕ) (es : Entries) → agree next es ≡ true → first_place next es ≤ first_place next (exchanges es)
first_later next [] is = omega arith
first_later next (e ∷ es) is =
    let parts = and_parts _ (agree next es) is in
    by (waits e.1.stage) (below e next es parts.0) (first_later next es parts.1)
  where
    by : (b : Bool) → e.0 < first_place next es → first_place next es ≤ first_place next (exchanges es) → e.0 ≤ first_place next (cond (not b) (e ∷ exchanges es) (exchanges es))
    by true low rest = omega (arith, low, rest)
    by false low rest = omega arith

precedes_left : (next : ℕ) (e : ℕ × Entry) (es : Entries) → waits e.1.stage ≡ false → agree next es ≡ true → precedes next es e.0 e.1 ≡ true → precedes next (exchanges es) e.0 e.1 ≡ true
precedes_left next e es stage agrees is =
    let one = and_parts (nat_le 1 e.0) _ is in
    let two = and_parts (nat_lt e.0 (first_place next es)) _ one.1 in
    let three = and_parts (not e.1.here) _ two.1 in
    let four = and_parts (is_asked e.1.delivery.qos) _ three.1 in
    both _ _ one.0 (both _ _ (less e.0 (first_place next (exchanges es)) (omega (arith, below e next es is, first_later next es agrees)))
    (both _ _ three.0 (both _ _ four.0 (fits_left next es e.0 e.1.stage stage ∙ four.1))))

agree_left : (next : ℕ) (es : Entries) → agree next es ≡ true → agree next (exchanges es) ≡ true
agree_left next [] is = is
agree_left next (e ∷ es) is =
    let parts = and_parts _ (agree next es) is in
    by (waits e.1.stage) refl parts.0 parts.1 (agree_left next es parts.1)
  where
    by : (b : Bool) → waits e.1.stage ≡ b → precedes next es e.0 e.1 ≡ true → agree next es ≡ true → agree next (exchanges es) ≡ true → agree next (cond (not b) (e ∷ exchanges es) (exchanges es)) ≡ true
    by true stage here agrees rest = rest
    by false stage here agrees rest = both _ _ (precedes_left next e es stage agrees here) rest

agree_end : (next : ℕ) (es : Entries) → agree next es ≡ true → agree next [] ≡ true
agree_end next [] is = is
agree_end next (e ∷ es) is = agree_end next es (and_parts _ (agree next es) is).1

-- ---- such sessions can last
pub queue_lasts : (d : Durable) → IsDurable d → IsDurable (without_queue d)
queue_lasts d is = record {
  form = record { client = is.form.client; main = is.form.main; copies = all_left _ d.copies is.form.copies };
  sound = is.sound;
  rise = is.rise;
  agree = agree_left d.main.next_place d.copies is.agree;
  reachable = record {
    identifiers = is.reachable.identifiers;
    released = all_left _ d.copies is.reachable.released;
    waiting = subst (λ (ds : List Delivery). length ds ≤ 65536) (sym (none_wait d.copies)) (omega arith);
  };
}

main_fits : (d : Durable) → main.Fits d.main → main.Fits (ended d).main
unfolding main
main_fits d fits = (omega arith, ((omega arith, omega arith), fits.1.1))

pub end_lasts : (d : Durable) → IsDurable d → IsDurable (ended d)
end_lasts d is = record {
  form = record { client = is.form.client; main = main_fits d is.form.main; copies = tt };
  sound = record { publishable = is.sound.publishable; moment = omega arith };
  rise = is.rise;
  agree = agree_end d.main.next_place d.copies is.agree;
  reachable = record { identifiers = is.reachable.identifiers; released = tt; waiting = omega arith };
}
