-- Lanes that are read from their rows.
use Rattle.std.proofs.Common.{◌≡◌, ◌≢◌, ℕ, zero, suc, ◌+◌, ◌-◌, ◌<◌, ◌≤◌, ◌^◌, Bool, true, false, ◌&&◌, List, [], ◌∷◌, ◌++◌, map, length, take, get_or, append-nil, refl, sym, ap, subst, ◌∙◌, arith}
use Rattle.std.specs.Prelude.{◌==◌, if◌then◌else◌, Result, Ok, Err}
use Rattle.std.specs.Int.{w64}
use Rattle.std.specs.List.{AllByRecursion}
use Rattle.std.proofs.lemmas.Bool.{cases_Bool, eqb-true, and_parts}
use Rattle.std.proofs.lemmas.List.{take_more}
use Rattle.mqtt_fields.specs.declared.fault.FieldFault.{FieldFault}
use Rattle.mqtt_fields.specs.declared.fault.FieldFault.TheVariants.{Short, Malformed, Repeated, NotHere, NoMemory}
use Rattle.mqtt_fields.specs.Field.{after}
use Rattle.mqtt_fields.specs.Numbers.{number}
use Rattle.mqtt_fields.proofs.Laws.{after_is}
use Rattle.mqtt_fields.proofs.NumberLaws.{number_is, wide64}
use Rattle.row_store.specs.declared.row.Row.{Row}
use Rattle.row_store.specs.Rows.{entry_of, Plain}
use Rattle.bridge_frames.specs.declared.forward.Forward.{Forward}
use Rattle.bridge_frames.specs.Forwards.{forward}
use Rattle.bridge_lanes.specs.Rows.{Messages, last_put, message_row, message_rows, numbers_key, numbers_value, numbers_rows}
use Rattle.mqtt_fields.specs.Reading.{Finds}
use Rattle.bridge_lanes.specs.Reading.{AreMessages, AreNumbers, IsLane, IsLaneOf, IsMessage}
use Rattle.bridge_lanes.proofs.Leading.{message_both}
use Rattle.bridge_lanes.proofs.Lists.{mapped_last}
use Rattle.bridge_lanes.proofs.Order.{all_both}
use Rattle.mqtt_fields.proofs.Whole.{one_value}

-- a fault that is handed on
pub handed : {X Y A B : Type 0} (view : X → A) (seen : Y → B) (Is : A → Type 0) (Was : B → Type 0) (r : Result X FieldFault) (e f : FieldFault) → r ≡ Err f → f ≡ e → (((b : B) → Was b → ⊥) → (a : A) → Is a → ⊥)
    → Finds seen Was (Err e) → Finds view Is r
handed {X} {Y} {A} {B} view seen Is Was r e f is same turn found = subst (λ (x : Result X FieldFault). Finds view Is x) (sym (is ∙ ap Err same)) (by e found)
  where
    by : (e : FieldFault) → Finds {X = Y} seen Was (Err e) → Finds {X = X} view Is (Err e)
    by NoMemory h = tt
    by Short h = turn h
    by Malformed h = turn h
    by Repeated h = turn h
    by NotHere h = turn h

-- ---- messages one by one
pub count_rows : (p n : ℕ) (ms : List Forward) → length (message_rows p n ms) ≡ length ms
count_rows p n [] = refl
count_rows p n (m ∷ ms) = ap suc (count_rows p (suc n) ms)

count_mapped : (rs : List Row) → length (map entry_of rs) ≡ length rs
count_mapped [] = refl
count_mapped (r ∷ rs) = ap suc (count_mapped rs)

count_taken : (rs : List Row) (i : ℕ) → i ≤ length rs → length (map entry_of (take i rs)) ≡ i
count_taken rs zero few = refl
count_taken [] (suc i) few = absurd (omega (arith, few))
count_taken (r ∷ rs) (suc i) few = ap suc (count_taken rs i (omega (arith, few)))

taken_more : (rs : List Row) (i : ℕ) (r : Row) → i < length rs → r ≡ get_or rs i r → map entry_of (take (i + 1) rs) ≡ map entry_of (take i rs) ++ entry_of r ∷ []
taken_more rs i r lt at = ap (map entry_of) (take_more rs i r lt ∙ ap (λ (y : Row). take i rs ++ y ∷ []) (sym at)) ∙ mapped_last entry_of (take i rs) r

pub next_read : (p base i : ℕ) (rs : List Row) (r : Row) (ms new : List Forward) (m : Forward) → i < length rs → r ≡ get_or rs i r → AreMessages p (suc base) (map entry_of (take i rs)) ms → IsMessage p (base + i + 1) (entry_of r) m → new ≡ ms ++ m ∷ []
    → AreMessages p (suc base) (map entry_of (take (i + 1) rs)) new
next_read p base i rs r ms new m inside at are is pushed =
    let count : length ms ≡ i = sym (count_rows p (suc base) ms) ∙ sym (ap length are.0) ∙ count_taken rs i (omega (arith, inside)) in
    let same : base + i + 1 ≡ suc base + length ms = omega (arith, count) in
    subst (AreMessages p (suc base) (map entry_of (take (i + 1) rs))) (sym pushed) (
      taken_more rs i r inside at ∙ (λ k. are.0 k ++ is.0 k ∷ []) ∙ ap (λ n. message_rows p (suc base) ms ++ message_row p n m ∷ []) same ∙ sym (message_both p (suc base) ms (m ∷ [])),
      all_both forward.Fits ms (m ∷ []) are.1 (is.1, tt),
    )

nth : (p n i : ℕ) (rs : List Row) (ms : List Forward) (r : Row) → map entry_of rs ≡ message_rows p n ms → AllByRecursion forward.Fits ms → i < length rs → r ≡ get_or rs i r → (m : Forward) × IsMessage p (n + i) (entry_of r) m
nth p n i [] ms r is fits inside at = absurd (omega (arith, inside))
nth p n i (x ∷ rs) [] r is fits inside at = absurd (cc)
nth p n zero (x ∷ rs) (m ∷ ms) r is fits inside at =
    let first : entry_of x ≡ message_row p n m = cc in
    let same : n ≡ n + 0 = omega arith in
    (m, (ap entry_of at ∙ first ∙ ap (λ k. message_row p k m) same, fits.0))
nth p n (suc i) (x ∷ rs) (m ∷ ms) r is fits inside at =
    let rest : map entry_of rs ≡ message_rows p (suc n) ms = cc in
    let same : suc n + i ≡ n + suc i = omega arith in
    subst (λ k. (m : Forward) × IsMessage p k (entry_of r) m) same (nth p (suc n) i rs ms r rest fits.1 (omega (arith, inside)) at)

pub none_at : (p base i : ℕ) (rs : List Row) (r : Row) → i < length rs → r ≡ get_or rs i r → ((m : Forward) → IsMessage p (base + i + 1) (entry_of r) m → ⊥) → (ms : List Forward) → AreMessages p (suc base) (map entry_of rs) ms → ⊥
none_at p base i rs r inside at none ms are =
    let there = nth p (suc base) i rs ms r are.0 are.1 inside at in
    let same : suc base + i ≡ base + i + 1 = omega arith in
    none there.0 (subst (λ k. IsMessage p k (entry_of r) there.0) same there.1)

-- ---- numbers
one_value_of : (x y z w : ℕ) → x < 2 ^ 64 → y < 2 ^ 64 → z < 2 ^ 64 → w < 2 ^ 64 → numbers_value x y ≡ numbers_value z w → (x ≡ z) × (y ≡ w)
one_value_of x y z w a b c d e =
    let one : ℕ × ℕ = (x, y) in
    let two : ℕ × ℕ = (z, w) in
    let same : one ≡ two = one_value (after (number w64) (λ _. number w64)) (after_is (number w64) (λ _. number w64) (number_is w64 wide64) (λ _. number_is w64 wide64)) one two (omega (arith, a), omega (arith, b)) (omega (arith, c), omega (arith, d)) e in
    (ap (λ (k : ℕ × ℕ). k.0) same, ap (λ (k : ℕ × ℕ). k.1) same)

zeros : (x y : ℕ) → ((x == 0) && (y == 0)) ≡ true → (x ≡ 0) × (y ≡ 0)
zeros x y e = (let parts = and_parts (x == 0) (y == 0) e in (eqb-true x 0 parts.0, eqb-true y 0 parts.1))

abbrev rows_by : Bool → ℕ → ℕ → ℕ → List Plain
rows_by b p x y = if b then [] else (numbers_key p, numbers_value x y) ∷ []

pub one_pair : (p x y z w : ℕ) → x < 2 ^ 64 → y < 2 ^ 64 → z < 2 ^ 64 → w < 2 ^ 64 → numbers_rows p x y ≡ numbers_rows p z w → (x ≡ z) × (y ≡ w)
one_pair p x y z w a b c d e = by ((x == 0) && (y == 0)) ((z == 0) && (w == 0)) refl refl e
  where
    by : (s t : Bool) → ((x == 0) && (y == 0)) ≡ s → ((z == 0) && (w == 0)) ≡ t → rows_by s p x y ≡ rows_by t p z w → (x ≡ z) × (y ≡ w)
    by true true s t same = (let m = zeros x y s in let n = zeros z w t in (m.0 ∙ sym n.0, m.1 ∙ sym n.1))
    by true false s t same = absurd (cc)
    by false true s t same = absurd (cc)
    by false false s t same =
        let one : Plain = (numbers_key p, numbers_value x y) in
        let two : Plain = (numbers_key p, numbers_value z w) in
        let row : one ≡ two = cc in
        one_value_of x y z w a b c d (ap (λ (e : Plain). e.1) row)

-- ---- lanes
module _ (p : ℕ) (messages own : List Plain) where
  pub no_numbers : ((x : ℕ × ℕ) → AreNumbers p own x → ⊥) → (a : Messages) → IsLaneOf p messages own a → ⊥
  no_numbers none a is = none (last_put a, a.took) (is.numbers, omega (arith, is.sound.below), omega (arith, is.sound.took))

  module _ (count put took : ℕ) (counted : length messages ≡ count) (numbers : AreNumbers p own (put, took)) where
    -- what any such lanes have
    same_numbers : (a : Messages) → IsLaneOf p messages own a → (last_put a ≡ put) × (a.took ≡ took)
    same_numbers a is = one_pair p (last_put a) a.took put took (omega (arith, is.sound.below)) (omega (arith, is.sound.took)) numbers.1 numbers.2 (sym is.numbers ∙ numbers.0)

    same_count : (a : Messages) → IsLaneOf p messages own a → length a.waiting ≡ count
    same_count a is = sym (count_rows p (suc a.gone) a.waiting) ∙ sym (ap length is.waiting) ∙ counted

    pub cannot_be : ((count ≤ 65536) × (put < 2 ^ 62) × (count ≤ put) × (took < 2 ^ 62) → ⊥) → (a : Messages) → IsLaneOf p messages own a → ⊥
    cannot_be none a is =
        let n = same_numbers a is in
        let c = same_count a is in
        none (omega (arith, c, is.sound.few), omega (arith, n.0, is.sound.below), omega (arith, n.0, c), omega (arith, n.1, is.sound.took))

    pub no_messages : ((ms : List Forward) → AreMessages p (suc (put - count)) messages ms → ⊥) → (a : Messages) → IsLaneOf p messages own a → ⊥
    no_messages none a is =
        let n = same_numbers a is in
        let c = same_count a is in
        let gone : suc a.gone ≡ suc (put - count) = omega (arith, n.0, c) in
        none a.waiting (is.waiting ∙ ap (λ k. message_rows p k a.waiting) gone, is.sound.spelled)

    pub lane_is : (ms : List Forward) → (count ≤ 65536) × (put < 2 ^ 62) × (count ≤ put) × (took < 2 ^ 62) → AreMessages p (suc (put - count)) messages ms → IsLaneOf p messages own (record { gone = put - count; waiting = ms; took = took })
    lane_is ms can are =
        let c : length ms ≡ count = sym (count_rows p (suc (put - count)) ms) ∙ sym (ap length are.0) ∙ counted in
        let all : put ≡ put - count + length ms = omega (arith, c, can.2) in
        record {
          sound = record { few = omega (arith, c, can.0); below = omega (arith, all, can.1); took = can.3; spelled = are.1 };
          waiting = are.0;
          numbers = numbers.0 ∙ ap (λ n. numbers_rows p n took) all;
        }

pub counted_rows : (rs : List Row) → length (map entry_of rs) ≡ length rs
counted_rows = count_mapped
