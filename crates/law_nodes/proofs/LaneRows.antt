-- The rows of lanes are those of the messages that wait and of the numbers that aren't both 0.
use Rattle.std.proofs.Common.{◌≡◌, ◌≢◌, ◌⊎◌, inl, inr, ℕ, zero, suc, ◌+◌, ◌<◌, ◌≤◌, Bool, true, false, cond, ◌&&◌, List, [], ◌∷◌, ◌++◌, length, get_or, Some, None, refl, sym, ap, subst, ◌∙◌, true≢false, arith}
use Rattle.std.specs.Prelude.{◌==◌, if◌then◌else◌, slice_get}
use Rattle.std.specs.FinMap.{find}
use Rattle.std.specs.List.{AllByRecursion}
use Rattle.std.proofs.lemmas.Bool.{cases_Bool, cases_lt, eqb-true, and_parts}
use Rattle.bridge_lanes.specs.Lanes.{Lanes, lane_of, new_lane}
use Rattle.bridge_frames.specs.declared.forward.Forward.{Forward}
use Rattle.row_store.specs.Rows.{Key, key_cmp, Plain}
use Rattle.bridge_lanes.specs.Rows.{Messages, each, last_put, message_key, message_row, message_rows, numbers_key, numbers_of, numbers_rows, numbers_value, rows_of, waiting_of}
use Rattle.bridge_lanes.proofs.Order.{IsAbove, Rises, all_both, itself, less_apart, other_key, same_is, same_key, sorted_rises}
use Rattle.bridge_lanes.proofs.Rising.{rows_in_order}
use Rattle.law_nodes.specs.Lanes.{IsLaneRow, RowsAreOfLanes}

some_is : {A : Type 0} (a b : A) → Some a ≡ Some b → a ≡ b
some_is a b e = cc

-- ---- what stands in a list is found, and what is found stands there

abbrev Stands : Plain → List Plain → Type 0
Stands e [] = ⊥
Stands e (x ∷ xs) = (x ≡ e) ⊎ Stands e xs

of_all : (P : Plain → Type 0) (xs : List Plain) → AllByRecursion P xs → (e : Plain) → Stands e xs → P e
of_all P [] all e there = absurd there
of_all P (x ∷ xs) all e (inl is) = subst P is all.0
of_all P (x ∷ xs) all e (inr later) = of_all P xs all.1 e later

found : (xs : List Plain) → Rises xs → (e : Plain) → Stands e xs → find key_cmp e.0 xs ≡ Some e.1
found [] up e there = absurd there
found (x ∷ xs) up e (inl is) =
    let tie : same_key e.0 x.0 ≡ true = ap (λ (y : Plain). same_key e.0 y.0) is ∙ itself e.0 in
    ap (λ b. cond b (Some x.1) (find key_cmp e.0 xs)) tie ∙ ap (λ (y : Plain). Some y.1) is
found (x ∷ xs) up e (inr later) =
    let above = of_all (IsAbove x.0) xs up.0 e later in
    ap (λ b. cond b (Some x.1) (find key_cmp e.0 xs)) (other_key e.0 x.0 (λ same. less_apart x.0 e.0 above (sym same))) ∙ found xs up.1 e later

is_of_all : (P : Plain → Type 0) (xs : List Plain) → AllByRecursion P xs → (q : Key) (v : List ℕ) → find key_cmp q xs ≡ Some v → P (q, v)
is_of_all P [] all q v e = absurd (cc)
is_of_all P (x ∷ xs) all q v e = elim (cases_Bool (same_key q x.0)) [
  | inl t ↦
      let value = some_is x.1 v (sym (ap (λ b. cond b (Some x.1) (find key_cmp q xs)) t) ∙ e) in
      subst P (λ i. (sym (same_is q x.0 t) i, value i)) all.0
  | inr f ↦ is_of_all P xs all.1 q v (sym (ap (λ b. cond b (Some x.1) (find key_cmp q xs)) f) ∙ e)
]

in_front : (e : Plain) (xs ys : List Plain) → Stands e xs → Stands e (xs ++ ys)
in_front e [] ys there = absurd there
in_front e (x ∷ xs) ys (inl is) = inl is
in_front e (x ∷ xs) ys (inr later) = inr (in_front e xs ys later)

in_back : (e : Plain) (xs ys : List Plain) → Stands e ys → Stands e (xs ++ ys)
in_back e [] ys there = there
in_back e (x ∷ xs) ys there = inr (in_back e xs ys there)

-- ---- of each lane

module _ {X : Type 0} (f : ℕ → X → List Plain) (d : X) where
  in_each : (e : Plain) (p i : ℕ) (xs : List X) → i < length xs → Stands e (f (p + i) (get_or xs i d)) → Stands e (each f p xs)
  in_each e p i [] inside there = absurd (omega (arith, inside))
  in_each e p zero (x ∷ xs) inside there =
      let same : p + 0 ≡ p = omega arith in
      in_front e (f p x) (each f (suc p) xs) (subst (λ n. Stands e (f n x)) same there)
  in_each e p (suc i) (x ∷ xs) inside there =
      let same : p + suc i ≡ suc p + i = omega arith in
      in_back e (f p x) (each f (suc p) xs) (in_each e (suc p) i xs (omega (arith, inside)) (subst (λ n. Stands e (f n (get_or xs i d))) same there))

  all_each : (P : Plain → Type 0) (p : ℕ) (xs : List X) → ((i : ℕ) → AllByRecursion P (f (p + i) (get_or xs i d))) → AllByRecursion P (each f p xs)
  all_each P p [] all = tt
  all_each P p (x ∷ xs) all =
      let here : p + 0 ≡ p = omega arith in
      all_both P (f p x) (each f (suc p) xs) (subst (λ n. AllByRecursion P (f n x)) here (all 0))
      (all_each P (suc p) xs (λ i. (let same : p + suc i ≡ suc p + i = omega arith in subst (λ n. AllByRecursion P (f n (get_or xs i d))) same (all (suc i)))))

  in_some : (e : Plain) (i : ℕ) (xs : List X) → i < length xs → Stands e (f i (get_or xs i d)) → Stands e (each f 0 xs)
  in_some e i xs low there = (let same : i ≡ 0 + i = omega arith in in_each e 0 i xs low (subst (λ n. Stands e (f n (get_or xs i d))) same there))

  of_each : (P : Plain → Type 0) (xs : List X) → ((i : ℕ) → AllByRecursion P (f i (get_or xs i d))) → AllByRecursion P (each f 0 xs)
  of_each P xs all = all_each P 0 xs (λ i. (let same : i ≡ 0 + i = omega arith in subst (λ n. AllByRecursion P (f n (get_or xs i d))) same (all i)))

-- ---- messages

in_messages : (p n k : ℕ) (ms : List Forward) (m : Forward) → slice_get ms k ≡ Some m → Stands (message_row p (n + k) m) (message_rows p n ms)
in_messages p n k [] m at = absurd (cc)
in_messages p n zero (x ∷ ms) m at =
    let same : n ≡ n + 0 = omega arith in
    let value = some_is x m at in
    inl (λ i. message_row p (same i) (value i))
in_messages p n (suc k) (x ∷ ms) m at =
    let same : suc n + k ≡ n + suc k = omega arith in
    inr (subst (λ j. Stands (message_row p j m) (message_rows p (suc n) ms)) same (in_messages p (suc n) k ms m at))

all_messages : (P : Plain → Type 0) (p n : ℕ) (ms : List Forward) → ((k : ℕ) (m : Forward) → slice_get ms k ≡ Some m → P (message_row p (n + k) m)) → AllByRecursion P (message_rows p n ms)
all_messages P p n [] all = tt
all_messages P p n (m ∷ ms) all = (
  (let here : n + 0 ≡ n = omega arith in subst (λ j. P (message_row p j m)) here (all 0 m refl)),
  all_messages P p (suc n) ms (λ k x at. (let same : n + suc k ≡ suc n + k = omega arith in subst (λ j. P (message_row p j x)) same (all (suc k) x at))),
)

-- ---- numbers

both_zero : (x y : ℕ) → ((x == 0) && (y == 0)) ≡ true → (x ≡ 0) × (y ≡ 0)
both_zero x y e = (let parts = and_parts (x == 0) (y == 0) e in (eqb-true x 0 parts.0, eqb-true y 0 parts.1))

not_both : (x y : ℕ) → ((x == 0) && (y == 0)) ≡ false → (x ≢ 0) ⊎ (y ≢ 0)
not_both zero zero e = absurd (true≢false e)
not_both zero (suc y) e = inr (λ is. omega (arith, is))
not_both (suc x) y e = inl (λ is. omega (arith, is))

some_put : (x y : ℕ) → (x ≢ 0) ⊎ (y ≢ 0) → ((x == 0) && (y == 0)) ≡ false
some_put x y some = elim (cases_Bool ((x == 0) && (y == 0))) [
  | inl t ↦ absurd (let zeros = both_zero x y t in elim some [ inl put ↦ put zeros.0 | inr took ↦ took zeros.1 ])
  | inr f ↦ f
]

in_numbers : (p x y : ℕ) → (x ≢ 0) ⊎ (y ≢ 0) → Stands (numbers_key p, numbers_value x y) (numbers_rows p x y)
in_numbers p x y some = subst (λ b. Stands (numbers_key p, numbers_value x y) (if b then [] else (numbers_key p, numbers_value x y) ∷ [])) (sym (some_put x y some)) (inl refl)

all_numbers : (P : Plain → Type 0) (p x y : ℕ) → ((x ≢ 0) ⊎ (y ≢ 0) → P (numbers_key p, numbers_value x y)) → AllByRecursion P (numbers_rows p x y)
all_numbers P p x y one = by ((x == 0) && (y == 0)) refl
  where
    by : (none : Bool) → ((x == 0) && (y == 0)) ≡ none → AllByRecursion P (if none then [] else (numbers_key p, numbers_value x y) ∷ [])
    by true e = tt
    by false e = (one (not_both x y e), tt)

-- ---- all lanes

past : {X : Type 0} (xs : List X) (i : ℕ) (d : X) → length xs ≤ i → get_or xs i d ≡ d
past [] i d over = refl
past (x ∷ xs) zero d over = absurd (omega (arith, over))
past (x ∷ xs) (suc i) d over = past xs i d (omega (arith, over))

module _ (lanes : Lanes Forward) where
  -- a lane that has something is there
  inside : (peer : ℕ) → (lane_of lanes peer ≡ new_lane → ⊥) → peer < length lanes
  inside peer some = elim (cases_lt peer (length lanes)) [
    | inl low ↦ low
    | inr over ↦ absurd (some (past lanes peer new_lane over))
  ]

  abbrev Is : Plain → Type 0
  Is e = IsLaneRow lanes e.0 e.1

  waiting_are : (i : ℕ) → AllByRecursion Is (waiting_of i (lane_of lanes i))
  waiting_are i =
      let l = lane_of lanes i in
      all_messages Is i (suc l.gone) l.waiting (λ k m at. (let count : suc l.gone + k ≡ suc (l.gone + k) = omega arith in
      inl (record { peer = i; number = suc l.gone + k; message = m; waits = (k, count, at); at = refl; is = refl })))

  numbers_are : (i : ℕ) → AllByRecursion Is (numbers_of i (lane_of lanes i))
  numbers_are i =
      let l = lane_of lanes i in
      all_numbers Is i (last_put l) l.took (λ some. inr (record { peer = i; some = some; at = refl; is = refl }))

  all_are : AllByRecursion Is (rows_of lanes)
  all_are = all_both Is (each waiting_of 0 lanes) (each numbers_of 0 lanes) (of_each waiting_of new_lane Is lanes waiting_are) (of_each numbers_of new_lane Is lanes numbers_are)

  stands : (key : Key) (value : List ℕ) → IsLaneRow lanes key value → Stands (key, value) (rows_of lanes)
  stands key value (inl w) =
      let l = lane_of lanes w.peer in
      let k = w.waits.0 in
      let low = inside w.peer (λ none. (let e : None ≡ Some w.message = sym (ap (λ (x : Messages). slice_get x.waiting k) none) ∙ w.waits.2 in cc)) in
      let count : suc (l.gone + k) ≡ suc l.gone + k = omega arith in
      let row : message_row w.peer (suc l.gone + k) w.message ≡ (key, value) = λ i. (sym (w.at ∙ ap (message_key w.peer) (w.waits.1 ∙ count)) i, sym w.is i) in
      in_front (key, value) (each waiting_of 0 lanes) (each numbers_of 0 lanes)
      (in_some waiting_of new_lane (key, value) w.peer lanes low (subst (λ (e : Plain). Stands e (waiting_of w.peer l)) row (in_messages w.peer (suc l.gone) k l.waiting w.message w.waits.2)))
  stands key value (inr n) =
      let l = lane_of lanes n.peer in
      let low = inside n.peer (λ none. elim n.some [ inl put ↦ put (ap last_put none) | inr took ↦ took (ap (λ (x : Messages). x.took) none) ]) in
      let row : (numbers_key n.peer, numbers_value (last_put l) l.took) ≡ (key, value) = λ i. (sym n.at i, sym n.is i) in
      in_back (key, value) (each waiting_of 0 lanes) (each numbers_of 0 lanes)
      (in_some numbers_of new_lane (key, value) n.peer lanes low (subst (λ (e : Plain). Stands e (numbers_of n.peer l)) row (in_numbers n.peer (last_put l) l.took n.some)))

pub rows_are : RowsAreOfLanes
rows_are nodes lanes small are key value = (
  is_of_all (λ e. IsLaneRow lanes e.0 e.1) (rows_of lanes) (all_are lanes) key value,
  λ is. found (rows_of lanes) (sorted_rises (rows_of lanes) (rows_in_order nodes lanes small are)) (key, value) (stands lanes key value is),
)
