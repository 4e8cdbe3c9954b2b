-- Rows and changes of lanes stand in the order of their keys.
use Rattle.std.proofs.Common.{◌≡◌, inl, inr, ℕ, suc, ◌+◌, ◌<◌, ◌≤◌, ◌^◌, Bool, true, false, ◌&&◌, T, List, [], ◌∷◌, ◌++◌, map, length, Some, sym, subst, arith}
use Rattle.std.specs.Prelude.{◌==◌, if◌then◌else◌}
use Rattle.std.specs.FinMap.{is_sorted}
use Rattle.std.specs.List.{AllByRecursion}
use Rattle.bridge_lanes.specs.Lanes.{Lanes}
use Rattle.bridge_frames.specs.declared.forward.Forward.{Forward}
use Rattle.row_store.specs.Gathered.{AreOnce}
use Rattle.row_store.specs.declared.row.Change.{Change}
use Rattle.row_store.specs.Rows.{Key, key_cmp, Plain}
use Rattle.bridge_lanes.specs.Rows.{Messages, each, last_put, message_rows, numbers_key, numbers_of, numbers_rows, numbers_value, owner, rows_of, waiting_of}
use Rattle.bridge_lanes.specs.ChangeSteps.{changes_of, message_changes, numbers_changes, IsSoundLane}
use Rattle.bridge_lanes.specs.Changes.{KeptLane, Left, left_of, put}
use Rattle.bridge_lanes.specs.Reading.{AreLanes, IsLane}
use Rattle.bridge_lanes.specs.Laws.{RowsRise}
use Rattle.bridge_lanes.proofs.Keys.{later_kind, later_owner}
use Rattle.bridge_lanes.proofs.Leading.{IsOf, changes_are, each_all, kinds, message_changes_of, messages_of, messages_rise, numbers_are, numbers_changes_of, rows_rise}
use Rattle.bridge_lanes.proofs.Order.{IsAbove, Rises, all_back, all_both, all_front, all_turned, changes_above, cut_changes, put_above, rises_both, rises_sorted}

module _ {X V : Type 0} (kind : ℕ) (f : ℕ → X → List (Key × V)) (of : (p : ℕ) (x : X) → AllByRecursion (IsOf kind p) (f p x)) where
  each_above : (p : ℕ) (k : Key) → k.0 ≡ kind → k.1.0 ≡ owner p → (b : ℕ) (xs : List X) → p < b → b + length xs ≤ 2 ^ 16 → AllByRecursion (IsAbove k) (each f b xs)
  each_above p k at own b [] low few = tt
  each_above p k at own b (x ∷ xs) low few =
      all_both (IsAbove k) (f b x) (each f (suc b) xs)
      (all_turned (IsOf kind b) (IsAbove k) (f b x) (λ e is. later_owner kind p b k e.0 at is.0 own is.1 low (omega (arith, few))) (of b x))
      (each_above p k at own (suc b) xs (omega (arith, low)) (omega (arith, few)))

  each_rises : (Q : X → Type 0) → ((p : ℕ) (x : X) → Q x → Rises (f p x)) → (p : ℕ) (xs : List X) → p + length xs ≤ 2 ^ 16 → AllByRecursion Q xs → Rises (each f p xs)
  each_rises Q rise p [] few all = tt
  each_rises Q rise p (x ∷ xs) few all =
      rises_both (f p x) (each f (suc p) xs) (rise p x all.0) (each_rises Q rise (suc p) xs (omega (arith, few)) all.1)
      (all_turned (IsOf kind p) (λ a. AllByRecursion (IsAbove a.0) (each f (suc p) xs)) (f p x) (λ a is. each_above p a.0 is.0 is.1 (suc p) xs (omega arith) (omega (arith, few))) (of p x))

-- messages stand before numbers
in_two : {V : Type 0} (xs ys : List (Key × V)) → AllByRecursion (λ e. e.0.0 ≡ 7) xs → AllByRecursion (λ e. e.0.0 ≡ 8) ys → Rises xs → Rises ys → Rises (xs ++ ys)
in_two xs ys seven eight up also =
    rises_both xs ys up also (all_turned (λ x. x.0.0 ≡ 7) (λ x. AllByRecursion (IsAbove x.0) ys) xs (λ x s. all_turned (λ y. y.0.0 ≡ 8) (IsAbove x.0) ys (λ y e. later_kind x.0 y.0 s e) eight) seven)

numbers_rise : (p x y : ℕ) → Rises (numbers_rows p x y)
numbers_rise p x y = by ((x == 0) && (y == 0))
  where
    by : (z : Bool) → Rises (if z then [] else (numbers_key p, numbers_value x y) ∷ [])
    by true = tt
    by false = (tt, tt)

pub rows_in_order : RowsRise
rows_in_order nodes lanes small are =
    let few : 0 + length lanes ≤ 2 ^ 16 = omega (arith, small, are.count) in
    let first = each_rises 7 waiting_of (λ p l. messages_of p (suc l.gone) l.waiting) IsLane (λ p l sound. messages_rise p (suc l.gone) l.waiting (omega (arith, sound.below))) 0 lanes few are.sound in
    let last = each_rises 8 numbers_of (λ p l. numbers_are p (last_put l) l.took) IsLane (λ p l sound. numbers_rise p (last_put l) l.took) 0 lanes few are.sound in
    rises_sorted (rows_of lanes) (in_two (each waiting_of 0 lanes) (each numbers_of 0 lanes)
    (each_all (λ e. e.0.0 ≡ 7) waiting_of (λ p l. kinds 7 p _ (messages_of p (suc l.gone) l.waiting)) 0 lanes)
    (each_all (λ e. e.0.0 ≡ 8) numbers_of (λ p l. kinds 8 p _ (numbers_are p (last_put l) l.took)) 0 lanes) first last)

-- ---- changes

put_rises : (p : List Plain) → Rises p → Rises (map put p)
put_rises [] up = tt
put_rises (x ∷ p) up = (put_above x.0 p up.0, put_rises p up.1)

cut_rises : (r k p : List Plain) → Rises (r ++ (k ++ p)) → Rises (cut_changes r p)
cut_rises [] [] p up = put_rises p up
cut_rises [] (x ∷ k) p up = cut_rises [] k p up.1
cut_rises (x ∷ r) k p up = (changes_above x.0 r p (all_front (IsAbove x.0) r (k ++ p) up.0) (all_back (IsAbove x.0) k p (all_back (IsAbove x.0) r (k ++ p) up.0)), cut_rises r k p up.1)

lane_rises : (p : ℕ) (k : KeptLane) → IsSoundLane k → Rises (message_changes p k)
lane_rises p k sound = subst (λ (cs : List Left). Rises cs) (sym (changes_are p k sound.0 sound.1)) (cut_rises _ (message_rows p (suc k.lane.gone) sound.0.kept) _ (rows_rise p k sound.0 sound.1))

change_rises : (p : ℕ) (k : KeptLane) → Rises (numbers_changes p k)
change_rises p k = by ((last_put k.told == last_put k.lane) && (k.told.took == k.lane.took))
  where
    by : (z : Bool) → Rises (if z then [] else (numbers_key p, Some (numbers_value (last_put k.lane) k.lane.took)) ∷ [])
    by true = tt
    by false = (tt, tt)

pub changes_once : (ks : List KeptLane) (out : List Change) → length ks ≤ 2 ^ 16 → AllByRecursion IsSoundLane ks → map left_of out ≡ changes_of ks → AreOnce out
changes_once ks out small all made =
    let few : 0 + length ks ≤ 2 ^ 16 = omega (arith, small) in
    let first = each_rises 7 message_changes message_changes_of IsSoundLane lane_rises 0 ks few all in
    let last = each_rises 8 numbers_changes numbers_changes_of IsSoundLane (λ p k sound. change_rises p k) 0 ks few all in
    let up = in_two (each message_changes 0 ks) (each numbers_changes 0 ks)
    (each_all (λ e. e.0.0 ≡ 7) message_changes (λ p k. kinds 7 p _ (message_changes_of p k)) 0 ks)
    (each_all (λ e. e.0.0 ≡ 8) numbers_changes (λ p k. kinds 8 p _ (numbers_changes_of p k)) 0 ks) first last in
    subst (λ (cs : List Left). T (is_sorted key_cmp cs)) (sym made) (rises_sorted (changes_of ks) up)
