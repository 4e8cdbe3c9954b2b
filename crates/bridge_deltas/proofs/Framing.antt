-- Frames with the messages of a lane.
use Rattle.std.proofs.Common.{◌≡◌, ◌≢◌, inl, inr, ℕ, zero, suc, ◌+◌, ◌-◌, ◌<◌, ◌≤◌, min, Bool, true, false, List, [], ◌∷◌, ◌++◌, length, take, drop, drop-cons, get_or, add-one, if◌then◌else◌, refl, sym, ap, ◌∙◌, arith}
use Rattle.std.specs.Prelude.{nat_eq}
use Rattle.std.proofs.Common.{length-drop}
use Rattle.std.proofs.Math.Seq.{drop-nil}
use Rattle.std.proofs.lemmas.Bool.{cases_lt}
use Rattle.std.proofs.lemmas.Bool.Decides.{nat_tests}
use Rattle.std.proofs.lemmas.List.{take_all}
use Rattle.bridge_frames.specs.declared.body.FrameBody.TheVariants as bodies
use Rattle.bridge_frames.specs.declared.forward.Forward.{Forward}
use Rattle.bridge_frames.specs.declared.frame.BridgeFrame.{BridgeFrame}
use Rattle.bridge_deltas.specs.Lane.{frames_from}
use Rattle.bridge_deltas.specs.More.{first_fitting, fitting, frames_after}

abbrev frame : ℕ → ℕ → ℕ → Forward → BridgeFrame
frame from to n m = record { from = from; to = to; body = bodies.Forward n m }

one_frame : (from to n : ℕ) (xs : List Forward) (i : ℕ) (d : Forward) → i < length xs → frames_from from to n (take (suc i) xs) ≡ frames_from from to n (take i xs) ++ frame from to (n + i) (get_or xs i d) ∷ []
one_frame from to n [] i d inside = absurd (omega (arith, inside))
one_frame from to n (x ∷ xs) zero d inside = let same : n ≡ n + 0 = omega arith in ap (λ k. frame from to k x ∷ []) same
one_frame from to n (x ∷ xs) (suc i) d inside =
    let same : suc n + i ≡ n + suc i = omega arith in
    ap (λ fs. frame from to n x ∷ fs) (one_frame from to (suc n) xs i d (omega (arith, inside)) ∙ ap (λ k. frames_from from to (suc n) (take i xs) ++ frame from to k (get_or xs i d) ∷ []) same)

or_drop : (g : ℕ) (xs : List Forward) (k : ℕ) (d : Forward) → get_or (drop g xs) k d ≡ get_or xs (g + k) d
or_drop zero xs k d = let same : k ≡ 0 + k = omega arith in ap (λ n. get_or xs n d) same
or_drop (suc g) [] k d = refl
or_drop (suc g) (x ∷ xs) k d = let same : suc (g + k) ≡ suc g + k = omega arith in or_drop g xs k d ∙ ap (λ n. get_or (x ∷ xs) n d) same

more_left : (g : ℕ) (xs : List Forward) (k : ℕ) → g + k < length xs → k < length (drop g xs)
more_left zero xs k inside = omega (arith, inside)
more_left (suc g) [] k inside = absurd (omega (arith, inside))
more_left (suc g) (x ∷ xs) k inside = more_left g xs k (omega (arith, inside))

pub more_frames : (from to n number : ℕ) (all : List Forward) (place i : ℕ) (here m : Forward) (out new : List BridgeFrame) → number ≡ n + i → place + i < length all
    → out ≡ frames_from from to n (take i (drop place all)) → here ≡ get_or all (place + i) here → m ≡ here → new ≡ out ++ frame from to number m ∷ []
    → new ≡ frames_from from to n (take (i + 1) (drop place all))
more_frames from to n number all place i here m out new counted inside so is same pushed =
    let found : m ≡ get_or (drop place all) i here = same ∙ is ∙ sym (or_drop place all i here) in
    pushed ∙ ap (λ k. out ++ frame from to k m ∷ []) counted ∙ ap (λ fs. fs ++ frame from to (n + i) m ∷ []) so ∙ ap (λ x. frames_from from to n (take i (drop place all)) ++ frame from to (n + i) x ∷ []) found
    ∙ sym (one_frame from to n (drop place all) i here (more_left place all i inside)) ∙ ap (λ k. frames_from from to n (take k (drop place all))) (sym (add-one i))

pub first_taken : (n count : ℕ) (xs : List Forward) → count ≡ min (length xs) n → take count xs ≡ take n xs
first_taken n count xs is = elim (cases_lt n (length xs)) [
  | inl more ↦ (let same : count ≡ n = omega (arith, is, more) in ap (λ k. take k xs) same)
  | inr few ↦ (let over : length xs ≤ count = omega (arith, is, few) in take_all count xs over ∙ sym (take_all n xs (omega (arith, few))))
]

-- ---- as many as go at once

none_fit : (most bytes : ℕ) (ms : List Forward) → bytes ≡ 0 → fitting most bytes ms ≡ 0
none_fit zero bytes ms none = refl
none_fit (suc most) bytes [] none = refl
none_fit (suc most) bytes (m ∷ ms) none = ap (λ n. if nat_eq n 0 then 0 else suc (fitting most (n - length m.message.payload) ms)) none

fit_none : (most bytes : ℕ) → fitting most bytes [] ≡ 0
fit_none zero bytes = refl
fit_none (suc most) bytes = refl

one_fits : (most bytes : ℕ) (m : Forward) (ms : List Forward) → nat_eq bytes 0 ≡ false → fitting (suc most) bytes (m ∷ ms) ≡ suc (fitting most (bytes - length m.message.payload) ms)
one_fits most bytes m ms some = ap (λ b. if b then 0 else suc (fitting most (bytes - length m.message.payload) ms)) some

pub fitting_below : (most bytes : ℕ) (ms : List Forward) → fitting most bytes ms ≤ length ms
fitting_below zero bytes ms = omega arith
fitting_below (suc most) bytes [] = omega arith
fitting_below (suc most) bytes (m ∷ ms) = by (nat_eq bytes 0) (fitting_below most (bytes - length m.message.payload) ms)
  where
    by : (b : Bool) → fitting most (bytes - length m.message.payload) ms ≤ length ms → (if b then 0 else suc (fitting most (bytes - length m.message.payload) ms)) ≤ suc (length ms)
    by true below = omega arith
    by false below = omega (arith, below)

pub no_more_fit : (most bytes total i : ℕ) (left : List Forward) → bytes ≡ 0 → total ≡ i + fitting most bytes left → i ≡ total
no_more_fit most bytes total i left none so = let end : i + 0 ≡ i = omega arith in sym (so ∙ ap (λ n. i + n) (none_fit most bytes left none) ∙ end)

pub all_fit : (most bytes total place i : ℕ) (all : List Forward) → place ≤ length all → i ≡ min (length all - place) most → total ≡ i + fitting (most - i) bytes (drop (place + i) all) → i ≡ total
all_fit most bytes total place i all there is so = elim (cases_lt i most) [
  | inl few ↦ (
      let past : length all ≤ place + i = omega (arith, is, few, there) in
      let end : i + 0 ≡ i = omega arith in
      sym (so ∙ ap (λ ms. i + fitting (most - i) bytes ms) (past_all (place + i) all past) ∙ ap (λ n. i + n) (fit_none (most - i) bytes) ∙ end))
  | inr full ↦ (
      let none : most - i ≡ 0 = omega (arith, full) in
      let end : i + 0 ≡ i = omega arith in
      sym (so ∙ ap (λ n. i + fitting n bytes (drop (place + i) all)) none ∙ end))
]
  where
    past_all : (n : ℕ) (ms : List Forward) → length ms ≤ n → drop n ms ≡ []
    past_all zero [] few = refl
    past_all zero (m ∷ ms) few = absurd (omega (arith, few))
    past_all (suc n) [] few = refl
    past_all (suc n) (m ∷ ms) few = past_all n ms (omega (arith, few))

pub begins_fit : (most bytes place : ℕ) (all : List Forward) → fitting most bytes (drop place all) ≡ 0 + fitting (most - 0) bytes (drop (place + 0) all)
begins_fit most bytes place all =
    let most' : most ≡ most - 0 = omega arith in
    let place' : place ≡ place + 0 = omega arith in
    (λ i. fitting (most' i) bytes (drop (place' i) all)) ∙ from_none (fitting (most - 0) bytes (drop (place + 0) all))
  where
    from_none : (n : ℕ) → n ≡ 0 + n
    from_none n = omega arith

some_bytes : (n : ℕ) → n ≢ 0 → nat_eq n 0 ≡ false
some_bytes n some = grind (arith, some, nat_tests)

pub next_fits : (most bytes total place i : ℕ) (all : List Forward) (here : Forward) → i < most → place + i < length all → here ≡ get_or all (place + i) here → bytes ≢ 0 → total ≡ i + fitting (most - i) bytes (drop (place + i) all)
    → total ≡ (i + 1) + fitting (most - (i + 1)) (bytes - length here.message.payload) (drop (place + (i + 1)) all)
next_fits most bytes total place i all here few inside is some so =
    let rest = drop (suc (place + i)) all in
    let one : most - i ≡ suc (most - (i + 1)) = omega (arith, few) in
    let left : drop (place + i) all ≡ here ∷ rest = drop-cons all (place + i) here inside ∙ ap (λ (m : Forward). m ∷ rest) (sym is) in
    let place' : suc (place + i) ≡ place + (i + 1) = omega arith in
    so ∙ (λ j. i + fitting (one j) bytes (left j)) ∙ ap (λ n. i + n) (one_fits (most - (i + 1)) bytes here rest (some_bytes bytes some))
    ∙ counted i (fitting (most - (i + 1)) (bytes - length here.message.payload) rest) ∙ ap (λ n. (i + 1) + fitting (most - (i + 1)) (bytes - length here.message.payload) (drop n all)) place'
  where
    counted : (i n : ℕ) → i + suc n ≡ (i + 1) + n
    counted i n = omega arith

-- ---- those after a number

drop_twice : (a b : ℕ) (ms : List Forward) → drop (a + b) ms ≡ drop b (drop a ms)
drop_twice zero b ms = let e : 0 + b ≡ b = omega arith in ap (λ n. drop n ms) e
drop_twice (suc a) b [] = drop-nil (suc a + b) ∙ sym (drop-nil b)
drop_twice (suc a) b (m ∷ ms) = let e : suc a + b ≡ suc (a + b) = omega arith in ap (λ n. drop n (m ∷ ms)) e ∙ drop_twice a b ms

pub later_frames : (from to after base gone passed place last count took : ℕ) (all : List Forward) (out : List BridgeFrame) → gone ≤ length all → passed ≡ min (after - (base + gone)) (length all - gone) → place ≡ gone + passed → last ≡ base + gone + passed
    → count ≡ fitting 4096 4194304 (drop place all) → out ≡ frames_from from to (suc last) (take count (drop place all)) → out ≡ frames_after from to after (record { gone = base + gone; waiting = drop gone all; took = took })
later_frames from to after base gone passed place last count took all out inside is at number many frames =
    let left : drop place all ≡ drop passed (drop gone all) = ap (λ n. drop n all) at ∙ drop_twice gone passed all in
    let up : passed ≡ min (after - (base + gone)) (length (drop gone all)) = is ∙ ap (λ n. min (after - (base + gone)) n) (sym (length-drop gone all)) in
    frames ∙ ap (λ n. frames_from from to (suc last) (take n (drop place all))) many ∙ (λ i. frames_from from to (suc (number i)) (first_fitting (left i)))
    ∙ ap (λ n. frames_from from to (suc (base + gone + n)) (first_fitting (drop n (drop gone all)))) up
