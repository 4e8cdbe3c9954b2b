-- Frames after a number.
use Rattle.std.proofs.Common.{◌≡◌, ◌≢◌, ℕ, zero, suc, ◌+◌, ◌-◌, ◌<◌, min, max, List, [], ◌∷◌, length, take, drop, Option, Some, None, refl, sym, ap, subst, ◌∙◌, arith}
use Rattle.std.specs.List.{slice_get}
use Rattle.bridge_frames.specs.declared.body.FrameBody.TheVariants as bodies
use Rattle.bridge_frames.specs.declared.forward.Forward.{Forward}
use Rattle.bridge_frames.specs.declared.frame.BridgeFrame.{BridgeFrame}
use Rattle.bridge_lanes.proofs.LaneLists.{get-drop}
use Rattle.bridge_lanes.specs.Lanes.{Waits, up_to}
use Rattle.bridge_lanes.specs.Rows.{Messages}
use Rattle.bridge_deltas.specs.Lane.{frames_from}
use Rattle.bridge_deltas.specs.More.{first_fitting, fitting, frames_after}
use Rattle.bridge_deltas.specs.Laws.{MoreFollows, MoreGoesOn}

abbrev frame : ℕ → ℕ → ℕ → Forward → BridgeFrame
frame from to n m = record { from = from; to = to; body = bodies.Forward n m }

-- the frame at a place has the message there
one_of : (from to n : ℕ) (count : ℕ) (ms : List Forward) (k : ℕ) (f : BridgeFrame) → slice_get (frames_from from to n (take count ms)) k ≡ Some f → (m : Forward) × (f ≡ frame from to (n + k) m) × (slice_get ms k ≡ Some m)
one_of from to n zero ms k f e = absurd (let z : None ≡ Some f = e in cc)
one_of from to n (suc count) [] k f e = absurd (let z : None ≡ Some f = e in cc)
one_of from to n (suc count) (m ∷ ms) zero f e =
    let same : f ≡ frame from to n m = (let z : Some (frame from to n m) ≡ Some f = e in cc) in
    let at : n ≡ n + 0 = omega arith in
    (m, same ∙ ap (λ i. frame from to i m) at, refl)
one_of from to n (suc count) (m ∷ ms) (suc k) f e =
    let more = one_of from to (suc n) count ms k f e in
    let at : suc n + k ≡ n + suc k = omega arith in
    (more.0, more.1 ∙ ap (λ i. frame from to i more.0) at, more.2)

-- a number that waits isn't past the last one
within : (ms : List Forward) (k : ℕ) (m : Forward) → slice_get ms k ≡ Some m → k < length ms
within [] k m e = absurd (let z : None ≡ Some m = e in cc)
within (x ∷ ms) zero m e = omega arith
within (x ∷ ms) (suc k) m e = let below = within ms k m e in omega arith

pub more_follows : MoreFollows
more_follows from to after k l f e =
    let passed = up_to after l in
    let left = drop passed l.waiting in
    let one = one_of from to (suc (l.gone + passed)) (fitting 4096 4194304 left) left k f e in
    let there : slice_get l.waiting (passed + k) ≡ Some one.0 = sym (get-drop passed l.waiting k) ∙ one.2 in
    let inside = within l.waiting (passed + k) one.0 there in
    let number : suc (l.gone + passed) + k ≡ suc (max l.gone after + k) = place l.gone after k (length l.waiting) inside in
    (one.0, one.1 ∙ ap (λ n. frame from to n one.0) number, (passed + k, sym number ∙ later l.gone passed k, there))
  where
    place : (gone after k waiting : ℕ) → min (after - gone) waiting + k < waiting → suc (gone + min (after - gone) waiting) + k ≡ suc (max gone after + k)
    place gone after k waiting inside = grind (arith, inside)

    later : (gone passed k : ℕ) → suc (gone + passed) + k ≡ suc (gone + (passed + k))
    later gone passed k = omega arith

some_left : (ms : List Forward) (n : ℕ) → n < length ms → (m : Forward) × (rest : List Forward) × (drop n ms ≡ m ∷ rest)
some_left [] n below = absurd (omega (arith, below))
some_left (m ∷ ms) zero below = (m, ms, refl)
some_left (m ∷ ms) (suc n) below = some_left ms n (omega (arith, below))

one_first : (from to n : ℕ) (ms rest : List Forward) (m : Forward) → ms ≡ m ∷ rest → frames_from from to n (first_fitting ms) ≢ []
one_first from to n ms rest m is none =
    let P : List Forward → Type 0 = λ xs. frames_from from to n (first_fitting xs) ≡ [] in
    let first : frame from to n m ∷ frames_from from to (suc n) (take (fitting 4095 (4194304 - length m.message.payload) rest) rest) ≡ [] = subst P is none in
    absurd cc

pub more_goes_on : MoreGoesOn
more_goes_on from to after l below none =
    let passed = up_to after l in
    let few : passed < length l.waiting = less l.gone after (length l.waiting) below in
    let some = some_left l.waiting passed few in
    one_first from to (suc (l.gone + passed)) (drop passed l.waiting) some.1 some.0 some.2 none
  where
    less : (gone after waiting : ℕ) → max gone after < gone + waiting → min (after - gone) waiting < waiting
    less gone after waiting below = grind (arith, below)
