-- One run of a node after another.
use Rattle.std.proofs.Common.{◌≡◌, ℕ, List, [], ◌∷◌, ◌++◌, Some, refl, sym, ap, subst, ◌∙◌, append_assoc}
use Rattle.std.proofs.lemmas.List.{append-nil}
use Rattle.cluster_play.specs.Runs.{IsHonest, Played, Run, frames_released}
use Rattle.cluster_play.specs.Worlds.{Site, World, world_with, frames_in}
use Rattle.cluster_play.proofs.Paths.{run_join}
use Rattle.node_keeper.specs.declared.batch.BatchKeeper.{BatchKeeper}
use Rattle.node_keeper.specs.Batches.{Answered}
use Rattle.node_work.specs.declared.frame.Frame.{Frame}
use Rattle.law_serving.proofs.ServedRunning.{all_later, changed_twice}
use Rattle.law_serving.specs.Settling.{EventsAreTaken}
use Rattle.law_serving.specs.Turns.{AreKnown, AreReleased, IsRunOf, frames_of}

pub taken_join : {R : Type 0} (k m k' : BatchKeeper R) (xs ys : List Answered) → EventsAreTaken k xs m → EventsAreTaken m ys k' → EventsAreTaken k (xs ++ ys) k'
taken_join {R = R} k m k' [] ys same more =
    let Taken : BatchKeeper R → Type 0 = λ b. EventsAreTaken b ys k' in
    subst Taken same more
taken_join k m k' (a ∷ xs) ys taken more = (taken.0, taken.1, taken_join taken.0 m k' xs ys taken.2 more)

frames-append : (xs ys : List Answered) → frames_of (xs ++ ys) ≡ frames_of xs ++ frames_of ys
frames-append [] ys = refl
frames-append (a ∷ xs) ys = ap (λ fs. frames_in a.1 ++ fs) (frames-append xs ys) ∙ sym (append_assoc (frames_in a.1) (frames_of xs) (frames_of ys))

known_left : (sent : List Frame) (xs ys : List Answered) → AreKnown sent (xs ++ ys) → AreKnown sent xs
known_left sent [] ys h = tt
known_left sent (a ∷ xs) ys h = (h.0, known_left sent xs ys h.1)

known_right : (sent : List Frame) (xs ys : List Answered) → AreKnown sent (xs ++ ys) → AreKnown sent ys
known_right sent [] ys h = h
known_right sent (a ∷ xs) ys h = known_right sent xs ys h.1

released_join : (i : ℕ) (xs ys : List Answered) (ms ns : List Played) → AreReleased i xs ms → AreReleased i ys ns → AreReleased i (xs ++ ys) (ms ++ ns)
released_join i [] ys [] ns r q = q
released_join i [] ys (m ∷ ms) ns r q = absurd r
released_join i (a ∷ xs) ys [] ns r q = absurd r
released_join i (a ∷ xs) ys (m ∷ ms) ns r q = (r.0, r.1, released_join i xs ys ms ns r.2 q)

honest_over : (i : ℕ) (sent : List Frame) (xs : List Answered) (ms ns : List Played) → AreReleased i xs ms → IsHonest sent ms → IsHonest (sent ++ frames_of xs) ns → IsHonest sent (ms ++ ns)
honest_over i sent [] [] ns r h k = subst (λ fs. IsHonest fs ns) (append-nil sent) k
honest_over i sent [] (m ∷ ms) ns r h k = absurd r
honest_over i sent (a ∷ xs) [] ns r h k = absurd r
honest_over i sent (a ∷ xs) (m ∷ ms) ns r h k =
    let gave = ap frames_released r.1.1 in
    let next = sent ++ frames_released m.fate in
    let same : (sent ++ frames_of (a ∷ xs)) ≡ next ++ frames_of xs = sym (append_assoc sent (frames_in a.1) (frames_of xs)) ∙ ap (λ fs. (sent ++ fs) ++ frames_of xs) (sym gave) in
    (h.0, honest_over i next xs ms ns r.2 h.1 (subst (λ fs. IsHonest fs ns) same k))

pub run_over : (w : World) (i : ℕ) (s t : Site) (xs ys : List Answered) → IsRunOf w i xs s → IsRunOf (world_with w i s (frames_of xs)) i ys t → IsRunOf w i (xs ++ ys) t
run_over w i s t xs ys r q =
    let mid = world_with w i s (frames_of xs) in
    let Led : World → Type 0 = λ v. Run w (r.run ++ q.run) v in
    let end : world_with mid i t (frames_of ys) ≡ world_with w i t (frames_of (xs ++ ys)) = changed_twice w i s t (frames_of xs) (frames_of ys) ∙ ap (λ fs. world_with w i t fs) (sym (frames-append xs ys)) in
    record {
      run = r.run ++ q.run;
      released = released_join i xs ys r.run q.run r.released q.released;
      leads = subst Led end (run_join r.run q.run w mid (world_with mid i t (frames_of ys)) r.leads q.leads);
      honest = λ known.
          honest_over i w.frames xs r.run q.run r.released (r.honest (known_left w.frames xs ys known))
          (q.honest (all_later w.frames (frames_of xs) ys (known_right w.frames xs ys known)));
    }

-- the world after both
pub changed_over : (w : World) (i : ℕ) (s t : Site) (xs ys : List Answered) → world_with (world_with w i s (frames_of xs)) i t (frames_of ys) ≡ world_with w i t (frames_of (xs ++ ys))
changed_over w i s t xs ys = changed_twice w i s t (frames_of xs) (frames_of ys) ∙ ap (λ fs. world_with w i t fs) (sym (frames-append xs ys))
