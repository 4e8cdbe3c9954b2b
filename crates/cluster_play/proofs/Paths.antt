-- Runs, in parts, and what holds along them.
use Rattle.std.proofs.Common.{◌≡◌, ℕ, zero, suc, ◌||◌, List, [], ◌∷◌, ◌++◌, Some, refl, sym, ap, ◌∙◌, subst, length, inl, inr, append_assoc}
use Rattle.std.proofs.lemmas.List.{append-nil}
use Rattle.std.specs.List.{slice_get}
use Rattle.std.proofs.Math.ListN.{length-set}
use Rattle.causal_context.specs.Dots.{Dot}
use Rattle.broker_node.specs.declared.event.Event.{Event}
use Rattle.node_work.specs.declared.frame.Frame.{Frame}
use Rattle.node_work.specs.Acts.{Act}
use Rattle.cluster_play.specs.declared.fault.PlayFault.{PlayFault}
use Rattle.cluster_play.specs.declared.step.Step.{Step}
use Rattle.cluster_play.specs.declared.step.Step.TheVariants as steps
use Rattle.cluster_play.specs.Worlds.{Site, World, Fate, Released, Lost, Cut, Faulted, Was_down, Restarted, Becomes, Happens, Lacks, stopped, nth_from_one}
use Rattle.cluster_play.specs.Runs.{Played, Run, frames_released, IsKnown, IsHonestStep, IsHonest}
use Rattle.cluster_play.specs.Histories.{event_committed, acts_of, ops_of, made, gains, taken, own_moves, moves_at, IsStart, Reached}
use Rattle.cluster_play.proofs.Bools.{or_assoc, or_false, some_is, none-some}
use Rattle.cluster_play.proofs.Sites.{number_is}

pub run_join : (ms ns : List Played) (w mid w' : World) → Run w ms mid → Run mid ns w' → Run w (ms ++ ns) w'
run_join [] ns w mid w' r q = subst (λ v. Run v ns w') r q
run_join (m ∷ ms) ns w mid w' r q = (r.0, r.1, run_join ms ns r.0 mid w' r.2 q)

-- a fate befell the node of a seat
pub record Befell (w : World) (fate : Fate) (w' : World) : Type 0 where
  pub i : ℕ
  pub was : Site
  pub at : slice_get w.sites i ≡ Some was
  pub becomes : Becomes w i was fate w'

pub befell : (w : World) (step : Step) (fate : Fate) (w' : World) → Happens w step fate w' → Befell w fate w'
befell w (steps.Event i e) fate w' h = record { i = i; was = h.0; at = h.1; becomes = h.3 }
befell w (steps.Deliver number at) fate w' h = record { i = h.0.to; was = h.2.0; at = h.2.1; becomes = h.2.3 }
befell w (steps.CrashBefore i e) fate w' h = record { i = i; was = h.0; at = h.1; becomes = h.3 }
befell w (steps.CrashAfter i e) fate w' h = record { i = i; was = h.0; at = h.1; becomes = h.3 }
befell w (steps.Restart i) fate w' h = record { i = i; was = h.0; at = h.1; becomes = h.3 }

-- ---- what a step does to the frames, and to the number of seats
became_frames : (w : World) (i : ℕ) (s : Site) (fate : Fate) (w' : World) → Becomes w i s fate w' → w'.frames ≡ w.frames ++ frames_released fate
became_frames w i s (Released j e acts outputs) w' b = ap (λ (v : World). v.frames) b.1.2
became_frames w i s (Lost j e acts) w' b = ap (λ (v : World). v.frames) b.1.3
became_frames w i s (Cut j) w' b = ap (λ (v : World). v.frames) b.2
became_frames w i s (Faulted j fault) w' b = ap (λ (v : World). v.frames) b.1.2
became_frames w i s (Was_down j) w' b = ap (λ (v : World). v.frames) b.2 ∙ sym (append-nil w.frames)
became_frames w i s (Restarted j homes) w' b = ap (λ (v : World). v.frames) b.1.2

pub step_frames : (w : World) (step : Step) (fate : Fate) (w' : World) → Happens w step fate w' → w'.frames ≡ w.frames ++ frames_released fate
step_frames w step fate w' h = let b = befell w step fate w' h in became_frames w b.i b.was fate w' b.becomes

became_sites : (w : World) (i : ℕ) (s : Site) (fate : Fate) (w' : World) → Becomes w i s fate w' → length w'.sites ≡ length w.sites
became_sites w i s (Released j e acts outputs) w' b = ap (λ (v : World). length v.sites) b.1.2 ∙ length-set w.sites i b.1.0
became_sites w i s (Lost j e acts) w' b = ap (λ (v : World). length v.sites) b.1.3 ∙ length-set w.sites i (stopped b.1.1)
became_sites w i s (Cut j) w' b = ap (λ (v : World). length v.sites) b.2 ∙ length-set w.sites i (stopped s)
became_sites w i s (Faulted j fault) w' b = ap (λ (v : World). length v.sites) b.1.2 ∙ length-set w.sites i b.1.0
became_sites w i s (Was_down j) w' b = ap (λ (v : World). length v.sites) b.2
became_sites w i s (Restarted j homes) w' b = ap (λ (v : World). length v.sites) b.1.2 ∙ length-set w.sites i b.1.0

pub step_sites : (w : World) (step : Step) (fate : Fate) (w' : World) → Happens w step fate w' → length w'.sites ≡ length w.sites
step_sites w step fate w' h = let b = befell w step fate w' h in became_sites w b.i b.was fate w' b.becomes

pub run_sites : (run : List Played) (w w' : World) → Run w run w' → length w'.sites ≡ length w.sites
run_sites [] w w' r = ap (λ (v : World). length v.sites) r
run_sites (m ∷ run) w w' r = run_sites run r.0 w' r.2 ∙ step_sites w m.step m.fate r.0 r.1

-- what has a number keeps it
number_stays : {A : Type 0} (xs ys : List A) (n : ℕ) (x : A) → nth_from_one xs n ≡ Some x → nth_from_one (xs ++ ys) n ≡ Some x
number_stays xs ys zero x h = h
number_stays [] ys (suc n) x h = none-some h
number_stays (y ∷ xs) ys (suc zero) x h = h
number_stays (y ∷ xs) ys (suc (suc n)) x h = number_stays xs ys (suc n) x h

pub frames_stay : (run : List Played) (w w' : World) → Run w run w' → (number : ℕ) (f : Frame) → nth_from_one w.frames number ≡ Some f → nth_from_one w'.frames number ≡ Some f
frames_stay [] w w' r number f h = ap (λ (v : World). nth_from_one v.frames number) r ∙ h
frames_stay (m ∷ run) w w' r number f h =
    frames_stay run r.0 w' r.2 number f (ap (λ fs. nth_from_one fs number) (step_frames w m.step m.fate r.0 r.1) ∙ number_stays w.frames (frames_released m.fate) number f h)

pub lacks_nothing : (w w' : World) (step : Step) (fate : Fate) (fault : PlayFault) → Happens w step fate w' → Lacks w step fault → ⊥
lacks_nothing w w' (steps.Event i e) fate fault h l = none-some (sym l.1 ∙ h.1)
lacks_nothing w w' (steps.Deliver number at) fate fault h (inl l) = none-some (sym l.1 ∙ h.1)
lacks_nothing w w' (steps.Deliver number at) fate fault h (inr l) =
    let same : l.0 ≡ h.0 = some_is (sym l.1 ∙ h.1) in
    none-some (sym l.2.1 ∙ ap (λ (f : Frame). slice_get w.sites f.to) same ∙ h.2.1)
lacks_nothing w w' (steps.CrashBefore i e) fate fault h l = none-some (sym l.1 ∙ h.1)
lacks_nothing w w' (steps.CrashAfter i e) fate fault h l = none-some (sym l.1 ∙ h.1)
lacks_nothing w w' (steps.Restart i) fate fault h l = none-some (sym l.1 ∙ h.1)

-- ---- the event that a step committed was known
pub known_event : (w : World) (step : Step) (fate : Fate) (w' : World) (e : Event) → IsHonestStep w.frames step → Happens w step fate w' → event_committed fate ≡ Some e → IsKnown w.frames e.kind
known_event w (steps.Event i d) (Released j c acts outputs) w' e honest h is = subst (λ (v : Event). IsKnown w.frames v.kind) (sym h.2 ∙ some_is is) honest
known_event w (steps.Event i d) (Lost j c acts) w' e honest h is = absurd h.2
known_event w (steps.Deliver number at) (Released j c acts outputs) w' e honest h is = subst (λ (v : Event). IsKnown w.frames v.kind) (sym h.2.2 ∙ some_is is) (let k = number_is w.frames number h.0 h.1 in (k.0, h.0, k.1, refl))
known_event w (steps.Deliver number at) (Lost j c acts) w' e honest h is = absurd h.2.2
known_event w (steps.CrashBefore i d) (Released j c acts outputs) w' e honest h is = absurd h.2
known_event w (steps.CrashBefore i d) (Lost j c acts) w' e honest h is = absurd h.2
known_event w (steps.CrashAfter i d) (Released j c acts outputs) w' e honest h is = absurd h.2
known_event w (steps.CrashAfter i d) (Lost j c acts) w' e honest h is = subst (λ (v : Event). IsKnown w.frames v.kind) (sym h.2 ∙ some_is is) honest
known_event w (steps.Restart i) (Released j c acts outputs) w' e honest h is = absurd h.2
known_event w (steps.Restart i) (Lost j c acts) w' e honest h is = absurd h.2
known_event w step (Cut j) w' e honest h is = none-some is
known_event w step (Faulted j fault) w' e honest h is = none-some is
known_event w step (Was_down j) w' e honest h is = none-some is
known_event w step (Restarted j homes) w' e honest h is = none-some is

-- ---- one more step
honest_more : (run : List Played) (m : Played) (w w' : World) → Run w run w' → IsHonest w.frames run → IsHonestStep w'.frames m.step → IsHonest w.frames (run ++ m ∷ [])
honest_more [] m w w' r h s = (subst (λ (v : World). IsHonestStep v.frames m.step) r s, tt)
honest_more (n ∷ run) m w w' r h s =
    let frames = step_frames w n.step n.fate r.0 r.1 in
    (h.0, subst (λ fs. IsHonest fs (run ++ m ∷ [])) frames (honest_more run m r.0 w' r.2 (subst (λ fs. IsHonest fs run) (sym frames) h.1) s))

pub reached_more : (run : List Played) (m : Played) (w w' : World) → Reached run w → IsHonestStep w.frames m.step → Happens w m.step m.fate w' → Reached (run ++ m ∷ []) w'
reached_more run m w w' r s h = record {
  start = r.start;
  is_start = r.is_start;
  path = run_join run (m ∷ []) r.start w w' r.path (w', h, refl);
  honest = subst (λ fs. IsHonest fs (run ++ m ∷ [])) r.is_start.frames (honest_more run m r.start w r.path (subst (λ fs. IsHonest fs run) (sym r.is_start.frames) r.honest) s);
}

-- what holds at the start, and after a step where it held before, holds in each world that is reached
module _ (P : World → List Played → World → Type 0)
    (kept : (run : List Played) (m : Played) (w w' : World) (r : Reached run w) → P r.start run w → IsHonestStep w.frames m.step → Happens w m.step m.fate w' → P r.start (run ++ m ∷ []) w') where
  walk : (done run : List Played) (w w' : World) (r : Reached done w) → P r.start done w → IsHonest w.frames run → Run w run w' → P r.start (done ++ run) w'
  unfolding reached_more
  walk done [] w w' r p honest path = subst (P r.start (done ++ [])) (sym path) (subst (λ ms. P r.start ms w) (sym (append-nil done)) p)
  walk done (m ∷ run) w w' r p honest path =
      let mid = path.0 in
      subst (λ ms. P r.start ms w') (append_assoc done (m ∷ []) run)
      (walk (done ++ m ∷ []) run mid w' (reached_more done m w mid r honest.0 path.1) (kept done m w mid r p honest.0 path.1)
      (subst (λ fs. IsHonest fs run) (sym (step_frames w m.step m.fate mid path.1)) honest.1) path.2)

  pub along_from : ((w : World) → IsStart w → P w [] w) → (run : List Played) (w : World) (r : Reached run w) → P r.start run w
  along_from start run w r =
      walk [] run r.start w (record { start = r.start; is_start = r.is_start; path = refl; honest = tt }) (start r.start r.is_start)
      (subst (λ fs. IsHonest fs run) (sym r.is_start.frames) r.honest) r.path

-- the same of what doesn't name the start
pub along : (P : List Played → World → Type 0)
    → ((run : List Played) (m : Played) (w w' : World) → Reached run w → P run w → IsHonestStep w.frames m.step → Happens w m.step m.fate w' → P (run ++ m ∷ []) w')
    → ((w : World) → IsStart w → P [] w) → (run : List Played) (w : World) → Reached run w → P run w
along P kept start run w r = along_from (λ _. P) kept start run w r

-- ---- a run that is reached, up to a moment of it and from there
pub record Midway (run rest : List Played) (w : World) : Type 0 where
  pub mid : World
  pub reached : Reached run mid
  pub path : Run mid rest w
  pub honest : IsHonest mid.frames rest

split : (run rest : List Played) (w w' : World) → Run w (run ++ rest) w' → IsHonest w.frames (run ++ rest) → (mid : World) × Run w run mid × IsHonest w.frames run × Run mid rest w' × IsHonest mid.frames rest
split [] rest w w' r h = (w, refl, tt, r, h)
split (m ∷ run) rest w w' r h =
    let frames = step_frames w m.step m.fate r.0 r.1 in
    let s = split run rest r.0 w' r.2 (subst (λ fs. IsHonest fs (run ++ rest)) (sym frames) h.1) in
    (s.0, (r.0, r.1, s.1), (h.0, subst (λ fs. IsHonest fs run) frames s.2), s.3, s.4)

pub midway : (run rest : List Played) (w : World) → Reached (run ++ rest) w → Midway run rest w
midway run rest w r =
    let s = split run rest r.start w r.path (subst (λ fs. IsHonest fs (run ++ rest)) (sym r.is_start.frames) r.honest) in
    record {
      mid = s.0;
      reached = record { start = r.start; is_start = r.is_start; path = s.1; honest = subst (λ fs. IsHonest fs run) r.is_start.frames s.2 };
      path = s.3;
      honest = s.4;
    }

-- ---- histories of two parts of a run
pub taken_both : (i : ℕ) (ms ns : List Played) (d : Dot) → taken i (ms ++ ns) d ≡ (taken i ms d || taken i ns d)
taken_both i [] ns d = refl
taken_both i (m ∷ ms) ns d = ap (λ b. gains i m.fate d || b) (taken_both i ms ns d) ∙ sym (or_assoc (gains i m.fate d) (taken i ms d) (taken i ns d))

pub made_both : (ms ns : List Played) → made (ms ++ ns) ≡ made ms ++ made ns
made_both [] ns = refl
made_both (m ∷ ms) ns = ap (λ os. ops_of m.fate ++ os) (made_both ms ns) ∙ sym (append_assoc (ops_of m.fate) (made ms) (made ns))

moves_both : (i : ℕ) (ms ns : List Played) → moves_at i (ms ++ ns) ≡ moves_at i ms ++ moves_at i ns
moves_both i [] ns = refl
moves_both i (m ∷ ms) ns = ap (λ xs. own_moves i m.fate ++ xs) (moves_both i ms ns) ∙ sym (append_assoc (own_moves i m.fate) (moves_at i ms) (moves_at i ns))

-- and of one more step
pub taken_more : (i : ℕ) (run : List Played) (m : Played) (d : Dot) → (taken i run d || gains i m.fate d) ≡ taken i (run ++ m ∷ []) d
taken_more i run m d = ap (λ b. taken i run d || b) (sym (or_false (gains i m.fate d))) ∙ sym (taken_both i run (m ∷ []) d)

pub made_more : (run : List Played) (m : Played) → made run ++ ops_of m.fate ≡ made (run ++ m ∷ [])
made_more run m = ap (λ os. made run ++ os) (sym (append-nil (ops_of m.fate))) ∙ sym (made_both run (m ∷ []))

pub moves_more : (i : ℕ) (run : List Played) (m : Played) → moves_at i run ++ own_moves i m.fate ≡ moves_at i (run ++ m ∷ [])
moves_more i run m = ap (λ xs. moves_at i run ++ xs) (sym (append-nil (own_moves i m.fate))) ∙ sym (moves_both i run (m ∷ []))

-- ---- a step that has acts committed an event
no_acts : {A P : Type 0} (xs ys : List A) (x : A) → [] ≡ xs ++ x ∷ ys → P
no_acts [] ys x h = cc
no_acts (y ∷ xs) ys x h = cc

pub commits_acts : (fate : Fate) (before rest : List Act) (a : Act) → acts_of fate ≡ before ++ a ∷ rest → (e : Event) × (event_committed fate ≡ Some e)
commits_acts (Released i e acts outputs) before rest a h = (e, refl)
commits_acts (Lost i e acts) before rest a h = (e, refl)
commits_acts (Cut i) before rest a h = no_acts before rest a h
commits_acts (Faulted i fault) before rest a h = no_acts before rest a h
commits_acts (Was_down i) before rest a h = no_acts before rest a h
commits_acts (Restarted i homes) before rest a h = no_acts before rest a h
