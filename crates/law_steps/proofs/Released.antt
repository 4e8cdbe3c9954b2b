-- Each frame that was released was given out by an act of a step.
use Rattle.std.specs.List.{slice_get}
use Rattle.std.proofs.Common.{◌≡◌, inl, inr, ℕ, List, [], ◌∷◌, ◌++◌, Some, refl, sym, ap, ◌∙◌, subst, append_assoc}
use Rattle.node_work.specs.declared.frame.Frame.{Frame}
use Rattle.node_work.specs.Acts.{Bridge, Runs, gather, output_in}
use Rattle.node_work.specs.Held.Bridge.{Gave}
use Rattle.cluster_play.specs.Worlds.{Site, World, Fate, Released as Released_at, Lost, Cut, Faulted, Was_down, Restarted, Becomes, Happens, frames_in}
use Rattle.cluster_play.specs.Runs.{Played, frames_released}
use Rattle.cluster_play.specs.Histories.{Reached, site, acts_of}
use Rattle.cluster_play.proofs.Bools.{none-some}
use Rattle.cluster_play.proofs.Giving.{GivesOut, given_out}
use Rattle.cluster_play.proofs.Kept.{explained}
use Rattle.cluster_play.proofs.Paths.{along, befell, step_frames}
use Rattle.cluster_play.proofs.Sites.{get_append, number_is}
use Rattle.cluster_play.proofs.Splits.{runs_split}
use Rattle.law_steps.specs.Released.{WasGiven, FramesAreGiven}

-- the frames of a step that released some
record Giver (fate : Fate) (s : Site) (sent : Frame) : Type 0 where
  given : GivesOut (acts_of fate) sent
  from : given.frame.from ≡ s.node.place.id

giver : (w : World) (i : ℕ) (s : Site) (fate : Fate) (w' : World) → Becomes w i s fate w' → (k : ℕ) (sent : Frame) → slice_get (frames_released fate) k ≡ Some sent → Giver fate s sent
giver w i s (Released_at j e acts outputs) w' b k sent at =
    let t = b.1.1 in
    let d = t.commits.done in
    let runs : Runs s.node.place d.before acts d.after = subst (λ xs. Runs s.node.place d.before xs d.after) t.does d.steps.runs in
    let given : outputs ≡ gather output_in acts = d.steps.given ∙ ap (gather output_in) t.does in
    let g = given_out s.node.place acts d.before d.after runs k sent (subst (λ os. slice_get (frames_in os) k ≡ Some sent) given at) in
    let parts = runs_split s.node.place g.before (Bridge (Gave g.frame) ∷ g.after) d.before d.after (subst (λ xs. Runs s.node.place d.before xs d.after) g.acts_are runs) in
    record { given = g; from = parts.2.1.0.from }
giver w i s (Lost j e acts) w' b k sent at = none-some at
giver w i s (Cut j) w' b k sent at = none-some at
giver w i s (Faulted j fault) w' b k sent at = none-some at
giver w i s (Was_down j) w' b k sent at = none-some at
giver w i s (Restarted j homes) w' b k sent at = none-some at

-- the step was at the seat
same_seat : (w : World) (i : ℕ) (s : Site) (fate : Fate) (w' : World) → Becomes w i s fate w' → site fate ≡ i
same_seat w i s (Released_at j e acts outputs) w' b = b.0
same_seat w i s (Lost j e acts) w' b = b.0
same_seat w i s (Cut j) w' b = b.0
same_seat w i s (Faulted j fault) w' b = b.0
same_seat w i s (Was_down j) w' b = b.0
same_seat w i s (Restarted j homes) w' b = b.0

given_later : (run : List Played) (m : Played) (sent : Frame) → WasGiven run sent → WasGiven (run ++ m ∷ []) sent
given_later run m sent g = record {
  earlier = g.earlier;
  m = g.m;
  later = g.later ++ m ∷ [];
  whole = ap (λ ms. ms ++ m ∷ []) g.whole ∙ append_assoc g.earlier (g.m ∷ g.later) (m ∷ []);
  number = g.number;
  released = g.released;
  frame = g.frame;
  is = g.is;
  from = g.from;
  before = g.before;
  after = g.after;
  acts = g.acts;
}

abbrev AllGiven : List Played → World → Type 0
AllGiven run w = (n : ℕ) (sent : Frame) → slice_get w.frames n ≡ Some sent → WasGiven run sent

step_given : (run : List Played) (m : Played) (w w' : World) → Reached run w → AllGiven run w → Happens w m.step m.fate w' → AllGiven (run ++ m ∷ []) w'
step_given run m w w' r all happens n sent at =
    elim (get_append w.frames (frames_released m.fate) n sent (subst (λ fs. slice_get fs n ≡ Some sent) (step_frames w m.step m.fate w' happens) at)) [
      | inl old ↦ given_later run m sent (all n sent old)
      | inr new ↦ (
          let b = befell w m.step m.fate w' happens in
          let g = giver w b.i b.was m.fate w' b.becomes new.0 sent new.1 in
          let seated = (explained run w r).sites b.i b.was b.at in
          record {
            earlier = run;
            m = m;
            later = [];
            whole = refl;
            number = new.0;
            released = new.1;
            frame = g.given.frame;
            is = g.given.is;
            from = g.from ∙ seated.id ∙ sym (same_seat w b.i b.was m.fate w' b.becomes);
            before = g.given.before;
            after = g.given.after;
            acts = g.given.acts_are;
          })
    ]

all_given : (run : List Played) (w : World) → Reached run w → AllGiven run w
all_given = along (λ run w. AllGiven run w) (λ run m w w' r all honest happens. step_given run m w w' r all happens) (λ w s n sent at. none-some (subst (λ fs. slice_get fs n ≡ Some sent) s.frames at))

pub frames_are_given : FramesAreGiven
frames_are_given = λ run w r number sent at. (let k = number_is w.frames number sent at in all_given run w r k.0 sent k.1)
