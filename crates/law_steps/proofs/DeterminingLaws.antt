-- A step is determined by what its node holds and by the event.
use Rattle.std.specs.List.{slice_get}
use Rattle.std.proofs.Common.{◌≡◌, ℕ, List, Some, None, sym, ap, ◌∙◌, subst}
use Rattle.home_table.specs.Table.{IsTable}
use Rattle.node_work.specs.declared.outcome.Output.{Output}
use Rattle.node_work.specs.Acts.{Act, Runs, gather, output_in}
use Rattle.node_work.specs.View.{Place, HeldView}
use Rattle.node_clients.proofs.Determined.{runs_determined}
use Rattle.broker_node.specs.declared.event.Event.{Event}
use Rattle.broker_node.specs.Step.{Steps}
use Rattle.broker_node.proofs.Determined.{decides_determined}
use Rattle.cluster_play.specs.Worlds.{Site, World, Fate, Released, Lost, Cut, Faulted, Was_down, Restarted, Becomes}
use Rattle.cluster_play.specs.Runs.{Played}
use Rattle.cluster_play.specs.Histories.{site, acts_of}
use Rattle.cluster_play.specs.Agreement.{Holds}
use Rattle.cluster_play.proofs.Bools.{some_is, none-some}
use Rattle.cluster_play.proofs.Paths.{befell}
use Rattle.cluster_play.proofs.Rows.{Committed, committed}
use Rattle.cluster_play.proofs.Sites.{get-set_same}
use Rattle.law_steps.specs.Determined.{AreOneStep, StepsAreDetermined, StopsAreDetermined, StepsFrom, NodesAreDetermined}

one_step : (p : Place) (h : HeldView) (e : Event) → IsTable h.homes → (acts acts' : List Act) (outputs outputs' : List Output) (after after' : HeldView) → Steps p h e acts outputs after → Steps p h e acts' outputs' after'
    → AreOneStep acts acts' outputs outputs' after after'
one_step p h e table acts acts' outputs outputs' after after' x y =
    let same = (decides_determined e (Some tt) (Some tt) p h acts acts' table x.does y.does).1 in
    record {
      same_acts = same;
      same_outputs = x.given ∙ ap (gather output_in) same ∙ sym y.given;
      same_left = runs_determined p acts h after after' x.runs (subst (λ xs. Runs p h xs after') (sym same) y.runs);
    }

pub steps_are_determined : StepsAreDetermined
steps_are_determined = λ p h e table acts acts' outputs outputs' after after' x y. one_step p h e table acts acts' outputs outputs' after after' x y

pub stops_are_determined : StopsAreDetermined
stops_are_determined = λ p h e table acts outputs after x stops. none-some (decides_determined e None (Some tt) p h stops.0 acts table stops.1 x.does).0

-- ---- in worlds
-- the outputs that a step released are those of its acts
released_by : (w : World) (i : ℕ) (s : Site) (fate : Fate) (w' : World) (j : ℕ) (e : Event) (acts : List Act) (outputs : List Output) → fate ≡ Released j e acts outputs → Becomes w i s fate w' → outputs ≡ gather output_in acts
released_by w i s (Released k d acts' outputs') w' j e acts outputs is b =
    let given : outputs' ≡ gather output_in acts' = b.1.1.commits.done.steps.given ∙ ap (gather output_in) b.1.1.does in
    let same_outputs : outputs' ≡ outputs = cc in
    let same_acts : acts' ≡ acts = cc in
    sym same_outputs ∙ given ∙ ap (gather output_in) same_acts
released_by w i s (Lost k d acts') w' j e acts outputs is b = absurd cc
released_by w i s (Cut k) w' j e acts outputs is b = absurd cc
released_by w i s (Faulted k fault) w' j e acts outputs is b = absurd cc
released_by w i s (Was_down k) w' j e acts outputs is b = absurd cc
released_by w i s (Restarted k homes) w' j e acts outputs is b = absurd cc

module _ (w : World) (m : Played) (w' : World) (p : Place) (h : HeldView) (e : Event) (x : StepsFrom w m w' p h e) where
  here : Committed w (site m.fate) e (acts_of m.fate) w'
  here = committed w m.step m.fate w' e x.happens x.commits

  there : here.was ≡ x.holds.site
  there = some_is (sym here.at ∙ x.holds.at)

  held : here.before ≡ h
  held = some_is (sym here.up ∙ ap (λ (s : Site). s.node.up) there ∙ x.holds.up)

  steps : Steps p h e (acts_of m.fate) here.outputs here.after
  steps = subst (λ (q : Place). Steps q h e (acts_of m.fate) here.outputs here.after) (ap (λ (s : Site). s.node.place) there ∙ x.place) (subst (λ v. Steps here.was.node.place v e (acts_of m.fate) here.outputs here.after) held here.steps)

  released : (j : ℕ) (d : Event) (acts : List Act) (outputs : List Output) → m.fate ≡ Released j d acts outputs → outputs ≡ gather output_in acts
  released j d acts outputs is = let b = befell w m.step m.fate w' x.happens in released_by w b.i b.was m.fate w' j d acts outputs is b.becomes

  left : (g : HeldView) → Holds w' (site m.fate) g → g ≡ here.after
  left g o = here.is g (ap (λ (s : Site). s.node.up) (some_is (sym (ap (λ ss. slice_get ss (site m.fate)) here.sites ∙ get-set_same w.sites (site m.fate) here.later here.was here.at) ∙ o.at)) ∙ o.up)

acts_in : (m : Played) (j : ℕ) (d : Event) (acts : List Act) (outputs : List Output) → m.fate ≡ Released j d acts outputs → acts_of m.fate ≡ acts
acts_in m j d acts outputs is = ap acts_of is

pub nodes_are_determined : NodesAreDetermined
nodes_are_determined = λ w w' v v' m n p h e table x y. (
    let a = here w m w' p h e x in
    let b = here v n v' p h e y in
    let same = one_step p h e table (acts_of m.fate) (acts_of n.fate) a.outputs b.outputs a.after b.after (steps w m w' p h e x) (steps v n v' p h e y) in
    record {
      acts = same.same_acts;
      outputs = λ i j c d xs ys outputs outputs' is is'.
          released w m w' p h e x i c xs outputs is ∙ ap (gather output_in) (sym (acts_in m i c xs outputs is) ∙ same.same_acts ∙ acts_in n j d ys outputs' is') ∙ sym (released v n v' p h e y j d ys outputs' is');
      leaves = λ g k o q. left w m w' p h e x g o ∙ same.same_left ∙ sym (left v n v' p h e y k q);
    })
