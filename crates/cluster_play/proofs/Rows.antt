-- What a step does to the nodes and their rows.
use Rattle.std.proofs.Common.{◌≡◌, ℕ, List, [], Some, refl, sym, ap, ◌∙◌, ◌⊎◌, inl, inr, subst}
use Rattle.std.proofs.lemmas.List.{append-nil}
use Rattle.std.specs.List.{slice_get}
use Rattle.std.proofs.Math.ListN.{set}
use Rattle.broker_node.specs.declared.event.Event.{Event}
use Rattle.broker_node.specs.Step.{Steps}
use Rattle.home_table.specs.Table.{Table}
use Rattle.node_keeper.specs.Keeping.{AreOf, may_be_marked}
use Rattle.node_work.specs.declared.frame.Frame.{Frame}
use Rattle.node_work.specs.declared.outcome.Output.{Output}
use Rattle.node_work.specs.Acts.{Act}
use Rattle.node_work.specs.Lasting.{CanLast}
use Rattle.node_work.specs.View.{Place, HeldView, NodeView}
use Rattle.cluster_play.specs.declared.step.Step.{Step}
use Rattle.cluster_play.specs.Worlds.{Site, World, Fate, Released, Lost, Cut, Faulted, Was_down, Restarted, TakesEvent, Reopens, GoesDown, Becomes, Happens, world_with, stopped, frames_in}
use Rattle.cluster_play.specs.Histories.{event_committed, acts_of, site}
use Rattle.cluster_play.proofs.Bools.{some_is, none-some}
use Rattle.cluster_play.proofs.Sites.{each_changed, get_append}
use Rattle.cluster_play.proofs.Paths.{befell}

-- node i took an event with these acts: what it held, what it holds or held when a crash came, and which frames went out
pub record Committed (w : World) (i : ℕ) (e : Event) (acts : List Act) (w' : World) : Type 0 where
  pub was : Site
  pub later : Site
  pub before : HeldView
  pub after : HeldView
  pub outputs : List Output
  pub at : slice_get w.sites i ≡ Some was
  pub up : was.node.up ≡ Some before
  pub steps : Steps was.node.place before e acts outputs after
  pub place : later.node.place ≡ was.node.place
  pub homes : later.node.homes ≡ after.homes
  pub rows : AreOf was.node.place was.rows before → AreOf was.node.place later.rows after
  pub lasts : CanLast after
  pub is : (h : HeldView) → later.node.up ≡ Some h → h ≡ after
  pub sites : w'.sites ≡ set w.sites i later
  pub frames : (n : ℕ) (f : Frame) → slice_get w'.frames n ≡ Some f → (slice_get w.frames n ≡ Some f) ⊎ ((k : ℕ) × (slice_get (frames_in outputs) k ≡ Some f))

-- a node that goes on as it was, or stops; where it had no rows it may have its mark
pub record Stays (s s' : Site) : Type 0 where
  pub place : s'.node.place ≡ s.node.place
  pub homes : s'.node.homes ≡ s.node.homes
  pub rows : may_be_marked s.node.place.id s.rows s'.rows
  pub up : (h : HeldView) → s'.node.up ≡ Some h → s.node.up ≡ Some h

-- every node does, and no frame was released
pub record Rests (w w' : World) : Type 0 where
  pub sites : (i : ℕ) (s' : Site) → slice_get w'.sites i ≡ Some s' → (s : Site) × (slice_get w.sites i ≡ Some s) × Stays s s'
  pub frames : w'.frames ≡ w.frames

-- node i was opened again, with a table of homes
pub record Woke (w : World) (i : ℕ) (homes : Table) (w' : World) : Type 0 where
  pub was : Site
  pub later : Site
  pub at : slice_get w.sites i ≡ Some was
  pub reopens : Reopens homes was later
  pub sites : w'.sites ≡ set w.sites i later
  pub frames : w'.frames ≡ w.frames

abbrev pub Came : World → Fate → World → Type 0
Came w (Released i e acts outputs) w' = Committed w i e acts w'
Came w (Lost i e acts) w' = Committed w i e acts w'
Came w (Cut i) w' = Rests w w'
Came w (Faulted i fault) w' = Rests w w'
Came w (Was_down i) w' = Rests w w'
Came w (Restarted i homes) w' = Woke w i homes w'

still : (s : Site) → Stays s s
still s = record { place = refl; homes = refl; rows = inl refl; up = λ h u. u }

down : (s : Site) → Stays s (stopped s)
down s = record { place = refl; homes = refl; rows = inl refl; up = λ h u. none-some u }

stops : (s s' : Site) → GoesDown s s' → Stays s s'
stops s s' h = record {
  place = ap (λ (n : NodeView). n.place) h.node;
  homes = ap (λ (n : NodeView). n.homes) h.node;
  rows = h.rows;
  up = λ g u. none-some (sym (ap (λ (n : NodeView). n.up) h.node) ∙ u);
}

module _ (w : World) (i : ℕ) (s : Site) (at : slice_get w.sites i ≡ Some s) where
  rests : (s' : Site) (w' : World) → Stays s s' → w' ≡ world_with w i s' [] → Rests w w'
  rests s' w' same is = record {
    sites = λ j k' h. each_changed (λ j k'. (k : Site) × (slice_get w.sites j ≡ Some k) × Stays k k') w.sites i s s' at (s, at, same)
        (λ j k' ne h. (k', h, still k')) j k' (subst (λ (v : World). slice_get v.sites j ≡ Some k') is h);
    frames = ap (λ (v : World). v.frames) is ∙ append-nil w.frames;
  }

  -- the rows are those of what the node holds after the step
  commits : (j : ℕ) (e : Event) (acts : List Act) (outputs : List Output) (s' later : Site) (sent : List Frame) (w' : World) → j ≡ i → TakesEvent s e acts outputs s' → later.node.place ≡ s'.node.place → later.node.homes ≡ s'.node.homes → later.rows ≡ s'.rows → ((h : HeldView) → later.node.up ≡ Some h → s'.node.up ≡ Some h)
      → ((k : ℕ) (f : Frame) → slice_get sent k ≡ Some f → (m : ℕ) × (slice_get (frames_in outputs) m ≡ Some f)) → w' ≡ world_with w i later sent → Committed w j e acts w'
  commits j e acts outputs s' later sent w' same t place homes rows up out is =
      let c = t.commits in
      let d = c.done in
      record {
        was = s;
        later = later;
        before = d.before;
        after = d.after;
        outputs = outputs;
        at = subst (λ k. slice_get w.sites k ≡ Some s) (sym same) at;
        up = d.was;
        steps = subst (λ xs. Steps s.node.place d.before e xs outputs d.after) t.does d.steps;
        place = place ∙ t.place;
        homes = homes ∙ d.homes;
        rows = λ r. subst (λ rows. AreOf s.node.place rows d.after) (sym rows)
            (subst (λ (p : Place). AreOf p s'.rows d.after) t.place (c.kept (λ h u. subst (AreOf s.node.place s.rows) (some_is (sym d.was ∙ u)) r) d.after d.is));
        lasts = d.lasts;
        is = λ h u. some_is (sym (up h u) ∙ d.is);
        sites = ap (λ (v : World). v.sites) is ∙ ap (λ k. set w.sites k later) (sym same);
        frames = λ k f h. elim (get_append w.frames sent k f (subst (λ (v : World). slice_get v.frames k ≡ Some f) is h)) [ inl a ↦ inl a | inr b ↦ inr (out b.0 f b.1) ];
      }

  became : (fate : Fate) (w' : World) → Becomes w i s fate w' → Came w fate w'
  became (Released j e acts outputs) w' b = commits j e acts outputs b.1.0 b.1.0 (frames_in outputs) w' b.0 b.1.1 refl refl refl (λ h u. u) (λ k f h. (k, h)) b.1.2
  became (Lost j e acts) w' b = commits j e acts b.1.0 b.1.1 (stopped b.1.1) [] w' b.0 b.1.2 refl refl refl (λ h u. none-some u) (λ k f h. none-some h) b.1.3
  became (Cut j) w' b = rests (stopped s) w' (down s) b.2
  became (Faulted j fault) w' b = rests b.1.0 w' (stops s b.1.0 b.1.1) b.1.2
  became (Was_down j) w' b = record { sites = λ k k' h. (k', subst (λ (v : World). slice_get v.sites k ≡ Some k') b.2 h, still k'); frames = ap (λ (v : World). v.frames) b.2 }
  became (Restarted j homes) w' b = record {
    was = s;
    later = b.1.0;
    at = subst (λ k. slice_get w.sites k ≡ Some s) (sym b.0) at;
    reopens = b.1.1;
    sites = ap (λ (v : World). v.sites) b.1.2 ∙ ap (λ k. set w.sites k b.1.0) (sym b.0);
    frames = ap (λ (v : World). v.frames) b.1.2 ∙ append-nil w.frames;
  }

pub came : (w : World) (step : Step) (fate : Fate) (w' : World) → Happens w step fate w' → Came w fate w'
came w step fate w' h = let b = befell w step fate w' h in became w b.i b.was b.at fate w' b.becomes

-- a step that committed an event, or acts
pub committed : (w : World) (step : Step) (fate : Fate) (w' : World) (e : Event) → Happens w step fate w' → event_committed fate ≡ Some e → Committed w (site fate) e (acts_of fate) w'
committed w step (Released i d acts outputs) w' e h is = subst (λ (v : Event). Committed w i v acts w') (some_is is) (came w step (Released i d acts outputs) w' h)
committed w step (Lost i d acts) w' e h is = subst (λ (v : Event). Committed w i v acts w') (some_is is) (came w step (Lost i d acts) w' h)
committed w step (Cut i) w' e h is = none-some is
committed w step (Faulted i fault) w' e h is = none-some is
committed w step (Was_down i) w' e h is = none-some is
committed w step (Restarted i homes) w' e h is = none-some is
