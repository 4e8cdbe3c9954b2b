-- A turn of one node in a world of nodes: events that it decides, one commit of their changes, and a crash at any moment.
use Rattle.std.specs.Prelude.{◌≡◌, ◌⊎◌, ℕ, List, [], ◌∷◌, ◌++◌, None, Some, slice_get}
use Rattle.std.specs.List.{AllByRecursion}
use Rattle.broker_node.specs.declared.event.EventKind.TheVariants as kinds
use Rattle.cluster_play.specs.declared.step.Step.TheVariants as steps
use Rattle.cluster_play.specs.Runs.{IsHonest, IsKnown, Played, Run}
use Rattle.cluster_play.specs.Worlds.{Cut, Released, Site, World, world_with, frames_in}
use Rattle.node_keeper.specs.Batches.{Answered, AreHandled}
use Rattle.node_work.specs.Acts.{Act}
use Rattle.node_work.specs.View.{HeldView, NodeView}
use Rattle.node_work.specs.declared.frame.Frame.{Frame}
use Rattle.row_store.specs.Rows.{Content}

-- the frames among what was given out, in order
abbrev pub frames_of : List Answered → List Frame
frames_of [] = []
frames_of (a ∷ more) = frames_in a.1 ++ frames_of more

-- each frame that the events bring was released before
abbrev pub AreKnown : List Frame → List Answered → Type 0
AreKnown sent answered = AllByRecursion (λ a. IsKnown sent a.0.kind) answered

-- a run in which node i takes these events, one after another, and these outputs are given out
abbrev pub AreReleased : ℕ → List Answered → List Played → Type 0
AreReleased i [] [] = Unit {0}
AreReleased i [] (m ∷ run) = ⊥
AreReleased i (a ∷ more) [] = ⊥
AreReleased i (a ∷ more) (m ∷ run) = (m.step ≡ steps.Event i a.0) × ((acts : List Act) × (m.fate ≡ Released i a.0 acts a.1)) × AreReleased i more run

-- there is such a run, after which the node and its rows are these; it forges no frame where the events bring none that wasn't released
pub record IsRunOf (w : World) (i : ℕ) (answered : List Answered) (s : Site) : Type 0 where
  pub run : List Played
  pub released : AreReleased i answered run
  pub leads : Run w run (world_with w i s (frames_of answered))
  pub honest : AreKnown w.frames answered → IsHonest w.frames run

-- events that a node handles one after another are a run
abbrev pub TurnIsRun : Type 0
TurnIsRun =
    (w : World) (i : ℕ) (s : Site) (answered : List Answered) (n : NodeView) (rows : Content)
    → slice_get w.sites i ≡ Some s → AreHandled s.node s.rows answered n rows → IsRunOf w i answered (record { node = n; rows = rows })

-- ---- a crash

-- a crash takes node i
abbrev pub crash_at : ℕ → Played
crash_at i = record { step = steps.CrashBefore i (record { at = 0; kind = kinds.Tick }); fate = Cut i }

-- the node is down, and these are its rows
abbrev pub down : NodeView → Content → Site
down n rows = record { node = record n { up = None }; rows = rows }

-- a crash took the node before all of its events
abbrev pub CutBefore : World → ℕ → Site → Type 0
CutBefore w i s = Run w (crash_at i ∷ []) (world_with w i s [])

-- a crash took it after all of them, whose frames may never arrive
pub record CutAfter (w : World) (i : ℕ) (answered : List Answered) (s : Site) : Type 0 where
  pub run : List Played
  pub released : AreReleased i answered run
  pub leads : Run w (run ++ crash_at i ∷ []) (world_with w i s (frames_of answered))
  pub honest : AreKnown w.frames answered → IsHonest w.frames (run ++ crash_at i ∷ [])

-- a crash of a node that runs, with the rows of before its events or of after them, is a run
abbrev pub CrashIsRun : Type 0
CrashIsRun =
    (w : World) (i : ℕ) (s : Site) (h : HeldView) (answered : List Answered) (n : NodeView) (rows : Content)
    → slice_get w.sites i ≡ Some s → s.node.up ≡ Some h → AreHandled s.node s.rows answered n rows
    → CutBefore w i (down s.node s.rows) × CutAfter w i answered (down n rows)
