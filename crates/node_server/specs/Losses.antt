-- What a node has left out, as what a log tells of.
use Rattle.std.specs.Prelude.{◌≡◌, ℕ, List, [], ◌∷◌, Option, Some}
use Rattle.door_log.specs.Answering.{IsFinished}
use Rattle.door_log.specs.Views.{inside_of}
use Rattle.door_log.specs.declared.line.Loss.{Loss}
use Rattle.door_log.specs.declared.line.Loss.TheVariants.{QueueFull, RetainedFull, PicksLost, LaneFull, BadFrames, FramesTooLarge}
use Rattle.node_keeper.specs.BatchViews.{node_in}
use Rattle.node_server.specs.Stack.{LoggedNode, node_behind}
use Rattle.node_server.specs.Views.{keeper_of}
use Rattle.node_work.specs.View.{HeldView}
use Rattle.node_work.specs.declared.counts.Counts.{Counts}

-- each count, with what it counts
abbrev pub losses_of : Counts → List (Loss × ℕ)
losses_of counts =
    (QueueFull, counts.queue_full) ∷ (RetainedFull, counts.retained_full) ∷ (PicksLost, counts.picks_lost) ∷ (LaneFull, counts.lane_full)
    ∷ (BadFrames, counts.bad_frames) ∷ (FramesTooLarge, counts.frames_too_large) ∷ []

-- the clock told a moment, and the log tells then what the node has left out, if that runs
pub record ToldLosses {R F G E C : Type 0} (tells : C → ℕ → C → Type 0) (contents : E → Option (List ℕ)) (d : LoggedNode R F G E) (clock : C)
    (d' : LoggedNode R F G E) (clock' : C) : Type 0 where
  pub at : ℕ
  pub told : tells clock at clock'
  pub counts : Counts
  pub counted : (held : HeldView) → (node_in (keeper_of (node_behind (inside_of d)))).up ≡ Some held → counts ≡ held.counts
  pub finished : IsFinished contents at (losses_of counts) d d'
