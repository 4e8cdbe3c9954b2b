-- Each frame that was released was given out by an act of a step.
use Rattle.std.specs.Prelude.{◌≡◌, ℕ, List, ◌∷◌, ◌++◌, Some, slice_get}
use Rattle.bridge_frames.specs.declared.frame.BridgeFrame.{BridgeFrame}
use Rattle.node_work.specs.declared.frame.Frame.{Frame}
use Rattle.node_work.specs.Acts.{Act, Bridge}
use Rattle.node_work.specs.Held.Bridge.{Gave, written_frame}
use Rattle.cluster_play.specs.Worlds.{World, nth_from_one}
use Rattle.cluster_play.specs.Runs.{Played, frames_released}
use Rattle.cluster_play.specs.Histories.{Reached, site, acts_of}

-- a step of the run released it, by an act of the node that it names as its sender
pub record WasGiven (run : List Played) (sent : Frame) : Type 0 where
  pub earlier : List Played
  pub m : Played
  pub later : List Played
  pub whole : run ≡ earlier ++ m ∷ later
  pub number : ℕ
  pub released : slice_get (frames_released m.fate) number ≡ Some sent
  pub frame : BridgeFrame
  pub is : sent ≡ written_frame frame
  pub from : frame.from ≡ site m.fate
  pub before : List Act
  pub after : List Act
  pub acts : acts_of m.fate ≡ before ++ Bridge (Gave frame) ∷ after

abbrev pub FramesAreGiven : Type 0
FramesAreGiven = (run : List Played) (w : World) → Reached run w → (number : ℕ) (sent : Frame) → nth_from_one w.frames number ≡ Some sent → WasGiven run sent
