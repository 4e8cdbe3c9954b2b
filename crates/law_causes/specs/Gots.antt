-- What a Got tells in a run.
use Rattle.std.specs.Prelude.{◌≡◌, ℕ, ◌≤◌, List, Some, length, slice_get}
use Rattle.bridge_frames.specs.declared.body.FrameBody.TheVariants as bodies
use Rattle.bridge_frames.specs.declared.frame.BridgeFrame.{BridgeFrame}
use Rattle.bridge_frames.specs.Frames.{frame_in}
use Rattle.bridge_lanes.specs.Lanes.{lane_of}
use Rattle.node_keeper.specs.Keeping.{AreLasting}
use Rattle.node_rows.specs.Rows.{Lasting}
use Rattle.node_work.specs.declared.frame.Frame.{Frame}
use Rattle.cluster_play.specs.Worlds.{Site, World, nth_from_one}
use Rattle.cluster_play.specs.Runs.{Played}
use Rattle.cluster_play.specs.Histories.{Reached}
use Rattle.law_runs.specs.LaneHistories.{took}

-- the rows of a node count at least so many messages that it took of the lane from node j
pub record CountsAtLeast (s : Site) (j n : ℕ) : Type 0 where
  pub said : Lasting
  pub are : AreLasting s.node.place s.rows said
  pub counted : n ≤ (lane_of said.lanes j).took

-- the sender has taken at least as many messages of the receiver's lane as a Got frame says, and its rows count them, whether it runs or
-- is down
pub record IsSoOfGot (run : List Played) (w : World) (f : BridgeFrame) (n : ℕ) : Type 0 where
  pub taken : n ≤ length (took f.from f.to run)
  pub rows : (s : Site) → slice_get w.sites f.from ≡ Some s → CountsAtLeast s f.to n

-- of each Got frame that was released, now or earlier: a frame stays in every later world (FramesStay)
abbrev pub GotStaysTrue : Type 0
GotStaysTrue =
    (run : List Played) (w : World) → Reached run w
    → (number : ℕ) (sent : Frame) (f : BridgeFrame) (n : ℕ) → nth_from_one w.frames number ≡ Some sent → frame_in sent.bytes ≡ Some f → f.body ≡ bodies.Got n
    → IsSoOfGot run w f n
