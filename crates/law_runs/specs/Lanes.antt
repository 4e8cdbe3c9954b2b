-- What holds of the lanes between nodes in every run, through loss, repeats, crashes and restarts.
use Rattle.std.specs.Prelude.{◌≡◌, ◌↔◌, ℕ, ◌≤◌, ◌++◌, List, ◌∷◌, Some, drop, length, slice_get}
use Rattle.bridge_frames.specs.declared.body.FrameBody.TheVariants as bodies
use Rattle.bridge_frames.specs.declared.forward.Forward.{Forward}
use Rattle.bridge_frames.specs.declared.frame.BridgeFrame.{BridgeFrame}
use Rattle.bridge_frames.specs.Frames.{frame_in}
use Rattle.bridge_routes.specs.declared.plain.PlainCopy.{PlainCopy as Copy}
use Rattle.bridge_lanes.specs.Lanes.{Begins, IsNumbered, lane_of}
use Rattle.node_keeper.specs.Keeping.{AreLasting}
use Rattle.node_rows.specs.Rows.{Lasting}
use Rattle.node_work.specs.declared.frame.Frame.{Frame}
use Rattle.node_work.specs.Acts.{Act, Bridge}
use Rattle.node_work.specs.Handed.{IsHanded}
use Rattle.node_work.specs.Held.Bridge.{Took}
use Rattle.node_work.specs.View.{HeldView}
use Rattle.replica_store.specs.Operations.{IsLive}
use Rattle.subscription_set.specs.declared.entry.Entry.{Entry}
use Rattle.subscription_set.specs.Standing.{find_entry, live}
use Rattle.causal_context.specs.Dots.{Dot}
use Rattle.law_runs.specs.Handing.{JoinAtOnce}
use Rattle.cluster_play.specs.Worlds.{Site, World, nth_from_one}
use Rattle.cluster_play.specs.Runs.{Played}
use Rattle.cluster_play.specs.Histories.{Reached, site, acts_of, operations_amid, moment_amid}
use Rattle.cluster_play.specs.Agreement.{HoldsAmid}
use Rattle.law_runs.specs.LaneHistories.{put, took}

-- what node j took of the lane from node i is a beginning of what i put in: each message whole, in order, and once
abbrev pub TakesInOrder : Type 0
TakesInOrder = (run : List Played) (w : World) → Reached run w → (i j : ℕ) → Begins (took j i run) (put i j run)

-- what waits at node i for node j, by i's rows, is all that i put in past some that j has taken; i may be running or down
abbrev pub WaitsPastWhatIsTaken : Type 0
WaitsPastWhatIsTaken =
    (run : List Played) (w : World) → Reached run w → (i j : ℕ) (s : Site) (said : Lasting) → slice_get w.sites i ≡ Some s → AreLasting s.node.place s.rows said
    → (k : ℕ) × (k ≤ length (took j i run)) × ((lane_of said.lanes j).waiting ≡ drop k (put i j run)) × ((lane_of said.lanes j).gone ≡ k)

-- and they count what i took of the lane from j
abbrev pub CountsWhatItTook : Type 0
CountsWhatItTook =
    (run : List Played) (w : World) → Reached run w → (i j : ℕ) (s : Site) (said : Lasting) → slice_get w.sites i ≡ Some s → AreLasting s.node.place s.rows said
    → (lane_of said.lanes j).took ≡ length (took i j run)

-- a Forward frame has a message under its number among those that its sender put in for its receiver
abbrev pub ForwardFrames : Type 0
ForwardFrames =
    (run : List Played) (w : World) → Reached run w
    → (number : ℕ) (sent : Frame) (f : BridgeFrame) (n : ℕ) (m : Forward) → nth_from_one w.frames number ≡ Some sent → frame_in sent.bytes ≡ Some f → f.body ≡ bodies.Forward n m
    → IsNumbered (put f.from f.to run) n m

-- at least as many messages were taken as a Got frame says
abbrev pub GotFrames : Type 0
GotFrames =
    (run : List Played) (w : World) → Reached run w
    → (number : ℕ) (sent : Frame) (f : BridgeFrame) (n : ℕ) → nth_from_one w.frames number ≡ Some sent → frame_in sent.bytes ≡ Some f → f.body ≡ bodies.Got n
    → n ≤ length (took f.from f.to run)

-- what was put in and taken stays so
abbrev pub LanesGoOn : Type 0
LanesGoOn = (i j : ℕ) (ms ns : List Played) → Begins (put i j ms) (put i j (ms ++ ns)) × Begins (took i j ms) (took i j (ms ++ ns))

-- ---- copies

-- a step takes a message of a lane after these of its acts: it makes these copies here, and so many picks are lost
pub record TakesFromLane (m : Played) (before : List Act) : Type 0 where
  pub from : ℕ
  pub number : ℕ
  pub message : Forward
  pub copies : List Copy
  pub lost : ℕ
  pub after : List Act
  pub acts : acts_of m.fate ≡ before ++ Bridge (Took from number message copies lost) ∷ after

-- the copies are those of the message for what the node holds there: its sessions, and the live subscriptions, which are those of the
-- operations that it has taken until then
pub record MakesHanded (run : List Played) (m : Played) (before : List Act) (s : TakesFromLane m before) : Type 0 where
  pub world : World
  pub reached : Reached run world
  pub held : HeldView
  pub there : HoldsAmid world m (site m.fate) before held
  pub made : IsHanded held s.message s.copies s.lost
  pub live : (dot : Dot) (entry : Entry) → (find_entry dot (live held.store.subscriptions) ≡ Some entry) ↔ IsLive (operations_amid (site m.fate) run before) dot entry

-- a message that is taken of a lane makes exactly these copies
abbrev pub HandedAsTaken : Type 0
HandedAsTaken = (run later : List Played) (m : Played) (w : World) → Reached (run ++ m ∷ later) w → (before : List Act) (s : TakesFromLane m before) → MakesHanded run m before s

-- the copies join their sessions directly after that, in the same step: by calls at the moment of the node there, which is the greatest
-- that it was handed since it was last opened
pub record JoinsHanded (run : List Played) (m : Played) (before : List Act) (s : TakesFromLane m before) : Type 0 where
  pub world : World
  pub reached : Reached run world
  pub held : HeldView
  pub there : HoldsAmid world m (site m.fate) before held
  pub moment : held.at ≡ moment_amid (site m.fate) run before
  pub joins : JoinAtOnce held.at s.copies s.after

-- where a message is taken of a lane, nothing stands between that and the calls by which its copies join their sessions
abbrev pub JoinsAsTaken : Type 0
JoinsAsTaken = (run later : List Played) (m : Played) (w : World) → Reached (run ++ m ∷ later) w → (before : List Act) (s : TakesFromLane m before) → JoinsHanded run m before s
