-- What frames bring: the states that they carry, and what has been taken once they have come.
use Rattle.std.specs.Prelude.{◌≡◌, ℕ, ◌++◌, List, ◌∷◌, Some, true, filter}
use Rattle.std.specs.FinSet as set
use Rattle.causal_context.specs.Dots.{Dot, Dots}
use Rattle.replica_store.specs.Operations.{dot_of}
use Rattle.replica_store.specs.StateOf.{IsStateOf}
use Rattle.replica_store.specs.States.{State}
use Rattle.broker_node.specs.declared.event.Event.{Event}
use Rattle.broker_node.specs.declared.event.EventKind.TheVariants as kinds
use Rattle.bridge_frames.specs.declared.body.FrameBody.TheVariants.{Delta, Know}
use Rattle.bridge_frames.specs.declared.frame.BridgeFrame.{BridgeFrame}
use Rattle.bridge_frames.specs.Frames.{HasSpelling, frame_in, spelling}
use Rattle.node_work.specs.declared.frame.Frame.{Frame}
use Rattle.node_work.specs.Acts.{Act, Bridge}
use Rattle.node_work.specs.Held.Bridge.{Gave, written_frame}
use Rattle.node_work.specs.View.{HeldView}
use Rattle.cluster_play.specs.Worlds.{World, Happens, nth_from_one}
use Rattle.cluster_play.specs.Runs.{Played}
use Rattle.cluster_play.specs.Histories.{Reached, site, event_committed, acts_of, made, taken, taken_amid}
use Rattle.cluster_play.specs.Agreement.{Holds}

-- each frame that was released is the spelling of one, and its bytes are read as that one
abbrev pub FramesAreSpelled : Type 0
FramesAreSpelled =
    (run : List Played) (w : World) → Reached run w → (number : ℕ) (sent : Frame) → nth_from_one w.frames number ≡ Some sent
    → (f : BridgeFrame) × (sent ≡ written_frame f) × HasSpelling f × (frame_in sent.bytes ≡ Some f)

-- the state of a Delta frame is that of the operations whose dots it lists as taken
abbrev pub DeltaFrames : Type 0
DeltaFrames =
    (run : List Played) (w : World) → Reached run w
    → (number : ℕ) (sent : Frame) (f : BridgeFrame) (s : State) → nth_from_one w.frames number ≡ Some sent → frame_in sent.bytes ≡ Some f → f.body ≡ Delta s
    → IsStateOf (filter (λ o. set.contains s.taken (dot_of o)) (made run)) s

-- a step gives out a Delta frame, after these of its acts
pub record GivesDelta (m : Played) (before : List Act) (f : BridgeFrame) : Type 0 where
  pub after : List Act
  pub acts : acts_of m.fate ≡ before ++ Bridge (Gave f) ∷ after
  pub state : State
  pub is_delta : f.body ≡ Delta state

-- a frame comes to its receiver, which has started, in a step that commits
pub record FrameArrives (w : World) (f : BridgeFrame) (m : Played) (w' : World) : Type 0 where
  pub held : HeldView
  pub holds : Holds w f.to held
  pub started : held.started ≡ true
  pub happens : Happens w m.step m.fate w'
  pub at : site m.fate ≡ f.to
  pub event : Event
  pub commits : event_committed m.fate ≡ Some event
  pub brings : event.kind ≡ kinds.Frame (spelling f)

-- once a Delta frame has come to its receiver, that has taken all that the sender had taken when the frame went out
abbrev pub CatchUp : Type 0
CatchUp =
    (run amid later : List Played) (m arrival : Played) (w w' : World) → Reached (run ++ m ∷ amid) w
    → (before : List Act) (f : BridgeFrame) → GivesDelta m before f → FrameArrives w f arrival w'
    → (d : Dot) → taken_amid (site m.fate) run before d ≡ true → taken f.to ((run ++ m ∷ amid) ++ arrival ∷ later) d ≡ true

-- the dots of a Know that a step gives out are taken, then and in every later world
abbrev pub KnowsWhatIsTaken : Type 0
KnowsWhatIsTaken =
    (run later : List Played) (m : Played) (w : World) → Reached (run ++ m ∷ later) w
    → (before after : List Act) (f : BridgeFrame) (dots : Dots) → acts_of m.fate ≡ before ++ Bridge (Gave f) ∷ after → f.body ≡ Know dots
    → (d : Dot) → set.contains dots d ≡ true → taken (site m.fate) (run ++ m ∷ later) d ≡ true
