-- What a Forward frame comes to: its message is taken where it is the next of its lane, and any is answered by one Got.
use Rattle.std.specs.Prelude.{◌≡◌, ◌≢◌, ℕ, suc, true, false, List, [], ◌∷◌, ◌++◌, length, Some}
use Rattle.bridge_frames.specs.declared.body.FrameBody.TheVariants.{Forward as Carried, Got}
use Rattle.bridge_frames.specs.declared.forward.Forward.{Forward}
use Rattle.bridge_frames.specs.declared.frame.BridgeFrame.{BridgeFrame}
use Rattle.bridge_frames.specs.Frames.{frame_in}
use Rattle.bridge_routes.specs.declared.plain.PlainCopy.{PlainCopy as Copy}
use Rattle.node_bridge.specs.View.{is_next, lane_to}
use Rattle.node_work.specs.declared.frame.Frame.{Frame}
use Rattle.node_work.specs.Acts.{Act, Bridge, Runs, gather, heard_in}
use Rattle.node_work.specs.Frames.{is_for_node}
use Rattle.node_work.specs.Held.Bridge.{Took}
use Rattle.node_work.specs.View.{Place, HeldView}
use Rattle.broker_node.specs.declared.event.Event.{Event}
use Rattle.broker_node.specs.declared.event.EventKind.TheVariants as kinds
use Rattle.broker_node.specs.Turns.{Decides}
use Rattle.cluster_play.specs.Worlds.{World, nth_from_one}
use Rattle.cluster_play.specs.Runs.{Played}
use Rattle.cluster_play.specs.Histories.{Reached, acts_of}
use Rattle.cluster_play.specs.CatchingUp.{FrameArrives}
use Rattle.law_runs.specs.LaneHistories.{took}
use Rattle.law_steps.specs.Frames.{frame_to, frames_given}

-- ---- in every step

-- a Forward frame for this node from another one comes to it, and it has started
pub record BringsForward (p : Place) (h : HeldView) (e : Event) (from number : ℕ) (m : Forward) : Type 0 where
  pub started : h.started ≡ true
  pub bytes : List ℕ
  pub event : e.kind ≡ kinds.Frame bytes
  pub to : ℕ
  pub read : frame_in bytes ≡ Some (record { from = from; to = to; body = Carried number m })
  pub here : is_for_node p (record { from = from; to = to; body = Carried number m }) ≡ true

-- the message is among what acts take
pub record TakesIt (acts : List Act) (from number : ℕ) (m : Forward) : Type 0 where
  pub copies : List Copy
  pub lost : ℕ
  pub before : List Act
  pub after : List Act
  pub is : acts ≡ before ++ Bridge (Took from number m copies lost) ∷ after

-- the next message of its lane is taken, another one isn't; and one frame goes out, Got with the number of the last that was taken
pub record IsForwarded (p : Place) (h last : HeldView) (acts : List Act) (from number : ℕ) (m : Forward) : Type 0 where
  pub next : is_next from number h.bridge ≡ true → TakesIt acts from number m
  pub other : is_next from number h.bridge ≡ false → gather heard_in acts ≡ []
  pub answered : frames_given acts ≡ frame_to p from (Got (lane_to last.bridge from).took) ∷ []

abbrev pub ForwardsAreAnswered : Type 0
ForwardsAreAnswered =
    (e : Event) (p : Place) (h last : HeldView) (acts : List Act) → Decides e (Some tt) p h acts → Runs p h acts last
    → (from number : ℕ) (m : Forward) → BringsForward p h e from number m → IsForwarded p h last acts from number m

-- ---- in a run

-- a step in which the frame comes takes its message where the number is the next, by how many the receiver had taken of the sender's lane,
-- and nothing of that lane where it isn't; and gives out one frame, Got with how many it has taken then
pub record IsTakenThere (run : List Played) (m : Played) (f : BridgeFrame) (number : ℕ) (x : Forward) : Type 0 where
  pub next : number ≡ suc (length (took f.to f.from run)) → took f.to f.from (run ++ m ∷ []) ≡ took f.to f.from run ++ x ∷ []
  pub other : number ≢ suc (length (took f.to f.from run)) → took f.to f.from (run ++ m ∷ []) ≡ took f.to f.from run
  pub answered : frames_given (acts_of m.fate) ≡ record { from = f.to; to = f.from; body = Got (length (took f.to f.from (run ++ m ∷ []))) } ∷ []

-- once a Forward frame that was released comes to its receiver, another node than its sender, that has started
abbrev pub ForwardsAreTaken : Type 0
ForwardsAreTaken =
    (run : List Played) (w w' : World) (m : Played) → Reached run w
    → (k : ℕ) (sent : Frame) (f : BridgeFrame) (number : ℕ) (x : Forward) → nth_from_one w.frames k ≡ Some sent → frame_in sent.bytes ≡ Some f → f.body ≡ Carried number x → f.from ≢ f.to
    → FrameArrives w f m w' → IsTakenThere run m f number x
