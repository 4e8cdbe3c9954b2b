-- What a link that begins, a Ship, a More and a frame of another node come to, and nothing else (docs/cluster.md).
use Rattle.std.specs.Prelude.{◌≡◌, ℕ, cond, List, [], ◌∷◌, ◌++◌, map as map_list, Option, Some, None}
use Rattle.bridge_deltas.specs.Lane.{first_frames}
use Rattle.bridge_deltas.specs.More.{frames_after}
use Rattle.bridge_frames.specs.declared.body.FrameBody.{FrameBody}
use Rattle.bridge_frames.specs.declared.body.FrameBody.TheVariants.{Hello, Delta, Know, Forward, Got}
use Rattle.bridge_frames.specs.declared.forward.Forward.{Forward as Message}
use Rattle.bridge_frames.specs.declared.frame.BridgeFrame.{BridgeFrame}
use Rattle.bridge_routes.specs.declared.plain.PlainCopy.{PlainCopy as Copy}
use Rattle.node_bridge.specs.View.{IsToShip, is_next, lane_to}
use Rattle.replica_store.specs.States.{State}
use Rattle.node_work.specs.declared.counts.Missed.TheVariants.{BadFrame, FrameTooLarge}
use Rattle.node_work.specs.Acts.{Act, Store, Merged, Bridge, Runs}
use Rattle.node_work.specs.Doings.{is_small}
use Rattle.node_work.specs.Frames.{is_for_node, is_other}
use Rattle.node_work.specs.Held.Bridge.{Took, Believed, Greeted, Gave, Left_out, Got as GotBy, hello_to}
use Rattle.node_work.specs.View.{Place, HeldView}
use Rattle.law_runs.specs.StepPublishing.{CopiesAreQueued}
use Rattle.law_steps.specs.Frames.{answer_to, deltas_to, frame_to}

-- a frame goes out, or is counted where more would follow its length than may; each of a list in order
abbrev pub gives_out : BridgeFrame → Act
gives_out f = cond (is_small f) (Bridge (Gave f)) (Bridge (Left_out FrameTooLarge))

abbrev pub all_out : List BridgeFrame → List Act
all_out fs = map_list gives_out fs

-- ---- of its own accord
-- a link to another node of the cluster begins with a Hello: which of the messages for it are gone, the last message of its lane that was taken, and the
-- dots that were taken
abbrev pub GreetsAlone : Place → HeldView → ℕ → List Act → Type 0
GreetsAlone p h peer acts = acts ≡ cond (is_other p peer) (all_out (frame_to p peer (hello_to peer h) ∷ [])) []

-- a node is sent what it may lack of the state, unless it is known to have taken all; and then each of the first 64 messages that wait for it
abbrev pub IsSentTo : Place → HeldView → ℕ → List Act → Type 0
IsSentTo p h peer acts = (s : Option State) × IsToShip peer h.bridge h.store s × (acts ≡ all_out (deltas_to p peer s ++ first_frames p.id peer (lane_to h.bridge peer)))

-- another node of the cluster is
abbrev pub ShipsAlone : Place → HeldView → ℕ → List Act → Type 0
ShipsAlone p h peer acts = cond (is_other p peer) (IsSentTo p h peer acts) (acts ≡ [])

-- the same, and of the messages those that wait under numbers above one, as many as go at once
abbrev pub IsSentMore : Place → HeldView → ℕ → ℕ → List Act → Type 0
IsSentMore p h peer after acts = (s : Option State) × IsToShip peer h.bridge h.store s × (acts ≡ all_out (deltas_to p peer s ++ frames_after p.id peer after (lane_to h.bridge peer)))

abbrev pub MoreAlone : Place → HeldView → ℕ → ℕ → List Act → Type 0
MoreAlone p h peer after acts = cond (is_other p peer) (IsSentMore p h peer after acts) (acts ≡ [])

-- ---- a frame that comes
-- a message is taken of its sender's lane, and its copies join their sessions
pub record TakesOfLane (h : HeldView) (from number : ℕ) (m : Message) (acts : List Act) : Type 0 where
  pub copies : List Copy
  pub lost : ℕ
  pub calls : List Act
  pub is : acts ≡ Bridge (Took from number m copies lost) ∷ calls
  pub queued : CopiesAreQueued h.at copies calls

-- what a frame brings: a Hello and a Know dots that its sender has taken; a Delta a state, which is merged; a Forward a message, where its number
-- is the next one of the lane; a Got the number of the last message that its sender has taken
abbrev pub IsBrought : HeldView → ℕ → FrameBody → List Act → Type 0
IsBrought h from (Hello g) acts = acts ≡ Bridge (Greeted from g) ∷ []
IsBrought h from (Delta s) acts = acts ≡ Store (Merged s) ∷ []
IsBrought h from (Know dots) acts = acts ≡ Bridge (Believed from dots) ∷ []
IsBrought h from (Forward number m) acts = cond (is_next from number h.bridge) (TakesOfLane h from number m acts) (acts ≡ [])
IsBrought h from (Got number) acts = acts ≡ Bridge (GotBy from number) ∷ []

-- by what the node holds then it is answered: a Hello and a Delta by the dots that were taken, a Forward by the number of the last message that was
-- taken of the lane, another frame by nothing
abbrev pub answered : Place → HeldView → ℕ → FrameBody → List Act
answered p h from body = all_out (map_list (frame_to p from) (answer_to h from body))

pub record HearsAlone (p : Place) (h : HeldView) (from : ℕ) (body : FrameBody) (acts : List Act) : Type 0 where
  pub own : List Act
  pub brings : IsBrought h from body own
  pub left : HeldView
  pub leaves : Runs p h own left
  pub is : acts ≡ own ++ answered p left from body

-- bytes that are no frame, and a frame that isn't for this node from another one, are counted
abbrev pub FrameAlone : Place → HeldView → Option BridgeFrame → List Act → Type 0
FrameAlone p h None acts = acts ≡ Bridge (Left_out BadFrame) ∷ []
FrameAlone p h (Some f) acts = cond (is_for_node p f) (HearsAlone p h f.from f.body acts) (acts ≡ Bridge (Left_out BadFrame) ∷ [])
