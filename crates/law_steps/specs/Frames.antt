-- Which frames each event gives out.
use Rattle.std.specs.Prelude.{◌≡◌, ℕ, cond, List, [], ◌∷◌, ◌++◌, map as map_list, Option, Some, None}
use Rattle.std.specs.List.{filter}
use Rattle.bridge_deltas.specs.Lane.{first_frames}
use Rattle.bridge_deltas.specs.More.{frames_after}
use Rattle.bridge_frames.specs.declared.body.FrameBody.{FrameBody}
use Rattle.bridge_frames.specs.declared.body.FrameBody.TheVariants.{Hello, Delta, Know, Forward, Got}
use Rattle.bridge_frames.specs.declared.frame.BridgeFrame.{BridgeFrame}
use Rattle.bridge_frames.specs.Frames.{frame_in}
use Rattle.node_bridge.specs.View.{IsToShip, lane_to}
use Rattle.replica_store.specs.States.{State}
use Rattle.node_work.specs.Acts.{Act, Bridge, Runs, gather}
use Rattle.node_work.specs.Doings.{is_small}
use Rattle.node_work.specs.Frames.{is_for_node, is_other}
use Rattle.node_work.specs.Held.Bridge.{BridgeAct, Gave, hello_to}
use Rattle.node_work.specs.View.{Place, HeldView}
use Rattle.broker_node.specs.declared.event.Event.{Event}
use Rattle.broker_node.specs.declared.event.EventKind.{EventKind}
use Rattle.broker_node.specs.declared.event.EventKind.TheVariants as kinds
use Rattle.broker_node.specs.Turns.{Decides}

-- the frames that acts give out
abbrev pub given_by : BridgeAct → List BridgeFrame
given_by (Gave f) = f ∷ []
given_by a = []

abbrev pub given_in : Act → List BridgeFrame
given_in (Bridge a) = given_by a
given_in a = []

abbrev pub frames_given : List Act → List BridgeFrame
frames_given acts = gather given_in acts

-- a frame of the node, and those of frames after whose length no more follows than may
abbrev pub frame_to : Place → ℕ → FrameBody → BridgeFrame
frame_to p peer body = record { from = p.id; to = peer; body = body }

abbrev pub those_small : List BridgeFrame → List BridgeFrame
those_small fs = filter is_small fs

-- ---- of its own accord
-- what another node may lack of the state, if there is any, and then a Forward for each of the first 64 messages that wait for it
abbrev pub deltas_to : Place → ℕ → Option State → List BridgeFrame
deltas_to p peer None = []
deltas_to p peer (Some s) = frame_to p peer (Delta s) ∷ []

abbrev pub ShippedFrames : Place → HeldView → ℕ → List BridgeFrame → Type 0
ShippedFrames p h peer fs =
    (s : Option State) × IsToShip peer h.bridge h.store s × (fs ≡ those_small (deltas_to p peer s ++ first_frames p.id peer (lane_to h.bridge peer)))

-- in place of these a Forward for each message that waits under a number above one, as many as go at once
abbrev pub MoreFrames : Place → HeldView → ℕ → ℕ → List BridgeFrame → Type 0
MoreFrames p h peer after fs =
    (s : Option State) × IsToShip peer h.bridge h.store s × (fs ≡ those_small (deltas_to p peer s ++ frames_after p.id peer after (lane_to h.bridge peer)))

-- ---- in answer to a frame
-- the dots that the node has taken, or the number of the last message that it has taken of the sender's lane
abbrev pub answer_to : HeldView → ℕ → FrameBody → List FrameBody
answer_to h from (Hello g) = Know h.store.taken ∷ []
answer_to h from (Delta s) = Know h.store.taken ∷ []
answer_to h from (Know dots) = []
answer_to h from (Forward number m) = Got (lane_to h.bridge from).took ∷ []
answer_to h from (Got number) = []

-- to a frame for this node from another one
abbrev pub answers_to : Place → HeldView → Option BridgeFrame → List BridgeFrame
answers_to p h None = []
answers_to p h (Some f) = cond (is_for_node p f) (those_small (map_list (frame_to p f.from) (answer_to h f.from f.body))) []

-- ---- an event, by what the node holds once what is due is done, and what it holds at the end
abbrev pub AreOfEvent : Place → HeldView → HeldView → EventKind → List BridgeFrame → Type 0
AreOfEvent p h last (kinds.Frame bytes) fs = fs ≡ answers_to p last (frame_in bytes)
AreOfEvent p h last (kinds.Linked peer) fs = fs ≡ cond (is_other p peer) (those_small (frame_to p peer (hello_to peer h) ∷ [])) []
AreOfEvent p h last (kinds.Ship peer) fs = cond (is_other p peer) (ShippedFrames p h peer fs) (fs ≡ [])
AreOfEvent p h last (kinds.More peer after) fs = cond (is_other p peer) (MoreFrames p h peer after fs) (fs ≡ [])
AreOfEvent p h last kind fs = fs ≡ []

-- acts that give no frame, and then those of the event; before a node has started there are none
pub record GivesFrames (p : Place) (h last : HeldView) (e : Event) (acts : List Act) : Type 0 where
  pub first : List Act
  pub rest : List Act
  pub mid : HeldView
  pub is : acts ≡ first ++ rest
  pub runs : Runs p h first mid
  pub none : frames_given first ≡ []
  pub frames : cond h.started (AreOfEvent p mid last e.kind (frames_given rest)) (frames_given rest ≡ [])

-- each event gives out exactly these
abbrev pub FramesAreOfEvents : Type 0
FramesAreOfEvents =
    (e : Event) (p : Place) (h last : HeldView) (acts : List Act) → Decides e (Some tt) p h acts → Runs p h acts last → GivesFrames p h last e acts
