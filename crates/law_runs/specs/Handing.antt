-- What follows in a step where a node takes a message of a lane: its copies join their sessions (MQTT 5.0, 3.3.4 and 4.8.2).
use Rattle.std.specs.Prelude.{◌≡◌, ℕ, List, ◌∷◌, ◌++◌, Some}
use Rattle.bridge_frames.specs.declared.forward.Forward.{Forward}
use Rattle.bridge_routes.specs.declared.plain.PlainCopy.{PlainCopy as Copy}
use Rattle.node_work.specs.Acts.{Act, Bridge, Runs}
use Rattle.node_work.specs.Held.Bridge.{Took}
use Rattle.node_work.specs.View.{Place, HeldView}
use Rattle.broker_node.specs.declared.event.Event.{Event as NodeEvent}
use Rattle.broker_node.specs.Turns.{Decides}
use Rattle.law_runs.specs.StepPublishing.{CopiesAreQueued}

-- acts that begin with the calls by which copies join their sessions at a moment
pub record JoinAtOnce (at : ℕ) (copies : List Copy) (acts : List Act) : Type 0 where
  pub calls : List Act
  pub rest : List Act
  pub is : acts ≡ calls ++ rest
  pub queued : CopiesAreQueued at copies calls

-- the copies of a message that is taken of a lane join their sessions directly after that, in the same step, at the node's moment
abbrev pub HandedIsQueued : Type 0
HandedIsQueued =
    (e : NodeEvent) (p : Place) (h mid : HeldView) (acts : List Act) → Decides e (Some tt) p h acts
    → (before after : List Act) (from number : ℕ) (m : Forward) (copies : List Copy) (lost : ℕ)
    → acts ≡ before ++ Bridge (Took from number m copies lost) ∷ after → Runs p h before mid
    → JoinAtOnce mid.at copies after
