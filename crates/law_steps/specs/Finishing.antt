-- When a session is told to end at once, with its will: never but for a reason (MQTT 5.0, 3.1.2.4, 3.1.2.5 and 4.11).
use Rattle.std.specs.Prelude.{◌≡◌, ℕ, List, ◌∷◌, ◌++◌, Some}
use Rattle.law_sessions.specs.Runs.{finishes}
use Rattle.node_work.specs.Acts.{Act, Session}
use Rattle.node_work.specs.Held.Sessions.{SessionStep, Called}
use Rattle.node_work.specs.View.{Place, HeldView}
use Rattle.broker_node.specs.declared.event.Event.{Event}
use Rattle.broker_node.specs.Turns.{Decides}
use Rattle.cluster_play.specs.Worlds.{World}
use Rattle.cluster_play.specs.Runs.{Played}
use Rattle.cluster_play.specs.Histories.{Reached, acts_of, event_committed}
use Rattle.law_steps.specs.Lifted.{IsStepOf}
use Rattle.law_steps.specs.Overs.{MayEndNow}

-- in every step a call that ends a session at once, and may ask for its will to be published, is of a client whose CONNECT with Clean Start has come, or
-- whose home is elsewhere by the table with which the node starts, or by the one that it is handed
abbrev pub SessionsFinishForReasons : Type 0
SessionsFinishForReasons =
    (e : Event) (p : Place) (h : HeldView) (acts : List Act) → Decides e (Some tt) p h acts
    → (before after : List Act) (s : SessionStep) (now : ℕ) → acts ≡ before ++ Session (Called s) ∷ after → s.event ≡ finishes now → MayEndNow e p h acts s.client

-- and so in every step of a run
abbrev pub SessionsOfRunsFinishForReasons : Type 0
SessionsOfRunsFinishForReasons =
    (run later : List Played) (m : Played) (w : World) → Reached (run ++ m ∷ later) w → (e : Event) → event_committed m.fate ≡ Some e
    → (before after : List Act) (s : SessionStep) (now : ℕ) → acts_of m.fate ≡ before ++ Session (Called s) ∷ after → s.event ≡ finishes now
    → (t : IsStepOf run m e) × MayEndNow e t.holds.site.node.place t.held (acts_of m.fate) s.client
