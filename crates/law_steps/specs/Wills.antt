-- What a node does with a will that is due, or whose session ends (MQTT 5.0, 3.1.2.5 and 3.1.3.2.2).
use Rattle.std.specs.Prelude.{◌≡◌, ◌⊎◌, ℕ, cond, true, List, ◌∷◌, ◌++◌, Some}
use Rattle.mqtt_message.specs.declared.message.Message.{Message}
use Rattle.mqtt_sessions.specs.declared.reaction.Ask.TheVariants.{Pass}
use Rattle.law_sessions.specs.Runs.{Event, ticks, finishes}
use Rattle.node_work.specs.Acts.{Act, Session, Dropped, Runs}
use Rattle.node_work.specs.Held.Sessions.{SessionStep, Called}
use Rattle.node_work.specs.View.{Place, HeldView}
use Rattle.node_clients.specs.Passing.{lacks_room}
use Rattle.broker_node.specs.declared.event.Event.{Event as NodeEvent}
use Rattle.broker_node.specs.Turns.{Decides}
use Rattle.law_runs.specs.StepPublishing.{BeginsWithPassingOn}
use Rattle.cluster_play.specs.Worlds.{World}
use Rattle.cluster_play.specs.Runs.{Played}
use Rattle.cluster_play.specs.Histories.{Reached, site}
use Rattle.cluster_play.specs.Agreement.{HoldsAmid}
use Rattle.law_runs.specs.Publishing.{PutStays}
use Rattle.law_runs.specs.Staying.{CallsSession}

-- the session does what is due of it, or ends
abbrev pub MayPublishWill : Event → Type 0
MayPublishWill (ticks now) = Unit {0}
MayPublishWill (finishes now) = Unit {0}
MayPublishWill e = ⊥

-- and asks its node to pass its will on
pub record AsksForWill (s : SessionStep) (m : Message) : Type 0 where
  pub event : MayPublishWill s.event
  pub asks : s.reaction.ask ≡ Some (Pass m)

-- directly after it a will with RETAIN for whose topic there is no room is dropped, and counted; any other is passed on, as a message of a
-- PUBLISH is
abbrev pub BeginsDropped : List Act → Type 0
BeginsDropped acts = (rest : List Act) × (acts ≡ Dropped ∷ rest)

abbrev pub IsPublished : HeldView → Message → ℕ → List Act → Type 0
IsPublished h m at acts = cond (lacks_room m h) (BeginsDropped acts) (BeginsWithPassingOn m at h.bridge acts)

-- in every step
abbrev pub WillsArePassedOn : Type 0
WillsArePassedOn =
    (e : NodeEvent) (p : Place) (h mid : HeldView) (acts : List Act) → Decides e (Some tt) p h acts
    → (before after : List Act) (s : SessionStep) (m : Message) → acts ≡ before ++ Session (Called s) ∷ after → Runs p h before mid → AsksForWill s m
    → IsPublished mid m s.at after

-- ---- in a run

-- a will that is passed on with RETAIN has its Put, which stays
pub record WillIsPassedOn (run later : List Played) (m : Played) (w : World) (before : List Act) (c : CallsSession m before) (x : Message) : Type 0 where
  pub world : World
  pub reached : Reached run world
  pub held : HeldView
  pub there : HoldsAmid world m (site m.fate) before held
  pub published : IsPublished held x c.step.at c.after
  pub put : x.retain ≡ true → BeginsDropped c.after ⊎ PutStays run later m w before c x

abbrev pub WillsStayPassedOn : Type 0
WillsStayPassedOn =
    (run later : List Played) (m : Played) (w : World) → Reached (run ++ m ∷ later) w
    → (before : List Act) (c : CallsSession m before) (x : Message) → AsksForWill c.step x → WillIsPassedOn run later m w before c x
