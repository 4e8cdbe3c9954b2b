-- What is said of every step, said of every step of a run.
use Rattle.std.specs.Prelude.{◌≡◌, ℕ, true, List, ◌∷◌, ◌++◌, Some}
use Rattle.mqtt_message.specs.declared.message.Message.{Message}
use Rattle.node_work.specs.Acts.{Act, Runs}
use Rattle.node_work.specs.View.{HeldView}
use Rattle.broker_node.specs.declared.event.Event.{Event}
use Rattle.broker_node.specs.declared.event.EventKind.TheVariants as kinds
use Rattle.broker_node.specs.Turns.{Decides}
use Rattle.law_runs.specs.StepPublishing.{AcceptsPublish}
use Rattle.cluster_play.specs.Worlds.{World}
use Rattle.cluster_play.specs.Runs.{Played}
use Rattle.cluster_play.specs.Histories.{Reached, site, acts_of, event_committed}
use Rattle.cluster_play.specs.Agreement.{Holds}
use Rattle.law_runs.specs.Publishing.{IsPassedOn}
use Rattle.law_runs.specs.Staying.{CallsSession}
use Rattle.law_steps.specs.Frames.{GivesFrames}
use Rattle.law_runs.specs.Connects.{AnswersFirst}

-- a step that committed is one of its node, from what that held then
pub record IsStepOf (run : List Played) (m : Played) (e : Event) : Type 0 where
  pub world : World
  pub reached : Reached run world
  pub held : HeldView
  pub holds : Holds world (site m.fate) held
  pub last : HeldView
  pub does : Decides e (Some tt) holds.site.node.place held (acts_of m.fate)
  pub runs : Runs holds.site.node.place held (acts_of m.fate) last

-- so each law of every step is one of every run
abbrev pub StepsOfRunsAreSteps : Type 0
StepsOfRunsAreSteps =
    (run later : List Played) (m : Played) (w : World) → Reached (run ++ m ∷ later) w → (e : Event) → event_committed m.fate ≡ Some e → IsStepOf run m e

-- the frames that the step gives out are those of its event
abbrev pub FramesOfRunsAreOfEvents : Type 0
FramesOfRunsAreOfEvents =
    (run later : List Played) (m : Played) (w : World) → Reached (run ++ m ∷ later) w → (e : Event) → event_committed m.fate ≡ Some e
    → (s : IsStepOf run m e) × GivesFrames s.holds.site.node.place s.held s.last e (acts_of m.fate)

-- the first CONNECT of a connection is answered in it
abbrev pub FirstConnectsOfRunsAreAnswered : Type 0
FirstConnectsOfRunsAreAnswered =
    (run later : List Played) (m : Played) (w : World) → Reached (run ++ m ∷ later) w → (e : Event) → event_committed m.fate ≡ Some e
    → (c : ℕ) (piece : List ℕ) → e.kind ≡ kinds.Piece c piece
    → (s : IsStepOf run m e) × (s.held.started ≡ true → AnswersFirst s.holds.site.node.place s.held e.at c piece (acts_of m.fate))

-- a message that a session takes of a PUBLISH and asks to pass on, at whatever QoS, is passed on directly after that, and with RETAIN its Put stays
abbrev pub PublishesArePassedOn : Type 0
PublishesArePassedOn =
    (run later : List Played) (m : Played) (w : World) → Reached (run ++ m ∷ later) w
    → (before : List Act) (c : CallsSession m before) (x : Message) → AcceptsPublish c.step x → IsPassedOn run later m w before c x
