-- A DISCONNECT is the last packet of its connection: directly after it that is closed, and nothing more goes out on it (MQTT 5.0, 3.14.4).
use Rattle.std.specs.Prelude.{◌≡◌, ℕ, List, [], ◌∷◌, ◌++◌, Some}
use Rattle.std.specs.List.{AllByRecursion}
use Rattle.node_work.specs.declared.outcome.Output.{Output}
use Rattle.node_work.specs.declared.outcome.Output.TheVariants.{Send, Close, Frame as Release}
use Rattle.node_work.specs.Acts.{Act, Runs, gather, output_in}
use Rattle.node_work.specs.View.{Place, HeldView}
use Rattle.broker_node.specs.declared.event.Event.{Event}
use Rattle.broker_node.specs.Turns.{Decides}
use Rattle.cluster_play.specs.Worlds.{World}
use Rattle.cluster_play.specs.Runs.{Played}
use Rattle.cluster_play.specs.Histories.{Reached, acts_of}
use Rattle.law_steps.specs.Outputs.{SessionsAreOnTheirs}
use Rattle.law_steps.specs.Served.{ConnectionsAreServed}

-- bytes of a DISCONNECT: their first byte says so (2.1.2)
abbrev pub IsFarewell : List ℕ → Type 0
IsFarewell bytes = (rest : List ℕ) × (bytes ≡ 0xe0 ∷ rest)

-- what goes out on a connection, or closes it
abbrev pub IsOn : ℕ → Output → Type 0
IsOn c (Send q bytes) = q ≡ c
IsOn c (Close q) = q ≡ c
IsOn c (Release frame) = ⊥

-- the close of a connection, and nothing more on it
pub record IsTheEnd (c : ℕ) (after : List Output) : Type 0 where
  pub later : List Output
  pub close : after ≡ Close c ∷ later
  pub none : AllByRecursion (λ o. ¬ (IsOn c o)) later

-- that follows a DISCONNECT
abbrev pub IsFollowed : Output → List Output → Type 0
IsFollowed (Send c bytes) after = IsFarewell bytes → IsTheEnd c after
IsFollowed o after = Unit {0}

-- each of these, by what goes out after it
abbrev pub DisconnectsEnd : List Output → Type 0
DisconnectsEnd [] = Unit {0}
DisconnectsEnd (o ∷ after) = IsFollowed o after × DisconnectsEnd after

-- in every step of a node whose sessions are on their own connections, and whose connections are those of their sessions
abbrev pub DisconnectsAreLast : Type 0
DisconnectsAreLast =
    (e : Event) (p : Place) (h last : HeldView) (acts : List Act) → SessionsAreOnTheirs h → ConnectionsAreServed h → Decides e (Some tt) p h acts → Runs p h acts last
    → DisconnectsEnd (gather output_in acts)

-- in a run
abbrev pub DisconnectsOfRunsAreLast : Type 0
DisconnectsOfRunsAreLast = (run later : List Played) (m : Played) (w : World) → Reached (run ++ m ∷ later) w → DisconnectsEnd (gather output_in (acts_of m.fate))
