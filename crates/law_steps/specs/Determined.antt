-- What a node holds and the event that comes determine what the node does.
use Rattle.std.specs.Prelude.{◌≡◌, ℕ, List, Some}
use Rattle.home_table.specs.Table.{IsTable}
use Rattle.node_work.specs.declared.outcome.Output.{Output}
use Rattle.node_work.specs.Acts.{Act}
use Rattle.node_work.specs.View.{Place, HeldView}
use Rattle.broker_node.specs.declared.event.Event.{Event}
use Rattle.broker_node.specs.Step.{Steps, StopsAtEnd}
use Rattle.cluster_play.specs.Worlds.{World, Released}
use Rattle.cluster_play.specs.Runs.{Played}
use Rattle.cluster_play.specs.Histories.{site, event_committed, acts_of}
use Rattle.cluster_play.specs.Agreement.{Holds}
use Rattle.cluster_play.specs.Worlds.{Happens}

-- two steps of a node that holds the same, at the same event: the same acts, the same given out, and the same left
pub record AreOneStep (acts acts' : List Act) (outputs outputs' : List Output) (after after' : HeldView) : Type 0 where
  pub same_acts : acts ≡ acts'
  pub same_outputs : outputs ≡ outputs'
  pub same_left : after ≡ after'

abbrev pub StepsAreDetermined : Type 0
StepsAreDetermined =
    (p : Place) (h : HeldView) (e : Event) → IsTable h.homes
    → (acts acts' : List Act) (outputs outputs' : List Output) (after after' : HeldView) → Steps p h e acts outputs after → Steps p h e acts' outputs' after'
    → AreOneStep acts acts' outputs outputs' after after'

-- and where it takes the event, it doesn't stop at a number
abbrev pub StopsAreDetermined : Type 0
StopsAreDetermined =
    (p : Place) (h : HeldView) (e : Event) → IsTable h.homes
    → (acts : List Act) (outputs : List Output) (after : HeldView) → Steps p h e acts outputs after → ¬ StopsAtEnd p h e

-- ---- in worlds

-- a step of a node that held this commits an event
pub record StepsFrom (w : World) (m : Played) (w' : World) (p : Place) (h : HeldView) (e : Event) : Type 0 where
  pub holds : Holds w (site m.fate) h
  pub place : holds.site.node.place ≡ p
  pub happens : Happens w m.step m.fate w'
  pub commits : event_committed m.fate ≡ Some e

-- its acts are the same, what it gives out where nothing is lost, and what the node holds afterwards where it runs
pub record DoAlike (m n : Played) (w v : World) : Type 0 where
  pub acts : acts_of m.fate ≡ acts_of n.fate
  pub outputs : (i j : ℕ) (d e : Event) (xs ys : List Act) (outputs outputs' : List Output) → m.fate ≡ Released i d xs outputs → n.fate ≡ Released j e ys outputs' → outputs ≡ outputs'
  pub leaves : (g k : HeldView) → Holds w (site m.fate) g → Holds v (site n.fate) k → g ≡ k

-- in any two worlds, whatever came before
abbrev pub NodesAreDetermined : Type 0
NodesAreDetermined =
    (w w' v v' : World) (m n : Played) (p : Place) (h : HeldView) (e : Event) → IsTable h.homes → StepsFrom w m w' p h e → StepsFrom v n v' p h e → DoAlike m n w' v'
