-- What running nodes hold, by the operations that they have taken, and where they agree.
use Rattle.std.specs.Prelude.{◌≡◌, ◌↔◌, ℕ, ◌++◌, List, Some, filter, slice_get}
use Rattle.std.specs.FinMap as map
use Rattle.std.specs.FinSet as set
use Rattle.causal_context.specs.Dots.{Dot}
use Rattle.mqtt_message.specs.declared.message.Message.{Message}
use Rattle.subscription_set.specs.declared.entry.Entry.{Entry}
use Rattle.subscription_set.specs.Standing.{find_entry, live}
use Rattle.replica_store.specs.declared.operation.Operation.{Operation}
use Rattle.replica_store.specs.Answers.{IsAnswer, IsAnswerOf}
use Rattle.replica_store.specs.Operations.{HaveOwnDots, IsLive}
use Rattle.replica_store.specs.StateOf.{IsStateOf}
use Rattle.replica_store.specs.States.{State}
use Rattle.broker_node.specs.declared.event.Event.{Event}
use Rattle.node_work.specs.Acts.{Act, Runs}
use Rattle.node_work.specs.View.{HeldView}
use Rattle.cluster_play.specs.Worlds.{Site, World, Happens}
use Rattle.cluster_play.specs.Runs.{Played, IsHonestStep}
use Rattle.cluster_play.specs.Histories.{Reached, site, event_committed, acts_of, made, taken, operations, operations_amid}

-- node i runs in the world, and holds h
pub record Holds (w : World) (i : ℕ) (h : HeldView) : Type 0 where
  pub site : Site
  pub at : slice_get w.sites i ≡ Some site
  pub up : site.node.up ≡ Some h

-- a running node holds the state of the operations that it has taken, and lists their dots
abbrev pub HoldsItsOperations : Type 0
HoldsItsOperations =
    (run : List Played) (w : World) → Reached run w → (i : ℕ) (h : HeldView) → Holds w i h
    → IsStateOf (operations i run) h.store × ((d : Dot) → set.contains h.store.taken d ≡ taken i run d)

-- so what is live there is what is live among its operations
abbrev pub LiveIsOfItsOperations : Type 0
LiveIsOfItsOperations =
    (run : List Played) (w : World) → Reached run w → (i : ℕ) (h : HeldView) → Holds w i h
    → (dot : Dot) (entry : Entry) → (find_entry dot (live h.store.subscriptions) ≡ Some entry) ↔ IsLive (operations i run) dot entry

-- and the messages that answer a filter are those with which its operations answer
abbrev pub AnswerIsOfItsOperations : Type 0
AnswerIsOfItsOperations =
    (run : List Played) (w : World) → Reached run w → (i : ℕ) (h : HeldView) → Holds w i h
    → (filter : List ℕ) (now : ℕ) (out : List Message) → IsAnswer filter now (map.entries h.store.retained) out → IsAnswerOf (operations i run) filter now out

-- node i holds this amid a step of its own, after these of its acts
pub record HoldsAmid (w : World) (m : Played) (i : ℕ) (before : List Act) (mid : HeldView) : Type 0 where
  pub event : Event
  pub commits : event_committed m.fate ≡ Some event
  pub at : site m.fate ≡ i
  pub rest : List Act
  pub acts : acts_of m.fate ≡ before ++ rest
  pub held : HeldView
  pub holds : Holds w i held
  pub runs : Runs holds.site.node.place held before mid

-- amid a step a node holds the state of what it has taken until then, and answers by it
pub record AnswersByOperations (O : List Operation) (h : HeldView) : Type 0 where
  pub state : IsStateOf O h.store
  pub answers : (filter : List ℕ) (now : ℕ) (out : List Message) → IsAnswer filter now (map.entries h.store.retained) out → IsAnswerOf O filter now out

abbrev pub HoldsItsOperationsAmid : Type 0
HoldsItsOperationsAmid =
    (run : List Played) (w w' : World) (m : Played) → Reached run w → IsHonestStep w.frames m.step → Happens w m.step m.fate w'
    → (i : ℕ) (before : List Act) (mid : HeldView) → HoldsAmid w m i before mid → AnswersByOperations (operations_amid i run before) mid

-- no dot has two operations
abbrev pub OwnDots : Type 0
OwnDots = (run : List Played) (w : World) → Reached run w → HaveOwnDots (made run)

-- the sets of taken dots of two running nodes are equal exactly where the nodes have taken the same in the run
abbrev pub SameTaken : Type 0
SameTaken =
    (run : List Played) (w : World) → Reached run w → (i j : ℕ) (h g : HeldView) → Holds w i h → Holds w j g
    → (h.store.taken ≡ g.store.taken) ↔ ((d : Dot) → taken i run d ≡ taken j run d)

-- two states are one, and so they show the same subscriptions and the same retained messages
pub record AreAlike (s t : State) : Type 0 where
  pub same : s ≡ t
  pub live : live s.subscriptions ≡ live t.subscriptions
  pub kept : (topic : List ℕ) → map.get s.retained topic ≡ map.get t.retained topic

-- two running nodes that have taken the same hold the same
abbrev pub AgreeWhereTheyTookTheSame : Type 0
AgreeWhereTheyTookTheSame =
    (run : List Played) (w : World) → Reached run w → (i j : ℕ) (h g : HeldView) → Holds w i h → Holds w j g
    → ((d : Dot) → taken i run d ≡ taken j run d) → AreAlike h.store g.store

-- and they answer a filter at a moment with the same messages, in the same order
abbrev pub AnswerAlike : Type 0
AnswerAlike =
    (run : List Played) (w : World) → Reached run w → (i j : ℕ) (h g : HeldView) → Holds w i h → Holds w j g
    → ((d : Dot) → taken i run d ≡ taken j run d)
    → (filter : List ℕ) (now : ℕ) (out out' : List Message) → IsAnswer filter now (map.entries h.store.retained) out → IsAnswer filter now (map.entries g.store.retained) out'
    → out ≡ out'
