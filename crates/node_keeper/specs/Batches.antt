-- Many events whose changes of the rows are made at once.
use Rattle.std.specs.Prelude.{◌≡◌, List, [], ◌∷◌, ◌++◌}
use Rattle.broker_node.specs.declared.event.Event.{Event}
use Rattle.broker_node.specs.Step.{IsDone}
use Rattle.node_keeper.specs.declared.fault.KeeperFault.{KeeperFault}
use Rattle.node_keeper.specs.declared.fault.KeeperFault.TheVariants.{NoMemory, Rows, NumbersAtEnd, Stopped}
use Rattle.node_keeper.specs.Keeping.{RowsAreKept, Commits}
use Rattle.node_work.specs.View.{NodeView}
use Rattle.node_work.specs.declared.outcome.Output.{Output}
use Rattle.row_store.specs.declared.row.Change.{Change}
use Rattle.row_store.specs.Rows.{Content, after_all}

-- ---- events

-- an event is decided: a step of the node, whose changes wait behind those that wait already
pub record IsDecided (n : NodeView) (waiting : List Change) (e : Event) (outputs : List Output) (n' : NodeView) (waiting' : List Change) : Type 0 where
  pub changes : List Change
  pub done : IsDone n e outputs changes n'
  pub place : n'.place ≡ n.place
  pub waits : waiting' ≡ waiting ++ changes

-- an event is handled: it is taken, its changes are written, and then its outputs are given out
pub record IsHandled (n : NodeView) (rows : Content) (e : Event) (outputs : List Output) (n' : NodeView) (rows' : Content) : Type 0 where
  pub commits : Commits n rows e outputs n' rows'
  pub place : n'.place ≡ n.place

-- an event, and what was given out at it
abbrev pub Answered : Type 0
Answered = Event × List Output

-- events are decided, one after another
abbrev pub AreDecided : NodeView → List Change → List Answered → NodeView → List Change → Type 0
AreDecided n waiting [] n' waiting' = (n' ≡ n) × (waiting' ≡ waiting)
AreDecided n waiting (a ∷ more) n' waiting' =
    (m : NodeView) × (between : List Change) × IsDecided n waiting a.0 a.1 m between × AreDecided m between more n' waiting'

-- events are handled, one after another
abbrev pub AreHandled : NodeView → Content → List Answered → NodeView → Content → Type 0
AreHandled n rows [] n' rows' = (n' ≡ n) × (rows' ≡ rows)
AreHandled n rows (a ∷ more) n' rows' =
    (m : NodeView) × (between : Content) × IsHandled n rows a.0 a.1 m between × AreHandled m between more n' rows'

-- ---- laws

-- events that are decided while nothing waits, and whose changes are made at once, are the same as events that are handled one after
-- another
abbrev pub BatchIsSteps : Type 0
BatchIsSteps =
    (n n' : NodeView) (rows : Content) (answered : List Answered) (changes : List Change)
    → AreDecided n [] answered n' changes → AreHandled n rows answered n' (after_all rows changes)

-- so the rows that they leave are those of the node
abbrev pub BatchKeeps : Type 0
BatchKeeps =
    (n n' : NodeView) (rows : Content) (answered : List Answered) (changes : List Change)
    → AreDecided n [] answered n' changes → RowsAreKept n rows → RowsAreKept n' (after_all rows changes)

-- and a next event joins the others
abbrev pub BatchGrows : Type 0
BatchGrows =
    (n m n' : NodeView) (answered : List Answered) (waiting between waiting' : List Change) (e : Event) (outputs : List Output)
    → AreDecided n waiting answered m between → IsDecided m between e outputs n' waiting' → AreDecided n waiting (answered ++ (e, outputs) ∷ []) n' waiting'

-- ---- faults

-- a fault of the rows, and any other
abbrev pub IsOfRows : KeeperFault → Type 0
IsOfRows (Rows fault) = Unit {0}
IsOfRows NoMemory = ⊥
IsOfRows NumbersAtEnd = ⊥
IsOfRows Stopped = ⊥

abbrev pub IsOfNode : KeeperFault → Type 0
IsOfNode (Rows fault) = ⊥
IsOfNode NoMemory = Unit {0}
IsOfNode NumbersAtEnd = Unit {0}
IsOfNode Stopped = Unit {0}
