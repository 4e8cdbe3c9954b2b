-- Which operations a step makes, and which a node takes.
use Rattle.std.specs.Prelude.{◌≡◌, ◌↔◌, ◌⊎◌, ℕ, ◌++◌, List, ◌∷◌, true}
use Rattle.std.specs.FinSet as set
use Rattle.causal_context.specs.Dots.{Dot}
use Rattle.replica_store.specs.declared.operation.Operation.{Operation}
use Rattle.replica_store.specs.Operations.{dot_of, Among}
use Rattle.replica_store.specs.States.{State}
use Rattle.bridge_frames.specs.declared.body.FrameBody.TheVariants.{Delta}
use Rattle.bridge_frames.specs.declared.frame.BridgeFrame.{BridgeFrame}
use Rattle.bridge_frames.specs.Frames.{HasSpelling}
use Rattle.node_work.specs.Acts.{Act, Store, Made}
use Rattle.node_work.specs.View.{HeldView}
use Rattle.cluster_play.specs.Worlds.{World}
use Rattle.cluster_play.specs.Runs.{Played, Run}
use Rattle.cluster_play.specs.Histories.{Reached, site, acts_of, ops_of, taken, operations_amid}
use Rattle.cluster_play.specs.NextOperations.{IsNextOperation}
use Rattle.cluster_play.specs.Agreement.{HoldsAmid}
use Rattle.cluster_play.specs.CatchingUp.{FrameArrives}

-- a step makes an operation after these of its acts: it is the next one by what its node had taken until then, and by the version of
-- the table of homes that the node holds there
pub record MakesNext (run later : List Played) (m : Played) (w : World) (before : List Act) (o : Operation) : Type 0 where
  pub world : World
  pub reached : Reached run world
  pub path : Run world (m ∷ later) w
  pub held : HeldView
  pub there : HoldsAmid world m (site m.fate) before held
  pub next : IsNextOperation (site m.fate) held.homes.version (operations_amid (site m.fate) run before) o

-- an operation that a step makes is the next one, and is taken from then on
abbrev pub OperationsOfAStep : Type 0
OperationsOfAStep =
    (run later : List Played) (m : Played) (w : World) → Reached (run ++ m ∷ later) w
    → (before after : List Act) (o : Operation) → acts_of m.fate ≡ before ++ Store (Made o) ∷ after
    → MakesNext run later m w before o × (taken (site m.fate) (run ++ m ∷ later) (dot_of o) ≡ true)

-- a step of the run makes the operation of this dot at node i
pub record MakesDot (i : ℕ) (run : List Played) (d : Dot) : Type 0 where
  pub before : List Played
  pub m : Played
  pub later : List Played
  pub run_is : run ≡ before ++ m ∷ later
  pub at : site m.fate ≡ i
  pub operation : Operation
  pub among : Among operation (ops_of m.fate)
  pub dot : dot_of operation ≡ d

-- a Delta frame that lists the dot as taken comes to node i, which has started, in a step of the run that commits
pub record BringsDot (i : ℕ) (run : List Played) (d : Dot) : Type 0 where
  pub before : List Played
  pub m : Played
  pub later : List Played
  pub run_is : run ≡ before ++ m ∷ later
  pub mid : World
  pub after : World
  pub reached : Reached before mid
  pub frame : BridgeFrame
  pub spelled : HasSpelling frame
  pub to : frame.to ≡ i
  pub arrives : FrameArrives mid frame m after
  pub state : State
  pub is_delta : frame.body ≡ Delta state
  pub lists : set.contains state.taken d ≡ true

-- a node takes the dots of the operations that it makes and those that the Delta frames list which come to it, and no other
abbrev pub TakesWhatItMakesOrIsBrought : Type 0
TakesWhatItMakesOrIsBrought =
    (run : List Played) (w : World) → Reached run w → (i : ℕ) (d : Dot) → (taken i run d ≡ true) ↔ (MakesDot i run d ⊎ BringsDot i run d)
