-- What a step makes in a run, and that it stays.
use Rattle.std.specs.Prelude.{◌≡◌, ℕ, true, List, ◌∷◌, ◌++◌, Some, slice_get}
use Rattle.std.specs.FinSet as set
use Rattle.causal_context.specs.Dots.{Dot}
use Rattle.replica_store.specs.declared.operation.Operation.{Operation}
use Rattle.replica_store.specs.Operations.{dot_of}
use Rattle.node_keeper.specs.Keeping.{AreLasting}
use Rattle.node_rows.specs.Rows.{Lasting}
use Rattle.node_work.specs.Acts.{Act, Store, Session, Made}
use Rattle.node_work.specs.Held.Sessions.{SessionStep, Called}
use Rattle.cluster_play.specs.Worlds.{Site, World}
use Rattle.cluster_play.specs.Runs.{Played}
use Rattle.cluster_play.specs.Histories.{site, acts_of, taken}
use Rattle.cluster_play.specs.MadeOperations.{MakesNext}

-- the rows of a node list a dot as taken
pub record Lists (s : Site) (dot : Dot) : Type 0 where
  pub said : Lasting
  pub are : AreLasting s.node.place s.rows said
  pub listed : set.contains said.store.taken dot ≡ true

-- node i has taken a dot, and lists it in its rows, whether it runs or is down
pub record HasTaken (run : List Played) (w : World) (i : ℕ) (dot : Dot) : Type 0 where
  pub taken : taken i run dot ≡ true
  pub rows : (s : Site) → slice_get w.sites i ≡ Some s → Lists s dot

-- a step makes an operation, the next one of its node, and the node has it in a later world
pub record StaysMade (run later : List Played) (m : Played) (w : World) (o : Operation) : Type 0 where
  pub first : List Act
  pub last : List Act
  pub acts : acts_of m.fate ≡ first ++ Store (Made o) ∷ last
  pub next : MakesNext run later m w first o
  pub stays : HasTaken (run ++ m ∷ later) w (site m.fate) (dot_of o)

-- a step calls a session after these of its acts
pub record CallsSession (m : Played) (before : List Act) : Type 0 where
  pub step : SessionStep
  pub after : List Act
  pub acts : acts_of m.fate ≡ before ++ Session (Called step) ∷ after
