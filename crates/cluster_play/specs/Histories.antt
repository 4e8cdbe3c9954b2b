-- What was made and taken in a run, read off its moments.
use Rattle.std.specs.Prelude.{◌≡◌, ℕ, ◌≤◌, ◌^◌, ◌++◌, List, [], ◌∷◌, Option, Some, None, Bool, false, cond, max, ◌&&◌, ◌||◌, nat_eq, filter, length, slice_get}
use Rattle.std.specs.FinMap as map
use Rattle.std.specs.FinSet as set
use Rattle.causal_context.specs.Dots.{Dot}
use Rattle.broker_node.specs.declared.event.Event.{Event}
use Rattle.node_work.specs.declared.outcome.Output.{Output}
use Rattle.node_work.specs.Acts.{Act, MomentTaken, Store, Made, Merged, gather, moved_in, op_in}
use Rattle.node_work.specs.View.{fresh_node}
use Rattle.law_nodes.specs.Moves.{Move, Acted, Reopened, did}
use Rattle.node_rows.specs.Rows.{mark, mark_key}
use Rattle.replica_store.specs.declared.operation.Operation.{Operation}
use Rattle.replica_store.specs.Operations.{dot_of}
use Rattle.home_table.specs.Table.{Table}
use Rattle.cluster_play.specs.Worlds.{Site, World, Fate, Released, Lost, Cut, Faulted, Was_down, Restarted}
use Rattle.cluster_play.specs.Runs.{Played, Run, IsHonest}

-- the node where a step came to something
abbrev pub site : Fate → ℕ
site (Released i e acts outputs) = i
site (Lost i e acts) = i
site (Cut i) = i
site (Faulted i fault) = i
site (Was_down i) = i
site (Restarted i homes) = i

-- the event that a step committed, if it did
abbrev pub event_committed : Fate → Option Event
event_committed (Released i e acts outputs) = Some e
event_committed (Lost i e acts) = Some e
event_committed fate = None

-- the acts that a step committed
abbrev pub acts_of : Fate → List Act
acts_of (Released i e acts outputs) = acts
acts_of (Lost i e acts) = acts
acts_of fate = []

-- what it gave out
abbrev pub outputs_of : Fate → List Output
outputs_of (Released i e acts outputs) = outputs
outputs_of fate = []

-- the operations that it made
abbrev pub ops_of : Fate → List Operation
ops_of fate = gather op_in (acts_of fate)

-- all operations of a run, in order
abbrev pub made : List Played → List Operation
made [] = []
made (m ∷ ms) = ops_of m.fate ++ made ms

abbrev pub same_dot : Dot → Dot → Bool
same_dot d e = nat_eq d.node e.node && nat_eq d.number e.number

-- an act takes the dot: of the operation that it makes, or listed as taken in the state that it merges
abbrev pub gain_in : Act → Dot → Bool
gain_in (Store (Made o)) d = same_dot (dot_of o) d
gain_in (Store (Merged s)) d = set.contains s.taken d
gain_in a d = false

abbrev pub gained : List Act → Dot → Bool
gained [] d = false
gained (a ∷ rest) d = gain_in a d || gained rest d

-- a step at node i takes the dot
abbrev pub gains : ℕ → Fate → Dot → Bool
gains i fate d = nat_eq (site fate) i && gained (acts_of fate) d

-- the dots that node i has taken in a run
abbrev pub taken : ℕ → List Played → Dot → Bool
taken i [] d = false
taken i (m ∷ ms) d = gains i m.fate d || taken i ms d

-- the operations that it has taken
abbrev pub operations : ℕ → List Played → List Operation
operations i run = filter (λ o. taken i run (dot_of o)) (made run)

-- the same amid a step of node i, after these of its acts
abbrev pub taken_amid : ℕ → List Played → List Act → Dot → Bool
taken_amid i run acts d = taken i run d || gained acts d

abbrev pub operations_amid : ℕ → List Played → List Act → List Operation
operations_amid i run acts = filter (λ o. taken_amid i run acts (dot_of o)) (made run ++ gather op_in acts)

-- the moment that an act takes
abbrev pub moment_in : Act → ℕ
moment_in (MomentTaken at) = at
moment_in a = 0

-- what a step made of what its node holds: the acts that it committed, and at a restart the loss of what doesn't last
abbrev pub moves_of : Fate → List Move
moves_of (Released i e acts outputs) = did acts
moves_of (Lost i e acts) = did acts
moves_of (Restarted i homes) = Reopened homes ∷ []
moves_of fate = []

abbrev pub own_moves : ℕ → Fate → List Move
own_moves i fate = cond (nat_eq (site fate) i) (moves_of fate) []

-- what a run made of what node i holds, in order
abbrev pub moves_at : ℕ → List Played → List Move
moves_at i [] = []
moves_at i (m ∷ ms) = own_moves i m.fate ++ moves_at i ms

-- the same amid a step of node i, after these of its acts
abbrev pub moves_amid : ℕ → List Played → List Act → List Move
moves_amid i run acts = moves_at i run ++ did acts

-- the last of some tables, if there is one
abbrev pub last_table : Table → List Table → Table
last_table t [] = t
last_table t (u ∷ us) = last_table u us

-- the moment that a node is at after moves, from one on: the greatest that it was handed since it was last opened
abbrev pub moment_after : ℕ → List Move → ℕ
moment_after at [] = at
moment_after at (Acted a ∷ moves) = moment_after (max at (moment_in a)) moves
moment_after at (Reopened homes ∷ moves) = moment_after 0 moves

abbrev pub moment_amid : ℕ → List Played → List Act → ℕ
moment_amid i run acts = moment_after 0 (moves_amid i run acts)

-- the table of homes that a node has after moves, from one on: the one that it took last, or with which it was opened since
abbrev pub homes_after : Table → List Move → Table
homes_after t [] = t
homes_after t (Acted a ∷ moves) = homes_after (last_table t (moved_in a)) moves
homes_after t (Reopened homes ∷ moves) = homes_after homes moves

-- the node of a seat is new, with a table of homes for so many nodes, and its rows are its mark
pub record IsNewSite (nodes i : ℕ) (s : Site) : Type 0 where
  pub homes : Table
  pub fits : length homes.nodes ≡ nodes
  pub node : s.node ≡ fresh_node i homes
  pub rows : s.rows ≡ map.insert map.empty mark_key (mark i 0)

-- new nodes, of which there are no more than have numbers in two bytes, and no frame
pub record IsStart (w : World) : Type 0 where
  pub few : length w.sites ≤ 2 ^ 16
  pub sites : (i : ℕ) (s : Site) → slice_get w.sites i ≡ Some s → IsNewSite (length w.sites) i s
  pub frames : w.frames ≡ []

-- the table of homes with which a node was first opened
abbrev pub IsFirst : World → ℕ → Table → Type 0
IsFirst start i homes = (s : Site) × (slice_get start.sites i ≡ Some s) × (homes ≡ s.node.homes)

-- the world after a run from the start in which no frame is forged
pub record Reached (run : List Played) (w : World) : Type 0 where
  pub start : World
  pub is_start : IsStart start
  pub path : Run start run w
  pub honest : IsHonest [] run
