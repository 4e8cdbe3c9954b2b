-- What a move takes of the subscriptions that a node has taken, and what it leaves (MQTT 5.0, 3.1.2.11.2 and 4.11).
use Rattle.std.specs.Prelude.{◌≡◌, ◌⊎◌, ℕ, ◌≤◌, true, List, [], ◌∷◌, ◌++◌}
use Rattle.causal_context.specs.Dots.{Dot}
use Rattle.home_table.specs.Table.{Table}
use Rattle.session_table.specs.Seats.{IsElsewhere}
use Rattle.subscription_set.specs.declared.entry.Entry.{Entry}
use Rattle.replica_store.specs.Operations.{Stands}
use Rattle.node_work.specs.Acts.{Act, Moved, gather, moved_in}
use Rattle.node_work.specs.Held.Sessions.{has_session}
use Rattle.node_work.specs.View.{HeldView}
use Rattle.cluster_play.specs.Worlds.{World}
use Rattle.cluster_play.specs.Runs.{Played}
use Rattle.cluster_play.specs.Histories.{Reached, site, acts_of, operations_amid}
use Rattle.cluster_play.specs.Agreement.{HoldsAmid}

-- a client with a session here whose home is elsewhere by the table
abbrev pub IsGoing : ℕ → HeldView → Table → List ℕ → Type 0
IsGoing id h homes client = (has_session client h ≡ true) × IsElsewhere homes id client

-- a step takes the table after these acts, where its node holds this: of each client that goes nothing stands afterwards that was made under an
-- older version; and what was made under the table's version or a newer one, or by a client that doesn't go, stands as before
pub record TakesTheOlder (run : List Played) (m : Played) (homes : Table) : Type 0 where
  pub before : List Act
  pub rest : List Act
  pub is : acts_of m.fate ≡ before ++ Moved homes ∷ rest
  pub world : World
  pub reached : Reached run world
  pub held : HeldView
  pub there : HoldsAmid world m (site m.fate) before held
  pub takes : (dot : Dot) (entry : Entry) → Stands (operations_amid (site m.fate) run (acts_of m.fate)) dot entry → IsGoing (site m.fate) held homes entry.client → homes.version ≤ entry.version
  pub leaves :
      (dot : Dot) (entry : Entry) → Stands (operations_amid (site m.fate) run before) dot entry → (homes.version ≤ entry.version) ⊎ (¬ (IsGoing (site m.fate) held homes entry.client))
      → Stands (operations_amid (site m.fate) run (acts_of m.fate)) dot entry

-- in a run, wherever a step takes a table
abbrev pub MovesTakeTheOlder : Type 0
MovesTakeTheOlder =
    (run later : List Played) (m : Played) (w : World) → Reached (run ++ m ∷ later) w → (homes : Table) → gather moved_in (acts_of m.fate) ≡ homes ∷ [] → TakesTheOlder run m homes
