-- A node that is opened from its rows, after a stop of any kind, as a step of a run.
use Rattle.std.specs.Prelude.{◌≡◌, ℕ, [], ◌∷◌, Some, slice_get}
use Rattle.cluster_play.specs.declared.step.Step.TheVariants as steps
use Rattle.cluster_play.specs.Runs.{Played, Run}
use Rattle.cluster_play.specs.Worlds.{Restarted, Site, World, world_with}
use Rattle.home_table.specs.Table.{Table}
use Rattle.node_keeper.specs.declared.batch.BatchKeeper.{BatchKeeper}
use Rattle.node_keeper.specs.BatchViews.{node_in, rows_in, waiting_in}
use Rattle.node_keeper.specs.Keeping.{OpensFromRows}
use Rattle.node_server.specs.Opening.{IsNotOlder}
use Rattle.node_work.specs.View.{place_of}
use Rattle.row_store.specs.Rows.{Content}
use Rattle.law_serving.specs.Settling.{TurnBegins, served_site}

-- what `open_after` and `ServedNode::new` make of these rows, with a table of homes that isn't older than they tell, for the node of a number
pub record IsOpened {R : Type 0} (is_open : R → Type 0) (content : R → Content) (homes : Table) (id : ℕ) (rows : Content) (k : BatchKeeper R) : Type 0 where
  pub opens : OpensFromRows (place_of id homes) homes rows (content (rows_in k)) (node_in k)
  pub newest : IsNotOlder (node_in k)
  pub stands : is_open (rows_in k)
  pub nothing : waiting_in k ≡ []

-- node i is opened from its rows with a table of homes
abbrev pub opening : ℕ → Table → Played
opening i homes = record { step = steps.Restart i; fate = Restarted i homes }

module _ {R : Type 0} (is_open : R → Type 0) (content : R → Content) where
  pub record IsARestart (w : World) (i : ℕ) (homes : Table) (k : BatchKeeper R) : Type 0 where
    pub leads : Run w (opening i homes ∷ []) (world_with w i (served_site content k) [])
    pub begins : TurnBegins is_open content (world_with w i (served_site content k) []) i k

  -- wherever node i stands, with the rows that a crash left, and is opened with a table for as many nodes, be it the one that it took last or another one: it goes on as a
  -- restart of a run with this table, and serves from there
  abbrev pub OpeningIsARestart : Type 0
  OpeningIsARestart =
      (w : World) (i id : ℕ) (s : Site) (homes : Table) (k : BatchKeeper R) → slice_get w.sites i ≡ Some s → s.node.place ≡ place_of id homes
      → IsOpened is_open content homes id s.rows k → IsARestart w i homes k
