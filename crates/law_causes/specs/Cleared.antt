-- That a retained message which was taken away doesn't come back (MQTT 5.0, 3.3.1.3).
use Rattle.std.specs.Prelude.{◌≡◌, ℕ, List, ◌++◌, Some, slice_get}
use Rattle.std.specs.FinMap as map
use Rattle.causal_context.specs.Dots.{Dot}
use Rattle.causal_context.specs.OrderLattice.{NotAbove}
use Rattle.replica_store.specs.declared.content.Content.TheVariants.{Cleared}
use Rattle.replica_store.specs.declared.kept.Kept.{Kept}
use Rattle.replica_store.specs.declared.operation.Operation.TheVariants.{Put}
use Rattle.replica_store.specs.Operations.{Among}
use Rattle.replica_store.specs.Stamps.{Stamp, stamp_cmp}
use Rattle.replica_store.specs.States.{State}
use Rattle.node_keeper.specs.Keeping.{AreLasting}
use Rattle.node_rows.specs.Rows.{Lasting}
use Rattle.node_work.specs.View.{HeldView}
use Rattle.cluster_play.specs.Worlds.{Site, World}
use Rattle.cluster_play.specs.Runs.{Played}
use Rattle.cluster_play.specs.Histories.{Reached, operations}

-- node i has taken a Put with this stamp that leaves the topic without a message
pub record HasCleared (run : List Played) (i : ℕ) (topic : List ℕ) (stamp : Stamp) : Type 0 where
  pub dot : Dot
  pub taken : Among (Put dot stamp (Cleared topic)) (operations i run)

-- what a state keeps of the topic has no lesser stamp: so no message stands there that was put under one
pub record KeepsNoLesser (topic : List ℕ) (stamp : Stamp) (s : State) : Type 0 where
  pub kept : Kept
  pub is : map.get s.retained topic ≡ Some kept
  pub no_lesser : NotAbove stamp_cmp stamp kept.stamp

-- by the rows of a node, and where it runs by what it holds
pub record StaysCleared (topic : List ℕ) (stamp : Stamp) (s : Site) : Type 0 where
  pub said : Lasting
  pub are : AreLasting s.node.place s.rows said
  pub rows : KeepsNoLesser topic stamp said.store
  pub held : (h : HeldView) → s.node.up ≡ Some h → KeepsNoLesser topic stamp h.store

-- from then on, in every later world, whether the node runs, has crashed or was restarted, and whatever frames come
abbrev pub ClearedStays : Type 0
ClearedStays =
    (run later : List Played) (w : World) → Reached (run ++ later) w → (i : ℕ) (topic : List ℕ) (stamp : Stamp) → HasCleared run i topic stamp
    → (s : Site) → slice_get w.sites i ≡ Some s → StaysCleared topic stamp s
