use Rattle.std.proofs.Common.{◌≡◌, ℕ, Some, slice_get, length, map, take}
use Rattle.cluster_play.specs.Clusters.{site_of}
use Rattle.cluster_play.specs.Histories.{IsNewSite}
use Rattle.cluster_play.specs.Worlds.{Site}
use Rattle.cluster_play.proofs.Tables.{table_of}
use Rattle.cluster_play.proofs.cluster.Cluster.new.Given as goal

abbrev pub invariant-loop-i : goal.invariant-loop-i
invariant-loop-i l = record {
  each : (i : ℕ) (s : Site) → slice_get (map site_of l.opened.items) i ≡ Some s → IsNewSite (length l.fn.tables.items) i s;
  homes : map table_of (map site_of l.opened.items) ≡ take l.i l.fn.tables.items;
}
