-- How many subscriptions and retained messages a node tells that it holds.
use Rattle.std.specs.Prelude.{◌≡◌, ◌↔◌, ℕ, is_some, length, List, Some}
use Rattle.std.specs.List.{filter}
use Rattle.std.specs.FinMap.Entries.{find}
use Rattle.subscription_set.specs.Sorted.{Rises}
use Rattle.subscription_set.specs.Standing.{Entries}
use Rattle.replica_store.specs.declared.kept.Kept.{Kept}
use Rattle.replica_store.specs.declared.operation.Operation.{Operation}
use Rattle.replica_store.specs.Operations.{HasKept}
use Rattle.replica_store.specs.Retained.{topic_cmp}
use Rattle.node_work.specs.View.{HeldView}
use Rattle.cluster_play.specs.Worlds.{World}
use Rattle.cluster_play.specs.Runs.{Played}
use Rattle.cluster_play.specs.Histories.{Reached, operations}
use Rattle.cluster_play.specs.Agreement.{Holds}
use Rattle.cluster_play.specs.Clusters.{holdings_of}
use Rattle.law_runs.specs.Filters.{AreAllLive}

-- so many subscriptions are live
abbrev pub CountsLive : List Operation → ℕ → Type 0
CountsLive O count = (all : Entries) × AreAllLive O all × (count ≡ length all)

-- of each topic, once, what is kept: the message that it was given last, or that it was cleared
pub record KeepTopics (O : List Operation) (all : List (List ℕ × Kept)) : Type 0 where
  pub once : Rises topic_cmp all
  pub each : (topic : List ℕ) (kept : Kept) → (find topic_cmp topic all ≡ Some kept) ↔ HasKept O topic (Some kept)

-- so many topics keep a message
abbrev pub CountsKept : List Operation → ℕ → Type 0
CountsKept O count = (all : List (List ℕ × Kept)) × KeepTopics O all × (count ≡ length (filter (λ x. is_some x.1.message) all))

-- what a running node tells that it holds are these two numbers, by the operations that it has taken
abbrev pub HoldingsAreCounts : Type 0
HoldingsAreCounts =
    (run : List Played) (w : World) → Reached run w → (i : ℕ) (h : HeldView) → Holds w i h
    → CountsLive (operations i run) (holdings_of h).0 × CountsKept (operations i run) (holdings_of h).1
