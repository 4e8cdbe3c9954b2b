-- What a node tells that it holds.
use Rattle.std.proofs.Common.{◌≡◌, ℕ, List, Option, Some, None, refl, sym, ap, ◌∙◌, subst}
use Rattle.std.specs.FinMap as map
use Rattle.causal_context.specs.OrderLattice.{same_from_order}
use Rattle.subscription_set.specs.Standing.{live}
use Rattle.replica_store.specs.declared.kept.Kept.{Kept}
use Rattle.replica_store.specs.declared.operation.Operation.{Operation}
use Rattle.replica_store.specs.Operations.{HasKept}
use Rattle.replica_store.specs.RetainedLattice.{kept_cmp_total, kept_cmp_antisym}
use Rattle.replica_store.specs.States.{State}
use Rattle.replica_store.specs.StateOf.{IsStateOf}
use Rattle.node_work.specs.View.{HeldView}
use Rattle.cluster_play.specs.Worlds.{World}
use Rattle.cluster_play.specs.Runs.{Played}
use Rattle.cluster_play.specs.Histories.{Reached, operations}
use Rattle.cluster_play.specs.Agreement.{Holds}
use Rattle.cluster_play.specs.Clusters.{holdings_of}
use Rattle.cluster_play.proofs.Agreeing.{node_holds}
use Rattle.cluster_play.proofs.Showing.{node_shows}
use Rattle.law_runs.specs.Holdings.{CountsLive, KeepTopics, CountsKept, HoldingsAreCounts}
use Rattle.law_runs.proofs.Showing.{rises_live}

-- of each topic one thing is kept
same_kept : (O : List Operation) (topic : List ℕ) (x : Option Kept) (kept : Kept) → HasKept O topic x → HasKept O topic (Some kept) → x ≡ Some kept
same_kept O topic None kept h k = absurd (h kept k.put)
same_kept O topic (Some x) kept h k = ap Some (same_from_order kept_cmp_total kept_cmp_antisym x kept (k.greatest x h.put) (h.greatest kept k.put))

are_kept : (O : List Operation) (s : State) → IsStateOf O s → KeepTopics O (map.entries s.retained)
are_kept O s is = record {
  once = map.entries_sorted s.retained;
  each = λ topic kept. (
    λ f. subst (HasKept O topic) (map.get-entries s.retained topic ∙ f) (is.retained topic),
    λ k. sym (map.get-entries s.retained topic) ∙ same_kept O topic (map.get s.retained topic) kept (is.retained topic) k,
  );
}

holdings : (run : List Played) (w : World) → Reached run w → (i : ℕ) (h : HeldView) → Holds w i h → CountsLive (operations i run) (holdings_of h).0 × CountsKept (operations i run) (holdings_of h).1
holdings run w r i h at = (
  (live h.store.subscriptions, record { once = rises_live h.store.subscriptions; each = λ dot entry. node_shows run w r i h at dot entry }, refl),
  (map.entries h.store.retained, are_kept (operations i run) h.store (node_holds run w r i h at).0, refl),
)

pub holdings_are_counts : HoldingsAreCounts
holdings_are_counts = λ run w r i h at. holdings run w r i h at
