-- A Put of nothing that was taken stays the least that is kept of its topic.
use Rattle.std.proofs.Common.{◌≡◌, ℕ, ◌||◌, Bool, true, false, List, [], ◌∷◌, ◌++◌, Option, Some, None, inl, inr, refl, ap, ◌∙◌, subst, sym}
use Rattle.std.specs.FinMap as map
use Rattle.std.specs.Ordering.{is_gt, ordering_then}
use Rattle.std.specs.declared.cmp.Ordering.{Ordering}
use Rattle.std.specs.declared.cmp.Ordering.TheVariants.{Less, Equal, Greater}
use Rattle.causal_context.specs.OrderLattice.{NotAbove}
use Rattle.replica_store.specs.declared.content.Content.TheVariants.{Cleared}
use Rattle.replica_store.specs.declared.kept.Kept.{Kept}
use Rattle.replica_store.specs.declared.operation.Operation.{Operation}
use Rattle.replica_store.specs.declared.operation.Operation.TheVariants.{Put}
use Rattle.replica_store.specs.Operations.{Among, HasKept, Puts, dot_of}
use Rattle.replica_store.specs.Retained.{content_cmp, kept_cmp}
use Rattle.replica_store.specs.Stamps.{Stamp, stamp_cmp}
use Rattle.replica_store.specs.StateOf.{IsStateOf}
use Rattle.replica_store.specs.States.{State}
use Rattle.cluster_play.specs.Worlds.{Site, World}
use Rattle.cluster_play.specs.Runs.{Played}
use Rattle.cluster_play.specs.Histories.{Reached, made, operations, taken}
use Rattle.cluster_play.proofs.Agreeing.{node_holds}
use Rattle.cluster_play.proofs.Keeping.{keeps_operations}
use Rattle.cluster_play.proofs.Operations.{among_kept, among_some}
use Rattle.cluster_play.proofs.Paths.{made_both, taken_both}
use Rattle.law_causes.specs.Cleared.{ClearedStays, HasCleared, KeepsNoLesser}

-- ---- what was taken is taken later
among_more : (o : Operation) (xs ys : List Operation) → Among o xs → Among o (xs ++ ys)
among_more o [] ys there = elim there [ ]
among_more o (x ∷ xs) ys (inl same) = inl same
among_more o (x ∷ xs) ys (inr there) = inr (among_more o xs ys there)

or_true : (a b : Bool) → a ≡ true → (a || b) ≡ true
or_true true b e = refl
or_true false b e = absurd (let z : false ≡ true = e in cc)

still_taken : (run later : List Played) (i : ℕ) (o : Operation) → Among o (operations i run) → Among o (operations i (run ++ later))
still_taken run later i o there =
    let was = among_some (λ p. taken i run (dot_of p)) o (made run) there in
    let is : taken i (run ++ later) (dot_of o) ≡ true = taken_both i run later (dot_of o) ∙ or_true (taken i run (dot_of o)) (taken i later (dot_of o)) was.1 in
    among_kept (λ p. taken i (run ++ later) (dot_of p)) o (made (run ++ later)) (subst (Among o) (sym (made_both run later)) (among_more o (made run) (made later) was.0)) is

-- ---- and so is what is kept of its topic
first_not_gt : (a b : Ordering) → is_gt (ordering_then a b) ≡ false → is_gt a ≡ false
first_not_gt Less b e = refl
first_not_gt Equal b e = refl
first_not_gt Greater b e = e

kept_by : (O : List Operation) (topic : List ℕ) (stamp : Stamp) (s : State) (o : Option Kept) → Puts O topic (record { stamp = stamp; message = None }) → map.get s.retained topic ≡ o → HasKept O topic o → KeepsNoLesser topic stamp s
kept_by O topic stamp s None put at kept = absurd (kept (record { stamp = stamp; message = None }) put)
kept_by O topic stamp s (Some k) put at kept =
    let least : Kept = record { stamp = stamp; message = None } in
    record { kept = k; is = at; no_lesser = first_not_gt (stamp_cmp stamp k.stamp) (content_cmp None k.message) (kept.greatest least put) }

keeps : (run later : List Played) (i : ℕ) (topic : List ℕ) (stamp : Stamp) (s : State) → HasCleared run i topic stamp → IsStateOf (operations i (run ++ later)) s → KeepsNoLesser topic stamp s
keeps run later i topic stamp s cleared state =
    kept_by (operations i (run ++ later)) topic stamp s (map.get s.retained topic) (cleared.dot, Cleared topic, still_taken run later i (Put cleared.dot stamp (Cleared topic)) cleared.taken, refl, refl) refl (state.retained topic)

pub cleared_stays : ClearedStays
cleared_stays = λ run later w r i topic stamp cleared s at.
    let its = keeps_operations (run ++ later) w r i s at in
    record {
      said = its.said;
      are = its.are;
      rows = keeps run later i topic stamp its.said.store cleared its.state;
      held = λ h up. keeps run later i topic stamp h.store cleared (node_holds (run ++ later) w r i h (record { site = s; at = at; up = up })).0;
    }
