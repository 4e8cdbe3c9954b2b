-- What leaves by a join, as the statuses tell it.
use Rattle.std.proofs.Common.{◌≡◌, Bool, true, false, cond, not, ◌&&◌, List, Option, Some, None, is_some, refl, sym, ◌∙◌, true≢false}
use Rattle.std.specs.List.{list_any}
use Rattle.std.specs.Ordering.{eq_by_cmp}
use Rattle.std.specs.FinMap as map
use Rattle.std.specs.FinSet as set
use Rattle.causal_context.specs.Dots.{Dot, Dots, dot_cmp}
use Rattle.subscription_set.specs.declared.entry.Entry.{Entry}
use Rattle.subscription_set.specs.Indexing.{ByDot}
use Rattle.subscription_set.specs.Joining.{AreLeaving, leaves_from, is_leaving}
use Rattle.subscription_set.specs.Merging.{IsSet, same_entry}
use Rattle.subscription_set.specs.Standing.{statuses, find_entry}
use Rattle.subscription_set.proofs.Seen.{get-statuses}

at_status : (a b : Bool) (x y : Option Entry) → (is_some x ≡ true → a ≡ true) → (is_some x && (b && not (same_entry x y))) ≡ is_leaving (cond a (Some x) None) (cond b (Some y) None)
at_status true true (Some e) y here = refl
at_status true false (Some e) y here = refl
at_status false b (Some e) y here = absurd (true≢false (sym (here refl)))
at_status true true None y here = refl
at_status true false None y here = refl
at_status false true None y here = refl
at_status false false None y here = refl

module _ (c k : Dots) (m others : ByDot) where
  pub leaves_is : IsSet c (map.entries m) → (q : Dot) → leaves_from m k others q ≡ is_leaving (map.get (statuses c (map.entries m)) q) (map.get (statuses k (map.entries others)) q)
  leaves_is is q =
      (λ i. is_some (map.get-entries m q i) && (set.contains k q && not (same_entry (map.get-entries m q i) (map.get-entries others q i))))
      ∙ at_status (set.contains c q) (set.contains k q) (find_entry q (map.entries m)) (find_entry q (map.entries others)) (is.seen q)
      ∙ sym (λ i. is_leaving (get-statuses c (map.entries m) q i) (get-statuses k (map.entries others) q i))

  pub leaving_is : (out : List Dot) → IsSet c (map.entries m) → AreLeaving m k others out
      → (q : Dot) → list_any (eq_by_cmp dot_cmp q) out ≡ is_leaving (map.get (statuses c (map.entries m)) q) (map.get (statuses k (map.entries others)) q)
  leaving_is out is so q = so q ∙ leaves_is is q
