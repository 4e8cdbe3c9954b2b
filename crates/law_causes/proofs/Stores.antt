-- Acts that only make operations.
use Rattle.std.proofs.Common.{inl, inr, ℕ, List, [], ◌∷◌, ◌++◌, sym, subst}
use Rattle.mqtt_packets.specs.declared.subscribe.SubscribeFilter.{SubscribeFilter}
use Rattle.node_work.specs.Acts.{Act}
use Rattle.node_work.specs.View.{Place, HeldView}
use Rattle.law_runs.specs.StepAsking.{IsGranted, AreGranted, FilterIsRemoved, FiltersAreRemoved}
use Rattle.law_causes.specs.Causes.{AreOperations}

both : (xs ys : List Act) → AreOperations xs → AreOperations ys → AreOperations (xs ++ ys)
both [] ys a b = b
both (x ∷ xs) ys a b = (a.0, both xs ys a.1 b)

-- those that come first
pub front : (xs ys : List Act) → AreOperations (xs ++ ys) → AreOperations xs
front [] ys a = tt
front (x ∷ xs) ys a = (a.0, front xs ys a.1)

-- those of a SUBSCRIBE
is_granted : (p : Place) (h : HeldView) (client : List ℕ) (identifier : ℕ) (f : SubscribeFilter) (code : ℕ) (acts : List Act) → IsGranted p h client identifier f code acts → AreOperations acts
is_granted p h client identifier f code acts (inl d) = subst AreOperations (sym d.1) (tt, tt)
is_granted p h client identifier f code acts (inr d) = subst AreOperations (sym d.1) tt

pub granted : (p : Place) (h : HeldView) (client : List ℕ) (identifier : ℕ) (fs : List SubscribeFilter) (codes : List ℕ) (acts : List Act) → AreGranted p h client identifier fs codes acts → AreOperations acts
granted p h client identifier [] codes acts d = subst AreOperations (sym d.1) tt
granted p h client identifier (f ∷ fs) codes acts (code, others, own, mid, rest, is, all, one, ran, more) =
    subst AreOperations (sym all) (both own rest (is_granted p h client identifier f code own one) (granted p mid client identifier fs others rest more))

-- those of an UNSUBSCRIBE
is_removed : (p : Place) (h : HeldView) (client text : List ℕ) (code : ℕ) (acts : List Act) → FilterIsRemoved p h client text code acts → AreOperations acts
is_removed p h client text code acts (inl d) = subst AreOperations (sym d.2) (tt, tt)
is_removed p h client text code acts (inr (inl d)) = subst AreOperations (sym d.2) tt
is_removed p h client text code acts (inr (inr d)) = subst AreOperations (sym d.2) tt

pub removed : (p : Place) (h : HeldView) (client : List ℕ) (texts : List (List ℕ)) (codes : List ℕ) (acts : List Act) → FiltersAreRemoved p h client texts codes acts → AreOperations acts
removed p h client [] codes acts d = subst AreOperations (sym d.1) tt
removed p h client (text ∷ texts) codes acts (code, others, own, mid, rest, is, all, one, ran, more) =
    subst AreOperations (sym all) (both own rest (is_removed p h client text code own one) (removed p mid client texts others rest more))
