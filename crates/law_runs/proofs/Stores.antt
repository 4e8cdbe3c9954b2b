-- Acts that only make operations.
use Rattle.std.proofs.Common.{◌≡◌, inl, inr, ℕ, List, [], ◌∷◌, ◌++◌, sym, ap, ◌∙◌, subst}
use Rattle.std.specs.List.{AllByRecursion}
use Rattle.node_work.specs.Acts.{Act, Store, Runs}
use Rattle.node_work.specs.View.{Place, HeldView}
use Rattle.law_runs.specs.StepAsking.{FilterIsRemoved, FiltersAreRemoved}

abbrev pub IsStore : Act → Type 0
IsStore (Store a) = Unit {0}
IsStore a = ⊥

abbrev pub AreStores : List Act → Type 0
AreStores acts = AllByRecursion IsStore acts

stores_both : (xs ys : List Act) → AreStores xs → AreStores ys → AreStores (xs ++ ys)
stores_both [] ys a b = b
stores_both (x ∷ xs) ys a b = (a.0, stores_both xs ys a.1 b)

-- the sessions stay as they are
pub still : (p : Place) (h h' : HeldView) (acts : List Act) → AreStores acts → Runs p h acts h' → h'.sessions ≡ h.sessions
still p h h' [] a runs = ap (λ (v : HeldView). v.sessions) runs
still p h h' (Store x ∷ acts) a runs = still p runs.0 h' acts a.1 runs.2 ∙ ap (λ (v : HeldView). v.sessions) runs.1.1
still p h h' (x ∷ acts) a runs = absurd a.0

-- the operations of an UNSUBSCRIBE
is_removed : (p : Place) (h : HeldView) (client text : List ℕ) (code : ℕ) (acts : List Act) → FilterIsRemoved p h client text code acts → AreStores acts
is_removed p h client text code acts (inl d) = subst AreStores (sym d.2) (tt, tt)
is_removed p h client text code acts (inr (inl d)) = subst AreStores (sym d.2) tt
is_removed p h client text code acts (inr (inr d)) = subst AreStores (sym d.2) tt

pub removed_stores : (p : Place) (h : HeldView) (client : List ℕ) (texts : List (List ℕ)) (codes : List ℕ) (acts : List Act) → FiltersAreRemoved p h client texts codes acts → AreStores acts
removed_stores p h client [] codes acts d = subst AreStores (sym d.1) tt
removed_stores p h client (text ∷ texts) codes acts (code, others, own, mid, rest, is, all, one, ran, more) =
    subst AreStores (sym all) (stores_both own rest (is_removed p h client text code own one) (removed_stores p mid client texts others rest more))
