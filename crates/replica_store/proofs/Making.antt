-- The sets of deltas.
use Rattle.std.proofs.Common.{◌≡◌, Bool, true, false, cond, ◌||◌, if◌then◌else◌, [], ◌∷◌, Some, None, is_some, T, refl, sym, ap, ◌∙◌}
use Rattle.std.specs.FinSet as set
use Rattle.std.specs.FinMap as map
use Rattle.std.specs.Ordering.{eq_by_cmp}
use Rattle.causal_context.specs.Dots.{Dot, Dots, dot_cmp, dot_cmp_total, dot_cmp_antisym}
use Rattle.causal_context.specs.MapLattice.{option_join, get-merge}
use Rattle.subscription_set.specs.declared.entry.Entry.{Entry}
use Rattle.subscription_set.specs.Statuses.{status_join, statuses_join}
use Rattle.subscription_set.specs.Standing.{find_entry, statuses}
use Rattle.subscription_set.proofs.Seen.{get-statuses}
use Rattle.subscription_set.specs.Merging.{IsSet}
use Rattle.replica_store.specs.StateOf.{removed, uncovered_entry}
use Rattle.replica_store.proofs.Deltas.{get-removed, get_one, tied_true}

pub no_entries : (c : Dots) → IsSet c []
no_entries c = record { seen = λ q e. cc; rises = tt }

pub removed_is : (c : Dots) → statuses c [] ≡ removed c
removed_is c = map.same_map dot_cmp_total dot_cmp_antisym _ _ (λ q. get-statuses c [] q ∙ sym (get-removed c q))

module _ (d : Dot) (e : Entry) (c : Dots) where
  found : (q : Dot) → find_entry q (uncovered_entry d e c) ≡ cond (set.contains c d) None (cond (eq_by_cmp dot_cmp q d) (Some e) None)
  found q = elim (set.contains c d) as (λ b. find_entry q (if b then [] else ((d, e) ∷ [])) ≡ cond b None (cond (eq_by_cmp dot_cmp q d) (Some e) None)) [ true ↦ refl | false ↦ refl ]

  pub is_set : IsSet (set.insert c d) (uncovered_entry d e c)
  is_set = record {
    seen = λ q h. set.contains-insert dot_cmp_total c d q ∙ seen (eq_by_cmp dot_cmp q d) (set.contains c d) (set.contains c q) (ap is_some (sym (found q)) ∙ h);
    rises = elim (set.contains c d) as (λ b. T (map.is_sorted dot_cmp (if b then [] else ((d, e) ∷ [])))) [ true ↦ tt | false ↦ tt ];
  }
    where
      seen : (t b a : Bool) → is_some (cond b None (cond t (Some e) None)) ≡ true → (t || a) ≡ true
      seen true b a h = refl
      seen false true a h = cc
      seen false false a h = cc

  one_dot : (t b a : Bool) → (t ≡ true → a ≡ b) → cond (t || a) (Some (cond b None (cond t (Some e) None))) None ≡ option_join status_join (cond a (Some None) None) (cond t (Some (Some e)) None)
  unfolding status_join
  one_dot true true true h = refl
  one_dot true false false h = refl
  one_dot true true false h = (let same = h refl in cc)
  one_dot true false true h = (let same = h refl in cc)
  one_dot false true true h = refl
  one_dot false false true h = refl
  one_dot false true false h = refl
  one_dot false false false h = refl

  pub subscribed_is : statuses (set.insert c d) (uncovered_entry d e c) ≡ statuses_join (removed c) (map.insert map.empty d (Some e))
  unfolding statuses_join
  subscribed_is = map.same_map dot_cmp_total dot_cmp_antisym _ _ (λ q.
      get-statuses (set.insert c d) (uncovered_entry d e c) q ∙ (λ j. cond (set.contains-insert dot_cmp_total c d q j) (Some (found q j)) None)
      ∙ one_dot (eq_by_cmp dot_cmp q d) (set.contains c d) (set.contains c q) (λ t. ap (set.contains c) (tied_true q d t))
      ∙ (λ j. option_join status_join (sym (get-removed c q) j) (sym (get_one d e q) j))
      ∙ sym (get-merge dot_cmp_total status_join (removed c) (map.insert map.empty d (Some e)) q))
