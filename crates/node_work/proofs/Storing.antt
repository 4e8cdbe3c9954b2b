-- What a merge leaves can be read from its rows again.
use Rattle.std.proofs.Common.{◌≡◌, ◌⊎◌, inl, inr, ℕ, Bool, true, false, cond, List, Option, Some, None, refl, sym, ap, subst, ◌∙◌}
use Rattle.std.specs.Cmp.Lexicographic.{nat_list_cmp_total}
use Rattle.std.specs.FinMap as map
use Rattle.std.specs.Ordering.{is_gt}
use Rattle.causal_context.specs.Dots.{Dot, dot_cmp_total}
use Rattle.causal_context.specs.MapLattice.{get-merge, option_join}
use Rattle.causal_context.specs.OrderLattice.{greater}
use Rattle.causal_context.specs.Spelling.{HasSpelling}
use Rattle.mqtt_fields.specs.Numbers.{IsText}
use Rattle.mqtt_message.specs.Parts.{name}
use Rattle.subscription_set.specs.declared.entry.Entry.{Entry}
use Rattle.subscription_set.specs.Entries.{entry_eq}
use Rattle.subscription_set.specs.Standing.{seen_of}
use Rattle.subscription_set.specs.Statuses.{Status, Statuses, status_join, statuses_join}
use Rattle.replica_store.specs.declared.kept.Kept.{Kept}
use Rattle.replica_store.specs.Retained.{Retained, kept_cmp, retained_join}
use Rattle.replica_store.specs.States.{State, state_join}
use Rattle.replica_store.proofs.Seeing.{joined_seen}
use Rattle.replica_bytes.specs.Values.{dot, kept}
use Rattle.replica_rows.specs.Reading.{CanStand, IsStore}

abbrev Present : Entry → Option Status
Present e = Some (Some e)

-- what stands after a merge stood here or there
one_stood : (x y : Option Status) (e : Entry) → option_join status_join x y ≡ Present e → (x ≡ Present e) ⊎ (y ≡ Present e)
unfolding status_join
one_stood None y e is = inr is
one_stood (Some x) None e is = inl is
one_stood (Some None) (Some y) e is = absurd (cc)
one_stood (Some (Some a)) (Some None) e is = absurd (cc)
one_stood (Some (Some a)) (Some (Some b)) e is = by (entry_eq a b) is
  where
    by : (same : Bool) → Some (cond same (Some a) None) ≡ Present e → (Present a ≡ Present e) ⊎ (Present b ≡ Present e)
    by true i = inl i
    by false i = absurd (cc)

stood : (s t : Statuses) (q : Dot) (e : Entry) → map.get (statuses_join s t) q ≡ Present e → (map.get s q ≡ Present e) ⊎ (map.get t q ≡ Present e)
unfolding statuses_join
stood s t q e is = one_stood (map.get s q) (map.get t q) e (sym (get-merge dot_cmp_total status_join s t q) ∙ is)

-- what is kept was kept here or there
one_kept : (x y : Option Kept) (k : Kept) → option_join (greater kept_cmp) x y ≡ Some k → (x ≡ Some k) ⊎ (y ≡ Some k)
unfolding greater
one_kept None y k is = inr is
one_kept (Some x) None k is = inl is
one_kept (Some x) (Some y) k is = by (is_gt (kept_cmp x y)) is
  where
    by : (above : Bool) → Some (cond above x y) ≡ Some k → (Some x ≡ Some k) ⊎ (Some y ≡ Some k)
    by true i = inl i
    by false i = inr i

was_kept : (s t : Retained) (topic : List ℕ) (k : Kept) → map.get (retained_join s t) topic ≡ Some k → (map.get s topic ≡ Some k) ⊎ (map.get t topic ≡ Some k)
unfolding retained_join
was_kept s t topic k is = one_kept (map.get s topic) (map.get t topic) k (sym (get-merge nat_list_cmp_total (greater kept_cmp) s t topic) ∙ is)

pub join_is_store : (s t : State) → IsStore s → IsStore t → HasSpelling (state_join s t).taken → HasSpelling (seen_of (state_join s t).subscriptions) → IsStore (state_join s t)
join_is_store s t a b taken seen = record {
  all_seen = joined_seen s t a.all_seen b.all_seen;
  taken = taken;
  seen = seen;
  dots = λ q e is. elim (stood s.subscriptions t.subscriptions q e is) [
    | inl i ↦ a.dots q e i
    | inr i ↦ b.dots q e i
  ];
  clients = λ q e is. elim (stood s.subscriptions t.subscriptions q e is) [
    | inl i ↦ a.clients q e i
    | inr i ↦ b.clients q e i
  ];
  entries = λ q e is. elim (stood s.subscriptions t.subscriptions q e is) [
    | inl i ↦ a.entries q e i
    | inr i ↦ b.entries q e i
  ];
  topics = λ topic k is. elim (was_kept s.retained t.retained topic k is) [
    | inl i ↦ a.topics topic k i
    | inr i ↦ b.topics topic k i
  ];
  kept = λ topic k is. elim (was_kept s.retained t.retained topic k is) [
    | inl i ↦ a.kept topic k i
    | inr i ↦ b.kept topic k i
  ];
}
