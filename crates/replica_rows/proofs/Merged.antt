-- What a merge makes of the rows.
use Rattle.std.proofs.Common.{◌≡◌, ◌≢◌, ℕ, Bool, true, false, not, if◌then◌else◌, List, [], ◌∷◌, ◌++◌, Option, Some, None, is_some, refl, sym, ap, subst, ◌∙◌, true≢false}
use Rattle.std.specs.Ordering.{is_lt, is_gt}
use Rattle.std.specs.declared.cmp.Ordering.TheVariants.{Less, Equal, Greater}
use Rattle.std.specs.Cmp.Lexicographic.{nat_list_cmp_total}
use Rattle.std.proofs.lemmas.Cmp.{tied_itself}
use Rattle.std.specs.FinSet as set
use Rattle.std.specs.FinMap as map
use Rattle.causal_context.specs.Dots.{Dot, dot_cmp_total}
use Rattle.causal_context.specs.MapLattice.{option_join, get-merge}
use Rattle.causal_context.specs.OrderLattice.{greater}
use Rattle.subscription_set.specs.declared.entry.Entry.{Entry}
use Rattle.subscription_set.specs.Entries.{entry_eq}
use Rattle.subscription_set.specs.Joining.{is_leaving}
use Rattle.subscription_set.specs.Standing.{seen_of}
use Rattle.subscription_set.proofs.Seen.{contains-seen_of}
use Rattle.subscription_set.specs.Statuses.{Status, status_join, statuses_join}
use Rattle.replica_store.specs.declared.kept.Kept.{Kept}
use Rattle.replica_store.specs.Merging.{is_newer}
use Rattle.replica_store.specs.Retained.{retained_join, kept_cmp}
use Rattle.replica_store.specs.RetainedLattice.{kept_cmp_total}
use Rattle.replica_store.specs.States.{State, state_join}
use Rattle.row_store.specs.declared.row.Row.{Row}
use Rattle.row_store.specs.declared.row.Change.{Change}
use Rattle.row_store.specs.declared.row.Change.TheVariants.{Put}
use Rattle.row_store.specs.Rows.{Key, entry_of}
use Rattle.replica_bytes.specs.Values.{dot, subscription, subscription_in, kept}
use Rattle.replica_bytes.proofs.Wholes.{kept_is}
use Rattle.replica_rows.specs.Rows.{row_at}
use Rattle.row_store.specs.Leading.{key_in}
use Rattle.replica_rows.specs.Changes.{names, IsRight, IsNeeded}
use Rattle.replica_rows.specs.Steps.{AddsDue, AddsLeaving, subscription_key, Leaves}
use Rattle.replica_rows.proofs.Naming.{adds_none, adds_one, names_last}
use Rattle.replica_rows.proofs.Keyed.{one_value, row_stands, row_unseen, row_removed, row_kept, row_not_kept}

some_is : {A : Type 0} (a b : A) → Some a ≡ Some b → a ≡ b
some_is a b e = cc

pub none_some : {A : Type 0} (a : A) → None ≡ Some a → ⊥
none_some a e = absurd (cc)

module _ (s d : State) where
  abbrev t : State
  t = state_join s d

  pub status_at : (q : Dot) → map.get t.subscriptions q ≡ option_join status_join (map.get s.subscriptions q) (map.get d.subscriptions q)
  unfolding statuses_join
  status_at q = get-merge dot_cmp_total status_join s.subscriptions d.subscriptions q

  pub kept_there : (topic : List ℕ) → map.get t.retained topic ≡ option_join (greater kept_cmp) (map.get s.retained topic) (map.get d.retained topic)
  unfolding retained_join
  kept_there topic = get-merge nat_list_cmp_total (greater kept_cmp) s.retained d.retained topic

  -- a put of a row at a key
  pub put_needed : (row : Row) (key : Key) (value : List ℕ) → entry_of row ≡ (key, value) → row_at t key ≡ Some value → row_at s key ≢ row_at t key → IsNeeded s t (Put row)
  put_needed row key value is right differs =
      let named = ap (λ e. e.0) is in
      record {
        right = ap (row_at t) named ∙ right ∙ sym (ap (λ e. Some e.1) is);
        differs = λ same. differs (sym (ap (row_at s) named) ∙ same ∙ ap (row_at t) named);
      }

  -- ---- subscriptions

  pub brought_needed : (q : Dot) (e : Entry) (row : Row) → dot.Fits q → map.get d.subscriptions q ≡ Some (Some e) → map.get s.subscriptions q ≡ None
      → entry_of row ≡ (subscription_key e q, subscription.bytes (subscription_in e)) → IsNeeded s t (Put row)
  brought_needed q e row fits there unseen is =
      let here = status_at q ∙ (λ i. option_join status_join (unseen i) (there i)) in
      let after = row_stands t q e fits here in
      put_needed row (subscription_key e q) (subscription.bytes (subscription_in e)) is after
      (λ same. none_some (subscription.bytes (subscription_in e)) (sym (row_unseen s e.client q fits unseen) ∙ same ∙ after))

  leaves_none : (x y : Option Status) → is_leaving x y ≡ true → option_join status_join x y ≡ Some None
  unfolding status_join
  leaves_none None y e = absurd (true≢false (sym e))
  leaves_none (Some None) y e = absurd (true≢false (sym e))
  leaves_none (Some (Some a)) None e = absurd (true≢false (sym e))
  leaves_none (Some (Some a)) (Some None) e = refl
  leaves_none (Some (Some a)) (Some (Some b)) e = apart (entry_eq a b) e
    where
      apart : (same : Bool) → not same ≡ true → Some (if same then Some a else None) ≡ Some None
      apart true h = absurd (true≢false (sym h))
      apart false h = refl

  pub removal_needed : (q : Dot) (e : Entry) (change : Change) → dot.Fits q → map.get s.subscriptions q ≡ Some (Some e) → Leaves s d q
      → key_in change ≡ subscription_key e q → (row_at t (key_in change) ≡ None → IsRight t change) → IsNeeded s t change
  removal_needed q e change fits stands leaves named right =
      let here = status_at q ∙ leaves_none (map.get s.subscriptions q) (map.get d.subscriptions q) leaves in
      let before = ap (row_at s) named ∙ row_stands s q e fits stands in
      let after = ap (row_at t) named ∙ row_removed t e.client q fits here in
      record { right = right after; differs = λ same. none_some (subscription.bytes (subscription_in e)) (sym after ∙ sym same ∙ before) }

  -- ---- topics

  newer_wins : (x : Option Kept) (y : Kept) → is_newer x y ≡ true → option_join (greater kept_cmp) x (Some y) ≡ Some y
  unfolding greater
  newer_wins None y e = refl
  newer_wins (Some x) y e = elim (kept_cmp x y) as (λ r. is_lt r ≡ true → Some (if is_gt r then x else y) ≡ Some y) [
    | Less ↦ λ h. refl
    | Equal ↦ λ h. absurd (true≢false (sym h))
    | Greater ↦ λ h. absurd (true≢false (sym h))
  ] e

  pub topic_after : (topic : List ℕ) (k : Kept) → map.get d.retained topic ≡ Some k → is_newer (map.get s.retained topic) k ≡ true → map.get t.retained topic ≡ Some k
  topic_after topic k there newer = kept_there topic ∙ ap (option_join (greater kept_cmp) (map.get s.retained topic)) there ∙ newer_wins (map.get s.retained topic) k newer

  pub fresh_needed : (topic : List ℕ) (k : Kept) (row : Row) → map.get d.retained topic ≡ Some k → map.get s.retained topic ≡ None
      → entry_of row ≡ ((5, (topic, [])), (kept topic).bytes k) → IsNeeded s t (Put row)
  fresh_needed topic k row there none is =
      let after = row_kept t topic k (topic_after topic k there (ap (λ x. is_newer x k) none)) in
      put_needed row (5, (topic, [])) ((kept topic).bytes k) is after (λ same. none_some ((kept topic).bytes k) (sym (row_not_kept s topic none) ∙ same ∙ after))

  less_apart : (own k : Kept) → is_lt (kept_cmp own k) ≡ true → own ≡ k → ⊥
  less_apart own k less same = true≢false (sym less ∙ ap (λ x. is_lt (kept_cmp own x)) (sym same) ∙ ap is_lt (tied_itself kept_cmp_total own))

  pub greater_needed : (topic : List ℕ) (own k : Kept) (row : Row) → map.get d.retained topic ≡ Some k → map.get s.retained topic ≡ Some own → is_lt (kept_cmp own k) ≡ true
      → (kept topic).Fits own → (kept topic).Fits k → entry_of row ≡ ((5, (topic, [])), (kept topic).bytes k) → IsNeeded s t (Put row)
  greater_needed topic own k row there here less own_fits fits is =
      let after = row_kept t topic k (topic_after topic k there (ap (λ x. is_newer x k) here ∙ less)) in
      put_needed row (5, (topic, [])) ((kept topic).bytes k) is after
      (λ same. less_apart own k less (one_value (kept topic) (kept_is topic) own k own_fits fits (some_is _ _ (sym (row_kept s topic own here) ∙ same ∙ after))))

  -- ---- what is added

  -- one change more, which names the key
  pub adds_named : (Due : Type 0) (key : Key) (change : Change) (old new : List Change) → new ≡ old ++ change ∷ [] → key_in change ≡ key → IsNeeded s t change → AddsDue s t Due key old new
  adds_named Due key change old new is at needed = record {
    adds = adds_one s t old new change is needed;
    named = λ _. subst (λ cs. names key cs ≡ true) (sym is) (subst (λ k. names k (old ++ change ∷ []) ≡ true) at (names_last old change));
  }

  is_none_of : (x : Option Status) → is_some x ≡ false → x ≡ None
  is_none_of None e = refl
  is_none_of (Some x) e = absurd (true≢false e)

  pub brought_there : (q : Dot) (key : Key) (old : List Change) (b : Bool) → b ≡ set.contains (seen_of s.subscriptions) q → b ≡ true → AddsDue s t (map.get s.subscriptions q ≡ None) key old old
  brought_there q key old b is passed = record {
    adds = adds_none s t old;
    named = λ none. absurd (true≢false (sym passed ∙ is ∙ contains-seen_of s.subscriptions q ∙ ap is_some none));
  }

  pub brought_new : (q : Dot) (b : Bool) → b ≡ set.contains (seen_of s.subscriptions) q → b ≡ false → map.get s.subscriptions q ≡ None
  brought_new q b seen failed = is_none_of (map.get s.subscriptions q) (sym (contains-seen_of s.subscriptions q) ∙ sym seen ∙ failed)

  pub brought_put : (q : Dot) (e : Entry) (row : Row) (old new : List Change) (b : Bool) → b ≡ set.contains (seen_of s.subscriptions) q → b ≡ false → dot.Fits q → map.get d.subscriptions q ≡ Some (Some e)
      → entry_of row ≡ (subscription_key e q, subscription.bytes (subscription_in e)) → new ≡ old ++ Put row ∷ [] → AddsDue s t (map.get s.subscriptions q ≡ None) (subscription_key e q) old new
  brought_put q e row old new b seen failed fits there is pushed =
      let unseen = brought_new q b seen failed in
      adds_named (map.get s.subscriptions q ≡ None) (subscription_key e q) (Put row) old new pushed (ap (λ x. x.0) is) (brought_needed q e row fits there unseen is)

  pub removal_none : (q : Dot) (old : List Change) → ((e : Entry) → map.get s.subscriptions q ≡ Some (Some e) → ⊥) → AddsLeaving s d q old old
  removal_none q old gone = record { adds = adds_none s t old; named = λ e is. absurd (gone e is) }

  pub removal_put : (q : Dot) (e : Entry) (change : Change) (old new : List Change) → dot.Fits q → map.get s.subscriptions q ≡ Some (Some e) → Leaves s d q
      → key_in change ≡ subscription_key e q → (row_at t (key_in change) ≡ None → IsRight t change) → new ≡ old ++ change ∷ [] → AddsLeaving s d q old new
  removal_put q e change old new fits stands leaves named right pushed =
      let one = adds_named (Unit {0}) (subscription_key e q) change old new pushed named (removal_needed q e change fits stands leaves named right) in
      record {
        adds = one.adds;
        named = λ f is. subst (λ (g : Entry). names (subscription_key g q) new ≡ true) (entry_same e f (sym stands ∙ is)) (one.named tt);
      }
    where
      entry_same : (a b : Entry) → Some (Some a) ≡ Some (Some b) → a ≡ b
      entry_same a b h = some_is a b (some_is (Some a) (Some b) h)

  pub topic_loses : (topic : List ℕ) (own k : Kept) (key : Key) (old : List Change) (b : Bool) → map.get s.retained topic ≡ Some own → b ≡ is_lt (kept_cmp own k) → b ≡ false
      → AddsDue s t (is_newer (map.get s.retained topic) k ≡ true) key old old
  topic_loses topic own k key old b here is failed = record {
    adds = adds_none s t old;
    named = λ newer. absurd (true≢false (sym newer ∙ ap (λ x. is_newer x k) here ∙ sym is ∙ failed));
  }

  pub topic_fresh : (topic : List ℕ) (k : Kept) (row : Row) (old new : List Change) → map.get d.retained topic ≡ Some k → map.get s.retained topic ≡ None
      → entry_of row ≡ ((5, (topic, [])), (kept topic).bytes k) → new ≡ old ++ Put row ∷ [] → AddsDue s t (is_newer (map.get s.retained topic) k ≡ true) (5, (topic, [])) old new
  topic_fresh topic k row old new there none is pushed =
      adds_named (is_newer (map.get s.retained topic) k ≡ true) (5, (topic, [])) (Put row) old new pushed (ap (λ x. x.0) is) (fresh_needed topic k row there none is)

  pub topic_greater : (topic : List ℕ) (own k : Kept) (row : Row) (old new : List Change) (b : Bool) → map.get d.retained topic ≡ Some k → map.get s.retained topic ≡ Some own → b ≡ is_lt (kept_cmp own k) → b ≡ true
      → (kept topic).Fits own → (kept topic).Fits k → entry_of row ≡ ((5, (topic, [])), (kept topic).bytes k) → new ≡ old ++ Put row ∷ []
      → AddsDue s t (is_newer (map.get s.retained topic) k ≡ true) (5, (topic, [])) old new
  topic_greater topic own k row old new b there here is passed own_fits fits row_is pushed =
      adds_named (is_newer (map.get s.retained topic) k ≡ true) (5, (topic, [])) (Put row) old new pushed (ap (λ x. x.0) row_is) (greater_needed topic own k row there here (sym is ∙ passed) own_fits fits row_is)
