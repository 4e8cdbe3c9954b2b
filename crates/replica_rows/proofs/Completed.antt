-- Each key at which a merge changes the rows is named.
use Rattle.std.proofs.Common.{◌≡◌, ◌⊎◌, inl, inr, ℕ, Bool, true, false, if◌then◌else◌, List, [], ◌∷◌, Option, Some, None, refl, sym, ap, subst, ◌∙◌, true≢false}
use Rattle.std.specs.Prelude.{◌==◌}
use Rattle.std.specs.Cmp.{unsigned_Decides}
use Rattle.std.specs.Ordering.{is_lt, is_gt}
use Rattle.std.specs.Str.{bytes_eq}
use Rattle.std.specs.FinMap as map
use Rattle.std.specs.declared.cmp.Ordering.TheVariants.{Less, Equal, Greater}
use Rattle.std.proofs.lemmas.Slice.Eq.{bytes_eq-Decides}
use Rattle.causal_context.specs.Dots.{Dot}
use Rattle.causal_context.specs.MapLattice.{option_join}
use Rattle.causal_context.specs.OrderLattice.{greater}
use Rattle.subscription_set.specs.declared.entry.Entry.{Entry}
use Rattle.subscription_set.specs.Entries.{entry_eq}
use Rattle.subscription_set.specs.Joining.{is_leaving}
use Rattle.subscription_set.specs.Standing.{seen_of}
use Rattle.subscription_set.specs.Statuses.{Status, status_join}
use Rattle.replica_store.specs.declared.kept.Kept.{Kept}
use Rattle.replica_store.specs.Merging.{is_newer}
use Rattle.replica_store.specs.Retained.{kept_cmp}
use Rattle.replica_store.specs.RetainedLattice.{kept_cmp_antisym}
use Rattle.replica_store.specs.States.{State, state_join}
use Rattle.row_store.specs.declared.row.Change.{Change}
use Rattle.row_store.specs.Rows.{Key}
use Rattle.replica_bytes.specs.Values.{dot, subscription, subscription_in}
use Rattle.replica_rows.specs.Rows.{spelled, subscription_of, subscription_at, kept_of, dots_value, row_at}
use Rattle.replica_rows.specs.Changes.{names, AreChanges}
use Rattle.replica_rows.specs.Steps.{AddsContext, AddsRemovals, AddsSubscriptions, AddsTopics, Leaves, subscription_key}
use Rattle.replica_rows.proofs.Keyed.{spelled_so}
use Rattle.replica_rows.proofs.Merged.{status_at, kept_there}
use Rattle.replica_rows.proofs.Contexts.{context_added, seen_both}

by_bool : (b : Bool) {P : Type 0} → (b ≡ true → P) → (b ≡ false → P) → P
by_bool true f g = f refl
by_bool false f g = g refl

-- the row of a context, and of any key, by the tests of its key
abbrev chosen : Bool → Bool → State → Option (List ℕ)
chosen a b u = if a then dots_value u.taken else if b then dots_value (seen_of u.subscriptions) else None

abbrev pick : Bool → Bool → Bool → Option (List ℕ) → Option (List ℕ) → Option (List ℕ) → Option (List ℕ)
pick a b c x y z = if a then x else if b then y else if c then z else None

module _ (s d : State) (out : List Change) where
  abbrev t : State
  t = state_join s d

  -- it is named, or nothing changes there
  abbrev IsDone : Key → Type 0
  IsDone key = (row_at s key ≡ row_at t key) ⊎ (names key out ≡ true)

  -- ---- subscriptions

  module _ (brought : (q : Dot) (e : Entry) → map.get d.subscriptions q ≡ Some (Some e) → map.get s.subscriptions q ≡ None → names (subscription_key e q) out ≡ true)
      (gone : (q : Dot) (e : Entry) → map.get s.subscriptions q ≡ Some (Some e) → Leaves s d q → names (subscription_key e q) out ≡ true) where
    -- the client's own row is named, or it isn't the client's
    own_or_other : (client : List ℕ) (e : Entry) {P : Type 0} → (client ≡ e.client → P) → (subscription_of client (Some (Some e)) ≡ None → P) → P
    own_or_other client e own other = by_bool (bytes_eq client e.client)
        (λ tie. own ((bytes_eq-Decides client e.client).0 tie))
        (λ apart. other (ap (λ b. if b then Some (subscription.bytes (subscription_in e)) else None) apart))

    at_key : (client : List ℕ) (q : Dot) (e : Entry) → client ≡ e.client → names (subscription_key e q) out ≡ true → names (4, (client, dot.bytes q)) out ≡ true
    at_key client q e same named = subst (λ c. names (4, (c, dot.bytes q)) out ≡ true) (sym same) named

    by_status : (client : List ℕ) (q : Dot) (x y : Option Status) → map.get s.subscriptions q ≡ x → map.get d.subscriptions q ≡ y
        → (subscription_of client x ≡ subscription_of client (option_join status_join x y)) ⊎ (names (4, (client, dot.bytes q)) out ≡ true)
    unfolding status_join
    by_status client q None None a b = inl refl
    by_status client q None (Some None) a b = inl refl
    by_status client q None (Some (Some e)) a b = own_or_other client e (λ same. inr (at_key client q e same (brought q e b a))) (λ other. inl (sym other))
    by_status client q (Some None) None a b = inl refl
    by_status client q (Some None) (Some y) a b = inl refl
    by_status client q (Some (Some e)) None a b = inl refl
    by_status client q (Some (Some e)) (Some None) a b =
        own_or_other client e (λ same. inr (at_key client q e same (gone q e a (λ i. is_leaving (a i) (b i))))) (λ other. inl other)
    by_status client q (Some (Some e)) (Some (Some f)) a b = by_bool (entry_eq e f)
        (λ same. inl (ap (λ c. subscription_of client (Some (if c then Some e else None))) (sym same)))
        (λ apart. own_or_other client e
        (λ same. inr (at_key client q e same (gone q e a ((λ i. is_leaving (a i) (b i)) ∙ ap not_of apart))))
        (λ other. inl (other ∙ ap (λ c. subscription_of client (Some (if c then Some e else None))) (sym apart))))
      where
        not_of : Bool → Bool
        not_of true = false
        not_of false = true

    at_spelled : (client place : List ℕ) (o : Option Dot) → spelled dot place ≡ o → IsDone (4, (client, place))
    at_spelled client place None e = inl (ap (subscription_at s client) e ∙ sym (ap (subscription_at t client) e))
    at_spelled client place (Some q) e =
        let there = spelled_so dot place q e in
        elim (by_status client q (map.get s.subscriptions q) (map.get d.subscriptions q) refl refl) [
          | inl same ↦ inl (ap (subscription_at s client) e ∙ same ∙ ap (subscription_of client) (sym (status_at s d q)) ∙ sym (ap (subscription_at t client) e))
          | inr named ↦ inr (subst (λ p. names (4, (client, p)) out ≡ true) there named)
        ]

    pub kind_four : (client place : List ℕ) → IsDone (4, (client, place))
    kind_four client place = at_spelled client place (spelled dot place) refl

  -- ---- topics

  module _ (kept_more : (topic : List ℕ) (k : Kept) → map.get d.retained topic ≡ Some k → is_newer (map.get s.retained topic) k ≡ true → names (5, (topic, [])) out ≡ true) where
    older : (x y : Kept) → is_lt (kept_cmp x y) ≡ false → greater kept_cmp x y ≡ x
    unfolding greater
    older x y e = elim (kept_cmp x y) as (λ r. kept_cmp x y ≡ r → is_lt r ≡ false → (if is_gt r then x else y) ≡ x) [
      | Less ↦ λ h l. absurd (true≢false l)
      | Equal ↦ λ h l. sym (kept_cmp_antisym x y h)
      | Greater ↦ λ h l. refl
    ] refl e

    by_kept : (topic : List ℕ) (x y : Option Kept) → map.get s.retained topic ≡ x → map.get d.retained topic ≡ y → (x ≡ option_join (greater kept_cmp) x y) ⊎ (names (5, (topic, [])) out ≡ true)
    by_kept topic None None a b = inl refl
    by_kept topic (Some x) None a b = inl refl
    by_kept topic None (Some k) a b = inr (kept_more topic k b (ap (λ o. is_newer o k) a))
    by_kept topic (Some x) (Some k) a b = by_bool (is_lt (kept_cmp x k))
        (λ less. inr (kept_more topic k b (ap (λ o. is_newer o k) a ∙ less)))
        (λ rest. inl (ap Some (sym (older x k rest))))

    pub kind_five : (topic place : List ℕ) → IsDone (5, (topic, place))
    kind_five topic (b ∷ place) = inl refl
    kind_five topic [] = elim (by_kept topic (map.get s.retained topic) (map.get d.retained topic) refl refl) [
      | inl same ↦ inl (ap (kept_of topic) (same ∙ sym (kept_there s d topic)))
      | inr named ↦ inr named
    ]

  -- ---- contexts

  module _ (taken : IsDone (6, ([], 1 ∷ []))) (seen : IsDone (6, ([], 2 ∷ []))) where
    pub kind_six : (owner place : List ℕ) → IsDone (6, (owner, place))
    kind_six (b ∷ owner) place = inl refl
    kind_six [] place = by_bool (bytes_eq place (1 ∷ []))
        (λ tie. subst (λ p. IsDone (6, ([], p))) (sym ((bytes_eq-Decides place (1 ∷ [])).0 tie)) taken)
        (λ apart. by_bool (bytes_eq place (2 ∷ []))
        (λ tie. subst (λ p. IsDone (6, ([], p))) (sym ((bytes_eq-Decides place (2 ∷ [])).0 tie)) seen)
        (λ other. inl (neither s apart other ∙ sym (neither t apart other))))
      where
        neither : (u : State) → bytes_eq place (1 ∷ []) ≡ false → bytes_eq place (2 ∷ []) ≡ false → row_at u (6, ([], place)) ≡ None
        neither u a b = λ i. chosen (a i) (b i) u

  -- ---- all keys

  pub every_key : ((owner place : List ℕ) → IsDone (4, (owner, place))) → ((owner place : List ℕ) → IsDone (5, (owner, place))) → ((owner place : List ℕ) → IsDone (6, (owner, place))) → (key : Key) → IsDone key
  every_key four five six key = by_bool (key.0 == 4)
      (λ e. subst (λ n. IsDone (n, key.1)) (sym ((unsigned_Decides key.0 4).0 e)) (four key.1.0 key.1.1))
      (λ e. by_bool (key.0 == 5)
      (λ f. subst (λ n. IsDone (n, key.1)) (sym ((unsigned_Decides key.0 5).0 f)) (five key.1.0 key.1.1))
      (λ f. by_bool (key.0 == 6)
      (λ g. subst (λ n. IsDone (n, key.1)) (sym ((unsigned_Decides key.0 6).0 g)) (six key.1.0 key.1.1))
      (λ g. inl (other s e f g ∙ sym (other t e f g)))))
    where
      other : (u : State) → (key.0 == 4) ≡ false → (key.0 == 5) ≡ false → (key.0 == 6) ≡ false → row_at u key ≡ None
      other u e f g = λ i. pick (e i) (f i) (g i) (row_at u (4, key.1)) (row_at u (5, key.1)) (row_at u (6, key.1))

-- the changes of each part, one after the other, are those of the merge
pub changes_are : (s d : State) (one two three four five : List Change) → AddsSubscriptions s d [] one → AddsRemovals s d one two → AddsTopics s d two three
    → AddsContext 1 s.taken d.taken three four → AddsContext 2 (seen_of s.subscriptions) (seen_of d.subscriptions) four five → AreChanges s (state_join s d) five
changes_are s d one two three four five a b c e f =
    let x = context_added s d 1 s.taken d.taken refl refl three four e in
    let y = context_added s d 2 (seen_of s.subscriptions) (seen_of d.subscriptions) refl (ap dots_value (seen_both s d)) four five f in
    let from_three : (key : Key) → names key three ≡ true → names key five ≡ true = λ key n. y.adds.keeps key (x.adds.keeps key n) in
    let from_two : (key : Key) → names key two ≡ true → names key five ≡ true = λ key n. from_three key (c.adds.keeps key n) in
    let from_one : (key : Key) → names key one ≡ true → names key five ≡ true = λ key n. from_two key (b.adds.keeps key n) in
    let taken = elim x.complete as (λ _. (row_at s (6, ([], 1 ∷ [])) ≡ row_at (state_join s d) (6, ([], 1 ∷ []))) ⊎ (names (6, ([], 1 ∷ [])) five ≡ true)) [ inl same ↦ inl same | inr named ↦ inr (y.adds.keeps (6, ([], 1 ∷ [])) named) ] in
    record {
      needed = y.adds.needed (x.adds.needed (c.adds.needed (b.adds.needed (a.adds.needed tt))));
      complete = every_key s d five
          (kind_four s d five (λ q g there fresh. from_one (subscription_key g q) (a.named q g there fresh)) (λ q g stands leaves. from_two (subscription_key g q) (b.named q g stands leaves)))
          (kind_five s d five (λ topic k there newer. from_three (5, (topic, [])) (c.named topic k there newer)))
          (kind_six s d five taken y.complete);
    }
