-- Changes gathered one after another.
use Rattle.std.proofs.Common.{◌≡◌, ◌⊎◌, inl, inr, ℕ, Bool, true, false, ◌&&◌, ◌||◌, T, List, [], ◌∷◌, Option, Some, None, refl, sym, ap, subst, ◌∙◌, true≢false}
use Rattle.std.specs.List.{AllByRecursion, list_any}
use Rattle.std.specs.Ordering.{eq_by_cmp, is_eq}
use Rattle.std.specs.declared.cmp.Ordering.{Ordering}
use Rattle.std.specs.Cmp.{IsTotalOrder}
use Rattle.std.specs.Cmp.Lexicographic.{nat_list_cmp_total}
use Rattle.std.specs.FinMap as map
use Rattle.std.specs.FinMap.{IsAntisymmetric}
use Rattle.std.specs.FinMap.Entries.{find, is_sorted}
use Rattle.std.proofs.lemmas.Cmp.{tied_itself}
use Rattle.std.proofs.lemmas.Slice.Eq.{bytes_eq-Decides}
use Rattle.mqtt_message.specs.declared.message.Message.{Message}
use Rattle.causal_context.specs.Dots.{Dot, dot_cmp, dot_cmp_total, dot_cmp_antisym}
use Rattle.subscription_set.specs.declared.entry.Entry.{Entry}
use Rattle.subscription_set.specs.Joining.{is_leaving}
use Rattle.subscription_set.specs.Standing.{find_entry, standing, entry_of}
use Rattle.subscription_set.specs.Statuses.{Status}
use Rattle.subscription_set.proofs.Standings.{find-standing, rises-standing}
use Rattle.replica_store.specs.declared.kept.Kept.{Kept}
use Rattle.replica_store.specs.Merging.{is_newer}
use Rattle.replica_store.specs.Retained.{Retained, HaveOwnTopics, topic_cmp}
use Rattle.replica_store.specs.RetainedLattice.{topic_cmp_antisym}
use Rattle.replica_store.specs.States.{State, state_join}
use Rattle.replica_store.proofs.Views.{by_test, tied_is, none_after, at_head}
use Rattle.row_store.specs.declared.row.Change.{Change}
use Rattle.replica_bytes.specs.Values.{IsOwn, has_topic}
use Rattle.replica_rows.specs.Changes.{names}
use Rattle.replica_rows.specs.Steps.{Adds, AddsDue, AddsSubscriptions, AddsLeaving, AddsRemovals, AddsTopics, Leaves, subscription_key}
use Rattle.replica_rows.proofs.Naming.{adds_none, adds_both, either_true}

-- ---- lists in order

some_is : {A : Type 0} (a b : A) → Some a ≡ Some b → a ≡ b
some_is a b e = cc

later : (a b : Bool) → T (a && b) → T b
later true b h = h
later false b h = absurd h

module _ {K X : Type 0} {R : K → K → Ordering} (o : IsTotalOrder R) (anti : IsAntisymmetric R) where
  listed_all : (P : K → X → Type 0) (es : List (K × X)) → T (is_sorted R es) → ((q : K) (v : X) → find R q es ≡ Some v → P q v) → AllByRecursion (λ x. P x.0 x.1) es
  listed_all P [] up p = tt
  listed_all P (x ∷ es) up p = (
    p x.0 x.1 (at_head o anti x.0 x es true (ap is_eq (tied_itself o x.0))),
    listed_all P es (later _ _ up) (λ q v is. by_test (eq_by_cmp R q x.0) _
        (λ tie. absurd (let none = sym (none_after o anti q x es up tie) ∙ is in cc))
        (λ apart. p q v (at_head o anti q x es false apart ∙ is))),
  )

  pub front_or_later : (q : K) (v : X) (x : K × X) (rest : List (K × X)) → find R q (x ∷ rest) ≡ Some v → ((q ≡ x.0) × (v ≡ x.1)) ⊎ (find R q rest ≡ Some v)
  front_or_later q v x rest is = by_test (eq_by_cmp R q x.0) _
      (λ tie. inl (tied_is {R = R} anti q x.0 tie, some_is v x.1 (sym is ∙ at_head o anti q x rest true tie)))
      (λ apart. inr (sym (at_head o anti q x rest false apart) ∙ is))

pub stands_of : (x : Option Status) (e : Entry) → Some e ≡ entry_of x → x ≡ Some (Some e)
stands_of None e h = absurd (cc)
stands_of (Some y) e h = ap Some (sym h)

own_topic : (topic : List ℕ) (message : Option Message) → ((m : Message) → message ≡ Some m → m.topic ≡ topic) → has_topic topic message ≡ true
own_topic topic None own = refl
own_topic topic (Some m) own = (bytes_eq-Decides m.topic topic).1 (own m refl)

pub own_at : (r : Retained) (topic : List ℕ) (k : Kept) → HaveOwnTopics r → map.get r topic ≡ Some k → IsOwn (topic, k)
own_at r topic k own is = own_topic topic k.message (λ m e. own topic m (rw is e))

-- ---- subscriptions that are brought

abbrev Pairs : Type 0
Pairs = List (Dot × Entry)

pub record IsBringing (s d : State) (left : Pairs) (old out : List Change) : Type 0 where
  pub adds : Adds s (state_join s d) old out
  pub stands : AllByRecursion (λ x. map.get d.subscriptions x.0 ≡ Some (Some x.1)) left
  pub named : (q : Dot) (e : Entry) → map.get d.subscriptions q ≡ Some (Some e) → map.get s.subscriptions q ≡ None → (find_entry q left ≡ Some e) ⊎ (names (subscription_key e q) out ≡ true)

module _ (s d : State) where
  pub none_brought : (left : Pairs) (old : List Change) → left ≡ standing d.subscriptions → IsBringing s d left old old
  none_brought left old is = record {
    adds = adds_none s (state_join s d) old;
    stands = subst (AllByRecursion (λ x. map.get d.subscriptions x.0 ≡ Some (Some x.1))) (sym is)
        (listed_all dot_cmp_total dot_cmp_antisym (λ q e. map.get d.subscriptions q ≡ Some (Some e)) (standing d.subscriptions) (rises-standing d.subscriptions)
        (λ q e found. stands_of (map.get d.subscriptions q) e (sym found ∙ find-standing d.subscriptions q)));
    named = λ q e there fresh. inl (ap (find_entry q) is ∙ find-standing d.subscriptions q ∙ ap entry_of there);
  }

  pub next_stands : (left rest : Pairs) (x : Dot × Entry) (old out : List Change) → left ≡ x ∷ rest → IsBringing s d left old out → map.get d.subscriptions x.0 ≡ Some (Some x.1)
  next_stands left rest x old out is b = (subst (AllByRecursion (λ y. map.get d.subscriptions y.0 ≡ Some (Some y.1))) is b.stands).0

  pub one_brought : (left rest : Pairs) (x : Dot × Entry) (old out new : List Change) → left ≡ x ∷ rest → IsBringing s d left old out
      → AddsDue s (state_join s d) (map.get s.subscriptions x.0 ≡ None) (subscription_key x.1 x.0) out new → IsBringing s d rest old new
  one_brought left rest x old out new is b one = record {
    adds = adds_both s (state_join s d) old out new b.adds one.adds;
    stands = (subst (AllByRecursion (λ y. map.get d.subscriptions y.0 ≡ Some (Some y.1))) is b.stands).1;
    named = λ q e there fresh. elim (b.named q e there fresh) [
      | inr named ↦ inr (one.adds.keeps (subscription_key e q) named)
      | inl found ↦ elim (front_or_later dot_cmp_total dot_cmp_antisym q e x rest (sym (ap (find_entry q) is) ∙ found)) [
        | inl same ↦ inr (subst (λ k. names k new ≡ true) (λ i. subscription_key (sym same.1 i) (sym same.0 i)) (one.named (subst (λ p. map.get s.subscriptions p ≡ None) same.0 fresh)))
        | inr more ↦ inl more
      ]
    ];
  }

  pub all_brought : (left : Pairs) (old out : List Change) → left ≡ [] → IsBringing s d left old out → AddsSubscriptions s d old out
  all_brought left old out is b = record {
    adds = b.adds;
    named = λ q e there fresh. elim (b.named q e there fresh) [
      | inr named ↦ named
      | inl found ↦ absurd (let none = sym (ap (find_entry q) is) ∙ found in cc)
    ];
  }

-- ---- subscriptions that leave

pub record IsLeavingThem (s d : State) (left : List Dot) (old out : List Change) : Type 0 where
  pub adds : Adds s (state_join s d) old out
  pub leaves : AllByRecursion (Leaves s d) left
  pub named : (q : Dot) (e : Entry) → map.get s.subscriptions q ≡ Some (Some e) → Leaves s d q → (list_any (eq_by_cmp dot_cmp q) left ≡ true) ⊎ (names (subscription_key e q) out ≡ true)

or_second : (a b : Bool) → b ≡ true → (a || b) ≡ true
or_second true b e = refl
or_second false b e = e

or_first : (a b : Bool) → a ≡ true → (a || b) ≡ true
or_first true b e = refl
or_first false b e = absurd (true≢false (sym e))

members : (P : Dot → Type 0) (xs : List Dot) → ((q : Dot) → list_any (eq_by_cmp dot_cmp q) xs ≡ true → P q) → AllByRecursion P xs
members P [] p = tt
members P (x ∷ xs) p = (p x (or_first _ _ (ap is_eq (tied_itself dot_cmp_total x))), members P xs (λ q is. p q (or_second (eq_by_cmp dot_cmp q x) _ is)))

module _ (s d : State) where
  pub none_left : (dots left : List Dot) (old : List Change) → left ≡ dots → ((q : Dot) → list_any (eq_by_cmp dot_cmp q) dots ≡ is_leaving (map.get s.subscriptions q) (map.get d.subscriptions q)) → IsLeavingThem s d left old old
  none_left dots left old is are = record {
    adds = adds_none s (state_join s d) old;
    leaves = subst (AllByRecursion (Leaves s d)) (sym is) (members (Leaves s d) dots (λ q there. sym (are q) ∙ there));
    named = λ q e stands leaves. inl (ap (list_any (eq_by_cmp dot_cmp q)) is ∙ are q ∙ leaves);
  }

  pub next_leaves : (left rest : List Dot) (x : Dot) (old out : List Change) → left ≡ x ∷ rest → IsLeavingThem s d left old out → Leaves s d x
  next_leaves left rest x old out is b = (subst (AllByRecursion (Leaves s d)) is b.leaves).0

  pub one_left : (left rest : List Dot) (x : Dot) (old out new : List Change) → left ≡ x ∷ rest → IsLeavingThem s d left old out → AddsLeaving s d x out new → IsLeavingThem s d rest old new
  one_left left rest x old out new is b one = record {
    adds = adds_both s (state_join s d) old out new b.adds one.adds;
    leaves = (subst (AllByRecursion (Leaves s d)) is b.leaves).1;
    named = λ q e stands leaves. elim (b.named q e stands leaves) [
      | inr named ↦ inr (one.adds.keeps (subscription_key e q) named)
      | inl found ↦ elim (either_true (eq_by_cmp dot_cmp q x) (list_any (eq_by_cmp dot_cmp q) rest) (sym (ap (list_any (eq_by_cmp dot_cmp q)) is) ∙ found)) [
        | inl tie ↦
            let same = tied_is {R = dot_cmp} dot_cmp_antisym q x tie in
            inr (subst (λ p. names (subscription_key e p) new ≡ true) (sym same) (one.named e (subst (λ p. map.get s.subscriptions p ≡ Some (Some e)) same stands)))
        | inr more ↦ inl more
      ]
    ];
  }

  pub all_left : (left : List Dot) (old out : List Change) → left ≡ [] → IsLeavingThem s d left old out → AddsRemovals s d old out
  all_left left old out is b = record {
    adds = b.adds;
    named = λ q e stands leaves. elim (b.named q e stands leaves) [
      | inr named ↦ named
      | inl found ↦ absurd (true≢false (sym found ∙ ap (list_any (eq_by_cmp dot_cmp q)) is))
    ];
  }

-- ---- topics

abbrev Topics : Type 0
Topics = List (List ℕ × Kept)

pub record IsKeeping (s d : State) (left : Topics) (old out : List Change) : Type 0 where
  pub adds : Adds s (state_join s d) old out
  pub there : AllByRecursion (λ x. (map.get d.retained x.0 ≡ Some x.1) × IsOwn x) left
  pub named : (topic : List ℕ) (k : Kept) → map.get d.retained topic ≡ Some k → is_newer (map.get s.retained topic) k ≡ true → (find topic_cmp topic left ≡ Some k) ⊎ (names (5, (topic, [])) out ≡ true)

module _ (s d : State) where
  pub none_kept : (left : Topics) (old : List Change) → left ≡ map.entries d.retained → HaveOwnTopics d.retained → IsKeeping s d left old old
  none_kept left old is own = record {
    adds = adds_none s (state_join s d) old;
    there = subst (AllByRecursion (λ x. (map.get d.retained x.0 ≡ Some x.1) × IsOwn x)) (sym is)
        (listed_all nat_list_cmp_total topic_cmp_antisym (λ topic k. (map.get d.retained topic ≡ Some k) × IsOwn (topic, k)) (map.entries d.retained) (map.entries_sorted d.retained)
        (λ topic k found. let here = map.get-entries d.retained topic ∙ found in (here, own_at d.retained topic k own here)));
    named = λ topic k there newer. inl (ap (find topic_cmp topic) is ∙ sym (map.get-entries d.retained topic) ∙ there);
  }

  pub next_there : (left rest : Topics) (x : List ℕ × Kept) (old out : List Change) → left ≡ x ∷ rest → IsKeeping s d left old out → (map.get d.retained x.0 ≡ Some x.1) × IsOwn x
  next_there left rest x old out is b = (subst (AllByRecursion (λ y. (map.get d.retained y.0 ≡ Some y.1) × IsOwn y)) is b.there).0

  pub one_kept : (left rest : Topics) (x : List ℕ × Kept) (old out new : List Change) → left ≡ x ∷ rest → IsKeeping s d left old out
      → AddsDue s (state_join s d) (is_newer (map.get s.retained x.0) x.1 ≡ true) (5, (x.0, [])) out new → IsKeeping s d rest old new
  one_kept left rest x old out new is b one = record {
    adds = adds_both s (state_join s d) old out new b.adds one.adds;
    there = (subst (AllByRecursion (λ y. (map.get d.retained y.0 ≡ Some y.1) × IsOwn y)) is b.there).1;
    named = λ topic k there newer. elim (b.named topic k there newer) [
      | inr named ↦ inr (one.adds.keeps (5, (topic, [])) named)
      | inl found ↦ elim (front_or_later nat_list_cmp_total topic_cmp_antisym topic k x rest (sym (ap (find topic_cmp topic) is) ∙ found)) [
        | inl same ↦ inr (subst (λ p. names (5, (p, [])) new ≡ true) (sym same.0) (one.named (subst (λ (p : List ℕ × Kept). is_newer (map.get s.retained p.0) p.1 ≡ true) (λ i. (same.0 i, same.1 i)) newer)))
        | inr more ↦ inl more
      ]
    ];
  }

  pub all_kept : (left : Topics) (old out : List Change) → left ≡ [] → IsKeeping s d left old out → AddsTopics s d old out
  all_kept left old out is b = record {
    adds = b.adds;
    named = λ topic k there newer. elim (b.named topic k there newer) [
      | inr named ↦ named
      | inl found ↦ absurd (let none = sym (ap (find topic_cmp topic) is) ∙ found in cc)
    ];
  }
