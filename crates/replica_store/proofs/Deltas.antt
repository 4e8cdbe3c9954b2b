-- The joined deltas of a list of operations are their state, in any order.
use Rattle.std.proofs.Common.{◌≡◌, ℕ, Bool, true, false, cond, ◌||◌, List, [], ◌∷◌, map as map_list, Option, Some, None, ◌↔◌, ◌⊎◌, inl, inr, refl, sym, ap, subst, ◌∙◌}
use Rattle.std.specs.FinSet as set
use Rattle.std.specs.FinMap as map
use Rattle.std.specs.List.{list_any}
use Rattle.std.specs.Ordering.{eq_by_cmp, is_eq, is_gt}
use Rattle.std.specs.Cmp.{Equal-is}
use Rattle.std.specs.Cmp.Lexicographic.{nat_list_cmp_total}
use Rattle.std.proofs.lemmas.Cmp.{tied_itself}
use Rattle.causal_context.specs.Dots.{Dot, Dots, dot_cmp, dot_cmp_total, dot_cmp_antisym}
use Rattle.causal_context.specs.MapLattice.{option_join, get-merge}
use Rattle.causal_context.specs.OrderLattice.{same_from_order}
use Rattle.subscription_set.specs.declared.entry.Entry.{Entry}
use Rattle.subscription_set.specs.Statuses.{Status, status_join, statuses_join}
use Rattle.subscription_set.specs.StatusLattice.{none_join}
use Rattle.replica_store.specs.declared.operation.Operation.{Operation}
use Rattle.replica_store.specs.declared.operation.Operation.TheVariants.{Subscribe, Remove, Put}
use Rattle.replica_store.specs.Operations.{dot_of, cover_of, Among, HaveOwnDots, Covers, Sees, Stands, IsRemoved, HasStatus, Puts, HasKept}
use Rattle.replica_store.specs.declared.content.Content.{Content}
use Rattle.replica_store.specs.Stamps.{Stamp}
use Rattle.replica_store.specs.Contents.{topic_in, message_in}
use Rattle.replica_store.specs.declared.kept.Kept.{Kept}
use Rattle.replica_store.specs.Retained.{one_put, kept_cmp, topic_cmp}
use Rattle.replica_store.specs.RetainedLattice.{kept_cmp_total, kept_cmp_antisym, topic_cmp_antisym}
use Rattle.replica_store.specs.States.{State}
use Rattle.replica_store.specs.StateOf.{IsStateOf, SameOperations, removed, delta_of, joined_deltas}
use Rattle.replica_store.proofs.Unions.{state_union}

-- ---- one operation

find_removed : (q : Dot) (ds : List Dot) → map.find {X = Status} dot_cmp q (map_list (λ d. (d, None)) ds) ≡ cond (list_any (eq_by_cmp dot_cmp q) ds) (Some None) None
find_removed q [] = refl
find_removed q (d ∷ ds) = elim (eq_by_cmp dot_cmp q d) as (λ b. cond b (Some None) (map.find {X = Status} dot_cmp q (map_list (λ d. (d, None)) ds)) ≡ cond (b || list_any (eq_by_cmp dot_cmp q) ds) (Some None) None) [
  | true ↦ refl
  | false ↦ find_removed q ds
]

pub get-removed : (c : Dots) (q : Dot) → map.get (removed c) q ≡ cond (set.contains c q) (Some None) None
unfolding removed
get-removed c q = map.get-from_entries dot_cmp_total _ q ∙ find_removed q (set.items c) ∙ ap (λ b. cond b (Some None) None) (sym (set.contains-items c q))

only : (o p : Operation) → Among p (o ∷ []) → p ≡ o
only o p (inl e) = e
only o p (inr a) = absurd a

pub tied_true : (q d : Dot) → eq_by_cmp dot_cmp q d ≡ true → q ≡ d
tied_true q d e = dot_cmp_antisym q d ((Equal-is (dot_cmp q d)).0 e)

tied_self : (d : Dot) → eq_by_cmp dot_cmp d d ≡ true
tied_self d = ap is_eq (tied_itself dot_cmp_total d)

one_taken : (o : Operation) (d : Dot) → (set.contains (set.insert (set.empty {R = dot_cmp}) (dot_of o)) d ≡ true) ↔ ((p : Operation) × Among p (o ∷ []) × (dot_of p ≡ d))
one_taken o d =
    let test = set.contains-insert dot_cmp_total set.empty (dot_of o) d ∙ ap (λ b. eq_by_cmp dot_cmp d (dot_of o) || b) (set.contains-empty dot_cmp d) in (
      λ e. (o, inl refl, sym (tied_true d (dot_of o) (or_false _ (sym test ∙ e)))),
      λ p. test ∙ ap (λ b. b || false) (ap (λ x. eq_by_cmp dot_cmp x (dot_of o)) (sym p.2 ∙ ap dot_of (only o p.0 p.1)) ∙ tied_self (dot_of o)),
    )
  where
    or_false : (a : Bool) → (a || false) ≡ true → a ≡ true
    or_false true e = refl
    or_false false e = e

pub by_bool : (b : Bool) (P : Type 0) → (b ≡ true → P) → (b ≡ false → P) → P
by_bool true P t f = t refl
by_bool false P t f = f refl

-- what a cover says
covers_only : (o : Operation) (d : Dot) → Covers (o ∷ []) d → set.contains (cover_of o) d ≡ true
covers_only o d c = ap (λ p. set.contains (cover_of p) d) (sym (only o c.0 c.1)) ∙ c.2

either_true : (a b : Bool) → (a || b) ≡ true → (a ≡ true) ⊎ (b ≡ true)
either_true true b e = inl refl
either_true false b e = inr e

first_true : (a b : Bool) → a ≡ true → (a || b) ≡ true
first_true true b e = refl
first_true false b e = cc

second_true : (a b : Bool) → b ≡ true → (a || b) ≡ true
second_true true b e = refl
second_true false b e = e

-- an operation sees its dot and those of its cover
sees_one : (o : Operation) (q : Dot) → (set.contains (set.insert (cover_of o) (dot_of o)) q ≡ true) ↔ Sees (o ∷ []) q
sees_one o q =
    let test = set.contains-insert dot_cmp_total (cover_of o) (dot_of o) q in (
      λ e. elim (either_true (eq_by_cmp dot_cmp q (dot_of o)) (set.contains (cover_of o) q) (sym test ∙ e)) [
        | inl t ↦ inl (o, inl refl, sym (tied_true q (dot_of o) t))
        | inr c ↦ inr (o, inl refl, c)
      ],
      λ s. test ∙ elim s [
        | inl p ↦ first_true _ _ (ap (λ x. eq_by_cmp dot_cmp x (dot_of o)) (sym p.2 ∙ ap dot_of (only o p.0 p.1)) ∙ tied_self (dot_of o))
        | inr c ↦ second_true _ _ (covers_only o q c)
      ],
    )

-- where it is no Subscribe, it removes them all
removes_status : (o : Operation) → ((d : Dot) (e : Entry) (c : Dots) → Subscribe d e c ≡ o → ⊥) → (q : Dot) → HasStatus (o ∷ []) q (map.get (removed (set.insert (cover_of o) (dot_of o))) q)
removes_status o none q =
    let seen = set.insert (cover_of o) (dot_of o) in
    by_bool (set.contains seen q) _
    (λ h. subst (HasStatus (o ∷ []) q) (sym (get-removed seen q ∙ ap (λ b. cond b (Some None) None) h)) (record {
      seen = (sees_one o q).0 h;
      nothing = λ e st. none q e st.subscribed.0 (only o _ st.subscribed.1);
    }))
    (λ h. subst (HasStatus (o ∷ []) q) (sym (get-removed seen q ∙ ap (λ b. cond b (Some None) None) h)) (λ s. (let is = (sees_one o q).1 s in cc)))

empty_statuses : (q : Dot) → map.get (map.empty {X = Status} {R = dot_cmp}) q ≡ None
empty_statuses q = map.get-empty dot_cmp q

empty_kept : (u : List ℕ) → map.get (map.empty {X = Kept} {R = topic_cmp}) u ≡ None
empty_kept u = map.get-empty topic_cmp u

pub get_one : (d : Dot) (e : Entry) (q : Dot) → map.get (map.insert (map.empty {X = Status} {R = dot_cmp}) d (Some e)) q ≡ cond (eq_by_cmp dot_cmp q d) (Some (Some e)) None
get_one d e q = map.get-insert dot_cmp_total map.empty d (Some e) q ∙ ap (cond (eq_by_cmp dot_cmp q d) (Some (Some e))) (empty_statuses q)

subscribe_status : (d : Dot) (e : Entry) (c : Dots) (q : Dot) → HasStatus (Subscribe d e c ∷ []) q (map.get (statuses_join (removed c) (map.insert map.empty d (Some e))) q)
unfolding statuses_join
subscribe_status d e c q =
    let is = λ (x y : Option Status) (p : map.get (removed c) q ≡ x) (r : map.get (map.insert (map.empty {X = Status} {R = dot_cmp}) d (Some e)) q ≡ y). get-merge dot_cmp_total status_join (removed c) (map.insert map.empty d (Some e)) q ∙ (λ i. option_join status_join (p i) (r i)) in
    let held = λ (b : Bool) (h : set.contains c q ≡ b). get-removed c q ∙ ap (λ b. cond b (Some None) None) h in
    let at = λ (b : Bool) (h : eq_by_cmp dot_cmp q d ≡ b). get_one d e q ∙ ap (λ b. cond b (Some (Some e)) None) h in
    let P = HasStatus (Subscribe d e c ∷ []) q in
    by_bool (set.contains c q) _
    (λ h. by_bool (eq_by_cmp dot_cmp q d) _
    (λ k. subst P (sym (is _ _ (held true h) (at true k) ∙ ap Some (none_join (Some e)))) (gone h))
    (λ k. subst P (sym (is _ _ (held true h) (at false k))) (gone h)))
    (λ h. by_bool (eq_by_cmp dot_cmp q d) _
    (λ k. subst P (sym (is _ _ (held false h) (at true k))) (record {
      subscribed = (c, inl (λ i. Subscribe (tied_true q d k i) e c));
      uncovered = λ w. (let in_c = covers_only (Subscribe d e c) q w in cc);
    }))
    (λ k. subst P (sym (is _ _ (held false h) (at false k))) (λ s. elim s [
      | inl w ↦ (let dots : q ≡ d = sym w.2 ∙ ap dot_of (only (Subscribe d e c) w.0 w.1) in let same = ap (λ x. eq_by_cmp dot_cmp x d) dots ∙ tied_self d in cc)
      | inr w ↦ (let in_c = covers_only (Subscribe d e c) q w in cc)
    ])))
  where
    gone : set.contains c q ≡ true → IsRemoved (Subscribe d e c ∷ []) q
    gone h = record { seen = inr (Subscribe d e c, inl refl, h); nothing = λ f st. st.uncovered (Subscribe d e c, inl refl, h) }

no_puts : (o : Operation) (u : List ℕ) (k : Kept) → ((d : Dot) (s : Stamp) (c : Content) → Put d s c ≡ o → ⊥) → Puts (o ∷ []) u k → ⊥
no_puts o u k not p = not p.0 k.stamp p.1 (only o _ p.2)

pub delta_is : (o : Operation) → IsStateOf (o ∷ []) (delta_of o)
unfolding delta_of one_put
delta_is (Subscribe d e c) = record {
  taken = one_taken (Subscribe d e c);
  subscriptions = subscribe_status d e c;
  retained = λ u. subst (HasKept (Subscribe d e c ∷ []) u) (sym (empty_kept u)) (λ k p. no_puts (Subscribe d e c) u k (λ d s m is. cc) p);
}
delta_is (Remove d c) = record {
  taken = one_taken (Remove d c);
  subscriptions = removes_status (Remove d c) (λ x e y is. cc);
  retained = λ u. subst (HasKept (Remove d c ∷ []) u) (sym (empty_kept u)) (λ k p. no_puts (Remove d c) u k (λ d s m is. cc) p);
}
delta_is (Put d s c) = record {
  taken = one_taken (Put d s c);
  subscriptions = removes_status (Put d s c) (λ x e y is. cc);
  retained = λ u.
      let value : Kept = record { stamp = s; message = message_in c } in
      let t = topic_in c in
      let is = λ (b : Bool) (h : eq_by_cmp topic_cmp u t ≡ b). map.get-insert nat_list_cmp_total (map.empty {X = Kept} {R = topic_cmp}) t value u ∙ (λ i. cond (h i) (Some value) (empty_kept u i)) in
      by_bool (eq_by_cmp topic_cmp u t) _
      (λ h. subst (HasKept (Put d s c ∷ []) u) (sym (is true h)) (record {
        put = (d, c, inl refl, sym (topic_cmp_antisym u t ((Equal-is (topic_cmp u t)).0 h)), refl);
        greatest = λ k p. (let one = only (Put d s c) _ p.2 in let a : k.stamp ≡ s = cc in let same : p.1 ≡ c = cc in let b : k.message ≡ message_in c = sym p.4 ∙ ap message_in same in
            (λ i. is_gt (kept_cmp (record { stamp = a i; message = b i }) value)) ∙ ap is_gt (tied_itself kept_cmp_total value));
      }))
      (λ h. subst (HasKept (Put d s c ∷ []) u) (sym (is false h)) (λ k p. (let one = only (Put d s c) _ p.2 in let same : p.1 ≡ c = cc in let e : u ≡ t = sym p.3 ∙ ap topic_in same in let tied = ap (λ x. eq_by_cmp topic_cmp x t) e ∙ ap is_eq (tied_itself nat_list_cmp_total t) in cc)));
}

-- ---- many operations

pub joined_is : (O : List Operation) → HaveOwnDots O → IsStateOf O (joined_deltas O)
joined_is [] own = record {
  taken = λ d. (λ e. (let no = set.contains-empty dot_cmp d in cc), λ p. absurd p.1);
  subscriptions = λ d. subst (HasStatus [] d) (sym (empty_statuses d)) (λ s. elim s [ inl w ↦ w.1 | inr w ↦ w.1 ]);
  retained = λ u. subst (HasKept [] u) (sym (empty_kept u)) (λ k p. p.2);
}
joined_is (o ∷ O) own = state_union (o ∷ []) O _ _ own (delta_is o) (joined_is O (λ p q a b. own p q (inr a) (inr b)))

-- ---- a list has one state, and so do lists of the same operations

module _ (O P : List Operation) (same : SameOperations O P) (own : HaveOwnDots O) where
  covers_there : (d : Dot) → Covers O d → Covers P d
  covers_there d c = (c.0, same.there _ c.1, c.2)

  covers_back : (d : Dot) → Covers P d → Covers O d
  covers_back d c = (c.0, same.back _ c.1, c.2)

  sees_there : (d : Dot) → Sees O d → Sees P d
  sees_there d (inl o) = inl (o.0, same.there _ o.1, o.2)
  sees_there d (inr c) = inr (covers_there d c)

  sees_back : (d : Dot) → Sees P d → Sees O d
  sees_back d (inl o) = inl (o.0, same.back _ o.1, o.2)
  sees_back d (inr c) = inr (covers_back d c)

  stands_there : (d : Dot) (e : Entry) → Stands O d e → Stands P d e
  stands_there d e s = record { subscribed = (s.subscribed.0, same.there _ s.subscribed.1); uncovered = λ c. s.uncovered (covers_back d c) }

  stands_back : (d : Dot) (e : Entry) → Stands P d e → Stands O d e
  stands_back d e s = record { subscribed = (s.subscribed.0, same.back _ s.subscribed.1); uncovered = λ c. s.uncovered (covers_there d c) }

  one_status : (d : Dot) (x y : Option Status) → HasStatus O d x → HasStatus P d y → x ≡ y
  one_status d None None h k = refl
  one_status d None (Some None) h k = absurd (h (sees_back d k.seen))
  one_status d None (Some (Some e)) h k = absurd (h (sees_back d (inl (_, k.subscribed.1, refl))))
  one_status d (Some None) None h k = absurd (k (sees_there d h.seen))
  one_status d (Some (Some e)) None h k = absurd (k (sees_there d (inl (_, h.subscribed.1, refl))))
  one_status d (Some None) (Some None) h k = refl
  one_status d (Some None) (Some (Some e)) h k = absurd (h.nothing e (stands_back d e k))
  one_status d (Some (Some e)) (Some None) h k = absurd (k.nothing e (stands_there d e h))
  one_status d (Some (Some e)) (Some (Some f)) h k =
      let one = own _ _ h.subscribed.1 (same.back _ k.subscribed.1) refl in
      let e_f : e ≡ f = cc in
      ap (λ w. Some (Some w)) e_f

  one_kept : (u : List ℕ) (x y : Option Kept) → HasKept O u x → HasKept P u y → x ≡ y
  one_kept u None None h k = refl
  one_kept u None (Some y) h k = absurd (h y (k.put.0, k.put.1, same.back _ k.put.2, k.put.3, k.put.4))
  one_kept u (Some x) None h k = absurd (k x (h.put.0, h.put.1, same.there _ h.put.2, h.put.3, h.put.4))
  one_kept u (Some x) (Some y) h k = ap Some (same_from_order kept_cmp_total kept_cmp_antisym x y (k.greatest x (h.put.0, h.put.1, same.there _ h.put.2, h.put.3, h.put.4)) (h.greatest y (k.put.0, k.put.1, same.back _ k.put.2, k.put.3, k.put.4)))

  alike : (a b : Bool) → (a ≡ true → b ≡ true) → (b ≡ true → a ≡ true) → a ≡ b
  alike true b f g = sym (f refl)
  alike false true f g = g refl
  alike false false f g = refl

  pub one_state : (s t : State) → IsStateOf O s → IsStateOf P t → s ≡ t
  one_state s t h k =
      let taken = set.same_set dot_cmp_total dot_cmp_antisym s.taken t.taken (λ d. alike (set.contains s.taken d) (set.contains t.taken d)
      (λ e. (let o = (h.taken d).0 e in (k.taken d).1 (o.0, same.there _ o.1, o.2)))
      (λ e. (let o = (k.taken d).0 e in (h.taken d).1 (o.0, same.back _ o.1, o.2)))) in
      let subscriptions = map.same_map dot_cmp_total dot_cmp_antisym s.subscriptions t.subscriptions (λ d. one_status d _ _ (h.subscriptions d) (k.subscriptions d)) in
      let retained = map.same_map nat_list_cmp_total topic_cmp_antisym s.retained t.retained (λ u. one_kept u _ _ (h.retained u) (k.retained u)) in
      λ i. record { taken = taken i; subscriptions = subscriptions i; retained = retained i }

  own_there : HaveOwnDots P
  own_there o p a b = own o p (same.back o a) (same.back p b)

  pub order_free : joined_deltas O ≡ joined_deltas P
  order_free = one_state _ _ (joined_is O own) (joined_is P own_there)
