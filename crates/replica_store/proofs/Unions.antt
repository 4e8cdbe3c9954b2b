-- The state of two lists of operations together is the join of their states.
use Rattle.std.proofs.Common.{◌≡◌, ℕ, Bool, true, false, ◌||◌, List, [], ◌∷◌, ◌++◌, Option, Some, None, ◌⊎◌, inl, inr, refl, sym, ap, subst, ◌∙◌}
use Rattle.std.specs.FinSet as set
use Rattle.std.specs.Cmp.Lexicographic.{nat_list_cmp_total}
use Rattle.std.proofs.lemmas.Cmp.{upto}
use Rattle.causal_context.specs.Dots.{Dot, dot_cmp_total}
use Rattle.causal_context.specs.MapLattice.{option_join, get-merge}
use Rattle.causal_context.specs.OrderLattice.{greater, by_greater}
use Rattle.subscription_set.specs.declared.entry.Entry.{Entry}
use Rattle.subscription_set.specs.Statuses.{Status, status_join, statuses_join}
use Rattle.subscription_set.specs.StatusLattice.{join-same, join_none, none_join}
use Rattle.replica_store.specs.declared.operation.Operation.{Operation}
use Rattle.replica_store.specs.declared.operation.Operation.TheVariants.{Subscribe}
use Rattle.replica_store.specs.Operations.{Among, HaveOwnDots, Subscribes, Covers, Sees, IsRemoved, HasStatus, Puts, IsGreatestPut, HasKept}
use Rattle.replica_store.specs.declared.kept.Kept.{Kept}
use Rattle.replica_store.specs.Retained.{retained_join, kept_cmp}
use Rattle.replica_store.specs.RetainedLattice.{kept_cmp_total, kept_cmp_antisym}
use Rattle.replica_store.specs.States.{State, state_join}
use Rattle.replica_store.specs.StateOf.{IsStateOf}

pub among_left : (o : Operation) (O P : List Operation) → Among o O → Among o (O ++ P)
among_left o [] P a = absurd a
among_left o (x ∷ O) P (inl e) = inl e
among_left o (x ∷ O) P (inr a) = inr (among_left o O P a)

pub among_right : (o : Operation) (O P : List Operation) → Among o P → Among o (O ++ P)
among_right o [] P a = a
among_right o (x ∷ O) P a = inr (among_right o O P a)

pub among_cases : (o : Operation) (O P : List Operation) → Among o (O ++ P) → Among o O ⊎ Among o P
among_cases o [] P a = inr a
among_cases o (x ∷ O) P (inl e) = inl (inl e)
among_cases o (x ∷ O) P (inr a) = elim (among_cases o O P a) [ inl b ↦ inl (inr b) | inr b ↦ inr b ]

module _ (O P : List Operation) where
  subscribes_left : (d : Dot) (e : Entry) → Subscribes O d e → Subscribes (O ++ P) d e
  subscribes_left d e s = (s.0, among_left _ O P s.1)

  subscribes_right : (d : Dot) (e : Entry) → Subscribes P d e → Subscribes (O ++ P) d e
  subscribes_right d e s = (s.0, among_right _ O P s.1)

  subscribes_cases : (d : Dot) (e : Entry) → Subscribes (O ++ P) d e → Subscribes O d e ⊎ Subscribes P d e
  subscribes_cases d e s = elim (among_cases _ O P s.1) [ inl a ↦ inl (s.0, a) | inr a ↦ inr (s.0, a) ]

  covers_left : (d : Dot) → Covers O d → Covers (O ++ P) d
  covers_left d c = (c.0, among_left _ O P c.1, c.2)

  covers_right : (d : Dot) → Covers P d → Covers (O ++ P) d
  covers_right d c = (c.0, among_right _ O P c.1, c.2)

  covers_cases : (d : Dot) → Covers (O ++ P) d → Covers O d ⊎ Covers P d
  covers_cases d c = elim (among_cases _ O P c.1) [ inl a ↦ inl (c.0, a, c.2) | inr a ↦ inr (c.0, a, c.2) ]

  sees_left : (d : Dot) → Sees O d → Sees (O ++ P) d
  sees_left d (inl o) = inl (o.0, among_left _ O P o.1, o.2)
  sees_left d (inr c) = inr (covers_left d c)

  sees_right : (d : Dot) → Sees P d → Sees (O ++ P) d
  sees_right d (inl o) = inl (o.0, among_right _ O P o.1, o.2)
  sees_right d (inr c) = inr (covers_right d c)

  sees_cases : (d : Dot) → Sees (O ++ P) d → Sees O d ⊎ Sees P d
  sees_cases d (inl o) = elim (among_cases _ O P o.1) [ inl a ↦ inl (inl (o.0, a, o.2)) | inr a ↦ inr (inl (o.0, a, o.2)) ]
  sees_cases d (inr c) = elim (covers_cases d c) [ inl a ↦ inl (inr a) | inr a ↦ inr (inr a) ]

  -- a dot that is removed in one of the lists is so in both together
  removed_left : HaveOwnDots (O ++ P) → (d : Dot) → IsRemoved O d → IsRemoved (O ++ P) d
  removed_left own d h = record {
    seen = sees_left d h.seen;
    nothing = λ e st. elim (subscribes_cases d e st.subscribed) [
      | inl a ↦ h.nothing e (record { subscribed = a; uncovered = λ c. st.uncovered (covers_left d c) })
      | inr a ↦ elim h.seen [
        | inl o ↦ (let one = own o.0 (Subscribe d e a.0) (among_left _ O P o.1) (among_right _ O P a.1) o.2 in
            h.nothing e (record { subscribed = (a.0, subst (λ (x : Operation). Among x O) one o.1); uncovered = λ c. st.uncovered (covers_left d c) }))
        | inr c ↦ st.uncovered (covers_left d c)
      ]
    ];
  }

  removed_right : HaveOwnDots (O ++ P) → (d : Dot) → IsRemoved P d → IsRemoved (O ++ P) d
  removed_right own d h = record {
    seen = sees_right d h.seen;
    nothing = λ e st. elim (subscribes_cases d e st.subscribed) [
      | inl a ↦ elim h.seen [
        | inl o ↦ (let one = own o.0 (Subscribe d e a.0) (among_right _ O P o.1) (among_left _ O P a.1) o.2 in
            h.nothing e (record { subscribed = (a.0, subst (λ (x : Operation). Among x P) one o.1); uncovered = λ c. st.uncovered (covers_right d c) }))
        | inr c ↦ st.uncovered (covers_right d c)
      ]
      | inr a ↦ h.nothing e (record { subscribed = a; uncovered = λ c. st.uncovered (covers_right d c) })
    ];
  }

  status_union : HaveOwnDots (O ++ P) → (d : Dot) (x y : Option Status) → HasStatus O d x → HasStatus P d y → HasStatus (O ++ P) d (option_join status_join x y)
  status_union own d None None h k = λ s. elim (sees_cases d s) [ inl a ↦ h a | inr a ↦ k a ]
  status_union own d None (Some None) h k = removed_right own d k
  status_union own d None (Some (Some e)) h k = record { subscribed = subscribes_right d e k.subscribed; uncovered = λ c. elim (covers_cases d c) [ inl a ↦ h (inr a) | inr a ↦ k.uncovered a ] }
  status_union own d (Some None) None h k = removed_left own d h
  status_union own d (Some (Some e)) None h k = record { subscribed = subscribes_left d e h.subscribed; uncovered = λ c. elim (covers_cases d c) [ inl a ↦ h.uncovered a | inr a ↦ k (inr a) ] }
  status_union own d (Some None) (Some y) h k = subst (λ z. HasStatus (O ++ P) d (Some z)) (sym (none_join y)) (removed_left own d h)
  status_union own d (Some (Some e)) (Some None) h k = subst (λ z. HasStatus (O ++ P) d (Some z)) (sym (join_none (Some e))) (removed_right own d k)
  status_union own d (Some (Some e)) (Some (Some f)) h k =
      let one = own _ _ (among_left _ O P h.subscribed.1) (among_right _ O P k.subscribed.1) refl in
      let same : e ≡ f = cc in
      subst (λ z. HasStatus (O ++ P) d (Some z)) (sym (ap (λ w. status_join (Some e) (Some w)) (sym same) ∙ join-same e))
      (record { subscribed = subscribes_left d e h.subscribed; uncovered = λ c. elim (covers_cases d c) [ inl a ↦ h.uncovered a | inr a ↦ k.uncovered a ] })

  puts_cases : (t : List ℕ) (k : Kept) → Puts (O ++ P) t k → Puts O t k ⊎ Puts P t k
  puts_cases t k p = elim (among_cases _ O P p.2) [ inl a ↦ inl (p.0, p.1, a, p.3, p.4) | inr a ↦ inr (p.0, p.1, a, p.3, p.4) ]

  puts_left : (t : List ℕ) (k : Kept) → Puts O t k → Puts (O ++ P) t k
  puts_left t k p = (p.0, p.1, among_left _ O P p.2, p.3, p.4)

  puts_right : (t : List ℕ) (k : Kept) → Puts P t k → Puts (O ++ P) t k
  puts_right t k p = (p.0, p.1, among_right _ O P p.2, p.3, p.4)

  kept_union : (t : List ℕ) (x y : Option Kept) → HasKept O t x → HasKept P t y → HasKept (O ++ P) t (option_join (greater kept_cmp) x y)
  kept_union t None None h k = λ z p. elim (puts_cases t z p) [ inl a ↦ h z a | inr a ↦ k z a ]
  kept_union t None (Some y) h k = record { put = puts_right t y k.put; greatest = λ z p. elim (puts_cases t z p) [ inl a ↦ absurd (h z a) | inr a ↦ k.greatest z a ] }
  kept_union t (Some x) None h k = record { put = puts_left t x h.put; greatest = λ z p. elim (puts_cases t z p) [ inl a ↦ h.greatest z a | inr a ↦ absurd (k z a) ] }
  kept_union t (Some x) (Some y) h k = by_greater kept_cmp_total kept_cmp_antisym x y (λ m. IsGreatestPut (O ++ P) t m)
      (λ y_x. record { put = puts_left t x h.put; greatest = λ z p. elim (puts_cases t z p) [ inl a ↦ h.greatest z a | inr a ↦ upto kept_cmp_total z y x (k.greatest z a) y_x ] })
      (λ x_y. record { put = puts_right t y k.put; greatest = λ z p. elim (puts_cases t z p) [ inl a ↦ upto kept_cmp_total z x y (h.greatest z a) x_y | inr a ↦ k.greatest z a ] })

or_cases : (a b : Bool) → (a || b) ≡ true → (a ≡ true) ⊎ (b ≡ true)
or_cases true b e = inl refl
or_cases false b e = inr e

or_left : (a b : Bool) → a ≡ true → (a || b) ≡ true
or_left true b e = refl
or_left false b e = cc

or_right : (a b : Bool) → b ≡ true → (a || b) ≡ true
or_right true b e = refl
or_right false b e = e

-- the key lemma: the state of both lists is the join of their states
pub state_union : (O P : List Operation) (s t : State) → HaveOwnDots (O ++ P) → IsStateOf O s → IsStateOf P t → IsStateOf (O ++ P) (state_join s t)
unfolding statuses_join retained_join
state_union O P s t own h k = record {
  taken = λ d. (
    λ e. elim (or_cases (set.contains s.taken d) (set.contains t.taken d) (sym (set.contains-union dot_cmp_total s.taken t.taken d) ∙ e)) [
      | inl a ↦ (let o = (h.taken d).0 a in (o.0, among_left o.0 O P o.1, o.2))
      | inr a ↦ (let o = (k.taken d).0 a in (o.0, among_right o.0 O P o.1, o.2))
    ],
    λ o. set.contains-union dot_cmp_total s.taken t.taken d ∙ elim (among_cases o.0 O P o.1) [
      | inl a ↦ or_left (set.contains s.taken d) (set.contains t.taken d) ((h.taken d).1 (o.0, a, o.2))
      | inr a ↦ or_right (set.contains s.taken d) (set.contains t.taken d) ((k.taken d).1 (o.0, a, o.2))
    ],
  );
  subscriptions = λ d. subst (HasStatus (O ++ P) d) (sym (get-merge dot_cmp_total status_join s.subscriptions t.subscriptions d)) (status_union O P own d _ _ (h.subscriptions d) (k.subscriptions d));
  retained = λ u. subst (HasKept (O ++ P) u) (sym (get-merge nat_list_cmp_total (greater kept_cmp) s.retained t.retained u)) (kept_union O P u _ _ (h.retained u) (k.retained u));
}
