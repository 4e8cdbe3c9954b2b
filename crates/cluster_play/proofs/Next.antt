-- The operation that a node makes is the next one of those that it has taken.
use Rattle.std.proofs.Common.{◌≡◌, ℕ, ◌+◌, ◌^◌, ◌<◌, ◌≤◌, Bool, true, false, cond, ◌&&◌, List, [], ◌∷◌, Option, Some, None, refl, sym, ap, ◌∙◌, inl, inr, subst, arith}
use Rattle.std.specs.List.{list_any}
use Rattle.std.specs.FinSet as set
use Rattle.std.specs.FinMap as map
use Rattle.std.specs.Ordering.{eq_by_cmp, is_eq}
use Rattle.std.proofs.lemmas.Bool.{cases_lt}
use Rattle.std.proofs.lemmas.Cmp.{tied_itself}
use Rattle.causal_context.specs.Dots.{Dot, Dots, dot_cmp, dot_cmp_total, greatest_of}
use Rattle.causal_context.proofs.Greatest.{is_greatest}
use Rattle.subscription_set.specs.declared.entry.Entry.{Entry}
use Rattle.subscription_set.specs.Entries.{is_of, is_of_below}
use Rattle.subscription_set.specs.Standing.{Entries, standing, any_of, any_below, dots_in, dots_of, dots_below}
use Rattle.subscription_set.proofs.Lists.{contains-dots_in}
use Rattle.replica_store.specs.declared.operation.Operation.{Operation}
use Rattle.replica_store.specs.declared.operation.Operation.TheVariants.{Subscribe, Remove, Put}
use Rattle.replica_store.specs.Stamps.{Stamp}
use Rattle.replica_store.specs.Making.{NumberAtEnd, CountAtEnd, next_dot, next_count}
use Rattle.replica_store.specs.Operations.{dot_of, HaveOwnDots}
use Rattle.replica_store.specs.Retained.{greatest_count}
use Rattle.replica_store.specs.States.{State}
use Rattle.replica_store.specs.StateOf.{IsStateOf}
use Rattle.replica_store.proofs.Views.{cover_is, cover_below_is, count_is}
use Rattle.node_work.specs.Acts.{IsMade, IsRemove}
use Rattle.cluster_play.specs.NextOperations.{IsNextDot, CoversWhatStands, CoversWhatStandsBelow, IsRemoval, IsNextStamp, IsNextOperation}
use Rattle.cluster_play.proofs.Bools.{or_true, or_left, or_right}

-- where something passes a test, its dot is taken
passing : (p : Entry → Bool) (es : Entries) → list_any (λ x. p x.1) es ≡ true → (d : Dot) × (list_any (λ x. p x.1 && eq_by_cmp dot_cmp d x.0) es ≡ true)
passing p [] h = cc
passing p (x ∷ es) h = elim (or_true (p x.1) (list_any (λ y. p y.1) es) h) [
  | inl e ↦ (let tied : eq_by_cmp dot_cmp x.0 x.0 ≡ true = ap is_eq (tied_itself dot_cmp_total x.0) in
      (x.0, or_left (p x.1 && eq_by_cmp dot_cmp x.0 x.0) (list_any (λ y. p y.1 && eq_by_cmp dot_cmp x.0 y.0) es) (λ n. e n && tied n)))
  | inr e ↦ (let r = passing p es e in (r.0, or_right (p x.1 && eq_by_cmp dot_cmp r.0 x.0) (list_any (λ y. p y.1 && eq_by_cmp dot_cmp r.0 y.0) es) r.1))
]

covers_some : (p : Entry → Bool) (s : State) → list_any (λ x. p x.1) (standing s.subscriptions) ≡ true → (d : Dot) × (set.contains (dots_in p (standing s.subscriptions)) d ≡ true)
covers_some p s h =
    let r = passing p (standing s.subscriptions) h in
    (r.0, contains-dots_in p (standing s.subscriptions) r.0 ∙ r.1)

below_end : (n end : ℕ) → ¬ (end ≤ n) → n < end
below_end n end h = elim (cases_lt n end) [ inl a ↦ a | inr b ↦ absurd (h b) ]

if_some : (b : Bool) (x y : Operation) → Some x ≡ (cond b (Some y) None) → (b ≡ true) × (x ≡ y)
if_some true x y e = (refl, cc)
if_some false x y e = cc

module _ (i : ℕ) (O : List Operation) (s : State) (own : HaveOwnDots O) (state : IsStateOf O s) where
  next_number : (dot : Dot) → ¬ NumberAtEnd i s → dot ≡ next_dot i s → IsNextDot i O dot
  next_number dot fits is = record {
    node = ap (λ (d : Dot). d.node) is;
    below = subst (λ (d : Dot). d.number < 2 ^ 62) (sym is) (below_end (greatest_of s.taken i + 1) (2 ^ 62) fits);
    above = λ o a e.
        let there : set.contains s.taken (record { node = i; number = (dot_of o).number }) ≡ true = ap (λ n. set.contains s.taken (record { node = n; number = (dot_of o).number })) (sym e) ∙ (state.taken (dot_of o)).1 (o, a, refl) in
        let low : (dot_of o).number ≤ greatest_of s.taken i = (is_greatest s.taken i).above (dot_of o).number there in
        let number : dot.number ≡ greatest_of s.taken i + 1 = ap (λ (d : Dot). d.number) is in
        omega arith;
    after =
        let number : dot.number ≡ greatest_of s.taken i + 1 = ap (λ (d : Dot). d.number) is in
        elim (is_greatest s.taken i).reached [
          | inl none ↦ inl (number ∙ ap (λ n. n + 1) none)
          | inr there ↦ inr (let o = (state.taken (record { node = i; number = greatest_of s.taken i })).0 there in
              (o.0, o.1, ap (λ (d : Dot). d.node) o.2, number ∙ ap (λ (d : Dot). d.number + 1) (sym o.2)))
        ];
  }

  next_cover : (client : List ℕ) (to : Option (List ℕ)) (cover : Dots) → cover ≡ dots_of client to s.subscriptions → CoversWhatStands O client to cover
  next_cover client to cover is = subst (CoversWhatStands O client to) (sym is) (λ d. cover_is O s own state client to d)

  next_cover_below : (client : List ℕ) (version : ℕ) (cover : Dots) → cover ≡ dots_below client version s.subscriptions → CoversWhatStandsBelow O client version cover
  next_cover_below client version cover is = subst (CoversWhatStandsBelow O client version) (sym is) (λ d. cover_below_is O s own state client version d)

  next_removal : (dot : Dot) (cover : Dots) → IsRemove i s (Remove dot cover) → (dot ≡ next_dot i s) × IsRemoval O cover × ((covered : Dot) × (set.contains cover covered ≡ true))
  next_removal dot cover (inl (client, to, e)) =
      let same = if_some (any_of client to s.subscriptions) (Remove dot cover) (Remove (next_dot i s) (dots_of client to s.subscriptions)) e in
      let covers : cover ≡ dots_of client to s.subscriptions = cc same.1 in
      let some = covers_some (is_of client to) s same.0 in
      (cc same.1, inl (client, to, next_cover client to cover covers), (some.0, subst (λ (c : Dots). set.contains c some.0 ≡ true) (sym covers) some.1))
  next_removal dot cover (inr (client, version, e)) =
      let same = if_some (any_below client version s.subscriptions) (Remove dot cover) (Remove (next_dot i s) (dots_below client version s.subscriptions)) e in
      let covers : cover ≡ dots_below client version s.subscriptions = cc same.1 in
      let some = covers_some (is_of_below client version) s same.0 in
      (cc same.1, inr (client, version, next_cover_below client version cover covers), (some.0, subst (λ (c : Dots). set.contains c some.0 ≡ true) (sym covers) some.1))

  next_stamp : (stamp : Stamp) → ¬ CountAtEnd s → stamp ≡ record { count = next_count s; node = i } → IsNextStamp i O stamp
  next_stamp stamp fits is = record {
    node = ap (λ (t : Stamp). t.node) is;
    before = greatest_count (map.entries s.retained);
    greatest = count_is O s state;
    count = ap (λ (t : Stamp). t.count) is;
    below = subst (λ (t : Stamp). t.count < 2 ^ 62) (sym is) (below_end (next_count s) (2 ^ 62) fits);
  }

  pub next_operation : (version : ℕ) (o : Operation) → IsMade i version s o → IsNextOperation i version O o
  next_operation version (Subscribe dot entry cover) h =
      let same = h.1 in
      (next_number dot h.0 cc, next_cover entry.client (Some entry.filter) cover cc, h.2)
  next_operation version (Remove dot cover) h =
      let r = next_removal dot cover h.1 in
      (next_number dot h.0 r.0, r.1, r.2)
  next_operation version (Put dot stamp content) h =
      let same = h.2 in
      (next_number dot h.0 cc, next_stamp stamp h.1 cc)
