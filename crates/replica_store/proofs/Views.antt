-- What a state shows of its operations.
use Rattle.std.proofs.Common.{◌≡◌, ◌↔◌, ℕ, ◌≤◌, ◌<◌, max, Bool, true, false, cond, not, ◌&&◌, ◌||◌, List, [], ◌∷◌, filter, Option, Some, None, ◌⊎◌, inl, inr, T, refl, sym, ap, subst, ◌∙◌, arith}
use Rattle.std.specs.List.{list_any, list_all}
use Rattle.std.specs.FinSet as set
use Rattle.std.specs.FinMap as map
use Rattle.std.specs.FinMap.{IsAntisymmetric}
use Rattle.std.specs.FinMap.Entries.{below_all, is_sorted, find}
use Rattle.std.specs.Ordering.{eq_by_cmp, is_lt, is_gt, is_eq, nat_cmp, ordering_then, ordering_reverse}
use Rattle.std.specs.declared.cmp.Ordering.{Ordering}
use Rattle.std.specs.declared.cmp.Ordering.TheVariants.{Less, Equal, Greater}
use Rattle.std.specs.Cmp.{IsTotalOrder, Equal-is, nat_cmp_total}
use Rattle.std.specs.Cmp.Lexicographic.{nat_list_cmp_total}
use Rattle.std.proofs.lemmas.Bool.{cases_order}
use Rattle.std.proofs.lemmas.Cmp.{tied_itself}
use Rattle.std.proofs.lemmas.Map.Keys.{ge_from_not_lt}
use Rattle.causal_context.specs.Dots.{Dot, dot_cmp, dot_cmp_total, dot_cmp_antisym}
use Rattle.causal_context.specs.OrderLattice.{NotAbove}
use Rattle.subscription_set.specs.declared.entry.Entry.{Entry}
use Rattle.subscription_set.specs.Entries.{is_of, is_of_below, same_subscription, recency_cmp}
use Rattle.subscription_set.specs.Statuses.{Status}
use Rattle.subscription_set.specs.Standing.{Entries, find_entry, standing, is_latest, live, dots_in, dots_of, dots_below, entry_of}
use Rattle.subscription_set.proofs.Lists.{contains-dots_in}
use Rattle.subscription_set.proofs.Places.{found_none, first_part, second_part}
use Rattle.subscription_set.proofs.Standings.{find-standing, rises-standing}
use Rattle.replica_store.specs.declared.operation.Operation.{Operation}
use Rattle.replica_store.specs.declared.kept.Kept.{Kept}
use Rattle.replica_store.specs.Operations.{Among, HaveOwnDots, Stands, HasStatus, IsLive, Puts, HasKept, IsGreatestCount}
use Rattle.replica_store.specs.Retained.{kept_cmp, topic_cmp, greatest_count}
use Rattle.replica_store.specs.RetainedLattice.{topic_cmp_antisym}
use Rattle.replica_store.specs.States.{State}
use Rattle.replica_store.specs.StateOf.{IsStateOf, joined_deltas}
use Rattle.replica_store.proofs.Deltas.{joined_is, tied_true}

-- ---- some of the operations

among_some : (o : Operation) (p : Operation → Bool) (O : List Operation) → Among o (filter p O) → Among o O
among_some o p [] a = a
among_some o p (x ∷ O) a = elim (p x) as (λ b. Among o (cond b (x ∷ filter p O) (filter p O)) → Among o (x ∷ O)) [
  | true ↦ λ h. elim h [ inl e ↦ inl e | inr b ↦ inr (among_some o p O b) ]
  | false ↦ λ h. inr (among_some o p O h)
] a

pub some_is : (O : List Operation) (some : Operation → Bool) → HaveOwnDots O → IsStateOf (filter some O) (joined_deltas (filter some O))
some_is O some own = joined_is (filter some O) (λ o p a b. own o p (among_some o some O a) (among_some p some O b))

-- ---- sorted lists

pub by_test : (b : Bool) (P : Type 0) → (b ≡ true → P) → (b ≡ false → P) → P
by_test true P t f = t refl
by_test false P t f = f refl

pub tied_is : {K : Type 0} {R : K → K → Ordering} → IsAntisymmetric R → (q k : K) → eq_by_cmp R q k ≡ true → q ≡ k
tied_is {R = R} anti q k t = anti q k ((Equal-is (R q k)).0 t)

own_tie : {K : Type 0} {R : K → K → Ordering} → IsTotalOrder R → (k : K) → eq_by_cmp R k k ≡ true
own_tie o k = ap is_eq (tied_itself o k)

module _ {K X : Type 0} {R : K → K → Ordering} (o : IsTotalOrder R) (anti : IsAntisymmetric R) where
  pub none_after : (q : K) (x : K × X) (es : List (K × X)) → T (is_sorted R (x ∷ es)) → eq_by_cmp R q x.0 ≡ true → find R q es ≡ None
  none_after q x es h t = found_none o es q (subst (λ y. T (below_all R y es)) (sym (tied_is {R = R} anti q x.0 t)) (first_part _ _ h))

  pub at_head : (q : K) (x : K × X) (es : List (K × X)) (b : Bool) → eq_by_cmp R q x.0 ≡ b → find R q (x ∷ es) ≡ cond b (Some x.1) (find R q es)
  at_head q x es b t = ap (λ c. cond c (Some x.1) (find R q es)) t

pub some_same : {X : Type 0} (a b : X) → Some a ≡ Some b → a ≡ b
some_same a b e = cc

pub no_some : {X : Type 0} (P : Type 0) (x : Option X) (a : X) → x ≡ None → x ≡ Some a → P
no_some P x a none some = absurd (let e = sym none ∙ some in cc)

drop_false : (a b : Bool) → a ≡ false → (a || b) ≡ true → b ≡ true
drop_false true b e h = cc
drop_false false b e h = h

and_false_left : (a b : Bool) → a ≡ false → (a && b) ≡ false
and_false_left true b e = cc
and_false_left false b e = refl

and_false_right : (a b : Bool) → b ≡ false → (a && b) ≡ false
and_false_right true b e = e
and_false_right false b e = refl

or_first : (a b : Bool) → a ≡ true → (a || b) ≡ true
or_first true b e = refl
or_first false b e = cc

or_second : (a b : Bool) → b ≡ true → (a || b) ≡ true
or_second true b e = refl
or_second false b e = e

and_both : (a b : Bool) → a ≡ true → b ≡ true → (a && b) ≡ true
and_both true b e h = h
and_both false b e h = cc

and_first : (a b : Bool) → (a && b) ≡ true → a ≡ true
and_first true b e = refl
and_first false b e = cc

and_second : (a b : Bool) → (a && b) ≡ true → b ≡ true
and_second true b e = e
and_second false b e = cc

not_and : (a b : Bool) → not (a && b) ≡ true → a ≡ true → b ≡ false
not_and true true e h = cc
not_and true false e h = refl
not_and false b e h = cc

and_not : (a b : Bool) → (a ≡ true → b ≡ false) → not (a && b) ≡ true
and_not true b h = ap not (h refl)
and_not false b h = refl

abbrev tie : Dot → Dot × Entry → Bool
tie q x = eq_by_cmp dot_cmp q x.0

abbrev sorted : Entries → Type 0
sorted es = T (is_sorted dot_cmp es)

head_is : (q : Dot) (x : Dot × Entry) (es : Entries) (b : Bool) → tie q x ≡ b → find_entry q (x ∷ es) ≡ cond b (Some x.1) (find_entry q es)
head_is q x es b t = at_head dot_cmp_total dot_cmp_antisym q x es b t

later_none : (q : Dot) (x : Dot × Entry) (es : Entries) → sorted (x ∷ es) → tie q x ≡ true → find_entry q es ≡ None
later_none q x es h t = none_after dot_cmp_total dot_cmp_antisym q x es h t

any_found : (p : Entry → Bool) (q : Dot) (es : Entries) → sorted es → list_any (λ x. p x.1 && eq_by_cmp dot_cmp q x.0) es ≡ true → (e : Entry) × (find_entry q es ≡ Some e) × (p e ≡ true)
any_found p q [] h a = cc
any_found p q (x ∷ es) h a = by_test (tie q x) _
    (λ t. by_test (p x.1) _
    (λ passes. (x.1, head_is q x es true t, passes))
    (λ fails. (let rest = any_found p q es (second_part _ _ h) (drop_false _ _ (and_false_left (p x.1) (tie q x) fails) a) in no_some _ (find_entry q es) rest.0 (later_none q x es h t) rest.1)))
    (λ n. (let rest = any_found p q es (second_part _ _ h) (drop_false _ _ (and_false_right (p x.1) (tie q x) n) a) in (rest.0, head_is q x es false n ∙ rest.1, rest.2)))

found_any : (p : Entry → Bool) (q : Dot) (es : Entries) (e : Entry) → find_entry q es ≡ Some e → p e ≡ true → list_any (λ x. p x.1 && eq_by_cmp dot_cmp q x.0) es ≡ true
found_any p q [] e f passes = cc
found_any p q (x ∷ es) e f passes = by_test (tie q x) _
    (λ t. or_first _ _ (and_both (p x.1) (tie q x) (ap p (some_same x.1 e (sym (head_is q x es true t) ∙ f)) ∙ passes) t))
    (λ n. or_second (p x.1 && tie q x) _ (found_any p q es e (sym (head_is q x es false n) ∙ f) passes))

module _ (p : Dot × Entry → Bool) (q : Dot) (e : Entry) where
  abbrev if_picked : Dot × Entry → Entries → Bool → Option Entry
  if_picked x es b = find_entry q (cond b (x ∷ filter p es) (filter p es))

  found_filter : (es : Entries) → sorted es → find_entry q (filter p es) ≡ Some e → (find_entry q es ≡ Some e) × (p (q, e) ≡ true)
  found_filter [] h f = cc
  found_filter (x ∷ es) h f = by_test (p x) _
      (λ passes. (let g : find_entry q (x ∷ filter p es) ≡ Some e = ap (if_picked x es) (sym passes) ∙ f in by_test (tie q x) _
      (λ t. (let same : x.1 ≡ e = some_same x.1 e (sym (head_is q x (filter p es) true t) ∙ g) in (head_is q x es true t ∙ ap Some same, ap p (λ i. (tied_true q x.0 t i, sym same i)) ∙ passes)))
      (λ n. (let rest = found_filter es (second_part _ _ h) (sym (head_is q x (filter p es) false n) ∙ g) in (head_is q x es false n ∙ rest.0, rest.1)))))
      (λ fails. (let rest = found_filter es (second_part _ _ h) (ap (if_picked x es) (sym fails) ∙ f) in by_test (tie q x) _
      (λ t. no_some _ (find_entry q es) e (later_none q x es h t) rest.0)
      (λ n. (head_is q x es false n ∙ rest.0, rest.1))))

  filter_found : (es : Entries) → find_entry q es ≡ Some e → p (q, e) ≡ true → find_entry q (filter p es) ≡ Some e
  filter_found [] f passes = f
  filter_found (x ∷ es) f passes = by_test (tie q x) _
      (λ t. (let same : x.1 ≡ e = some_same x.1 e (sym (head_is q x es true t) ∙ f) in
      ap (if_picked x es) (ap p (λ i. (sym (tied_true q x.0 t) i, same i)) ∙ passes) ∙ head_is q x (filter p es) true t ∙ ap Some same))
      (λ n. (let rest = filter_found es (sym (head_is q x es false n) ∙ f) passes in by_test (p x) _
      (λ picked. ap (if_picked x es) picked ∙ head_is q x (filter p es) false n ∙ rest)
      (λ left. ap (if_picked x es) left ∙ rest)))

all_found : (P : Dot × Entry → Bool) (q : Dot) (f : Entry) (es : Entries) → list_all P es ≡ true → find_entry q es ≡ Some f → P (q, f) ≡ true
all_found P q f [] a e = cc
all_found P q f (x ∷ es) a e = by_test (tie q x) _
    (λ t. ap P (λ i. (tied_true q x.0 t i, sym (some_same x.1 f (sym (head_is q x es true t) ∙ e)) i)) ∙ and_first (P x) _ a)
    (λ n. all_found P q f es (and_second (P x) _ a) (sym (head_is q x es false n) ∙ e))

found_all : (P : Dot × Entry → Bool) (es : Entries) → sorted es → ((q : Dot) (f : Entry) → find_entry q es ≡ Some f → P (q, f) ≡ true) → list_all P es ≡ true
found_all P [] h g = refl
found_all P (x ∷ es) h g = and_both (P x) _ (g x.0 x.1 (head_is x.0 x es true (own_tie {R = dot_cmp} dot_cmp_total x.0)))
    (found_all P es (second_part _ _ h) (λ q f e. by_test (tie q x) _ (λ t. no_some _ (find_entry q es) f (later_none q x es h t) e) (λ n. g q f (head_is q x es false n ∙ e))))

-- ---- subscriptions

module _ (O : List Operation) (s : State) (own : HaveOwnDots O) (is : IsStateOf O s) where
  stands_if : (d : Dot) (e : Entry) → find_entry d (standing s.subscriptions) ≡ Some e → Stands O d e
  stands_if d e f = by (map.get s.subscriptions d) (is.subscriptions d) (sym (find-standing s.subscriptions d) ∙ f)
    where
      by : (x : Option Status) → HasStatus O d x → entry_of x ≡ Some e → Stands O d e
      by None h f = cc
      by (Some None) h f = cc
      by (Some (Some g)) h f = subst (Stands O d) (some_same g e f) h

  if_stands : (d : Dot) (e : Entry) → Stands O d e → find_entry d (standing s.subscriptions) ≡ Some e
  if_stands d e st = find-standing s.subscriptions d ∙ by (map.get s.subscriptions d) (is.subscriptions d)
    where
      by : (x : Option Status) → HasStatus O d x → entry_of x ≡ Some e
      by None h = absurd (h (inl (_, st.subscribed.1, refl)))
      by (Some None) h = absurd (h.nothing e st)
      by (Some (Some g)) h = (let one = own _ _ h.subscribed.1 st.subscribed.1 refl in let same : g ≡ e = cc in ap Some same)

  pub live_if : (d : Dot) (e : Entry) → (find_entry d (live s.subscriptions) ≡ Some e) ↔ IsLive O d e
  unfolding live
  live_if d e =
      let es = standing s.subscriptions in
      let rises = rises-standing s.subscriptions in (
        λ f. (let found = found_filter (is_latest es) d e es rises f in record {
          stands = stands_if d e found.0;
          latest = λ other its st same. not_and _ _ (all_found (λ y. not (same_subscription e y.1 && is_lt (recency_cmp (d, e) y))) other its es found.1 (if_stands other its st)) same;
        }),
        λ l. filter_found (is_latest es) d e es (if_stands d e l.stands) (found_all (λ y. not (same_subscription e y.1 && is_lt (recency_cmp (d, e) y))) es rises (λ q f g. and_not _ _ (λ same. l.latest q f (stands_if q f g) same))),
      )

  -- a cover of those that pass a test
  pub cover_if : (p : Entry → Bool) (d : Dot) → (set.contains (dots_in p (standing s.subscriptions)) d ≡ true) ↔ ((e : Entry) × Stands O d e × (p e ≡ true))
  cover_if p d =
      let es = standing s.subscriptions in (
        λ c. (let found = any_found p d es (rises-standing s.subscriptions) (sym (contains-dots_in p es d) ∙ c) in (found.0, stands_if d found.0 found.1, found.2)),
        λ w. contains-dots_in p es d ∙ found_any p d es w.0 (if_stands d w.0 w.1) w.2,
      )

pub live_is : (O : List Operation) (s : State) → HaveOwnDots O → IsStateOf O s → (d : Dot) (e : Entry) → (find_entry d (live s.subscriptions) ≡ Some e) ↔ IsLive O d e
live_is O s own is d e = live_if O s own is d e

pub cover_is : (O : List Operation) (s : State) → HaveOwnDots O → IsStateOf O s → (client : List ℕ) (to : Option (List ℕ)) (d : Dot) → (set.contains (dots_of client to s.subscriptions) d ≡ true) ↔ ((e : Entry) × Stands O d e × (is_of client to e ≡ true))
cover_is O s own is client to d = cover_if O s own is (is_of client to) d

pub cover_below_is : (O : List Operation) (s : State) → HaveOwnDots O → IsStateOf O s → (client : List ℕ) (version : ℕ) (d : Dot) → (set.contains (dots_below client version s.subscriptions) d ≡ true) ↔ ((e : Entry) × Stands O d e × (is_of_below client version e ≡ true))
cover_below_is O s own is client version d = cover_if O s own is (is_of_below client version) d

-- ---- counts

abbrev Topics : Type 0
Topics = List (List ℕ × Kept)

count_bound : (es : Topics) (t : List ℕ) (g : Kept) → find topic_cmp t es ≡ Some g → g.stamp.count ≤ greatest_count es
count_bound [] t g f = cc
count_bound (x ∷ es) t g f = by_test (eq_by_cmp topic_cmp t x.0) _
    (λ tied. (let same : x.1 ≡ g = some_same x.1 g (sym (at_head nat_list_cmp_total topic_cmp_antisym t x es true tied) ∙ f) in subst (λ k. k.stamp.count ≤ max x.1.stamp.count (greatest_count es)) same (omega arith)))
    (λ n. (let rest = count_bound es t g (sym (at_head nat_list_cmp_total topic_cmp_antisym t x es false n) ∙ f) in omega arith))

first_not_gt : (r s : Ordering) → is_gt (ordering_then r s) ≡ false → is_gt r ≡ false
first_not_gt Less s e = refl
first_not_gt Equal s e = refl
first_not_gt Greater s e = e

turned : (r : Ordering) → is_lt (ordering_reverse r) ≡ is_gt r
turned Less = refl
turned Equal = refl
turned Greater = refl

kept_le : (k g : Kept) → NotAbove kept_cmp k g → k.stamp.count ≤ g.stamp.count
kept_le k g n = ge_from_not_lt g.stamp.count k.stamp.count
    (ap is_lt (nat_cmp_total.antisymm g.stamp.count k.stamp.count) ∙ turned (nat_cmp k.stamp.count g.stamp.count) ∙ first_not_gt (nat_cmp k.stamp.count g.stamp.count) _ (first_not_gt _ _ n))

abbrev Reaches : Topics → Type 0
Reaches es = (greatest_count es ≡ 0) ⊎ ((t : List ℕ) × (g : Kept) × (find topic_cmp t es ≡ Some g) × (g.stamp.count ≡ greatest_count es))

reached_more : (x : List ℕ × Kept) (es : Topics) → T (is_sorted topic_cmp (x ∷ es)) → Reaches es → x.1.stamp.count < greatest_count es → Reaches (x ∷ es)
reached_more x es h (inl e) lt = absurd (omega arith)
reached_more x es h (inr w) lt = inr (
  w.0,
  w.1,
  by_test (eq_by_cmp topic_cmp w.0 x.0) _
      (λ t. no_some _ (find topic_cmp w.0 es) w.1 (none_after nat_list_cmp_total topic_cmp_antisym w.0 x es h t) w.2)
      (λ n. at_head nat_list_cmp_total topic_cmp_antisym w.0 x es false n ∙ w.2),
  (let is = w.3 in omega arith),
)

reached : (es : Topics) → T (is_sorted topic_cmp es) → Reaches es
reached [] h = inl refl
reached (x ∷ es) h = elim (cases_order x.1.stamp.count (greatest_count es)) [
  | inl e ↦ inr (x.0, x.1, at_head nat_list_cmp_total topic_cmp_antisym x.0 x es true (own_tie {R = topic_cmp} nat_list_cmp_total x.0), omega arith)
  | inr o ↦ elim o [
    | inl lt ↦ reached_more x es h (reached es (second_part _ _ h)) lt
    | inr gt ↦ inr (x.0, x.1, at_head nat_list_cmp_total topic_cmp_antisym x.0 x es true (own_tie {R = topic_cmp} nat_list_cmp_total x.0), omega arith)
  ]
]

module _ (O : List Operation) (s : State) (is : IsStateOf O s) where
  abbrev es : Topics
  es = map.entries s.retained

  kept_is : (t : List ℕ) (k : Kept) → Puts O t k → (x : Option Kept) → HasKept O t x → map.get s.retained t ≡ x → k.stamp.count ≤ greatest_count es
  kept_is t k p None h e = absurd (h k p)
  kept_is t k p (Some g) h e = (let a = kept_le k g (h.greatest k p) in let b = count_bound es t g (sym (map.get-entries s.retained t) ∙ e) in omega arith)

  put_at : (t : List ℕ) (g : Kept) (x : Option Kept) → HasKept O t x → x ≡ Some g → Puts O t g
  put_at t g None h e = cc
  put_at t g (Some k) h e = subst (Puts O t) (some_same k g e) h.put

  reached_by : Reaches es → (greatest_count es ≡ 0) ⊎ ((t : List ℕ) × (k : Kept) × Puts O t k × (k.stamp.count ≡ greatest_count es))
  reached_by (inl e) = inl e
  reached_by (inr w) = inr (w.0, w.1, put_at w.0 w.1 (map.get s.retained w.0) (is.retained w.0) (map.get-entries s.retained w.0 ∙ w.2), w.3)

  pub count_if : IsGreatestCount O (greatest_count es)
  count_if = record {
    above = λ t k p. kept_is t k p (map.get s.retained t) (is.retained t) refl;
    reached = reached_by (reached es (map.entries_sorted s.retained));
  }

pub count_is : (O : List Operation) (s : State) → IsStateOf O s → IsGreatestCount O (greatest_count (map.entries s.retained))
count_is O s is = count_if O s is
