-- The latest of what stands at some dots, and what is live of a client to a filter.
use Rattle.std.proofs.Common.{◌≡◌, ◌↔◌, ℕ, suc, ◌+◌, ◌-◌, ◌^◌, ◌<◌, Bool, true, false, cond, if◌then◌else◌, not, ◌&&◌, ◌||◌, T, List, [], ◌∷◌, ◌++◌, map as map_list, Option, Some, None, nat_le, nat_lt, ◌⊎◌, inl, inr, arith, refl, sym, ap, subst, ◌∙◌}
use Rattle.std.specs.List.{filter, list_any, list_all}
use Rattle.std.specs.Option.{unwrap_or, option_to_list}
use Rattle.std.specs.Cmp.{IsTotalOrder, nat_cmp_total}
use Rattle.std.specs.Cmp.Lexicographic.{bytes_decides}
use Rattle.std.specs.Ordering.{eq_by_cmp, is_eq, is_lt, ordering_reverse}
use Rattle.std.specs.declared.cmp.Ordering.{Ordering}
use Rattle.std.specs.declared.cmp.Ordering.TheVariants.{Less, Equal, Greater}
use Rattle.std.specs.FinMap.Entries.{is_sorted, where_key, same_entries, find-where_key, is_sorted-where_key}
use Rattle.std.specs.FinMap as map
use Rattle.std.specs.FinSet as set
use Rattle.std.proofs.lemmas.Cmp.{on_total, then_total, tied_itself}
use Rattle.causal_context.specs.Dots.{Dot, Dots, dot_cmp, dot_cmp_total, dot_cmp_antisym, dot_of}
use Rattle.causal_context.specs.declared.ranges.Range.{Range}
use Rattle.causal_context.specs.Ranges.{dots_from, dots_in}
use Rattle.causal_context.proofs.RangeSets.{tied_is}
use Rattle.bridge_frames.specs.declared.pick.Pick.{Pick}
use Rattle.filter_trie.specs.Selected.{IsSelected}
use Rattle.bridge_routes.specs.Copies.{AreLive}
use Rattle.mqtt_message.specs.declared.message.Message.{Message}
use Rattle.mqtt_topics.specs.Matching.{Matches}
use Rattle.subscription_set.specs.Entries.{Entry, entry_eq, entry_eq-decides, is_of, same_text, same_subscription, recency_cmp}
use Rattle.subscription_set.specs.Standing as standing
use Rattle.subscription_set.specs.Standing.{Entries, find_entry, is_latest, latest, live}
use Rattle.subscription_set.proofs.Present.{rises-present}
use Rattle.subscription_set.specs.Statuses.{Statuses}
use Rattle.subscription_set.proofs.Indexing.{found_any, in_found}
use Rattle.subscription_set.proofs.Latest.{IsIn, latest_apart}
use Rattle.subscription_set.proofs.Lists.{contains-dots_in}
use Rattle.bridge_routes.specs.Latest.{IsLatest, beside, is_after, later, latest_from, standing_at}
use Rattle.bridge_routes.specs.Taken.{IsPicked}

either : (b : Bool) → (b || true) ≡ true
either true = refl
either false = refl

and_first : (a b : Bool) → (a && b) ≡ true → a ≡ true
and_first true b e = refl
and_first false b e = cc

and_second : (a b : Bool) → (a && b) ≡ true → b ≡ true
and_second true b e = e
and_second false b e = cc

itself : (d : Dot) → eq_by_cmp dot_cmp d d ≡ true
itself d = ap is_eq (tied_itself dot_cmp_total d)

same_some : {A : Type 0} (x y : A) → Some x ≡ Some y → x ≡ y
same_some x y e = ap (λ o. unwrap_or o x) e

-- ---- which of two is later

recency_total : IsTotalOrder recency_cmp
recency_total = then_total (on_total (λ (x : Dot × Entry). x.1.version) nat_cmp_total) (then_total (on_total (λ (x : Dot × Entry). x.0.number) nat_cmp_total) (on_total (λ (x : Dot × Entry). x.0.node) nat_cmp_total))

less_is : (r : Ordering) → is_lt r ≡ true → r ≡ Less
less_is Less e = refl
less_is Equal e = cc
less_is Greater e = cc

not_before : (x y z : Dot × Entry) → is_lt (recency_cmp x y) ≡ true → is_lt (recency_cmp x z) ≡ false → is_lt (recency_cmp y z) ≡ false
not_before x y z less isnt = by (is_lt (recency_cmp y z)) refl
  where
    by : (b : Bool) → is_lt (recency_cmp y z) ≡ b → is_lt (recency_cmp y z) ≡ false
    by true e = (let t = ap is_lt (recency_total.trans x y z (less_is (recency_cmp x y) less) (less_is (recency_cmp y z) e)) in cc)
    by false e = e

-- ---- the later of two

keeps : (x : Option (Dot × Entry)) (d : Dot) (o : Option Entry) (y : Dot × Entry) → is_after x y ≡ false → is_after (later x d o) y ≡ false
keeps x d None y h = h
keeps None d (Some e) y h = cc
keeps (Some x) d (Some e) y h = by (is_lt (recency_cmp x (d, e))) refl
  where
    by : (b : Bool) → is_lt (recency_cmp x (d, e)) ≡ b → is_after (if b then Some (d, e) else Some x) y ≡ false
    by true t = not_before x (d, e) y t h
    by false t = h

takes : (x : Option (Dot × Entry)) (d : Dot) (e : Entry) → is_after (later x d (Some e)) (d, e) ≡ false
takes None d e = ap is_lt (tied_itself recency_total (d, e))
takes (Some x) d e = by (is_lt (recency_cmp x (d, e))) refl
  where
    by : (b : Bool) → is_lt (recency_cmp x (d, e)) ≡ b → is_after (if b then Some (d, e) else Some x) (d, e) ≡ false
    by true t = ap is_lt (tied_itself recency_total (d, e))
    by false t = t

dot_is : (d : Dot) (node number : ℕ) → dot_of node number ≡ Some d → d ≡ record { node = node; number = number }
dot_is d node number e = by (nat_le 1 number && nat_lt number (2 ^ 62)) e
  where
    by : (b : Bool) → (if b then Some (record { node = node; number = number }) else None) ≡ Some d → d ≡ record { node = node; number = number }
    by true k = sym (same_some (record { node = node; number = number }) d k)
    by false k = cc

one_on : (first i : ℕ) → first + (i + 1) ≡ first + i + 1
one_on first i = omega arith

one_less : (n i : ℕ) → i < n → n - i ≡ suc (n - (i + 1))
one_less n i more = omega arith

module _ (es : Entries) where
  -- ---- the walk over the dots

  pub range_step : (x next : Option (Dot × Entry)) (node first n i : ℕ) (d : Dot) → i < n → dot_of node (first + i) ≡ Some d → next ≡ later x d (find_entry d es)
      → latest_from es next (dots_from node (first + (i + 1)) (n - (i + 1))) ≡ latest_from es x (dots_from node (first + i) (n - i))
  range_step x next node first n i d more is step =
      let here : Dot = record { node = node; number = first + i } in
      ap (λ y. latest_from es y (dots_from node (first + (i + 1)) (n - (i + 1)))) (step ∙ ap (λ q. later x q (find_entry q es)) (dot_is d node (first + i) is))
      ∙ ap (λ k. latest_from es (later x here (find_entry here es)) (dots_from node k (n - (i + 1)))) (one_on first i)
      ∙ ap (λ k. latest_from es x (dots_from node (first + i) k)) (sym (one_less n i more))

  latest_append : (x : Option (Dot × Entry)) (ds rest : List Dot) → latest_from es x (ds ++ rest) ≡ latest_from es (latest_from es x ds) rest
  latest_append x [] rest = refl
  latest_append x (d ∷ ds) rest = latest_append (later x d (find_entry d es)) ds rest

  pub ranges_step : (x next : Option (Dot × Entry)) (r : Range) (rs left : List Range) → rs ≡ r ∷ left → next ≡ latest_from es x (dots_from r.node r.first (r.last + 1 - r.first))
      → latest_from es next (dots_in left) ≡ latest_from es x (dots_in rs)
  unfolding dots_in
  ranges_step x next r rs left one step =
      ap (λ y. latest_from es y (dots_in left)) step
      ∙ sym (latest_append x (dots_from r.node r.first (r.last + 1 - r.first)) (dots_in left))
      ∙ ap (λ l. latest_from es x (dots_in l)) (sym one)

  pub ranges_end : (x : Option (Dot × Entry)) (left : List Range) → left ≡ [] → latest_from es x (dots_in left) ≡ x
  unfolding dots_in
  ranges_end x left none = ap (λ l. latest_from es x (dots_in l)) none

  -- ---- what the walk finds

  keeps_all : (ds : List Dot) (x : Option (Dot × Entry)) (y : Dot × Entry) → is_after x y ≡ false → is_after (latest_from es x ds) y ≡ false
  keeps_all [] x y h = h
  keeps_all (d ∷ ds) x y h = keeps_all ds (later x d (find_entry d es)) y (keeps x d (find_entry d es) y h)

  takes_all : (ds : List Dot) (x : Option (Dot × Entry)) (q : Dot) (f : Entry) → list_any (eq_by_cmp dot_cmp q) ds ≡ true → find_entry q es ≡ Some f → is_after (latest_from es x ds) (q, f) ≡ false
  takes_all [] x q f there is = cc
  takes_all (d ∷ ds) x q f there is = by (eq_by_cmp dot_cmp q d) refl there (λ h. takes_all ds (later x d (find_entry d es)) q f h is)
    where
      by : (b : Bool) → eq_by_cmp dot_cmp q d ≡ b → (b || list_any (eq_by_cmp dot_cmp q) ds) ≡ true
          → (list_any (eq_by_cmp dot_cmp q) ds ≡ true → is_after (latest_from es (later x d (find_entry d es)) ds) (q, f) ≡ false)
          → is_after (latest_from es (later x d (find_entry d es)) ds) (q, f) ≡ false
      by true t h rest = keeps_all ds (later x d (find_entry d es)) (q, f)
          (ap (λ p. is_after (later x p (find_entry p es)) (q, f)) (sym (tied_is q d t)) ∙ ap (λ o. is_after (later x q o) (q, f)) is ∙ takes x q f)
      by false t h rest = rest h

  -- it comes from before, or from one of the dots
  abbrev IsFrom : List Dot → Option (Dot × Entry) → Dot × Entry → Type 0
  IsFrom ds x y = (x ≡ Some y) ⊎ ((list_any (eq_by_cmp dot_cmp y.0) ds ≡ true) × (find_entry y.0 es ≡ Some y.1))

  from_one : (d : Dot) (ds : List Dot) (x : Option (Dot × Entry)) (y : Dot × Entry) (o : Option Entry) → find_entry d es ≡ o → later x d o ≡ Some y → IsFrom (d ∷ ds) x y
  from_one d ds x y None is h = inl h
  from_one d ds x y (Some e) is h = by (is_after x (d, e)) h
    where
      by : (b : Bool) → (if b then Some (d, e) else x) ≡ Some y → IsFrom (d ∷ ds) x y
      by true k =
          let same : (d, e) ≡ y = same_some (d, e) y k in
          inr (ap (λ b. b || list_any (eq_by_cmp dot_cmp y.0) ds) (ap (λ z. eq_by_cmp dot_cmp z.0 d) (sym same) ∙ itself d), ap (λ z. find_entry z.0 es) (sym same) ∙ is ∙ ap (λ z. Some z.1) same)
      by false k = inl k

  from_some : (ds : List Dot) (x : Option (Dot × Entry)) (y : Dot × Entry) → latest_from es x ds ≡ Some y → IsFrom ds x y
  from_some [] x y h = inl h
  from_some (d ∷ ds) x y h = elim (from_some ds (later x d (find_entry d es)) y h) as (λ _. IsFrom (d ∷ ds) x y) [
    | inl k ↦ from_one d ds x y (find_entry d es) refl k
    | inr k ↦ inr (ap (λ b. eq_by_cmp dot_cmp y.0 d || b) k.0 ∙ either (eq_by_cmp dot_cmp y.0 d), k.1)
  ]

  module _ (ds : List Dot) (dots : Dots) (is : set.from_list {R = dot_cmp} ds ≡ dots) where
    among : (q : Dot) → set.contains dots q ≡ list_any (eq_by_cmp dot_cmp q) ds
    among q = ap (λ s. set.contains s q) (sym is) ∙ set.contains-from_list dot_cmp_total ds q

    pub found_nothing : None ≡ latest_from es None ds → IsLatest es dots None
    found_nothing none q there = by (find_entry q es) refl
      where
        by : (o : Option Entry) → find_entry q es ≡ o → find_entry q es ≡ None
        by None e = e
        by (Some f) e = absurd (let never = ap (λ o. is_after o (q, f)) none ∙ takes_all ds None q f (sym (among q) ∙ there) e in cc)

    found_some : (d : Dot) (e : Entry) → Some (d, e) ≡ latest_from es None ds → IsLatest es dots (Some e)
    found_some d e some = elim (from_some ds None (d, e) (sym some)) as (λ _. IsLatest es dots (Some e)) [
      | inl k ↦ absurd cc
      | inr k ↦ (d, among d ∙ k.0, k.1, λ q f there at. ap (λ o. is_after o (q, f)) some ∙ takes_all ds None q f (sym (among q) ∙ there) at)
    ]

    pub found_at : (d : Dot) (o : Option Entry) → o ≡ find_entry d es → standing_at es (Some d) ≡ latest_from es None ds → IsLatest es dots o
    found_at d None at some = found_nothing (ap (beside d) at ∙ some)
    found_at d (Some e) at some = found_some d e (ap (beside d) at ∙ some)

-- ---- what is live of a client to a filter

all_of : {X : Type 0} (p : X → Bool) (xs : List X) → ((x : X) → IsIn xs x → p x ≡ true) → list_all p xs ≡ true
all_of p [] h = refl
all_of p (x ∷ xs) h =
    let rest = all_of p xs (λ y i. h y (λ t e. ap (λ b. t x || b) (i t e) ∙ either (t x))) in
    (λ i. h x (λ t e. ap (λ b. b || list_any t xs) e) i && rest i)

none_kept : {X : Type 0} (xs : List X) → filter (λ x. false) xs ≡ []
none_kept [] = refl
none_kept (x ∷ xs) = none_kept xs

module _ (P : Entry → Type 0) (L t : Dot × Entry → Bool) where
  -- what has the property among those that pass a test are those that pass another
  selected_those : (xs : Entries) → ((x : Dot × Entry) → IsIn xs x → L x ≡ true → P x.1 → t x ≡ true) → ((x : Dot × Entry) → IsIn xs x → t x ≡ true → (L x ≡ true) × P x.1)
      → IsSelected P (map_list (λ x. x.1) (filter L xs)) (map_list (λ x. x.1) (filter t xs))
  selected_those [] to from = refl
  selected_those (x ∷ xs) to from =
      by (L x) (t x) refl refl (selected_those xs (λ y i. to y (behind y i)) (λ y i. from y (behind y i)))
    where
      front : IsIn (x ∷ xs) x
      front u e = ap (λ b. b || list_any u xs) e

      behind : (y : Dot × Entry) → IsIn xs y → IsIn (x ∷ xs) y
      behind y i u e = ap (λ b. u x || b) (i u e) ∙ either (u x)

      by : (a b : Bool) → L x ≡ a → t x ≡ b → IsSelected P (map_list (λ y. y.1) (filter L xs)) (map_list (λ y. y.1) (filter t xs))
          → IsSelected P (map_list (λ y. y.1) (cond a (x ∷ filter L xs) (filter L xs))) (map_list (λ y. y.1) (cond b (x ∷ filter t xs) (filter t xs)))
      by true true l k rest = inl ((from x front k).1, (map_list (λ y. y.1) (filter t xs), refl, rest))
      by true false l k rest = inr ((λ h. absurd (let never = to x front l h in cc)), rest)
      by false true l k rest = absurd (let never = (from x front k).0 in cc)
      by false false l k rest = rest

module _ (es : Entries) (rises : T (is_sorted dot_cmp es)) (client name : List ℕ) (dots : Dots) (is : dots ≡ standing.dots_in (is_of client (Some name)) es) where
  there : (q : Dot) → set.contains dots q ≡ list_any (λ x. is_of client (Some name) x.1 && eq_by_cmp dot_cmp q x.0) es
  there q = ap (λ s. set.contains s q) is ∙ contains-dots_in (is_of client (Some name)) es q

  at_dot : (q : Dot) (e : Entry) → find_entry q es ≡ Some e → is_of client (Some name) e ≡ true → set.contains dots q ≡ true
  at_dot q e found of = there q ∙ in_found es q e found (λ x. is_of client (Some name) x.1 && eq_by_cmp dot_cmp q x.0) (λ i. of i && itself q i)

  of_dot : (q : Dot) (e : Entry) → set.contains dots q ≡ true → find_entry q es ≡ Some e → is_of client (Some name) e ≡ true
  of_dot q e here found =
      let f = found_any (λ x. is_of client (Some name) x.1 && eq_by_cmp dot_cmp q x.0) es rises (sym (there q) ∙ here) in
      let same : q ≡ f.0 = tied_is q f.0 (and_second (is_of client (Some name) f.1) (eq_by_cmp dot_cmp q f.0) f.2.1) in
      let one : e ≡ f.1 = same_some e f.1 (sym found ∙ ap (λ d. find_entry d es) same ∙ f.2.0) in
      ap (is_of client (Some name)) one ∙ and_first (is_of client (Some name) f.1) (eq_by_cmp dot_cmp q f.0) f.2.1

  found_in : (x : Dot × Entry) → IsIn es x → find_entry x.0 es ≡ Some x.1
  found_in x i =
      let u : Dot × Entry → Bool = λ y. eq_by_cmp dot_cmp x.0 y.0 && entry_eq x.1 y.1 in
      let f = found_any u es rises (i u (λ k. itself x.0 k && (entry_eq-decides x.1 x.1).1 refl k)) in
      ap (λ d. find_entry d es) (tied_is x.0 f.0 (and_first _ _ f.2.1)) ∙ f.2.0 ∙ ap Some (sym ((entry_eq-decides x.1 f.1).0 (and_second _ _ f.2.1)))

  module _ (P : Entry → Type 0) (decides : (e : Entry) → (is_of client (Some name) e ≡ true) ↔ P e) where
    pub live_nothing : IsLatest es dots None → IsSelected P (map_list (λ x. x.1) (latest es)) []
    live_nothing none =
        subst (IsSelected P (map_list (λ x. x.1) (latest es))) (ap (map_list (λ x. x.1)) (none_kept es))
        (selected_those P (is_latest es) (λ x. false) es
        (λ x i l h. absurd (let never = sym (none x.0 (at_dot x.0 x.1 (found_in x i) ((decides x.1).1 h))) ∙ found_in x i in cc))
        (λ x i k. absurd cc))

    module _ (d : Dot) (e : Entry) (here : set.contains dots d ≡ true) (found : find_entry d es ≡ Some e)
        (last : (q : Dot) (f : Entry) → set.contains dots q ≡ true → find_entry q es ≡ Some f → is_lt (recency_cmp (d, e) (q, f)) ≡ false) where
      of : is_of client (Some name) e ≡ true
      of = of_dot d e here found

      one_client : client ≡ e.client
      one_client = (bytes_decides client e.client).0 (and_first (same_text client e.client) (same_text name e.filter) of)

      one_filter : name ≡ e.filter
      one_filter = (bytes_decides name e.filter).0 (and_second (same_text client e.client) (same_text name e.filter) of)

      -- no other of the client and the filter is later
      none_later : (y : Dot × Entry) → IsIn es y → not (same_subscription e y.1 && is_lt (recency_cmp (d, e) y)) ≡ true
      none_later y i = by (same_subscription e y.1) refl
        where
          by : (b : Bool) → same_subscription e y.1 ≡ b → not (b && is_lt (recency_cmp (d, e) y)) ≡ true
          by false k = refl
          by true k =
              let theirs : y.1.client ≡ e.client = (bytes_decides y.1.client e.client).0 (and_first _ _ k) in
              let its : y.1.filter ≡ e.filter = (bytes_decides y.1.filter e.filter).0 (and_second (same_text y.1.client e.client) _ k) in
              let also : is_of client (Some name) y.1 ≡ true = (λ i. (bytes_decides client y.1.client).1 (one_client ∙ sym theirs) i && (bytes_decides name y.1.filter).1 (one_filter ∙ sym its) i) in
              ap not (last y.0 y.1 (at_dot y.0 y.1 (found_in y i) also) (found_in y i))

      is_last : is_latest es (d, e) ≡ true
      is_last = all_of (λ y. not (same_subscription e y.1 && is_lt (recency_cmp (d, e) y))) es none_later

      -- the others of them that are the latest are at its dot
      at_one : (x : Dot × Entry) → IsIn es x → is_latest es x ≡ true → is_of client (Some name) x.1 ≡ true → eq_by_cmp dot_cmp d x.0 ≡ true
      at_one x i l of_x = by (dot_cmp d x.0) refl
        where
          client_same : same_text e.client x.1.client ≡ true
          client_same = (bytes_decides e.client x.1.client).1 (sym one_client ∙ (bytes_decides client x.1.client).0 (and_first (same_text client x.1.client) (same_text name x.1.filter) of_x))

          filter_same : same_text e.filter x.1.filter ≡ true
          filter_same = (bytes_decides e.filter x.1.filter).1 (sym one_filter ∙ (bytes_decides name x.1.filter).0 (and_second (same_text client x.1.client) (same_text name x.1.filter) of_x))

          turn : (a b : List ℕ) → same_text a b ≡ true → same_text b a ≡ true
          turn a b k = (bytes_decides b a).1 (sym ((bytes_decides a b).0 k))

          by : (r : Ordering) → dot_cmp d x.0 ≡ r → eq_by_cmp dot_cmp d x.0 ≡ true
          by Equal k = ap is_eq k
          by Less k = absurd (latest_apart es (d, e) x (in_found es d e found) i is_last l k client_same filter_same)
          by Greater k = absurd (latest_apart es x (d, e) i (in_found es d e found) l is_last (dot_cmp_total.antisymm x.0 d ∙ ap ordering_reverse k) (turn e.client x.1.client client_same) (turn e.filter x.1.filter filter_same))

      only : where_key dot_cmp (λ q. eq_by_cmp dot_cmp d q) es ≡ (d, e) ∷ []
      only = same_entries dot_cmp dot_cmp_total dot_cmp_antisym (where_key dot_cmp (λ q. eq_by_cmp dot_cmp d q) es) ((d, e) ∷ []) (is_sorted-where_key dot_cmp (λ q. eq_by_cmp dot_cmp d q) es rises) tt
          (λ q. find-where_key dot_cmp (λ p. eq_by_cmp dot_cmp d p) q (λ x k. ap (eq_by_cmp dot_cmp d) (sym (dot_cmp_antisym q x k))) es ∙ by q (eq_by_cmp dot_cmp d q) refl)
        where
          by : (q : Dot) (b : Bool) → eq_by_cmp dot_cmp d q ≡ b → cond b (find_entry q es) None ≡ cond (eq_by_cmp dot_cmp q d) (Some e) None
          by q true k =
              let same : d ≡ q = tied_is d q k in
              ap (λ p. find_entry p es) (sym same) ∙ found ∙ ap (λ b. cond b (Some e) None) (sym (ap (λ p. eq_by_cmp dot_cmp p d) (sym same) ∙ itself d))
          by q false k = other (eq_by_cmp dot_cmp q d) refl
            where
              other : (b : Bool) → eq_by_cmp dot_cmp q d ≡ b → None ≡ cond b (Some e) None
              other false j = refl
              other true j = absurd (let never = sym (itself d) ∙ ap (eq_by_cmp dot_cmp d) (sym (tied_is q d j)) ∙ k in cc)

      pub live_one : IsSelected P (map_list (λ x. x.1) (latest es)) (e ∷ [])
      live_one =
          subst (IsSelected P (map_list (λ x. x.1) (latest es))) (ap (map_list (λ x. x.1)) only)
          (selected_those P (is_latest es) (λ x. eq_by_cmp dot_cmp d x.0) es
          (λ x i l h. at_one x i l ((decides x.1).1 h))
          (λ x i k.
          let at : d ≡ x.0 = tied_is d x.0 k in
          let one : e ≡ x.1 = same_some e x.1 (sym found ∙ ap (λ q. find_entry q es) at ∙ found_in x i) in
          (ap (is_latest es) (λ j. (sym at j, sym one j)) ∙ is_last, subst P one ((decides e).0 of))))

    -- what is live of it is the latest of what stands
    pub live_of : (o : Option Entry) → IsLatest es dots o → IsSelected P (map_list (λ x. x.1) (latest es)) (option_to_list o)
    live_of None h = live_nothing h
    live_of (Some e) h = live_one h.0 e h.1 h.2 h.3

-- ---- what is live of a pick

rises_standing : (m : Statuses) → T (is_sorted dot_cmp (standing.standing m))
unfolding standing.standing
rises_standing m = rises-present (map.entries m) (map.entries_sorted m)

selected_none : {A : Type 0} (P : A → Type 0) (xs : List A) → ((x : A) → ¬ (P x)) → IsSelected P xs []
selected_none P [] h = refl
selected_none P (x ∷ xs) h = inr (h x, selected_none P xs h)

module _ (m : Message) (p : Pick) (subscriptions : Statuses) where
  pub matches_nothing : ¬ (Matches p.filter m.topic) → AreLive (IsPicked m p) (live subscriptions) []
  matches_nothing never = selected_none (IsPicked m p) _ (λ e h. never (subst (λ f. Matches f m.topic) h.1 h.2))

  picks : Matches p.filter m.topic → (e : Entry) → (is_of p.client (Some p.filter) e ≡ true) ↔ IsPicked m p e
  picks hit e = (
    (λ k.
        let its = (bytes_decides p.filter e.filter).0 (and_second (same_text p.client e.client) (same_text p.filter e.filter) k) in
        (sym ((bytes_decides p.client e.client).0 (and_first (same_text p.client e.client) (same_text p.filter e.filter) k)), sym its, subst (λ f. Matches f m.topic) its hit)),
    (λ h i. (bytes_decides p.client e.client).1 (sym h.0) i && (bytes_decides p.filter e.filter).1 (sym h.1) i),
  )

  pub latest_is_live : (dots : Dots) (o : Option Entry) → Matches p.filter m.topic → dots ≡ standing.dots_of p.client (Some p.filter) subscriptions → IsLatest (standing.standing subscriptions) dots o
      → AreLive (IsPicked m p) (live subscriptions) (option_to_list o)
  unfolding live
  latest_is_live dots o hit is h = live_of (standing.standing subscriptions) (rises_standing subscriptions) p.client p.filter dots is (IsPicked m p) (picks hit) o h
