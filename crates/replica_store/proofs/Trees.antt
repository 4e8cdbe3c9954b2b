-- The lists of ordered trees, as maps.
use Rattle.std.proofs.Common.{◌≡◌, ℕ, ◌+◌, ◌≤◌, Bool, true, false, cond, ◌&&◌, if◌then◌else◌, List, [], ◌∷◌, length, is_some, T, Option, Some, None, refl, sym, ap, subst, ◌∙◌, arith}
use Rattle.std.specs.FinMap as map
use Rattle.std.specs.FinMap.Entries.{by_order, below_all, is_sorted, find, put, is_sorted-put}
use Rattle.std.specs.List.{AllByRecursion, sum_by}
use Rattle.std.specs.List.Sorted.{IsStrictlySortedBy}
use Rattle.std.specs.Map.{lookup, keys_of, values_of, remove_entry}
use Rattle.std.specs.Option.{option_map, unwrap_or}
use Rattle.std.specs.BTreeMap.{insert_entry, is_at}
use Rattle.std.specs.Ordering.{eq_by_cmp, is_lt, match_ordering}
use Rattle.std.specs.declared.cmp.Ordering.{Ordering}
use Rattle.std.specs.declared.cmp.Ordering.TheVariants.{Less, Equal, Greater}
use Rattle.std.specs.Cmp.{eq_by_cmp_equiv}
use Rattle.std.specs.Cmp.Lexicographic.{nat_list_cmp_total}
use Rattle.std.proofs.lemmas.Map.Entries.{sum_by-insert_entry, sum_by-remove_entry}
use Rattle.std.proofs.lemmas.List.Sums.{sum_by-cons}
use Rattle.subscription_set.specs.Sorted.{Rises}
use Rattle.replica_store.specs.declared.kept.Kept.{Kept}
use Rattle.replica_store.specs.Retained.{Retained, topic_cmp, with_message, holds_message}
use Rattle.replica_store.specs.RetainedLattice.{topic_cmp_antisym}
use Rattle.replica_store.specs.Merging.{Entries}

both : (a b : Bool) → T a → T b → T (a && b)
both true b p q = q
both false b p q = p

-- what is looked up is found
pub found : (es : Entries) (q : List ℕ) → find topic_cmp q es ≡ lookup (is_at (topic_cmp q)) es
found [] q = refl
found (e ∷ es) q = ap (cond (eq_by_cmp topic_cmp q e.0) (Some e.1)) (found es q)

-- what the map has of a topic is looked up
pub found_in : (es : Entries) (now : Retained) (q : List ℕ) → Rises topic_cmp es → map.from_sorted es ≡ now → map.get now q ≡ lookup (is_at (topic_cmp q)) es
found_in es now q h view = ap (λ m. map.get m q) (sym view) ∙ map.get-from_sorted topic_cmp es q h ∙ found es q

pub entries_are : (es : Entries) (now : Retained) → Rises topic_cmp es → map.from_sorted es ≡ now → es ≡ map.entries now
entries_are es now h view = sym (map.entries-from_sorted topic_cmp es h) ∙ ap map.entries view

pub none_there : (es : Entries) → es ≡ [] → map.from_sorted {R = topic_cmp} es ≡ map.empty
none_there es e = ap (map.from_sorted {R = topic_cmp}) e ∙ map.same_map nat_list_cmp_total topic_cmp_antisym (map.from_sorted {X = Kept} {R = topic_cmp} []) map.empty (λ q. map.get-from_sorted topic_cmp [] q tt ∙ sym (map.get-empty topic_cmp q))

less_lt : (o : Ordering) → o ≡ Less → T (is_lt o)
less_lt o e = subst (λ r. T (is_lt r)) (sym e) tt

below : (k : List ℕ) (es : Entries) → AllByRecursion (λ y. topic_cmp k y ≡ Less) (keys_of es) → T (below_all topic_cmp k es)
below k [] up = tt
below k (e ∷ es) up = both (is_lt (topic_cmp k e.0)) (below_all topic_cmp k es) (less_lt (topic_cmp k e.0) up.0) (below k es up.1)

-- a tree's list rises
pub rises : (es : Entries) → IsStrictlySortedBy topic_cmp (keys_of es) → Rises topic_cmp es
unfolding IsStrictlySortedBy
rises [] up = tt
rises (e ∷ es) up = both (below_all topic_cmp e.0 es) (is_sorted topic_cmp es) (below e.0 es up.0) (rises es up.1)

-- to insert into the list is to put in
put_is : (es : Entries) (k : List ℕ) (v : Kept) → insert_entry topic_cmp es k v ≡ put topic_cmp k v es
put_is [] k v = refl
put_is (e ∷ es) k v = elim (topic_cmp k e.0) as (λ o. match_ordering o ((k, v) ∷ e ∷ es) ((e.0, v) ∷ es) (e ∷ insert_entry topic_cmp es k v) ≡ by_order o ((k, v) ∷ e ∷ es) ((e.0, v) ∷ es) (e ∷ put topic_cmp k v es)) [
  | Less ↦ refl
  | Equal ↦ refl
  | Greater ↦ ap (λ l. e ∷ l) (put_is es k v)
]

pub inserted : (es out : Entries) (k : List ℕ) (v : Kept) → Rises topic_cmp es → out ≡ insert_entry topic_cmp es k v → map.from_sorted {R = topic_cmp} out ≡ map.insert (map.from_sorted es) k v
inserted es out k v h is =
    let now : out ≡ put topic_cmp k v es = is ∙ put_is es k v in
    map.same_entries_map _ _
    (map.entries-from_sorted topic_cmp out (subst (Rises topic_cmp) (sym now) (is_sorted-put topic_cmp nat_list_cmp_total k v es h)) ∙ now
    ∙ ap (put topic_cmp k v) (sym (map.entries-from_sorted topic_cmp es h)) ∙ sym (map.entries-insert nat_list_cmp_total (map.from_sorted es) k v))

pub inserted_rises : (es out : Entries) (k : List ℕ) (v : Kept) → Rises topic_cmp es → out ≡ insert_entry topic_cmp es k v → Rises topic_cmp out
inserted_rises es out k v h is = subst (Rises topic_cmp) (sym (is ∙ put_is es k v)) (is_sorted-put topic_cmp nat_list_cmp_total k v es h)

pub removed : (es out : Entries) (k : List ℕ) → Rises topic_cmp es → Rises topic_cmp out → ((q : List ℕ) → lookup (is_at (topic_cmp q)) out ≡ cond (is_at (topic_cmp k) q) None (lookup (is_at (topic_cmp q)) es))
    → map.from_sorted {R = topic_cmp} out ≡ map.remove (map.from_sorted es) k
removed es out k h l updates = map.same_map nat_list_cmp_total topic_cmp_antisym _ _ (λ q.
    map.get-from_sorted topic_cmp out q l ∙ found out q ∙ updates q
    ∙ (λ i. cond ((eq_by_cmp_equiv nat_list_cmp_total).symm k q i) None ((sym (found es q) ∙ sym (map.get-from_sorted topic_cmp es q h)) i))
    ∙ sym (map.get-remove nat_list_cmp_total (map.from_sorted es) k q))

-- ---- how many have a message

abbrev weight : Kept → ℕ
weight k = if is_some k.message then 1 else 0

one_more : (b : Bool) (e : List ℕ × Kept) (es : Entries) → length (if b then e ∷ es else es) ≡ (if b then 1 else 0) + length es
one_more true e es = omega arith
one_more false e es = omega arith

weighed : (es : Entries) → length (with_message es) ≡ sum_by weight (values_of es)
weighed [] = refl
weighed (e ∷ es) = one_more (is_some e.1.message) e (with_message es) ∙ ap (λ n. weight e.1 + n) (weighed es) ∙ sym (sum_by-cons weight e.1 (values_of es))

old_weight : (old : Option Kept) → unwrap_or (option_map weight old) 0 ≡ (if holds_message old then 1 else 0)
old_weight None = refl
old_weight (Some k) = refl

pub inserted_weight : (es out : Entries) (k : List ℕ) (v : Kept) (old : Option Kept) → IsStrictlySortedBy topic_cmp (keys_of es) → old ≡ lookup (is_at (topic_cmp k)) es → out ≡ insert_entry topic_cmp es k v
    → length (with_message out) + (if holds_message old then 1 else 0) ≡ length (with_message es) + (if is_some v.message then 1 else 0)
inserted_weight es out k v old up was is =
    (λ i. (weighed out ∙ ap (λ l. sum_by weight (values_of l)) is) i + (sym (old_weight old) ∙ ap (λ o. unwrap_or (option_map weight o) 0) was) i)
    ∙ sum_by-insert_entry weight nat_list_cmp_total es k v up ∙ ap (λ n. n + weight v) (sym (weighed es))

pub removed_weight : (es out : Entries) (k : List ℕ) (old : Option Kept) → old ≡ lookup (is_at (topic_cmp k)) es → out ≡ remove_entry (is_at (topic_cmp k)) es
    → length (with_message out) + (if holds_message old then 1 else 0) ≡ length (with_message es)
removed_weight es out k old was is =
    (λ i. (weighed out ∙ ap (λ l. sum_by weight (values_of l)) is) i + (sym (old_weight old) ∙ ap (λ o. unwrap_or (option_map weight o) 0) was) i)
    ∙ sum_by-remove_entry weight (is_at (topic_cmp k)) es ∙ sym (weighed es)

pub at_most : (es : Entries) → length (with_message es) ≤ length es
at_most [] = omega arith
at_most (e ∷ es) = (let rest = at_most es in let step = one_more (is_some e.1.message) e (with_message es) in elim (is_some e.1.message) as (λ b. length (if b then e ∷ with_message es else with_message es) ≤ length (e ∷ es)) [ true ↦ omega (arith, rest) | false ↦ omega (arith, rest) ])

abbrev one_if : Bool → ℕ
one_if b = if b then 1 else 0

-- the count of a map after an entry was put in
pub counted : (es out : Entries) (k : List ℕ) (v : Kept) (old : Option Kept) → Rises topic_cmp es → IsStrictlySortedBy topic_cmp (keys_of es) → old ≡ lookup (is_at (topic_cmp k)) es → out ≡ insert_entry topic_cmp es k v
    → (gained lost : Bool) → gained ≡ is_some v.message → lost ≡ holds_message old → (was now : ℕ) → was ≡ length (with_message es) → now + (if lost then 1 else 0) ≡ was + (if gained then 1 else 0)
    → Rises topic_cmp out × (now ≡ length (with_message out))
counted es out k v old h up at is gained lost g l was now count change =
    let weights = inserted_weight es out k v old up at is in
    let here = ap one_if g in
    let gone = ap one_if l in
    (inserted_rises es out k v h is, omega (arith, weights, here, gone, count, change))

pub can_lose : (es out : Entries) (k : List ℕ) (v : Kept) (old : Option Kept) → IsStrictlySortedBy topic_cmp (keys_of es) → old ≡ lookup (is_at (topic_cmp k)) es → out ≡ insert_entry topic_cmp es k v
    → (gained lost : Bool) → gained ≡ is_some v.message → lost ≡ holds_message old → (was : ℕ) → was ≡ length (with_message es) → (if lost then 1 else 0) ≤ was + (if gained then 1 else 0)
can_lose es out k v old up at is gained lost g l was count =
    let weights = inserted_weight es out k v old up at is in
    let here = ap one_if g in
    let gone = ap one_if l in
    omega (arith, weights, here, gone, count)

-- and after one was taken out
pub counted_out : (es out : Entries) (k : List ℕ) (old : Option Kept) → IsStrictlySortedBy topic_cmp (keys_of out) → old ≡ lookup (is_at (topic_cmp k)) es → out ≡ remove_entry (is_at (topic_cmp k)) es
    → (lost : Bool) → lost ≡ holds_message old → (was now : ℕ) → was ≡ length (with_message es) → now + (if lost then 1 else 0) ≡ was + 0 → Rises topic_cmp out × (now ≡ length (with_message out))
counted_out es out k old up at is lost l was now count change =
    let weights = removed_weight es out k old at is in
    let gone = ap one_if l in
    (rises out up, omega (arith, weights, gone, count, change))

pub can_lose_out : (es out : Entries) (k : List ℕ) (old : Option Kept) → old ≡ lookup (is_at (topic_cmp k)) es → out ≡ remove_entry (is_at (topic_cmp k)) es → (lost : Bool) → lost ≡ holds_message old → (was : ℕ) → was ≡ length (with_message es) → (if lost then 1 else 0) ≤ was + 0
can_lose_out es out k old at is lost l was count =
    let weights = removed_weight es out k old at is in
    let gone = ap one_if l in
    omega (arith, weights, gone, count)
