-- Retained maps, by what they have of each topic.
use Rattle.std.proofs.Common.{◌≡◌, ◌↔◌, ℕ, zero, suc, ◌+◌, ◌<◌, ◌≤◌, max, Bool, true, false, cond, not, ◌&&◌, ◌||◌, if◌then◌else◌, List, [], ◌∷◌, length, filter, get_or, drop, add-one, map as map_list, T, Option, Some, None, is_some, is_none, refl, sym, ap, subst, ◌∙◌, arith, option_and_then, MatchOption, IfSome}
use Rattle.std.specs.FinMap as map
use Rattle.std.specs.FinMap.Entries.{find, put, below_all, is_sorted}
use Rattle.std.specs.Ordering.{eq_by_cmp, is_eq, is_lt, is_gt, ordering_reverse, ordering_then, nat_cmp}
use Rattle.std.specs.declared.cmp.Ordering.{Ordering}
use Rattle.std.specs.declared.cmp.Ordering.TheVariants.{Less, Equal, Greater}
use Rattle.std.specs.Cmp.Lexicographic.{nat_list_cmp_total}
use Rattle.std.specs.Map.Iter.{deref_pair}
use Rattle.std.proofs.lemmas.List.{get_or_default}
use Rattle.std.proofs.Math.Seq.{drop-cons}
use denote.Ref.{Bor}
use Rattle.std.proofs.lemmas.Cmp.{ranked, tied_itself}
use Rattle.causal_context.specs.MapLattice.{option_join, get-merge, OptionBelow}
use Rattle.causal_context.specs.OrderLattice.{NotAbove, greater, by_greater}
use Rattle.mqtt_message.specs.declared.message.Message.{Message}
use Rattle.subscription_set.specs.Sorted.{Rises, has_key, first_of}
use Rattle.subscription_set.proofs.Places.{found_here, first_part, second_part}
use Rattle.replica_store.specs.declared.content.Content.{Content}
use Rattle.replica_store.specs.declared.content.Content.TheVariants.{Set, Cleared}
use Rattle.replica_store.specs.declared.operation.Operation.{Operation}
use Rattle.replica_store.specs.Stamps.{Stamp}
use Rattle.replica_store.specs.declared.kept.Kept.{Kept}
use Rattle.replica_store.specs.Contents.{topic_in, message_in}
use Rattle.replica_store.specs.Operations.{HasKept}
use Rattle.replica_store.specs.States.{State}
use Rattle.replica_store.specs.StateOf.{IsStateOf}
use Rattle.replica_store.specs.Retained.{Retained, HasAlive, HaveOwnTopics, retained_join, RetainedBelow, one_put, kept_cmp, content_cmp, topic_cmp, greatest_count}
use Rattle.replica_store.specs.RetainedLattice.{kept_cmp_total, kept_cmp_antisym, topic_cmp_antisym}
use Rattle.replica_store.specs.Merging.{Entries, AllBelow, AllHeld, NoneHeld, KeepsOthers, fresh_in, greater_in, is_newer, is_greater, is_covered, with_all, without_all}
use Rattle.replica_store.proofs.Views.{by_test, tied_is, none_after, at_head, some_same}

abbrev Topics : Type 0
Topics = Entries

pub no_entries : map.entries (map.empty {X = Kept} {R = topic_cmp}) ≡ []
no_entries = ap map.entries (map.same_map nat_list_cmp_total topic_cmp_antisym map.empty (map.from_sorted {X = Kept} {R = topic_cmp} []) (λ q. map.get-empty topic_cmp q ∙ sym (map.get-from_sorted topic_cmp [] q tt))) ∙ map.entries-from_sorted topic_cmp [] tt

both : (a b : Bool) → T a → T b → T (a && b)
both true b p q = q
both false b p q = p

-- ---- the greatest count

count_at : Option Kept → ℕ
count_at None = 0
count_at (Some k) = k.stamp.count

count_found : (es : Topics) (q : List ℕ) → count_at (find topic_cmp q es) ≤ greatest_count es
unfolding count_at
count_found [] q = omega arith
count_found (x ∷ es) q = elim (eq_by_cmp topic_cmp q x.0) as (λ b. count_at (cond b (Some x.1) (find topic_cmp q es)) ≤ max x.1.stamp.count (greatest_count es)) [
  | true ↦ omega arith
  | false ↦ (let rest = count_found es q in omega (arith, rest))
]

counts_up_to : (es : Topics) (b : ℕ) → ((i : ℕ) (d : List ℕ × Kept) → i < length es → (get_or es i d).1.stamp.count ≤ b) → greatest_count es ≤ b
counts_up_to [] b all = omega arith
counts_up_to (x ∷ es) b all = (let here = all zero x (omega arith) in let rest = counts_up_to es b (λ i d lt. all (suc i) d (omega (arith, lt))) in omega (arith, here, rest))

found_up_to : (es : Topics) (b : ℕ) → Rises topic_cmp es → ((q : List ℕ) → count_at (find topic_cmp q es) ≤ b) → greatest_count es ≤ b
unfolding count_at
found_up_to es b h all = counts_up_to es b (λ i d lt. subst (λ y. count_at y ≤ b) (found_here nat_list_cmp_total es i (get_or es i d) h lt (get_or_default es i d (get_or es i d) lt)) (all (get_or es i d).0))

count_greater : (x y : Kept) (r s : Ordering) → r ≡ nat_cmp x.stamp.count y.stamp.count → (if is_gt (ordering_then r s) then x else y).stamp.count ≡ max x.stamp.count y.stamp.count
count_greater x y Less s e = (let less = ranked x.stamp.count y.stamp.count Less e in omega (arith, less))
count_greater x y Equal s e = elim (is_gt s) as (λ b. (if b then x else y).stamp.count ≡ max x.stamp.count y.stamp.count) [
  | true ↦ (let same = ranked x.stamp.count y.stamp.count Equal e in omega (arith, same))
  | false ↦ (let same = ranked x.stamp.count y.stamp.count Equal e in omega (arith, same))
]
count_greater x y Greater s e = (let more = ranked x.stamp.count y.stamp.count Greater e in omega (arith, more))

turned_then : (r s t : Ordering) → ordering_then (ordering_then r s) t ≡ ordering_then r (ordering_then s t)
turned_then Less s t = refl
turned_then Equal s t = refl
turned_then Greater s t = refl

count_joined : (x y : Option Kept) → count_at (option_join (greater kept_cmp) x y) ≡ max (count_at x) (count_at y)
unfolding greater count_at
count_joined None None = omega arith
count_joined None (Some y) = omega arith
count_joined (Some x) None = omega arith
count_joined (Some x) (Some y) = (let rest = ordering_then (nat_cmp x.stamp.node y.stamp.node) (content_cmp x.message y.message) in
    ap (λ r. (if is_gt r then x else y).stamp.count) (turned_then (nat_cmp x.stamp.count y.stamp.count) (nat_cmp x.stamp.node y.stamp.node) (content_cmp x.message y.message)) ∙ count_greater x y (nat_cmp x.stamp.count y.stamp.count) rest refl)

-- the greatest count of a join is the greater of both
joined_greatest : (es fs out : Topics) → Rises topic_cmp es → Rises topic_cmp fs → Rises topic_cmp out → ((q : List ℕ) → find topic_cmp q out ≡ option_join (greater kept_cmp) (find topic_cmp q es) (find topic_cmp q fs)) → greatest_count out ≡ max (greatest_count es) (greatest_count fs)
joined_greatest es fs out h k l joined =
    (let both = found_up_to out (max (greatest_count es) (greatest_count fs)) l (λ q. (let a = count_found es q in let b = count_found fs q in let c = at q in omega (arith, a, b, c))) in
    let left = found_up_to es (greatest_count out) h (λ q. (let o = count_found out q in let c = at q in omega (arith, o, c))) in
    let right = found_up_to fs (greatest_count out) k (λ q. (let o = count_found out q in let c = at q in omega (arith, o, c))) in
    omega (arith, both, left, right))
  where
    at : (q : List ℕ) → count_at (find topic_cmp q out) ≡ max (count_at (find topic_cmp q es)) (count_at (find topic_cmp q fs))
    at q = ap count_at (joined q) ∙ count_joined (find topic_cmp q es) (find topic_cmp q fs)

-- of two maps
pub greatest_joined : (s t : Retained) → greatest_count (map.entries (retained_join s t)) ≡ max (greatest_count (map.entries s)) (greatest_count (map.entries t))
unfolding retained_join
greatest_joined s t = joined_greatest (map.entries s) (map.entries t) (map.entries (retained_join s t)) (map.entries_sorted s) (map.entries_sorted t) (map.entries_sorted (retained_join s t)) (λ q.
    sym (map.get-entries (retained_join s t) q) ∙ get-merge nat_list_cmp_total (greater kept_cmp) s t q ∙ (λ j. option_join (greater kept_cmp) (map.get-entries s q j) (map.get-entries t q j)))

one_entry : (topic : List ℕ) (kept : Kept) → map.entries (one_put topic kept) ≡ (topic, kept) ∷ []
unfolding one_put
one_entry topic kept = map.entries-insert nat_list_cmp_total map.empty topic kept ∙ ap (put topic_cmp topic kept) no_entries

greatest_put : (topic : List ℕ) (kept : Kept) → greatest_count (map.entries (one_put topic kept)) ≡ kept.stamp.count
greatest_put topic kept = ap greatest_count (one_entry topic kept) ∙ omega arith

-- ---- one put

get_put : (topic : List ℕ) (kept : Kept) (q : List ℕ) → map.get (one_put topic kept) q ≡ cond (eq_by_cmp topic_cmp q topic) (Some kept) None
unfolding one_put
get_put topic kept q = map.get-insert nat_list_cmp_total map.empty topic kept q ∙ ap (cond (eq_by_cmp topic_cmp q topic) (Some kept)) (map.get-empty topic_cmp q)

join_none : (x : Option Kept) → x ≡ option_join (greater kept_cmp) x None
join_none None = refl
join_none (Some x) = refl

-- the greater of what there is and another
wins_over : (x : Option Kept) (y : Kept) → (if is_newer x y then Some y else x) ≡ option_join (greater kept_cmp) x (Some y)
unfolding greater
wins_over None y = refl
wins_over (Some x) y = elim (kept_cmp x y) as (λ r. kept_cmp x y ≡ r → (if is_lt r then Some y else Some x) ≡ Some (if is_gt r then x else y)) [
  | Less ↦ λ e. refl
  | Equal ↦ λ e. ap Some (kept_cmp_antisym x y e)
  | Greater ↦ λ e. refl
] refl

module _ (s : Retained) (topic : List ℕ) (kept : Kept) where
  get-joined : (q : List ℕ) → map.get (retained_join s (one_put topic kept)) q ≡ option_join (greater kept_cmp) (map.get s q) (cond (eq_by_cmp topic_cmp q topic) (Some kept) None)
  unfolding retained_join
  get-joined q = get-merge nat_list_cmp_total (greater kept_cmp) s (one_put topic kept) q ∙ ap (option_join (greater kept_cmp) (map.get s q)) (get_put topic kept q)

  at_topic : (q : List ℕ) (b : Bool) → is_newer (map.get s topic) kept ≡ b → eq_by_cmp topic_cmp q topic ≡ true → (if b then Some kept else map.get s q) ≡ option_join (greater kept_cmp) (map.get s q) (Some kept)
  at_topic q b e t = ap (λ c. if c then Some kept else map.get s q) (sym e ∙ ap (λ u. is_newer (map.get s u) kept) (sym (tied_is {R = topic_cmp} topic_cmp_antisym q topic t))) ∙ wins_over (map.get s q) kept

  -- the entry loses, and nothing changes
  pub put_loses : is_newer (map.get s topic) kept ≡ false → s ≡ retained_join s (one_put topic kept)
  put_loses fails = map.same_map nat_list_cmp_total topic_cmp_antisym _ _ (λ q. by_test (eq_by_cmp topic_cmp q topic) (map.get s q ≡ map.get (retained_join s (one_put topic kept)) q)
      (λ t. at_topic q false fails t ∙ ap (λ b. option_join (greater kept_cmp) (map.get s q) (cond b (Some kept) None)) (sym t) ∙ sym (get-joined q))
      (λ n. join_none (map.get s q) ∙ ap (λ b. option_join (greater kept_cmp) (map.get s q) (cond b (Some kept) None)) (sym n) ∙ sym (get-joined q)))

  -- the entry wins, and takes its place
  pub put_wins : is_newer (map.get s topic) kept ≡ true → map.insert s topic kept ≡ retained_join s (one_put topic kept)
  put_wins wins = map.same_map nat_list_cmp_total topic_cmp_antisym _ _ (λ q. map.get-insert nat_list_cmp_total s topic kept q ∙ by_test (eq_by_cmp topic_cmp q topic) (cond (eq_by_cmp topic_cmp q topic) (Some kept) (map.get s q) ≡ map.get (retained_join s (one_put topic kept)) q)
      (λ t. ap (λ b. cond b (Some kept) (map.get s q)) t ∙ at_topic q true wins t ∙ ap (λ b. option_join (greater kept_cmp) (map.get s q) (cond b (Some kept) None)) (sym t) ∙ sym (get-joined q))
      (λ n. ap (λ b. cond b (Some kept) (map.get s q)) n ∙ join_none (map.get s q) ∙ ap (λ b. option_join (greater kept_cmp) (map.get s q) (cond b (Some kept) None)) (sym n) ∙ sym (get-joined q)))

  pub put_greatest : (old new : ℕ) → old ≡ greatest_count (map.entries s) → new ≡ max old kept.stamp.count → new ≡ greatest_count (map.entries (retained_join s (one_put topic kept)))
  put_greatest old new was now = (let joined = greatest_joined s (one_put topic kept) in let one = greatest_put topic kept in omega (arith, was, now, joined, one))

-- what a Put gives its topic
abbrev pub given : Stamp → Content → Kept
given stamp c = record { stamp = stamp; message = message_in c }

module _ (s new : Retained) (stamp : Stamp) (c : Content) (topic : List ℕ) (kept : Kept) (t : topic ≡ topic_in c) (k : kept ≡ given stamp c) where
  pub put_in : is_newer (map.get s topic) kept ≡ true → new ≡ map.insert s topic kept → new ≡ retained_join s (one_put (topic_in c) (given stamp c))
  put_in wins is = is ∙ put_wins s topic kept wins ∙ (λ i. retained_join s (one_put (t i) (k i)))

  pub left_out : is_newer (map.get s topic) kept ≡ false → s ≡ retained_join s (one_put (topic_in c) (given stamp c))
  left_out fails = put_loses s topic kept fails ∙ (λ i. retained_join s (one_put (t i) (k i)))

-- a map joined into the empty one
pub empty-join : (x : Retained) → retained_join map.empty x ≡ x
unfolding retained_join
empty-join x = map.same_map nat_list_cmp_total topic_cmp_antisym _ _ (λ q. get-merge nat_list_cmp_total (greater kept_cmp) map.empty x q ∙ ap (λ y. option_join (greater kept_cmp) y (map.get x q)) (map.get-empty topic_cmp q))

-- ---- messages are under their own topics

abbrev message_of : Option Kept → Option Message
message_of x = option_and_then (λ k. k.message) x

pub own_empty : HaveOwnTopics map.empty
own_empty topic m e = (let none = sym (ap message_of (map.get-empty {X = Kept} topic_cmp topic)) ∙ e in cc)

pub own_joined : (s t : Retained) → HaveOwnTopics s → HaveOwnTopics t → HaveOwnTopics (retained_join s t)
unfolding retained_join
own_joined s t h k topic m e = one (map.get s topic) (map.get t topic) (h topic m) (k topic m) (ap message_of (sym (get-merge nat_list_cmp_total (greater kept_cmp) s t topic)) ∙ e)
  where
    one : (x y : Option Kept) → (message_of x ≡ Some m → m.topic ≡ topic) → (message_of y ≡ Some m → m.topic ≡ topic) → message_of (option_join (greater kept_cmp) x y) ≡ Some m → m.topic ≡ topic
    one None y a b = b
    one (Some x) None a b = a
    one (Some x) (Some y) a b = by_greater kept_cmp_total kept_cmp_antisym x y (λ z. z.message ≡ Some m → m.topic ≡ topic) (λ _. a) (λ _. b)

pub own_content : (c : Content) (m : Message) → message_in c ≡ Some m → m.topic ≡ topic_in c
own_content (Set n) m e = (let same = some_same n m e in ap (λ x. x.topic) (sym same))
own_content (Cleared topic) m e = cc

pub own_put : (stamp : Stamp) (c : Content) → HaveOwnTopics (one_put (topic_in c) (given stamp c))
own_put stamp c q m e = by_test (eq_by_cmp topic_cmp q (topic_in c)) (m.topic ≡ q)
    (λ t. own_content c m (sym (ap message_of (get_put (topic_in c) kept q ∙ ap (λ b. cond b (Some kept) None) t)) ∙ e) ∙ sym (tied_is {R = topic_cmp} topic_cmp_antisym q (topic_in c) t))
    (λ n. (let none = sym (ap message_of (get_put (topic_in c) kept q ∙ ap (λ b. cond b (Some kept) None) n)) ∙ e in cc))
  where
    kept : Kept
    kept = given stamp c

-- and the counts go with it
pub put_kept : (s new : Retained) (stamp : Stamp) (c : Content) → HaveOwnTopics s → new ≡ retained_join s (one_put (topic_in c) (given stamp c)) → (was now : ℕ) → was ≡ greatest_count (map.entries s) → now ≡ max was stamp.count
    → HaveOwnTopics new × (now ≡ greatest_count (map.entries new))
put_kept s new stamp c own e was now a b = (
  subst HaveOwnTopics (sym e) (own_joined s (one_put (topic_in c) (given stamp c)) own (own_put stamp c)),
  put_greatest s (topic_in c) (given stamp c) was now a b ∙ ap (λ m. greatest_count (map.entries m)) (sym e),
)

pub joined_kept : (s t new : Retained) → HaveOwnTopics s → HaveOwnTopics t → new ≡ retained_join s t → (own theirs now : ℕ) → own ≡ greatest_count (map.entries s) → theirs ≡ greatest_count (map.entries t) → now ≡ max own theirs
    → HaveOwnTopics new × (now ≡ greatest_count (map.entries new))
joined_kept s t new h k e own theirs now a b c = (
  subst HaveOwnTopics (sym e) (own_joined s t h k),
  (let joined = greatest_joined s t in let is = ap (λ m. greatest_count (map.entries m)) e in omega (arith, a, b, c, joined, is)),
)

pub empty_kept : (m : Retained) → m ≡ map.empty → HaveOwnTopics m × (0 ≡ greatest_count (map.entries m))
empty_kept m e = (subst HaveOwnTopics (sym e) own_empty, sym (ap (λ r. greatest_count (map.entries r)) e ∙ ap greatest_count no_entries))

-- a message that is found is under its topic
pub alive_own : (r : Option (Bor Message)) (s : Retained) (topic : List ℕ) (kept : Kept) (now : ℕ) → HaveOwnTopics s → Some kept ≡ map.get s topic
    → MatchOption r ((m : Message) → HasAlive (Some kept) now m → ⊥) (λ m. HasAlive (Some kept) now m.now) → IfSome r (λ m. m.now.topic ≡ topic)
alive_own None s topic kept now own at none = tt
alive_own (Some r) s topic kept now own at has = own topic r.now (ap message_of (sym at) ∙ has.message)

-- what operations keep is under its own topic
pub topics_are : (O : List Operation) (s : State) → IsStateOf O s → HaveOwnTopics s.retained
topics_are O s h topic m e = by (map.get s.retained topic) (h.retained topic) e
  where
    by : (x : Option Kept) → HasKept O topic x → message_of x ≡ Some m → m.topic ≡ topic
    by None k e = cc
    by (Some kept) k e = own_content k.put.1 m (k.put.4 ∙ e) ∙ k.put.3

-- ---- what a merge brings

-- what passes the test, if there is something
abbrev keep : (Kept → Bool) → Option Kept → Option Kept
keep p None = None
keep p (Some k) = cond (p k) (Some k) None

below_filter : (p : List ℕ × Kept → Bool) (x : List ℕ) (es : Topics) → T (below_all topic_cmp x es) → T (below_all topic_cmp x (filter p es))
below_filter p x [] h = tt
below_filter p x (e ∷ es) h = (let rest = below_filter p x es (second_part (is_lt (topic_cmp x e.0)) (below_all topic_cmp x es) h) in
    elim (p e) as (λ b. T (below_all topic_cmp x (cond b (e ∷ filter p es) (filter p es)))) [ true ↦ both (is_lt (topic_cmp x e.0)) _ (first_part (is_lt (topic_cmp x e.0)) (below_all topic_cmp x es) h) rest | false ↦ rest ])

rises_filter : (p : List ℕ × Kept → Bool) (es : Topics) → Rises topic_cmp es → Rises topic_cmp (filter p es)
rises_filter p [] h = tt
rises_filter p (e ∷ es) h = (let rest = rises_filter p es (second_part (below_all topic_cmp e.0 es) (is_sorted topic_cmp es) h) in
    elim (p e) as (λ b. T (is_sorted topic_cmp (cond b (e ∷ filter p es) (filter p es)))) [ true ↦ both (below_all topic_cmp e.0 (filter p es)) _ (below_filter p e.0 es (first_part (below_all topic_cmp e.0 es) (is_sorted topic_cmp es) h)) rest | false ↦ rest ])

head_at : (q : List ℕ) (x : List ℕ × Kept) (es : Topics) (b : Bool) → eq_by_cmp topic_cmp q x.0 ≡ b → find topic_cmp q (x ∷ es) ≡ cond b (Some x.1) (find topic_cmp q es)
head_at q x es b t = at_head nat_list_cmp_total topic_cmp_antisym q x es b t

none_later : (q : List ℕ) (x : List ℕ × Kept) (es : Topics) → Rises topic_cmp (x ∷ es) → eq_by_cmp topic_cmp q x.0 ≡ true → find topic_cmp q es ≡ None
none_later q x es h t = none_after nat_list_cmp_total topic_cmp_antisym q x es h t

find_filter : (p : List ℕ → Kept → Bool) (q : List ℕ) (es : Topics) → Rises topic_cmp es → find topic_cmp q (filter (λ e. p e.0 e.1) es) ≡ keep (p q) (find topic_cmp q es)
find_filter p q [] h = refl
find_filter p q (e ∷ es) h =
    let rest = find_filter p q es (second_part (below_all topic_cmp e.0 es) (is_sorted topic_cmp es) h) in
    by_test (eq_by_cmp topic_cmp q e.0) (find topic_cmp q (filter (λ e. p e.0 e.1) (e ∷ es)) ≡ keep (p q) (find topic_cmp q (e ∷ es)))
    (λ t. (let same = tied_is {R = topic_cmp} topic_cmp_antisym q e.0 t in by_test (p e.0 e.1) (find topic_cmp q (filter (λ e. p e.0 e.1) (e ∷ es)) ≡ keep (p q) (find topic_cmp q (e ∷ es)))
    (λ passes. ap (λ b. find topic_cmp q (cond b (e ∷ filter (λ e. p e.0 e.1) es) (filter (λ e. p e.0 e.1) es))) passes ∙ head_at q e _ true t
    ∙ ap (λ b. cond b (Some e.1) None) (sym (ap (λ u. p u e.1) same ∙ passes)) ∙ ap (keep (p q)) (sym (head_at q e es true t)))
    (λ fails. ap (λ b. find topic_cmp q (cond b (e ∷ filter (λ e. p e.0 e.1) es) (filter (λ e. p e.0 e.1) es))) fails ∙ rest ∙ ap (keep (p q)) (none_later q e es h t)
    ∙ ap (λ b. cond b (Some e.1) None) (sym (ap (λ u. p u e.1) same ∙ fails)) ∙ ap (keep (p q)) (sym (head_at q e es true t)))))
    (λ n. elim (p e.0 e.1) as (λ b. find topic_cmp q (cond b (e ∷ filter (λ e. p e.0 e.1) es) (filter (λ e. p e.0 e.1) es)) ≡ find topic_cmp q (filter (λ e. p e.0 e.1) es)) [
      | true ↦ head_at q e _ false n
      | false ↦ refl
    ] ∙ rest ∙ ap (keep (p q)) (sym (head_at q e es false n)))

-- entries put in one after the other
get-with_all : (m : Retained) (es : Topics) → Rises topic_cmp es → (q : List ℕ) → map.get (with_all m es) q ≡ first_of (find topic_cmp q es) (map.get m q)
get-with_all m [] h q = refl
get-with_all m (e ∷ es) h q =
    get-with_all (map.insert m e.0 e.1) es (second_part (below_all topic_cmp e.0 es) (is_sorted topic_cmp es) h) q
    ∙ ap (first_of (find topic_cmp q es)) (map.get-insert nat_list_cmp_total m e.0 e.1 q)
    ∙ by_test (eq_by_cmp topic_cmp q e.0) (first_of (find topic_cmp q es) (cond (eq_by_cmp topic_cmp q e.0) (Some e.1) (map.get m q)) ≡ first_of (find topic_cmp q (e ∷ es)) (map.get m q))
    (λ t. (λ i. first_of (none_later q e es h t i) (cond (t i) (Some e.1) (map.get m q))) ∙ ap (λ x. first_of x (map.get m q)) (sym (head_at q e es true t)))
    (λ n. (λ i. first_of (find topic_cmp q es) (cond (n i) (Some e.1) (map.get m q))) ∙ ap (λ x. first_of x (map.get m q)) (sym (head_at q e es false n)))

news_or_own : (x y : Option Kept) → first_of (keep (is_greater x) y) (first_of (keep (λ _. is_none x) y) x) ≡ option_join (greater kept_cmp) x y
news_or_own None None = refl
news_or_own None (Some y) = refl
news_or_own (Some x) None = refl
news_or_own (Some x) (Some y) = won (is_lt (kept_cmp x y)) ∙ wins_over (Some x) y
  where
    won : (b : Bool) → first_of (cond b (Some y) None) (Some x) ≡ (if b then Some y else Some x)
    won true = refl
    won false = refl

-- with all that it brings, a map is joined with the other
pub all_joined : (s t : Retained) → with_all (with_all s (fresh_in s (map.entries t))) (greater_in s (map.entries t)) ≡ retained_join s t
unfolding retained_join
all_joined s t = (let es = map.entries t in let h = map.entries_sorted t in map.same_map nat_list_cmp_total topic_cmp_antisym _ _ (λ q.
    get-with_all (with_all s (fresh_in s es)) (greater_in s es) (rises_filter (λ e. is_greater (map.get s e.0) e.1) es h) q
    ∙ ap (first_of (find topic_cmp q (greater_in s es))) (get-with_all s (fresh_in s es) (rises_filter (λ e. is_none (map.get s e.0)) es h) q)
    ∙ (λ i. first_of (find_filter (λ u k. is_greater (map.get s u) k) q es h i) (first_of (find_filter (λ u k. is_none (map.get s u)) q es h i) (map.get s q)))
    ∙ news_or_own (map.get s q) (find topic_cmp q es)
    ∙ ap (option_join (greater kept_cmp) (map.get s q)) (sym (map.get-entries t q))
    ∙ sym (get-merge nat_list_cmp_total (greater kept_cmp) s t q)))

-- ---- what is held of it

is_none_none : (x : Option Kept) → is_none x ≡ true → x ≡ None
is_none_none None e = refl
is_none_none (Some x) e = cc

is_greater_some : (x : Option Kept) (y : Kept) → is_greater x y ≡ true → is_some x ≡ true
is_greater_some None y e = cc
is_greater_some (Some x) y e = refl

pub none_held : (m : Retained) (es : Topics) → NoneHeld m (fresh_in m es)
none_held m [] = tt
none_held m (e ∷ es) = by_test (is_none (map.get m e.0)) (NoneHeld m (fresh_in m (e ∷ es)))
    (λ t. subst (λ b. NoneHeld m (cond b (e ∷ fresh_in m es) (fresh_in m es))) (sym t) (is_none_none (map.get m e.0) t, none_held m es))
    (λ n. subst (λ b. NoneHeld m (cond b (e ∷ fresh_in m es) (fresh_in m es))) (sym n) (none_held m es))

all_held : (m : Retained) (es : Topics) → AllHeld m (greater_in m es)
all_held m [] = tt
all_held m (e ∷ es) = by_test (is_greater (map.get m e.0) e.1) (AllHeld m (greater_in m (e ∷ es)))
    (λ t. subst (λ b. AllHeld m (cond b (e ∷ greater_in m es) (greater_in m es))) (sym t) (is_greater_some (map.get m e.0) e.1 t, all_held m es))
    (λ n. subst (λ b. AllHeld m (cond b (e ∷ greater_in m es) (greater_in m es))) (sym n) (all_held m es))

still : (b : Bool) (v : Kept) (x : Option Kept) → is_some x ≡ true → is_some (cond b (Some v) x) ≡ true
still true v x e = refl
still false v x e = e

pub held_still : (m : Retained) (k : List ℕ) (v : Kept) (es : Topics) → AllHeld m es → AllHeld (map.insert m k v) es
held_still m k v [] h = tt
held_still m k v (e ∷ es) h = (ap is_some (map.get-insert nat_list_cmp_total m k v e.0) ∙ still (eq_by_cmp topic_cmp e.0 k) v (map.get m e.0) h.0, held_still m k v es h.1)

held_with : (m : Retained) (fs es : Topics) → AllHeld m es → AllHeld (with_all m fs) es
held_with m [] es h = h
held_with m (f ∷ fs) es h = held_with (map.insert m f.0 f.1) fs es (held_still m f.0 f.1 es h)

pub greater_held : (m : Retained) (es : Topics) → AllHeld (with_all m (fresh_in m es)) (greater_in m es)
greater_held m es = held_with m (fresh_in m es) (greater_in m es) (all_held m es)

-- ---- taking out again

taken_out : (a b : Bool) (x : Option Kept) → cond a None (cond b None x) ≡ cond (b || a) None x
taken_out true true x = refl
taken_out true false x = refl
taken_out false true x = refl
taken_out false false x = refl

get-without_all : (m : Retained) (es : Topics) (q : List ℕ) → map.get (without_all m es) q ≡ cond (has_key topic_cmp q es) None (map.get m q)
get-without_all m [] q = refl
get-without_all m (e ∷ es) q = get-without_all (map.remove m e.0) es q ∙ ap (cond (has_key topic_cmp q es) None) (map.get-remove nat_list_cmp_total m e.0 q) ∙ taken_out (has_key topic_cmp q es) (eq_by_cmp topic_cmp q e.0) (map.get m q)

or_cases : (a b : Bool) (P : Type 0) → (a ≡ true → P) → (b ≡ true → P) → (a || b) ≡ true → P
or_cases true b P f g e = f refl
or_cases false b P f g e = g e

not_held : (m : Retained) (es : Topics) (q : List ℕ) → NoneHeld m es → has_key topic_cmp q es ≡ true → map.get m q ≡ None
not_held m [] q h e = cc
not_held m (x ∷ es) q h e = or_cases (eq_by_cmp topic_cmp q x.0) (has_key topic_cmp q es) (map.get m q ≡ None) (λ t. ap (map.get m) (tied_is {R = topic_cmp} topic_cmp_antisym q x.0 t) ∙ h.0) (λ r. not_held m es q h.1 r) e

pub taken_back : (old mid : Retained) (es : Topics) → NoneHeld old es → KeepsOthers old mid es → without_all mid es ≡ old
taken_back old mid es h k = map.same_map nat_list_cmp_total topic_cmp_antisym _ _ (λ q. get-without_all mid es q ∙ by_test (has_key topic_cmp q es) (cond (has_key topic_cmp q es) None (map.get mid q) ≡ map.get old q)
    (λ t. ap (λ b. cond b None (map.get mid q)) t ∙ sym (not_held old es q h t))
    (λ n. ap (λ b. cond b None (map.get mid q)) n ∙ k q n))

-- ---- the loops over entries that are lent

abbrev lent : List (Bor (List ℕ) × Bor Kept) → Entries
lent xs = map_list deref_pair xs

lent_apart : (xs : List (Bor (List ℕ) × Bor Kept)) (i : ℕ) (d : Bor (List ℕ) × Bor Kept) (q : List ℕ) → i < length xs → has_key topic_cmp q (lent xs) ≡ false → eq_by_cmp topic_cmp q (get_or xs i d).0.now ≡ false
lent_apart [] i d q lt h = absurd (omega (arith, lt))
lent_apart (x ∷ xs) zero d q lt h = or_false_first (eq_by_cmp topic_cmp q x.0.now) _ h
  where
    or_false_first : (a b : Bool) → (a || b) ≡ false → a ≡ false
    or_false_first true b e = e
    or_false_first false b e = refl
lent_apart (x ∷ xs) (suc i) d q lt h = lent_apart xs i d q (omega (arith, lt)) (or_false_second (eq_by_cmp topic_cmp q x.0.now) _ h)
  where
    or_false_second : (a b : Bool) → (a || b) ≡ false → b ≡ false
    or_false_second true b e = cc
    or_false_second false b e = e

module _ (xs : List (Bor (List ℕ) × Bor Kept)) (i : ℕ) (x : Bor (List ℕ) × Bor Kept) (lt : i < length xs) (is : x ≡ get_or xs i x) (topic : List ℕ) (kept : Kept) (t : topic ≡ x.0.now) (k : kept ≡ x.1.now) where
  pub added_left : (m : Retained) → with_all (map.insert m topic kept) (lent (drop (i + 1) xs)) ≡ with_all m (lent (drop i xs))
  added_left m = (λ j. with_all (map.insert m (t j) (k j)) (lent (drop (i + 1) xs))) ∙ ap (λ ys. with_all m (lent ys)) (sym (drop-cons xs i x lt ∙ (λ j. sym is j ∷ drop (sym (add-one i) j) xs)))

  pub added_others : (old m : Retained) → KeepsOthers old m (lent xs) → KeepsOthers old (map.insert m topic kept) (lent xs)
  added_others old m h q n = map.get-insert nat_list_cmp_total m topic kept q
      ∙ ap (λ b. cond b (Some kept) (map.get m q)) (ap (eq_by_cmp topic_cmp q) (t ∙ ap (λ y. y.0.now) is) ∙ lent_apart xs i x q lt n) ∙ h q n

-- ---- the order

turned_gt : (r : Ordering) → is_lt (ordering_reverse r) ≡ is_gt r
turned_gt Less = refl
turned_gt Equal = refl
turned_gt Greater = refl

gt_is_lt : (x y : Kept) → is_lt (kept_cmp y x) ≡ is_gt (kept_cmp x y)
gt_is_lt x y = ap is_lt (kept_cmp_total.antisymm y x) ∙ turned_gt (kept_cmp x y)

not_false : (b : Bool) → not b ≡ true → b ≡ false
not_false true e = cc
not_false false e = refl

covered_below : (x : Kept) (y : Option Kept) → is_covered x y ≡ true → OptionBelow (NotAbove kept_cmp) (Some x) y
covered_below x None e = cc
covered_below x (Some y) e = sym (gt_is_lt x y) ∙ not_false _ e

below_covered : (x : Kept) (y : Option Kept) → OptionBelow (NotAbove kept_cmp) (Some x) y → is_covered x y ≡ true
below_covered x None b = absurd b
below_covered x (Some y) b = ap not (gt_is_lt x y ∙ b)

module _ (t : Retained) where
  found_below : (es : Topics) (q : List ℕ) → AllBelow es t → OptionBelow (NotAbove kept_cmp) (find topic_cmp q es) (map.get t q)
  found_below [] q h = tt
  found_below (e ∷ es) q h = by_test (eq_by_cmp topic_cmp q e.0) (OptionBelow (NotAbove kept_cmp) (find topic_cmp q (e ∷ es)) (map.get t q))
      (λ tied. subst (λ x. OptionBelow (NotAbove kept_cmp) x (map.get t q)) (sym (head_at q e es true tied))
      (subst (λ u. OptionBelow (NotAbove kept_cmp) (Some e.1) (map.get t u)) (sym (tied_is {R = topic_cmp} topic_cmp_antisym q e.0 tied)) (covered_below e.1 (map.get t e.0) h.0)))
      (λ n. subst (λ x. OptionBelow (NotAbove kept_cmp) x (map.get t q)) (sym (head_at q e es false n)) (found_below es q h.1))

  own_tie : (k : List ℕ) → eq_by_cmp topic_cmp k k ≡ true
  own_tie k = ap is_eq (tied_itself nat_list_cmp_total k)

  below_found : (es : Topics) → Rises topic_cmp es → ((q : List ℕ) (k : Kept) → find topic_cmp q es ≡ Some k → OptionBelow (NotAbove kept_cmp) (Some k) (map.get t q)) → AllBelow es t
  below_found [] h all = tt
  below_found (e ∷ es) h all = (
    below_covered e.1 (map.get t e.0) (all e.0 e.1 (head_at e.0 e es true (own_tie e.0))),
    below_found es (second_part (below_all topic_cmp e.0 es) (is_sorted topic_cmp es) h) (λ q k f. by_test (eq_by_cmp topic_cmp q e.0) (OptionBelow (NotAbove kept_cmp) (Some k) (map.get t q))
        (λ tied. (let none = sym (none_later q e es h tied) ∙ f in cc))
        (λ n. all q k (head_at q e es false n ∙ f))),
  )

-- the map of no topics is below each
pub empty_below : (s t : Retained) → s ≡ map.empty → RetainedBelow s t
empty_below s t none = λ q. subst (λ x. OptionBelow (NotAbove kept_cmp) x (map.get t q)) (sym (ap (λ m. map.get m q) none ∙ map.get-empty topic_cmp q)) tt

pub below_is : (s t : Retained) → AllBelow (map.entries s) t ↔ RetainedBelow s t
below_is s t = (
  λ h q. subst (λ x. OptionBelow (NotAbove kept_cmp) x (map.get t q)) (sym (map.get-entries s q)) (found_below t (map.entries s) q h),
  λ b. below_found t (map.entries s) (map.entries_sorted s) (λ q k f. subst (λ x. OptionBelow (NotAbove kept_cmp) x (map.get t q)) (map.get-entries s q ∙ f) (b q)),
)
