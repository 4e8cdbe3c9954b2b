-- Sets of subscriptions and maps of retained messages, as they are made of lists.
use Rattle.std.proofs.Common.{◌≡◌, ◌⊎◌, inl, inr, ℕ, suc, Bool, true, false, cond, ◌&&◌, T, List, [], ◌∷◌, Option, Some, None, is_some, refl, sym, ap, subst, ◌∙◌, true≢false, arith}
use Rattle.std.specs.List.{All, AllByRecursion, list_all, list_any}
use Rattle.std.specs.Ordering.{eq_by_cmp, is_eq}
use Rattle.std.specs.FinSet as set
use Rattle.std.specs.FinMap as map
use Rattle.std.specs.FinMap.Entries.{find}
use Rattle.std.specs.Cmp.Lexicographic.{nat_list_cmp_total}
use Rattle.std.proofs.lemmas.Bool.{or_cases, or_left, or_right}
use Rattle.std.proofs.lemmas.Cmp.{tied_itself}
use Rattle.std.proofs.lemmas.Slice.Eq.{bytes_eq-Decides}
use Rattle.causal_context.specs.Dots.{Dot, Dots, dot_cmp, dot_cmp_total, dot_cmp_antisym}
use Rattle.causal_context.specs.MapLattice.{option_join, get-merge}
use Rattle.causal_context.specs.OrderLattice.{greater}
use Rattle.causal_context.specs.SetLattice.{IsSubset}
use Rattle.mqtt_message.specs.declared.message.Message.{Message}
use Rattle.subscription_set.specs.declared.entry.Entry.{Entry}
use Rattle.subscription_set.specs.Merging.{IsSet}
use Rattle.subscription_set.specs.Sorted.{Rises}
use Rattle.subscription_set.specs.Standing.{find_entry, AreSeen, seen_of}
use Rattle.subscription_set.specs.Statuses.{Statuses}
use Rattle.replica_store.specs.declared.kept.Kept.{Kept}
use Rattle.replica_store.specs.Retained.{Retained, HaveOwnTopics, retained_join, one_put, kept_cmp, topic_cmp}
use Rattle.replica_store.specs.RetainedLattice.{retained_lattice, topic_cmp_antisym}
use Rattle.replica_store.proofs.Views.{by_test, tied_is, none_after, at_head}
use Rattle.replica_store.proofs.Keeping.{empty-join}
use Rattle.replica_bytes.specs.Values.{IsOwn, has_topic}
use Rattle.replica_bytes.specs.Stores.{have_seen, is_set}

pub all_rec : {A : Type 0} (P : A → Type 0) (xs : List A) → All P xs → AllByRecursion P xs
all_rec P [] all = tt
all_rec P (x ∷ xs) all = (all 0 x (omega arith), all_rec P xs (λ i d low. all (suc i) d (omega (arith, low))))

pub t_true : (b : Bool) → T b → b ≡ true
t_true true h = refl
t_true false h = absurd h

pub true_t : (b : Bool) → b ≡ true → T b
true_t b e = subst T (sym e) tt

first_true : (a b : Bool) → (a && b) ≡ true → a ≡ true
first_true true b e = refl
first_true false b e = e

second_true : (a b : Bool) → (a && b) ≡ true → b ≡ true
second_true true b e = e
second_true false b e = absurd (true≢false (sym e))

-- ---- subscriptions

here : (q : Dot) (x : Dot × Entry) (es : List (Dot × Entry)) → is_some (find_entry q (x ∷ es)) ≡ true → (q ≡ x.0) ⊎ (is_some (find_entry q es) ≡ true)
here q x es some = by_test (eq_by_cmp dot_cmp q x.0) _
    (λ t. inl (tied_is {R = dot_cmp} dot_cmp_antisym q x.0 t))
    (λ n. inr (sym (ap is_some (at_head dot_cmp_total dot_cmp_antisym q x es false n)) ∙ some))

some_here : (q : Dot) (x : Dot × Entry) (es : List (Dot × Entry)) → is_some (find_entry q es) ≡ true → is_some (find_entry q (x ∷ es)) ≡ true
some_here q x es some = by_test (eq_by_cmp dot_cmp q x.0) _
    (λ t. ap is_some (at_head dot_cmp_total dot_cmp_antisym q x es true t))
    (λ n. ap is_some (at_head dot_cmp_total dot_cmp_antisym q x es false n) ∙ some)

seen_all : (c : Dots) (es : List (Dot × Entry)) → list_all (λ e. set.contains c e.0) es ≡ true → AreSeen c es
seen_all c [] all q some = absurd (cc)
seen_all c (x ∷ es) all q some = elim (here q x es some) [
  | inl is ↦ ap (set.contains c) is ∙ first_true (set.contains c x.0) _ all
  | inr later ↦ seen_all c es (second_true (set.contains c x.0) _ all) q later
]

all_seen : (c : Dots) (es : List (Dot × Entry)) → AreSeen c es → list_all (λ e. set.contains c e.0) es ≡ true
all_seen c [] seen = refl
all_seen c (x ∷ es) seen =
    let first = seen x.0 (ap is_some (at_head dot_cmp_total dot_cmp_antisym x.0 x es true (ap is_eq (tied_itself dot_cmp_total x.0)))) in
    let rest = all_seen c es (λ q some. seen q (some_here q x es some)) in
    rw (first, rest) refl

pub set_passes : (c : Dots) (es : List (Dot × Entry)) → IsSet c es → is_set c es ≡ true
unfolding is_set
set_passes c es is = rw (t_true _ is.rises, all_seen c es is.seen) refl

pub passed_set : (c : Dots) (es : List (Dot × Entry)) → is_set c es ≡ true → IsSet c es
unfolding is_set
passed_set c es e = record { seen = seen_all c es (second_true (map.is_sorted dot_cmp es) _ e); rises = true_t _ (first_true (map.is_sorted dot_cmp es) _ e) }

pub set_fails : (c : Dots) (es : List (Dot × Entry)) → (IsSet c es → ⊥) → is_set c es ≡ false
set_fails c es against = by_test (is_set c es) _ (λ e. absurd (against (passed_set c es e))) (λ e. e)

-- ---- dots that were seen

any_in : (t : Dots) (ds : List Dot) (q : Dot) → list_all (set.contains t) ds ≡ true → list_any (eq_by_cmp dot_cmp q) ds ≡ true → set.contains t q ≡ true
any_in t [] q all there = absurd (cc)
any_in t (d ∷ ds) q all there = elim (or_cases (eq_by_cmp dot_cmp q d) (list_any (eq_by_cmp dot_cmp q) ds) there) [
  | inl tie ↦ ap (set.contains t) (tied_is {R = dot_cmp} dot_cmp_antisym q d tie) ∙ first_true (set.contains t d) _ all
  | inr later ↦ any_in t ds q (second_true (set.contains t d) _ all) later
]

all_in : (t : Dots) (ds : List Dot) → ((q : Dot) → list_any (eq_by_cmp dot_cmp q) ds ≡ true → set.contains t q ≡ true) → list_all (set.contains t) ds ≡ true
all_in t [] each = refl
all_in t (d ∷ ds) each =
    let first = each d (or_left (eq_by_cmp dot_cmp d d) (list_any (eq_by_cmp dot_cmp d) ds) (ap is_eq (tied_itself dot_cmp_total d))) in
    let rest = all_in t ds (λ q there. each q (or_right (eq_by_cmp dot_cmp q d) (list_any (eq_by_cmp dot_cmp q) ds) there)) in
    rw (first, rest) refl

pub seen_passes : (dots : Dots) (m : Statuses) → IsSubset dots (seen_of m) → have_seen dots m ≡ true
unfolding have_seen
seen_passes dots m all = all_in (seen_of m) (set.items dots) (λ q there. all q (set.contains-items dots q ∙ there))

pub passed_seen : (dots : Dots) (m : Statuses) → have_seen dots m ≡ true → IsSubset dots (seen_of m)
unfolding have_seen
passed_seen dots m e q there = any_in (seen_of m) (set.items dots) q e (sym (set.contains-items dots q) ∙ there)

pub seen_fails : (dots : Dots) (m : Statuses) → (IsSubset dots (seen_of m) → ⊥) → have_seen dots m ≡ false
seen_fails dots m against = by_test (have_seen dots m) _ (λ e. absurd (against (passed_seen dots m e))) (λ e. e)

-- ---- retained messages

own_topic : (topic : List ℕ) (message : Option Message) → ((m : Message) → message ≡ Some m → m.topic ≡ topic) → has_topic topic message ≡ true
own_topic topic None own = refl
own_topic topic (Some m) own = (bytes_eq-Decides m.topic topic).1 (own m refl)

abbrev Topics : Type 0
Topics = List (List ℕ × Kept)

message_at : Option Kept → Option Message
message_at None = None
message_at (Some k) = k.message

own_listed : (es : Topics) → Rises topic_cmp es → ((topic : List ℕ) (k : Kept) → find topic_cmp topic es ≡ Some k → has_topic topic k.message ≡ true) → AllByRecursion IsOwn es
own_listed [] up own = tt
own_listed (x ∷ es) up own = (
  own x.0 x.1 (at_head nat_list_cmp_total topic_cmp_antisym x.0 x es true (ap is_eq (tied_itself nat_list_cmp_total x.0))),
  own_listed es (later _ _ up) (λ topic k is. by_test (eq_by_cmp topic_cmp topic x.0) _
      (λ t. absurd (let none = sym (none_after nat_list_cmp_total topic_cmp_antisym topic x es up t) ∙ is in cc))
      (λ n. own topic k (at_head nat_list_cmp_total topic_cmp_antisym topic x es false n ∙ is))),
)
  where
    later : (a b : Bool) → T (a && b) → T b
    later true b h = h
    later false b h = absurd h

pub own_entries : (r : Retained) → HaveOwnTopics r → AllByRecursion IsOwn (map.entries r)
own_entries r own = own_listed (map.entries r) (map.entries_sorted r) (λ topic k is.
    own_topic topic k.message (λ m e. own topic m (rw (map.get-entries r topic ∙ is) e)))

get_one : (topic : List ℕ) (kept : Kept) (q : List ℕ) → map.get (one_put topic kept) q ≡ cond (eq_by_cmp topic_cmp q topic) (Some kept) None
unfolding one_put
get_one topic kept q = map.get-insert nat_list_cmp_total map.empty topic kept q ∙ ap (cond (eq_by_cmp topic_cmp q topic) (Some kept)) (map.get-empty topic_cmp q)

alone : (b : Bool) (x : Option Kept) (kept : Kept) → (b ≡ true → x ≡ None) → option_join (greater kept_cmp) (cond b (Some kept) None) x ≡ cond b (Some kept) x
alone true x kept none = ap (option_join (greater kept_cmp) (Some kept)) (none refl)
alone false x kept none = refl

-- the first of a rising list is put into what the rest makes
front_joined : (x : List ℕ × Kept) (es : Topics) → Rises topic_cmp (x ∷ es) → retained_join (one_put x.0 x.1) (map.from_entries es) ≡ map.from_entries (x ∷ es)
unfolding retained_join
front_joined x es up = map.same_map nat_list_cmp_total topic_cmp_antisym _ _ (λ q.
    get-merge nat_list_cmp_total (greater kept_cmp) (one_put x.0 x.1) (map.from_entries es) q
    ∙ (λ i. option_join (greater kept_cmp) (get_one x.0 x.1 q i) (map.get-from_entries nat_list_cmp_total es q i))
    ∙ alone (eq_by_cmp topic_cmp q x.0) (find topic_cmp q es) x.1 (λ t. none_after nat_list_cmp_total topic_cmp_antisym q x es up t)
    ∙ sym (map.get-from_entries nat_list_cmp_total (x ∷ es) q))

-- what is made so far, and what is left
pub record IsBuilt (all left : Topics) (made : Retained) : Type 0 where
  pub joined : retained_join made (map.from_entries left) ≡ map.from_entries all
  pub rises : Rises topic_cmp left
  pub own : AllByRecursion IsOwn left

pub none_built : (all left : Topics) (made : Retained) → left ≡ all → made ≡ map.empty → Rises topic_cmp all → All IsOwn all → IsBuilt all left made
none_built all left made is none up own = record {
  joined = (λ i. retained_join (none i) (map.from_entries (is i))) ∙ empty-join (map.from_entries all);
  rises = subst (Rises topic_cmp) (sym is) up;
  own = subst (AllByRecursion IsOwn) (sym is) (all_rec IsOwn all own);
}

pub next_own : (all left rest : Topics) (x : List ℕ × Kept) (made : Retained) → left ≡ x ∷ rest → IsBuilt all left made → IsOwn x
next_own all left rest x made is built = (subst (AllByRecursion IsOwn) is built.own).0

pub one_built : (all left rest : Topics) (x : List ℕ × Kept) (made new : Retained) → left ≡ x ∷ rest → new ≡ retained_join made (one_put x.0 x.1) → IsBuilt all left made → IsBuilt all rest new
one_built all left rest x made new is put built =
    let up = subst (Rises topic_cmp) is built.rises in
    record {
      joined = ap (λ m. retained_join m (map.from_entries rest)) put ∙ retained_lattice.associative made (one_put x.0 x.1) (map.from_entries rest)
          ∙ ap (retained_join made) (front_joined x rest up) ∙ sym (ap (λ xs. retained_join made (map.from_entries xs)) is) ∙ built.joined;
      rises = later _ _ up;
      own = (subst (AllByRecursion IsOwn) is built.own).1;
    }
  where
    later : (a b : Bool) → T (a && b) → T b
    later true b h = h
    later false b h = absurd h

same_sorted : (es : Topics) → Rises topic_cmp es → map.from_entries {R = topic_cmp} es ≡ map.from_sorted es
same_sorted es up = map.same_map nat_list_cmp_total topic_cmp_antisym _ _ (λ q. map.get-from_entries nat_list_cmp_total es q ∙ sym (map.get-from_sorted topic_cmp es q up))

pub all_built : (all left : Topics) (made : Retained) → left ≡ [] → Rises topic_cmp all → IsBuilt all left made → made ≡ map.from_sorted all
all_built all left made none up built =
    sym (retained_lattice.commutative made map.empty ∙ empty-join made) ∙ sym (ap (λ xs. retained_join made (map.from_entries xs)) none) ∙ built.joined ∙ same_sorted all up
