-- Lists by keys, in order, and what is found and left at a key.
use Rattle.std.proofs.Common.{◌≡◌, ◌≢◌, inl, inr, ℕ, Bool, true, false, cond, ◌&&◌, T, List, [], ◌∷◌, ◌++◌, Option, Some, None, Ordering, Less, Equal, Greater, map, refl, sym, ap, subst, ◌∙◌}
use Rattle.std.specs.Cmp.{tied_itself}
use Rattle.std.specs.FinMap.{find, is_sorted}
use Rattle.std.specs.FinMap.Entries.{below_all}
use Rattle.std.specs.List.{AllByRecursion}
use Rattle.std.specs.Ordering.{eq_by_cmp, is_eq, is_lt}
use Rattle.std.proofs.lemmas.Bool.{cases_Bool}
use Rattle.row_store.specs.Leading.{or_else, left_by, left_or}
use Rattle.row_store.specs.declared.row.Change.{Change}
use Rattle.row_store.specs.Rows.{Key, key_cmp, Plain}
use Rattle.row_store.proofs.Keys.{keys_total, exact_keys, equal_is}
use Rattle.bridge_lanes.specs.Changes.{Left, left_of, put}

-- ---- keys
abbrev pub same_key : Key → Key → Bool
same_key q k = eq_by_cmp key_cmp q k

pub itself : (k : Key) → same_key k k ≡ true
itself k = ap is_eq (tied_itself keys_total k)

pub same_is : (q k : Key) → same_key q k ≡ true → q ≡ k
same_is q k h = exact_keys q k (equal_is (key_cmp q k) h)

pub other_key : (q k : Key) → q ≢ k → same_key q k ≡ false
other_key q k apart = elim (cases_Bool (same_key q k)) [
  | inl t ↦ absurd (apart (same_is q k t))
  | inr f ↦ f
]

pub less_apart : (a b : Key) → key_cmp a b ≡ Less → a ≢ b
less_apart a b low same = (let other : Less ≡ Equal = sym low ∙ ap (key_cmp a) (sym same) ∙ tied_itself keys_total a in cc)

-- ---- lists
pub all_both : {A : Type 0} (P : A → Type 0) (xs ys : List A) → AllByRecursion P xs → AllByRecursion P ys → AllByRecursion P (xs ++ ys)
all_both P [] ys front back = back
all_both P (x ∷ xs) ys front back = (front.0, all_both P xs ys front.1 back)

pub all_front : {A : Type 0} (P : A → Type 0) (xs ys : List A) → AllByRecursion P (xs ++ ys) → AllByRecursion P xs
all_front P [] ys all = tt
all_front P (x ∷ xs) ys all = (all.0, all_front P xs ys all.1)

pub all_back : {A : Type 0} (P : A → Type 0) (xs ys : List A) → AllByRecursion P (xs ++ ys) → AllByRecursion P ys
all_back P [] ys all = all
all_back P (x ∷ xs) ys all = all_back P xs ys all.1

pub all_turned : {A : Type 0} (P Q : A → Type 0) (xs : List A) → ((x : A) → P x → Q x) → AllByRecursion P xs → AllByRecursion Q xs
all_turned P Q [] turn all = tt
all_turned P Q (x ∷ xs) turn all = (turn x all.0, all_turned P Q xs turn all.1)

-- ---- keys that rise
abbrev pub IsAbove : {V : Type 0} → Key → Key × V → Type 0
IsAbove k e = key_cmp k e.0 ≡ Less

-- each key is below all later ones
abbrev pub Rises : {V : Type 0} → List (Key × V) → Type 0
Rises [] = Unit {0}
Rises (e ∷ es) = AllByRecursion (IsAbove e.0) es × Rises es

joined : (a b : Bool) → T a → T b → T (a && b)
joined true b p q = q
joined false b p q = absurd p

below_from : {V : Type 0} (k : Key) (es : List (Key × V)) → AllByRecursion (IsAbove k) es → T (below_all key_cmp k es)
below_from k [] all = tt
below_from k (e ∷ es) all = joined _ _ (subst (λ o. T (is_lt o)) (sym all.0) tt) (below_from k es all.1)

pub rises_sorted : {V : Type 0} (es : List (Key × V)) → Rises es → T (is_sorted key_cmp es)
rises_sorted [] up = tt
rises_sorted (e ∷ es) up = joined _ _ (below_from e.0 es up.0) (rises_sorted es up.1)

both_parts : (a b : Bool) → T (a && b) → T a × T b
both_parts true b h = (tt, h)
both_parts false b h = absurd h

less_is : (o : Ordering) → T (is_lt o) → o ≡ Less
less_is Less h = refl
less_is Equal h = absurd h
less_is Greater h = absurd h

all_above : {V : Type 0} (k : Key) (es : List (Key × V)) → T (below_all key_cmp k es) → AllByRecursion (IsAbove k) es
all_above k [] h = tt
all_above k (e ∷ es) h = (let parts = both_parts (is_lt (key_cmp k e.0)) (below_all key_cmp k es) h in (less_is (key_cmp k e.0) parts.0, all_above k es parts.1))

pub sorted_rises : {V : Type 0} (es : List (Key × V)) → T (is_sorted key_cmp es) → Rises es
sorted_rises [] h = tt
sorted_rises (e ∷ es) h = (let parts = both_parts (below_all key_cmp e.0 es) (is_sorted key_cmp es) h in (all_above e.0 es parts.0, sorted_rises es parts.1))

pub rises_both : {V : Type 0} (xs ys : List (Key × V)) → Rises xs → Rises ys → AllByRecursion (λ x. AllByRecursion (IsAbove x.0) ys) xs → Rises (xs ++ ys)
rises_both [] ys up also apart = also
rises_both (x ∷ xs) ys up also apart = (all_both (IsAbove x.0) xs ys up.0 apart.0, rises_both xs ys up.1 also apart.1)

-- ---- what is found
abbrev pub either : Option (List ℕ) → Option (List ℕ) → Option (List ℕ)
either None o = o
either (Some v) o = Some v

pub either_none : (o : Option (List ℕ)) → either o None ≡ o
either_none None = refl
either_none (Some v) = refl

pub find_both : (q : Key) (xs ys : List Plain) → find key_cmp q (xs ++ ys) ≡ either (find key_cmp q xs) (find key_cmp q ys)
find_both q [] ys = refl
find_both q (x ∷ xs) ys = elim (cases_Bool (same_key q x.0)) [
  | inl t ↦ rw t refl
  | inr f ↦ rw f (find_both q xs ys)
]

-- all have what the key lacks
pub find_none : (q : Key) (P : Key → Type 0) (xs : List Plain) → AllByRecursion (λ e. P e.0) xs → (P q → ⊥) → find key_cmp q xs ≡ None
find_none q P [] all lacks = refl
find_none q P (x ∷ xs) all lacks = rw (other_key q x.0 (λ e. lacks (subst P (sym e) all.0))) (find_none q P xs all.1 lacks)

-- ---- what is left
abbrev pub left_one : Left → Key → Option (Option (List ℕ))
left_one c q = cond (same_key q c.0) (Some c.1) None

abbrev pub left_in : List Left → Key → Option (Option (List ℕ))
left_in [] q = None
left_in (c ∷ cs) q = or_else (left_in cs q) (left_one c q)

pub left_by_in : (changes : List Change) (q : Key) → left_by changes q ≡ left_in (map left_of changes) q
left_by_in [] q = refl
left_by_in (change ∷ more) q = ap (λ l. or_else l (left_one (left_of change) q)) (left_by_in more q)

or_else_else : (a b c : Option (Option (List ℕ))) → or_else (or_else a b) c ≡ or_else a (or_else b c)
or_else_else None b c = refl
or_else_else (Some value) b c = refl

pub or_else_none : (a : Option (Option (List ℕ))) → or_else a None ≡ a
or_else_none None = refl
or_else_none (Some value) = refl

pub left_both : (q : Key) (xs ys : List Left) → left_in (xs ++ ys) q ≡ or_else (left_in ys q) (left_in xs q)
left_both q [] ys = sym (or_else_none (left_in ys q))
left_both q (x ∷ xs) ys = ap (λ l. or_else l (left_one x q)) (left_both q xs ys) ∙ or_else_else (left_in ys q) (left_in xs q) (left_one x q)

pub left_none : (q : Key) (P : Key → Type 0) (cs : List Left) → AllByRecursion (λ c. P c.0) cs → (P q → ⊥) → left_in cs q ≡ None
left_none q P [] all lacks = refl
left_none q P (c ∷ cs) all lacks = rw (left_none q P cs all.1 lacks, other_key q c.0 (λ e. lacks (subst P (sym e) all.0))) refl

-- ---- rows of which the first go, the next stay and the last are put

abbrev pub gone_by : Plain → Left
gone_by row = (row.0, None)

abbrev pub cut_changes : List Plain → List Plain → List Left
cut_changes r p = map gone_by r ++ map put p

abbrev Above : Key → Key → Type 0
Above k q = key_cmp k q ≡ Less

not_above : (k : Key) → Above k k → ⊥
not_above k low = less_apart k k low refl

pub put_above : (k : Key) (p : List Plain) → AllByRecursion (IsAbove k) p → AllByRecursion (λ c. Above k c.0) (map put p)
put_above k [] all = tt
put_above k (x ∷ p) all = (all.0, put_above k p all.1)

pub changes_above : (k : Key) (r p : List Plain) → AllByRecursion (IsAbove k) r → AllByRecursion (IsAbove k) p → AllByRecursion (λ c. Above k c.0) (cut_changes r p)
changes_above k [] p front back = put_above k p back
changes_above k (x ∷ r) p front back = (front.0, changes_above k r p front.1 back)

-- the row itself, and each other key
by_key : (q k : Key) {P : Type 0} → (q ≡ k → same_key q k ≡ true → P) → (same_key q k ≡ false → P) → P
by_key q k same other = elim (cases_Bool (same_key q k)) [ inl t ↦ same (same_is q k t) t | inr f ↦ other f ]

put_leads : (q : Key) (p : List Plain) → Rises p → find key_cmp q p ≡ left_or (left_in (map put p) q) None
put_leads q [] up = refl
put_leads q (x ∷ p) up = by_key q x.0
    (λ is t. rw (t, ap (left_in (map put p)) is ∙ left_none x.0 (Above x.0) (map put p) (put_above x.0 p up.0) (not_above x.0)) refl)
    (λ f. rw (f, or_else_none (left_in (map put p) q)) (put_leads q p up.1))

kept_leads : (q : Key) (k p : List Plain) → Rises (k ++ p) → find key_cmp q (k ++ p) ≡ left_or (left_in (map put p) q) (find key_cmp q k)
kept_leads q [] p up = put_leads q p up
kept_leads q (x ∷ k) p up = by_key q x.0
    (λ is t. rw (t, ap (left_in (map put p)) is ∙ left_none x.0 (Above x.0) (map put p) (put_above x.0 p (all_back (IsAbove x.0) k p up.0)) (not_above x.0)) refl)
    (λ f. rw f (kept_leads q k p up.1))

pub cut_leads : (q : Key) (r k p : List Plain) → Rises (r ++ (k ++ p)) → find key_cmp q (k ++ p) ≡ left_or (left_in (cut_changes r p) q) (find key_cmp q (r ++ k))
cut_leads q [] k p up = kept_leads q k p up
cut_leads q (x ∷ r) k p up = by_key q x.0
    (λ is t.
    let later = all_back (IsAbove x.0) r (k ++ p) up.0 in
    let none = ap (left_in (cut_changes r p)) is ∙ left_none x.0 (Above x.0) (cut_changes r p) (changes_above x.0 r p (all_front (IsAbove x.0) r (k ++ p) up.0) (all_back (IsAbove x.0) k p later)) (not_above x.0) in
    rw (t, none) (ap (λ (z : Key). find key_cmp z (k ++ p)) is ∙ find_none x.0 (Above x.0) (k ++ p) later (not_above x.0)))
    (λ f. rw (f, or_else_none (left_in (cut_changes r p) q)) (cut_leads q r k p up.1))
