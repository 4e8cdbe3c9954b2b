-- The pairs of a map of sets.
use Rattle.std.proofs.Common.{◌≡◌, ℕ, Bool, true, false, cond, ◌&&◌, ◌||◌, not, T, List, [], ◌∷◌, ◌++◌, map as map_list, length, Option, Some, None, is_some, Result, Ok, Err, OnOk, OnErr, MatchOption, Bor, option_copied, arith, refl, sym, ap, subst, ◌∙◌}
use Rattle.std.specs.List.{list_any, flat_map, IsDistinct}
use Rattle.std.specs.Set.{is_member}
use Rattle.std.specs.Cmp.{IsTotalOrder, Equal-is, eq_by_cmp_equiv}
use Rattle.std.specs.Ordering.{eq_by_cmp, is_eq, ordering_then}
use Rattle.std.specs.declared.cmp.Ordering.{Ordering}
use Rattle.std.specs.declared.cmp.Ordering.TheVariants.{Less, Equal, Greater}
use Rattle.std.specs.FinMap.Entries.{find, is_sorted, below_all, is_some-find}
use Rattle.std.specs.Cmp.Lexicographic.{nat_list_cmp_total}
use Rattle.std.specs.FinMap.{FinMap, IsAntisymmetric, nat_cmp-IsAntisymmetric, slice_cmp-IsAntisymmetric}
use Rattle.std.specs.FinMap as map
use Rattle.std.specs.FinSet.{FinSet}
use Rattle.std.specs.FinSet as set
use Rattle.std.specs.Map.{keys_of}
use Rattle.std.specs.List.Sorted.{IsStrictlySortedBy}
use Rattle.std.proofs.lemmas.Map.Keys.{IsDistinct-from_sorted}
use Rattle.std.proofs.lemmas.Cmp.{on_total, then_total, tied_itself}
use Rattle.std.proofs.lemmas.List.{length-map}
use Rattle.std.proofs.lemmas.Map.Lookups.{exact_pairs}
use Rattle.std.proofs.lemmas.Map.Made.{length-from_same_keys}
use Rattle.causal_context.specs.Dots.{dot_cmp, dot_cmp_total, dot_cmp_antisym}
use Rattle.subscription_set.specs.Filing.{text_cmp, pair_cmp, spread, IsFilled, HasUnder, IsGroup, IsKeyCount, IsEmptiness}
use Rattle.law_maps.proofs.Tables.{insert_same}
use Rattle.subscription_set.proofs.Places.{first_part, second_part, found_none}

pub any_both : {X : Type 0} (t : X → Bool) (xs ys : List X) → list_any t (xs ++ ys) ≡ (list_any t xs || list_any t ys)
any_both t [] ys = refl
any_both t (x ∷ xs) ys = elim (t x) as (λ b. (b || list_any t (xs ++ ys)) ≡ ((b || list_any t xs) || list_any t ys)) [ true ↦ refl | false ↦ any_both t xs ys ]

then_eq : (a b : Ordering) → is_eq (ordering_then a b) ≡ (is_eq a && is_eq b)
then_eq Less b = refl
then_eq Equal b = refl
then_eq Greater b = refl

or_none : (b : Bool) → (b || false) ≡ b
or_none true = refl
or_none false = refl

-- what an optional set has
abbrev pub in_group : {L : Type 0} {S : L → L → Ordering} → Option (FinSet S) → L → Bool
in_group None x = false
in_group (Some s) x = set.contains s x

module _ {K L : Type 0} {R : K → K → Ordering} {S : L → L → Ordering} (o : IsTotalOrder R) (anti : IsAntisymmetric R) (p : IsTotalOrder S) (anti_S : IsAntisymmetric S) where
  pub pair_total : IsTotalOrder (pair_cmp R S)
  pair_total = then_total (on_total (λ (x : K × L). x.0) o) (on_total (λ (x : K × L). x.1) p)

  pub pair_anti : IsAntisymmetric (pair_cmp R S)
  pair_anti = exact_pairs R S anti anti_S

  pub pair_eq : (k a : K) (x y : L) → eq_by_cmp (pair_cmp R S) (k, x) (a, y) ≡ (eq_by_cmp R k a && eq_by_cmp S x y)
  pair_eq k a x y = then_eq (R k a) (S x y)

  itself : (k : K) → eq_by_cmp R k k ≡ true
  itself k = ap is_eq (tied_itself o k)

  same_key : (k a : K) → eq_by_cmp R k a ≡ true → k ≡ a
  same_key k a t = anti k a ((Equal-is (R k a)).0 t)

  abbrev pairs_at : K × FinSet S → List (K × L)
  pairs_at e = map_list (λ x. (e.0, x)) (set.items e.1)

  any_pairs : (k a : K) (x : L) (xs : List L) → list_any (eq_by_cmp (pair_cmp R S) (k, x)) (map_list (λ y. (a, y)) xs) ≡ (eq_by_cmp R k a && list_any (eq_by_cmp S x) xs)
  any_pairs k a x [] = sym (none (eq_by_cmp R k a))
    where
      none : (b : Bool) → (b && false) ≡ false
      none true = refl
      none false = refl
  any_pairs k a x (y ∷ xs) = (λ i. pair_eq k a x y i || any_pairs k a x xs i) ∙ split (eq_by_cmp R k a) (eq_by_cmp S x y) (list_any (eq_by_cmp S x) xs)
    where
      split : (a b c : Bool) → ((a && b) || (a && c)) ≡ (a && (b || c))
      split true b c = refl
      split false b c = refl

  -- sorted entries: at most one of them has the key
  in_first : (e : K × FinSet S) (es : List (K × FinSet S)) → T (is_sorted R (e ∷ es)) → (k : K) (x : L) (b : Bool) → eq_by_cmp R k e.0 ≡ b
      → ((b && set.contains e.1 x) || in_group (find R k es) x) ≡ in_group (cond b (Some e.1) (find R k es)) x
  in_first e es h k x true t = ap (λ g. set.contains e.1 x || in_group g x) (found_none o es k (subst (λ q. T (below_all R q es)) (sym (same_key k e.0 t)) (first_part _ _ h))) ∙ or_none (set.contains e.1 x)
  in_first e es h k x false t = refl

  pub any_entry : (es : List (K × FinSet S)) → T (is_sorted R es) → (k : K) (x : L) → list_any (λ e. eq_by_cmp R k e.0 && set.contains e.1 x) es ≡ in_group (find R k es) x
  any_entry [] h k x = refl
  any_entry (e ∷ es) h k x = ap (λ b. (eq_by_cmp R k e.0 && set.contains e.1 x) || b) (any_entry es (second_part _ _ h) k x) ∙ in_first e es h k x (eq_by_cmp R k e.0) refl

  any_in : (es : List (K × FinSet S)) → T (is_sorted R es) → (k : K) (x : L) → list_any (eq_by_cmp (pair_cmp R S) (k, x)) (flat_map pairs_at es) ≡ in_group (find R k es) x
  any_in [] h k x = refl
  any_in (e ∷ es) h k x =
      any_both (eq_by_cmp (pair_cmp R S) (k, x)) (pairs_at e) (flat_map pairs_at es)
      ∙ (λ i. any_pairs k e.0 x (set.items e.1) i || any_in es (second_part _ _ h) k x i)
      ∙ (λ i. (eq_by_cmp R k e.0 && sym (set.contains-items e.1 x) i) || in_group (find R k es) x)
      ∙ in_first e es h k x (eq_by_cmp R k e.0) refl

  pub contains-spread : (m : FinMap R (FinSet S)) (k : K) (x : L) → set.contains (spread m) (k, x) ≡ in_group (map.get m k) x
  unfolding spread
  contains-spread m k x = set.contains-from_list pair_total (flat_map pairs_at (map.entries m)) (k, x) ∙ any_in (map.entries m) (map.entries_sorted m) k x ∙ ap (λ g. in_group g x) (sym (map.get-entries m k))

  pub spread_empty : spread {R = R} {S = S} map.empty ≡ set.empty
  spread_empty = set.same_set pair_total pair_anti _ _ (λ q. contains-spread map.empty q.0 q.1 ∙ ap (λ (g : Option (FinSet S)). in_group g q.1) (map.get-empty R q.0) ∙ sym (set.contains-empty (pair_cmp R S) q))

  -- one more pair, under a key with the set s or with none
  pub spread_put : (m : FinMap R (FinSet S)) (k : K) (s : FinSet S) (x : L) → ((y : L) → set.contains s y ≡ in_group (map.get m k) y) → spread (map.insert m k (set.insert s x)) ≡ set.insert (spread m) (k, x)
  spread_put m k s x is = set.same_set pair_total pair_anti _ _ (λ q.
      contains-spread (map.insert m k (set.insert s x)) q.0 q.1 ∙ ap (λ g. in_group g q.1) (map.get-insert o m k (set.insert s x) q.0) ∙ by q (eq_by_cmp R q.0 k) refl
      ∙ (λ i. sym (pair_eq q.0 k q.1 x) i || sym (contains-spread m q.0 q.1) i) ∙ sym (set.contains-insert pair_total (spread m) (k, x) q))
    where
      by : (q : K × L) (b : Bool) → eq_by_cmp R q.0 k ≡ b → in_group (cond b (Some (set.insert s x)) (map.get m q.0)) q.1 ≡ ((b && eq_by_cmp S q.1 x) || in_group (map.get m q.0) q.1)
      by q true t = set.contains-insert p s x q.1 ∙ ap (λ b. eq_by_cmp S q.1 x || b) (is q.1 ∙ ap (λ a. in_group (map.get m a) q.1) (sym (same_key q.0 k t)))
      by q false t = refl

  -- one pair less, of those under the key
  pub spread_take : (m : FinMap R (FinSet S)) (k : K) (s : FinSet S) (x : L) → map.get m k ≡ Some s → spread (map.insert m k (set.remove s x)) ≡ set.remove (spread m) (k, x)
  spread_take m k s x is = set.same_set pair_total pair_anti _ _ (λ q.
      contains-spread (map.insert m k (set.remove s x)) q.0 q.1 ∙ ap (λ g. in_group g q.1) (map.get-insert o m k (set.remove s x) q.0) ∙ by q (eq_by_cmp R q.0 k) refl
      ∙ (λ i. not (sym (pair_eq q.0 k q.1 x) i) && sym (contains-spread m q.0 q.1) i) ∙ sym (set.contains-remove pair_total (spread m) (k, x) q))
    where
      by : (q : K × L) (b : Bool) → eq_by_cmp R q.0 k ≡ b → in_group (cond b (Some (set.remove s x)) (map.get m q.0)) q.1 ≡ (not (b && eq_by_cmp S q.1 x) && in_group (map.get m q.0) q.1)
      by q true t = set.contains-remove p s x q.1 ∙ ap (λ g. not (eq_by_cmp S q.1 x) && in_group g q.1) (sym is ∙ ap (map.get m) (sym (same_key q.0 k t)))
      by q false t = refl

  -- the last pair under the key
  pub spread_take_last : (m : FinMap R (FinSet S)) (k : K) (s : FinSet S) (x : L) → map.get m k ≡ Some s → ((y : L) → set.contains (set.remove s x) y ≡ false) → spread (map.remove m k) ≡ set.remove (spread m) (k, x)
  spread_take_last m k s x is none = set.same_set pair_total pair_anti _ _ (λ q.
      contains-spread (map.remove m k) q.0 q.1 ∙ ap (λ g. in_group g q.1) (map.get-remove o m k q.0) ∙ by q (eq_by_cmp R q.0 k) refl
      ∙ (λ i. not (sym (pair_eq q.0 k q.1 x) i) && sym (contains-spread m q.0 q.1) i) ∙ sym (set.contains-remove pair_total (spread m) (k, x) q))
    where
      by : (q : K × L) (b : Bool) → eq_by_cmp R q.0 k ≡ b → in_group (cond b None (map.get m q.0)) q.1 ≡ (not (b && eq_by_cmp S q.1 x) && in_group (map.get m q.0) q.1)
      by q true t = sym (none q.1) ∙ set.contains-remove p s x q.1 ∙ ap (λ g. not (eq_by_cmp S q.1 x) && in_group g q.1) (sym is ∙ ap (map.get m) (sym (same_key q.0 k t)))
      by q false t = refl

  -- no pair to take
  pub spread_absent : (m : FinMap R (FinSet S)) (k : K) (x : L) → map.get m k ≡ None → spread m ≡ set.remove (spread m) (k, x)
  spread_absent m k x none = set.same_set pair_total pair_anti _ _ (λ q.
      contains-spread m q.0 q.1 ∙ by q (eq_by_cmp R q.0 k) refl ∙ (λ i. not (sym (pair_eq q.0 k q.1 x) i) && sym (contains-spread m q.0 q.1) i) ∙ sym (set.contains-remove pair_total (spread m) (k, x) q))
    where
      and_false : (b : Bool) → false ≡ (b && false)
      and_false true = refl
      and_false false = refl

      by : (q : K × L) (b : Bool) → eq_by_cmp R q.0 k ≡ b → in_group (map.get m q.0) q.1 ≡ (not (b && eq_by_cmp S q.1 x) && in_group (map.get m q.0) q.1)
      by q true t = (let e = ap (map.get m) (same_key q.0 k t) ∙ none in ap (λ g. in_group g q.1) e ∙ and_false (not (eq_by_cmp S q.1 x)) ∙ ap (λ g. not (eq_by_cmp S q.1 x) && in_group g q.1) (sym e))
      by q false t = refl

  -- ---- no set is empty

  pub filled_none : IsFilled {R = R} {S = S} map.empty
  filled_none k s is = (let e = sym (map.get-empty R k) ∙ is in cc)

  pub filled_put : (m : FinMap R (FinSet S)) (k : K) (s : FinSet S) (x : L) → set.contains s x ≡ true → IsFilled m → IsFilled (map.insert m k s)
  filled_put m k s x has h a t is = by (eq_by_cmp R a k) (sym (map.get-insert o m k s a) ∙ is)
    where
      by : (b : Bool) → cond b (Some s) (map.get m a) ≡ Some t → (y : L) × (set.contains t y ≡ true)
      by true e = (x, (let same : s ≡ t = cc in subst (λ u. set.contains u x ≡ true) same has))
      by false e = h a t e

  pub filled_take : (m : FinMap R (FinSet S)) (k : K) → IsFilled m → IsFilled (map.remove m k)
  filled_take m k h a t is = by (eq_by_cmp R a k) (sym (map.get-remove o m k a) ∙ is)
    where
      by : (b : Bool) → cond b None (map.get m a) ≡ Some t → (y : L) × (set.contains t y ≡ true)
      by true e = cc
      by false e = h a t e

  pub put_has : (s : FinSet S) (x : L) → set.contains (set.insert s x) x ≡ true
  put_has s x = set.contains-insert p s x x ∙ ap (λ r. is_eq r || set.contains s x) (tied_itself p x)

  -- ---- what is under a key

  pub group_some : (m : FinMap R (FinSet S)) (k : K) (s : FinSet S) → map.get m k ≡ Some s → IsFilled m → IsGroup R S (spread m) k s
  group_some m k s is filled = record {
    same = λ x. sym (contains-spread m k x ∙ ap (λ g. in_group g x) is);
    some = (let one = filled k s is in (one.0, contains-spread m k one.0 ∙ ap (λ g. in_group g one.0) is ∙ one.1));
  }

  pub group_none : (m : FinMap R (FinSet S)) (k : K) → map.get m k ≡ None → (x : L) → set.contains (spread m) (k, x) ≡ false
  group_none m k none x = contains-spread m k x ∙ ap (λ g. in_group g x) none

  pub under_some : (m : FinMap R (FinSet S)) (k : K) → map.contains_key m k ≡ true → IsFilled m → HasUnder R S (spread m) k
  under_some m k there filled = by (map.get m k) refl there
    where
      by : (g : Option (FinSet S)) → map.get m k ≡ g → is_some g ≡ true → HasUnder R S (spread m) k
      by None e t = cc
      by (Some s) e t = (group_some m k s e filled).some

  -- as many keys as the map has, each once
  pub key_count : (m : FinMap R (FinSet S)) (ks : List K) → IsDistinct (eq_by_cmp R) ks → ((k : K) → map.contains_key m k ≡ is_member (eq_by_cmp R) ks k) → IsFilled m → IsKeyCount R S (spread m) (length ks)
  key_count m ks apart has filled ls apart_ls under_ls all_ls =
      length-from_same_keys (eq_by_cmp_equiv o) ks ls apart apart_ls (λ k. by k (map.get m k) refl (is_member (eq_by_cmp R) ls k) refl)
    where
      none_under : (k : K) → map.get m k ≡ None → HasUnder R S (spread m) k → ⊥
      none_under k e u = (let f = sym u.1 ∙ group_none m k e u.0 in cc)

      by : (k : K) (g : Option (FinSet S)) → map.get m k ≡ g → (b : Bool) → is_member (eq_by_cmp R) ls k ≡ b → is_member (eq_by_cmp R) ks k ≡ is_member (eq_by_cmp R) ls k
      by k None e true t = absurd (none_under k e (under_ls k t))
      by k None e false t = sym (has k) ∙ ap is_some e ∙ sym t
      by k (Some s) e b t = sym (has k) ∙ ap is_some e ∙ sym (all_ls k (group_some m k s e filled).some)

  -- ---- what a write to a group leaves

  same_insert : (m : FinMap R (FinSet S)) (k : K) (s : FinSet S) → map.get m k ≡ Some s → map.insert m k s ≡ m
  same_insert m k s is = insert_same o anti m k s is

  pub same_written : (m n : FinMap R (FinSet S)) (k : K) (s t : FinSet S) → map.get m k ≡ Some s → n ≡ map.insert m k t → t ≡ s → n ≡ m
  same_written m n k s t is written same = written ∙ ap (map.insert m k) same ∙ same_insert m k s is

  pub put_written : (m n : FinMap R (FinSet S)) (k : K) (s t : FinSet S) (x : L) → map.get m k ≡ Some s → n ≡ map.insert m k t → t ≡ set.insert s x → spread n ≡ set.insert (spread m) (k, x)
  put_written m n k s t x is written put = ap spread (written ∙ ap (map.insert m k) put) ∙ spread_put m k s x (λ y. ap (λ g. in_group g y) (sym is))

  pub put_new : (m n : FinMap R (FinSet S)) (k : K) (t : FinSet S) (x : L) → map.get m k ≡ None → n ≡ map.insert m k t → t ≡ set.insert set.empty x → spread n ≡ set.insert (spread m) (k, x)
  put_new m n k t x none written put = ap spread (written ∙ ap (map.insert m k) put) ∙ spread_put m k set.empty x (λ y. set.contains-empty S y ∙ ap (λ (g : Option (FinSet S)). in_group g y) (sym none))

  pub filled_written : {A E : Type 0} (r : Result A E) (m n : FinMap R (FinSet S)) (k : K) (s t : FinSet S) (x : L) → map.get m k ≡ Some s → n ≡ map.insert m k t → OnOk r (t ≡ set.insert s x) → OnErr r (t ≡ s) → IsFilled m → IsFilled n
  filled_written (Ok a) m n k s t x is written ok err filled = subst IsFilled (sym (written ∙ ap (map.insert m k) ok)) (filled_put m k (set.insert s x) x (put_has s x) filled)
  filled_written (Err e) m n k s t x is written ok err filled = subst IsFilled (sym (same_written m n k s t is written err)) filled

  pub filled_new : (m n : FinMap R (FinSet S)) (k : K) (t : FinSet S) (x : L) → n ≡ map.insert m k t → t ≡ set.insert set.empty x → IsFilled m → IsFilled n
  filled_new m n k t x written put filled = subst IsFilled (sym (written ∙ ap (map.insert m k) put)) (filled_put m k (set.insert set.empty x) x (put_has set.empty x) filled)

  pub filled_first : {A E : Type 0} (r : Result A E) (m n l : FinMap R (FinSet S)) (k : K) (x : L) → n ≡ m → OnOk r (l ≡ map.insert n k (set.insert set.empty x)) → OnErr r (l ≡ n) → IsFilled m → IsFilled l
  filled_first (Ok a) m n l k x same ok err filled = filled_new m l k (set.insert set.empty x) x (ok ∙ ap (λ u. map.insert u k (set.insert set.empty x)) same) refl filled
  filled_first (Err e) m n l k x same ok err filled = subst IsFilled (sym (err ∙ same)) filled

  pub take_written : (m n : FinMap R (FinSet S)) (k : K) (s t : FinSet S) (x : L) → map.get m k ≡ Some s → n ≡ map.insert m k t → t ≡ set.remove s x → spread n ≡ set.remove (spread m) (k, x)
  take_written m n k s t x is written taken = ap spread (written ∙ ap (map.insert m k) taken) ∙ spread_take m k s x is

  pub filled_left : (m n : FinMap R (FinSet S)) (k : K) (t : FinSet S) → n ≡ map.insert m k t → (y : L) × (set.contains t y ≡ true) → IsFilled m → IsFilled n
  filled_left m n k t written one filled = subst IsFilled (sym written) (filled_put m k t one.0 one.1 filled)

  again : (m : FinMap R (FinSet S)) (k : K) (t : FinSet S) → map.remove (map.insert m k t) k ≡ map.remove m k
  again m k t = map.same_map o anti _ _ (λ q. map.get-remove o (map.insert m k t) k q ∙ ap (cond (eq_by_cmp R q k) None) (map.get-insert o m k t q) ∙ twice (eq_by_cmp R q k) (map.get m q) ∙ sym (map.get-remove o m k q))
    where
      twice : (b : Bool) (g : Option (FinSet S)) → cond b None (cond b (Some t) g) ≡ cond b None g
      twice true g = refl
      twice false g = refl

  -- what is put at a key twice
  over : (m : FinMap R (FinSet S)) (k : K) (s t : FinSet S) → map.insert (map.insert m k s) k t ≡ map.insert m k t
  over m k s t = map.same_map o anti _ _ (λ q. map.get-insert o (map.insert m k s) k t q ∙ ap (cond (eq_by_cmp R q k) (Some t)) (map.get-insert o m k s q) ∙ twice (eq_by_cmp R q k) (map.get m q) ∙ sym (map.get-insert o m k t q))
    where
      twice : (b : Bool) (g : Option (FinSet S)) → cond b (Some t) (cond b (Some s) g) ≡ cond b (Some t) g
      twice true g = refl
      twice false g = refl

  -- where a set stood in the meantime, the one that replaces it is there as if it had been put at once
  pub put_back : {A E : Type 0} (r : Result A E) (m n l : FinMap R (FinSet S)) (k : K) (s t : FinSet S) → n ≡ map.insert m k s
      → OnOk r (l ≡ map.insert n k t) → OnErr r (map.get n k ≡ None) → l ≡ map.insert m k t
  put_back (Ok a) m n l k s t held ok err = ok ∙ ap (λ u. map.insert u k t) held ∙ over m k s t
  put_back (Err e) m n l k s t held ok err =
      absurd (let no = sym (map.get-insert o m k s k ∙ ap (λ b. cond b (Some s) (map.get m k)) (itself k)) ∙ ap (λ u. map.get u k) (sym held) ∙ err in cc)

  pub taken_out : (m n l : FinMap R (FinSet S)) (k : K) (s : FinSet S) → n ≡ map.insert m k s → l ≡ map.remove n k → l ≡ map.remove m k
  taken_out m n l k s held gone = gone ∙ ap (λ u. map.remove u k) held ∙ again m k s

  pub take_last : (m n l : FinMap R (FinSet S)) (k : K) (s t : FinSet S) (x : L) → map.get m k ≡ Some s → n ≡ map.insert m k t → t ≡ set.remove s x → ((y : L) → set.contains t y ≡ false) → l ≡ map.remove n k → spread l ≡ set.remove (spread m) (k, x)
  take_last m n l k s t x is written taken none gone =
      ap spread (taken_out m n l k t written gone) ∙ spread_take_last m k s x is (λ y. ap (λ u. set.contains u y) (sym taken) ∙ none y)

  pub filled_last : (m n l : FinMap R (FinSet S)) (k : K) (t : FinSet S) → n ≡ map.insert m k t → l ≡ map.remove n k → IsFilled m → IsFilled l
  filled_last m n l k t written gone filled = subst IsFilled (sym (taken_out m n l k t written gone)) (filled_take m k filled)

  -- ---- what the code answers

  pub under_is : (r : Option (Bor (FinSet S))) (m : FinMap R (FinSet S)) (k : K) → option_copied r ≡ map.get m k → IsFilled m → MatchOption r ((x : L) → set.contains (spread m) (k, x) ≡ false) (λ d. IsGroup R S (spread m) k d.now)
  under_is None m k e filled = group_none m k (sym e)
  under_is (Some d) m k e filled = group_some m k d.now (sym e) filled

  none_in_spread : (x : K × L) → set.contains (spread {R = R} {S = S} map.empty) x ≡ false
  none_in_spread x = ap (λ v. set.contains v x) spread_empty ∙ set.contains-empty (pair_cmp R S) x

  pub emptiness_is : (es : List (K × FinSet S)) (b : Bool) → (b ≡ true → length es ≡ 0) → (length es ≡ 0 → b ≡ true) → IsFilled (map.from_entries {R = R} es) → IsEmptiness (spread (map.from_entries {R = R} es)) b
  emptiness_is [] true t f filled = none_in_spread
  emptiness_is (e ∷ es) true t f filled = absurd (let z = t refl in omega (arith, z))
  emptiness_is [] false t f filled = (let z = f refl in cc)
  emptiness_is (e ∷ es) false t f filled =
      (let is : map.get (map.from_entries {R = R} (e ∷ es)) e.0 ≡ Some e.1 = map.get-from_entries o (e ∷ es) e.0 ∙ ap (λ r. cond (is_eq r) (Some e.1) (find R e.0 es)) (tied_itself o e.0) in
      let one = filled e.0 e.1 is in
      ((e.0, one.0), contains-spread (map.from_entries {R = R} (e ∷ es)) e.0 one.0 ∙ ap (λ g. in_group g one.0) is ∙ one.1))

  pub len_is : (es : List (K × FinSet S)) (n : ℕ) → n ≡ length es → IsStrictlySortedBy R (keys_of es) → IsFilled (map.from_entries {R = R} es) → IsKeyCount R S (spread (map.from_entries {R = R} es)) n
  len_is es n is sorted filled ks apart under all =
      is ∙ sym (length-map es (λ (e : K × FinSet S). e.0))
      ∙ key_count (map.from_entries {R = R} es) (keys_of es) (IsDistinct-from_sorted R (keys_of es) sorted) (λ k. ap is_some (map.get-from_entries o es k) ∙ is_some-find R k es) filled ks apart under all

pub not_both : (b : Bool) → b ≡ true → b ≡ false → ⊥
not_both b t f = (let z : true ≡ false = sym t ∙ f in cc)

-- texts, and pairs of a text and a dot
pub text_total : IsTotalOrder text_cmp
text_total = nat_list_cmp_total

pub text_anti : IsAntisymmetric text_cmp
text_anti = slice_cmp-IsAntisymmetric nat_cmp-IsAntisymmetric

pub filed_total : IsTotalOrder (pair_cmp text_cmp dot_cmp)
filed_total = pair_total text_total text_anti dot_cmp_total dot_cmp_antisym

pub filed_anti : IsAntisymmetric (pair_cmp text_cmp dot_cmp)
filed_anti = pair_anti text_total text_anti dot_cmp_total dot_cmp_antisym

pub places_total : IsTotalOrder (pair_cmp text_cmp (pair_cmp text_cmp dot_cmp))
places_total = pair_total text_total text_anti filed_total filed_anti

pub places_anti : IsAntisymmetric (pair_cmp text_cmp (pair_cmp text_cmp dot_cmp))
places_anti = pair_anti text_total text_anti filed_total filed_anti
