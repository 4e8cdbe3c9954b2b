-- A table of the library as the set that it holds.
use Rattle.std.proofs.Common.{◌≡◌, Bool, true, false, cond, ◌&&◌, ◌||◌, T, List, [], ◌∷◌, map as map_list, Option, Some, None, IfSome, is_some, nat_cmp, Less, Equal, refl, sym, ap, subst, ◌∙◌}
use Rattle.std.specs.Ordering.{is_eq, is_lt, eq_by_cmp}
use Rattle.std.specs.Cmp.{IsTotalOrder, eq_by_cmp_equiv, nat_cmp_total}
use Rattle.std.specs.Cmp.Lexicographic.{slice_cmp, nat_list_cmp_total}
use Rattle.std.specs.List.{AllByRecursion, filter, list_any}
use Rattle.std.specs.List.Sorted.{IsStrictlySortedBy}
use Rattle.std.specs.FinMap.{find, nat_cmp-IsAntisymmetric, slice_cmp-IsAntisymmetric}
use Rattle.std.specs.FinMap.Entries.{below_all, is_sorted, is_sorted-where_key, same_entries}
use Rattle.std.specs.FinMap as map
use Rattle.std.proofs.lemmas.Cmp.{on_total, then_total}
use Rattle.std.proofs.lemmas.Map.Lookups.{exact_pairs}
use Rattle.session_table.specs.Dues.{Due, Dues, due_cmp, in_order, set_of}

pub due_total : IsTotalOrder due_cmp
due_total = then_total (on_total (λ (d : Due). d.0) nat_cmp_total) (on_total (λ (d : Due). d.1) nat_list_cmp_total)

-- only equal pairs tie
pub due_exact : map.IsAntisymmetric due_cmp
due_exact = exact_pairs nat_cmp (slice_cmp nat_cmp) nat_cmp-IsAntisymmetric (slice_cmp-IsAntisymmetric nat_cmp-IsAntisymmetric)

marked : Bool → Option (Unit {0})
marked b = cond b (Some tt) None

marks : (x : Option (Unit {0})) → x ≡ marked (is_some x)
unfolding marked
marks None = refl
marks (Some u) = refl

-- a set is what it has
pub same_dues : (m n : Dues) → ((d : Due) → map.contains_key m d ≡ map.contains_key n d) → m ≡ n
same_dues m n is = map.same_map due_total due_exact m n (λ q. marks (map.get m q) ∙ ap marked (is q) ∙ sym (marks (map.get n q)))

some_or : (b : Bool) (x : Option (Unit {0})) → is_some (cond b (Some tt) x) ≡ cond b true (is_some x)
some_or true x = refl
some_or false x = refl

none_or : (b : Bool) (x : Option (Unit {0})) → is_some (cond b None x) ≡ cond b false (is_some x)
none_or true x = refl
none_or false x = refl

or_cond : (b c : Bool) → cond b true c ≡ (b || c)
or_cond true c = refl
or_cond false c = refl

pub has_inserted : (m : Dues) (d q : Due) → map.contains_key (map.insert m d tt) q ≡ cond (eq_by_cmp due_cmp q d) true (map.contains_key m q)
has_inserted m d q = ap is_some (map.get-insert due_total m d tt q) ∙ some_or (eq_by_cmp due_cmp q d) (map.get m q)

pub has_removed : (m : Dues) (d q : Due) → map.contains_key (map.remove m d) q ≡ cond (eq_by_cmp due_cmp q d) false (map.contains_key m q)
has_removed m d q = ap is_some (map.get-remove due_total m d q) ∙ none_or (eq_by_cmp due_cmp q d) (map.get m q)

pub has_of : (ds : List Due) (q : Due) → map.contains_key (set_of ds) q ≡ list_any (eq_by_cmp due_cmp q) ds
has_of [] q = ap is_some (map.get-empty due_cmp q)
has_of (d ∷ ds) q = has_inserted (set_of ds) d q ∙ ap (cond (eq_by_cmp due_cmp q d) true) (has_of ds q) ∙ or_cond (eq_by_cmp due_cmp q d) (list_any (eq_by_cmp due_cmp q) ds)

flipped : (a b : Due) → eq_by_cmp due_cmp a b ≡ eq_by_cmp due_cmp b a
flipped = (eq_by_cmp_equiv due_total).symm

pub insert_table : (ks ls : List Due) (d : Due)
    → ((q : Due) → list_any (λ x. is_eq (due_cmp q x)) ls ≡ cond (is_eq (due_cmp d q)) true (list_any (λ x. is_eq (due_cmp q x)) ks))
    → set_of ls ≡ map.insert (set_of ks) d tt
insert_table ks ls d h = same_dues _ _ (λ q. has_of ls q ∙ h q ∙ (λ i. cond (flipped d q i) true (sym (has_of ks q) i)) ∙ sym (has_inserted (set_of ks) d q))

pub remove_table : (ks ls : List Due) (d : Due)
    → ((q : Due) → list_any (λ x. is_eq (due_cmp q x)) ls ≡ cond (is_eq (due_cmp d q)) false (list_any (λ x. is_eq (due_cmp q x)) ks))
    → set_of ls ≡ map.remove (set_of ks) d
remove_table ks ls d h = same_dues _ _ (λ q. has_of ls q ∙ h q ∙ (λ i. cond (flipped d q i) false (sym (has_of ks q) i)) ∙ sym (has_removed (set_of ks) d q))

-- ---- lists in order
both : (a b : Bool) → T a → T b → T (a && b)
both true b p q = q
both false b p q = p

abbrev marks_of : List Due → List (Due × Unit {0})
marks_of ds = map_list (λ d. (d, tt)) ds

below : (d : Due) (ds : List Due) → AllByRecursion (λ y. due_cmp d y ≡ Less) ds → T (below_all due_cmp d (marks_of ds))
below d [] h = tt
below d (x ∷ xs) h = both _ _ (subst (λ r. T (is_lt r)) (sym h.0) tt) (below d xs h.1)

rising : (ds : List Due) → IsStrictlySortedBy due_cmp ds → T (is_sorted due_cmp (marks_of ds))
unfolding IsStrictlySortedBy
rising [] h = tt
rising (x ∷ xs) h = both _ _ (below x xs h.0) (rising xs h.1)

keys_back : (ds : List Due) → map_list (λ e. e.0) (marks_of ds) ≡ ds
keys_back [] = refl
keys_back (d ∷ ds) = ap (λ xs. d ∷ xs) (keys_back ds)

found : (ds : List Due) (q : Due) → map.get (set_of ds) q ≡ find due_cmp q (marks_of ds)
found [] q = map.get-empty due_cmp q
found (d ∷ ds) q = map.get-insert due_total (set_of ds) d tt q ∙ ap (cond (eq_by_cmp due_cmp q d) (Some tt)) (found ds q)

sorted_back : (ds : List Due) → T (is_sorted due_cmp (marks_of ds)) → map.keys (set_of ds) ≡ ds
sorted_back ds h =
    ap (map_list (λ e. e.0)) (same_entries due_cmp due_total due_exact (map.entries (set_of ds)) (marks_of ds) (map.entries_sorted (set_of ds)) h (λ q. sym (map.get-entries (set_of ds) q) ∙ found ds q))
    ∙ keys_back ds

-- a list in order is that of its set
pub keys_of_set : (ds : List Due) → IsStrictlySortedBy due_cmp ds → map.keys (set_of ds) ≡ ds
keys_of_set ds h = sorted_back ds (rising ds h)

marks_kept : (p : Due → Bool) (es : List (Due × Unit {0})) → marks_of (filter p (map_list (λ e. e.0) es)) ≡ filter (λ e. p e.0) es
marks_kept p [] = refl
marks_kept p (e ∷ es) = by (p e.0) (marks_kept p es)
  where
    by : (b : Bool) → marks_of (filter p (map_list (λ x. x.0) es)) ≡ filter (λ x. p x.0) es
        → marks_of (cond b (e.0 ∷ filter p (map_list (λ x. x.0) es)) (filter p (map_list (λ x. x.0) es))) ≡ cond b (e ∷ filter (λ x. p x.0) es) (filter (λ x. p x.0) es)
    by true h = ap (λ xs. e ∷ xs) h
    by false h = h

-- some of a set are in order already
pub in_order_some : (p : Due → Bool) (m : Dues) → in_order (filter p (map.keys m)) ≡ filter p (map.keys m)
in_order_some p m = sorted_back (filter p (map.keys m)) (subst (λ es. T (is_sorted due_cmp es)) (sym (marks_kept p (map.entries m))) (is_sorted-where_key due_cmp p (map.entries m) (map.entries_sorted m)))

-- what ties with a pair is that pair
pub same_pair : (r : Option Due) (d : Due) → IfSome r (λ k. due_cmp d k ≡ Equal) → IfSome r (λ k. k ≡ d)
same_pair None d h = h
same_pair (Some k) d h = sym (due_exact d k h)
