-- What a merge over ordered maps comes to.
use Rattle.std.proofs.Common.{◌≡◌, ◌⊎◌, inl, inr, ◌<◌, ◌≤◌, Bool, true, false, cond, not, ◌&&◌, if◌then◌else◌, List, [], ◌∷◌, length, is_some, T, Option, Some, None, arith, refl, sym, ap, subst, ◌∙◌}
use Rattle.std.specs.List.{list_any}
use Rattle.std.specs.Ordering.{eq_by_cmp, is_eq}
use Rattle.std.specs.Cmp.{Equal-is}
use Rattle.std.specs.FinMap as map
use Rattle.std.specs.FinMap.Entries.{same_entries}
use Rattle.std.specs.FinSet as set
use Rattle.std.proofs.lemmas.Bool.{cases_order}
use Rattle.std.proofs.lemmas.Cmp.{tied_itself}
use Rattle.causal_context.specs.Dots.{Dots, Dot, dot_cmp, dot_cmp_total, dot_cmp_antisym}
use Rattle.subscription_set.specs.Entries.{Entry, entry_eq, entry_eq-decides}
use Rattle.subscription_set.specs.Standing.{Entries, find_entry, AreSeen}
use Rattle.subscription_set.specs.Sorted.{Rises, without_keys, first_of}
use Rattle.subscription_set.specs.Merging.{same_entry}
use Rattle.subscription_set.proofs.JoinFormula.{IsJoinOf, HaveSame, kept_entry}
use Rattle.subscription_set.specs.Indexing.{ByDot}
use Rattle.subscription_set.specs.Joining.{leaves_with, AreLeaving, AreUnseen, IsBrought, IsCleared}
use Rattle.subscription_set.proofs.Places.{found_none, first_part, second_part}
use Rattle.subscription_set.proofs.Pairs.{find_without}
use Rattle.subscription_set.proofs.Indexing.{found_any, in_found}

tied : (d x : Dot) → eq_by_cmp dot_cmp d x ≡ true → d ≡ x
tied d x t = dot_cmp_antisym d x ((Equal-is (dot_cmp d x)).0 t)

and_first : (a b : Bool) → (a && b) ≡ true → a ≡ true
and_first true b e = refl
and_first false b e = cc

and_second : (a b : Bool) → (a && b) ≡ true → b ≡ true
and_second true b e = e
and_second false b e = cc

not_if : (b : Bool) (e : Entry) → cond (not b) None (Some e) ≡ (if b then Some e else None)
not_if true e = refl
not_if false e = refl

-- what was not seen is not here
pub unseen_none : (c : Dots) (m f : ByDot) (dots : List Dot) → AreSeen c (map.entries m) → AreUnseen c f dots → (q : Dot) → list_any (eq_by_cmp dot_cmp q) dots ≡ true → map.get m q ≡ None
unseen_none c m f dots p new q h = by (map.get m q) refl
  where
    unseen : set.contains c q ≡ false
    unseen = turn (set.contains c q) (and_second (is_some (map.get f q)) _ (sym (new q) ∙ h))
      where
        turn : (b : Bool) → not b ≡ true → b ≡ false
        turn true e = cc
        turn false e = refl

    by : (g : Option Entry) → map.get m q ≡ g → map.get m q ≡ None
    by None is = is
    by (Some e) is = (let seen = p q (ap is_some (sym (map.get-entries m q) ∙ is)) in let no = unseen in cc)

at_join : (in_c in_k : Bool) (x y : Option Entry) → (is_some x ≡ true → in_c ≡ true) → (is_some y ≡ true → in_k ≡ true)
    → cond (is_some x && (in_k && not (same_entry x y))) None (cond (is_some x) x (cond (is_some y && not in_c) y None)) ≡ kept_entry in_c in_k x y
at_join c k None None p r = refl
at_join true k None (Some f) p r = refl
at_join false k None (Some f) p r = refl
at_join true true (Some e) None p r = refl
at_join true false (Some e) None p r = refl
at_join true true (Some e) (Some f) p r = not_if (entry_eq e f) e
at_join true false (Some e) (Some f) p r = (let no = r refl in cc)
at_join false k (Some e) y p r = (let no = p refl in cc)

module _ (c : Dots) (m : ByDot) (k : Dots) (f n : ByDot) (brought gone : List Dot) (p : AreSeen c (map.entries m)) (r : AreSeen k (map.entries f)) (new : AreUnseen c f brought) (is : IsBrought m f brought n) where
  -- without what was brought, the entries are the old ones
  pub old_again : (q : Dot) → find_entry q (without_keys dot_cmp brought (map.entries n)) ≡ find_entry q (map.entries m)
  old_again q =
      find_without dot_cmp_total dot_cmp_antisym q brought (map.entries n) ∙ ap (cond (list_any (eq_by_cmp dot_cmp q) brought) None) (sym (map.get-entries n q) ∙ is q)
      ∙ by (list_any (eq_by_cmp dot_cmp q) brought) (map.get m q) (map.get f q) (unseen_none c m f brought p new q) ∙ map.get-entries m q
    where
      by : (b : Bool) (x y : Option Entry) → (b ≡ true → x ≡ None) → cond b None (cond (is_some x) x (cond b y None)) ≡ x
      by true x y h = sym (h refl)
      by false None y h = refl
      by false (Some e) y h = refl

  -- without what goes, they are the join's
  pub joined : AreLeaving m k f gone → IsJoinOf c (map.entries m) k (map.entries f) (without_keys dot_cmp gone (map.entries n))
  joined go q =
      find_without dot_cmp_total dot_cmp_antisym q gone (map.entries n)
      ∙ (λ i. cond (go q i) None ((sym (map.get-entries n q) ∙ is q) i))
      ∙ ap (λ b. cond (is_some (map.get m q) && (set.contains k q && not (same_entry (map.get m q) (map.get f q)))) None (cond (is_some (map.get m q)) (map.get m q) (cond b (map.get f q) None))) (new q)
      ∙ at_join (set.contains c q) (set.contains k q) (map.get m q) (map.get f q) (λ h. p q (ap is_some (sym (map.get-entries m q)) ∙ h)) (λ h. r q (ap is_some (sym (map.get-entries f q)) ∙ h))
      ∙ (λ i. kept_entry (set.contains c q) (set.contains k q) (map.get-entries m q i) (map.get-entries f q i))

-- cleared entries are those without the dots
pub cleared_as : (n after : ByDot) (keys dots : List Dot) → keys ≡ dots → IsCleared n keys after → (q : Dot) → find_entry q (map.entries after) ≡ find_entry q (without_keys dot_cmp dots (map.entries n))
cleared_as n after keys dots same so q =
    sym (map.get-entries after q) ∙ so q ∙ (λ i. cond (list_any (eq_by_cmp dot_cmp q) (same i)) None (map.get-entries n q i)) ∙ sym (find_without dot_cmp_total dot_cmp_antisym q dots (map.entries n))

-- ---- when one is below the other

pub not_true : (b : Bool) → not b ≡ true → b ≡ false
not_true true e = cc
not_true false e = refl

module _ (c : Dots) (m f : ByDot) where
  is_same : (e : Entry) (g : Option Entry) → same_entry (Some e) g ≡ true → g ≡ Some e
  is_same e None t = cc
  is_same e (Some x) t = ap Some (sym ((entry_eq-decides e x).0 t))

  pub same_if_none : list_any (leaves_with c m) (map.entries f) ≡ false → HaveSame c (map.entries m) (map.entries f)
  same_if_none none q e is seen = by (same_entry (Some e) (map.get m q)) refl
    where
      by : (b : Bool) → same_entry (Some e) (map.get m q) ≡ b → find_entry q (map.entries m) ≡ Some e
      by true t = sym (map.get-entries m q) ∙ is_same e (map.get m q) t
      by false t = (let yes = in_found (map.entries f) q e is (leaves_with c m) (λ i. seen i && not (t i)) in cc)

  pub none_if_same : HaveSame c (map.entries m) (map.entries f) → list_any (leaves_with c m) (map.entries f) ≡ false
  none_if_same h = by (list_any (leaves_with c m) (map.entries f)) refl
    where
      by : (b : Bool) → list_any (leaves_with c m) (map.entries f) ≡ b → list_any (leaves_with c m) (map.entries f) ≡ false
      by true t =
          (let g = found_any (leaves_with c m) (map.entries f) (map.entries_sorted f) t in
          let seen = and_first (set.contains c g.0) _ g.2.1 in
          let other = and_second (set.contains c g.0) _ g.2.1 in
          let here = map.get-entries m g.0 ∙ h g.0 g.1 g.2.0 seen in
          let same = ap (same_entry (Some g.1)) here ∙ (entry_eq-decides g.1 g.1).1 refl in
          let no = ap not same in cc)
      by false t = t

-- ---- a loop that files entries

-- what is left to file, and what is filed, is all there is
pub record IsFiledUpTo (all left : Entries) (m : ByDot) : Type 0 where
  pub rises : Rises dot_cmp left
  pub apart : (q : Dot) → is_some (find_entry q left) ≡ true → map.get m q ≡ None
  pub finds : (q : Dot) → find_entry q all ≡ first_of (find_entry q left) (map.get m q)
  pub fewer : length left ≤ length all
  pub first : length left ≡ length all → m ≡ map.empty

pub none_filed : (all left : Entries) (m : ByDot) → left ≡ all → m ≡ map.empty → Rises dot_cmp all → IsFiledUpTo all left m
none_filed all left m same none h = record {
  rises = subst (Rises dot_cmp) (sym same) h;
  apart = λ q _. nothing q;
  finds = λ q. first_none (find_entry q all) ∙ (λ i. first_of (find_entry q (sym same i)) (sym (nothing q) i));
  fewer = subst (λ (x : Entries). length x ≤ length all) (sym same) (omega arith);
  first = λ _. none;
}
  where
    nothing : (q : Dot) → map.get m q ≡ None
    nothing q = ap (λ (x : ByDot). map.get x q) none ∙ map.get-empty dot_cmp q

    first_none : (x : Option Entry) → x ≡ first_of x None
    first_none None = refl
    first_none (Some e) = refl

module _ (all left rest : Entries) (d : Dot) (e : Entry) (m : ByDot) (one : left ≡ (d, e) ∷ rest) (so : IsFiledUpTo all left m) where
  up : Rises dot_cmp ((d, e) ∷ rest)
  up = subst (Rises dot_cmp) one so.rises

  later : (q : Dot) → eq_by_cmp dot_cmp q d ≡ true → find_entry q rest ≡ None
  later q t = found_none dot_cmp_total rest q (subst (λ x. T (map.Entries.below_all dot_cmp x rest)) (sym (tied q d t)) (first_part _ _ up))

  pub not_filed : map.get m d ≡ None
  not_filed = so.apart d (ap (λ es. is_some (find_entry d es)) one ∙ ap (λ r. is_some (cond (is_eq r) (Some e) (find_entry d rest))) (tied_itself dot_cmp_total d))

  pub some_left : 0 < length all
  some_left = (let l = ap length one in let f = so.fewer in omega arith)

  -- where something is filed already, there are several
  pub several : (m ≡ map.empty → ⊥) → 1 < length all
  several filed = by (cases_order (length left) (length all))
    where
      by : (length left ≡ length all) ⊎ ((length left < length all) ⊎ (length all < length left)) → 1 < length all
      by (inl e) = absurd (filed (so.first e))
      by (inr (inl less)) = (let l = ap length one in omega (arith, l, less))
      by (inr (inr more)) = absurd (omega (arith, so.fewer, more))

  pub filed_more : (m' : ByDot) (x : Entry) → x ≡ e → m' ≡ map.insert m d x → IsFiledUpTo all rest m'
  filed_more m' x same is = record {
    rises = second_part _ _ up;
    apart = λ q h. apart_at q (eq_by_cmp dot_cmp q d) refl h;
    finds = λ q. so.finds q ∙ ap (λ es. first_of (find_entry q es) (map.get m q)) one ∙ at q (eq_by_cmp dot_cmp q d) refl ∙ ap (first_of (find_entry q rest)) (sym (now q));
    fewer = (let l = ap length one in let f = so.fewer in omega arith);
    first = λ e. absurd (let l = ap length one in let f = so.fewer in omega (arith, e, l, f));
  }
    where
      now : (q : Dot) → map.get m' q ≡ cond (eq_by_cmp dot_cmp q d) (Some e) (map.get m q)
      now q = ap (λ (y : ByDot). map.get y q) is ∙ map.get-insert dot_cmp_total m d x q ∙ ap (λ y. cond (eq_by_cmp dot_cmp q d) (Some y) (map.get m q)) same

      apart_at : (q : Dot) (b : Bool) → eq_by_cmp dot_cmp q d ≡ b → is_some (find_entry q rest) ≡ true → map.get m' q ≡ None
      apart_at q true t h = (let none = later q t in cc)
      apart_at q false t h = now q ∙ ap (λ b. cond b (Some e) (map.get m q)) t ∙ so.apart q (ap (λ es. is_some (find_entry q es)) one ∙ ap (λ b. is_some (cond b (Some e) (find_entry q rest))) t ∙ h)

      at : (q : Dot) (b : Bool) → eq_by_cmp dot_cmp q d ≡ b → first_of (cond (eq_by_cmp dot_cmp q d) (Some e) (find_entry q rest)) (map.get m q) ≡ first_of (find_entry q rest) (cond (eq_by_cmp dot_cmp q d) (Some e) (map.get m q))
      at q true t = (λ i. first_of (cond (t i) (Some e) (find_entry q rest)) (map.get m q)) ∙ (λ i. first_of (sym (later q t) i) (cond (sym t i) (Some e) (map.get m q)))
      at q false t = (λ i. first_of (cond (t i) (Some e) (find_entry q rest)) (map.get m q)) ∙ (λ i. first_of (find_entry q rest) (cond (sym t i) (Some e) (map.get m q)))

pub all_filed : (all left : Entries) (m : ByDot) → left ≡ [] → Rises dot_cmp all → IsFiledUpTo all left m → map.entries m ≡ all
all_filed all left m none h so = same_entries dot_cmp dot_cmp_total dot_cmp_antisym (map.entries m) all (map.entries_sorted m) h
    (λ q. sym (map.get-entries m q) ∙ sym (so.finds q ∙ ap (λ es. first_of (find_entry q es) (map.get m q)) none))

pub same_filed : (all left : Entries) (m n : ByDot) → left ≡ [] → all ≡ map.entries n → IsFiledUpTo all left m → m ≡ n
same_filed all left m n none is so = map.same_entries_map _ _ (all_filed all left m none (subst (Rises dot_cmp) (sym is) (map.entries_sorted n)) so ∙ is)

pub no_entries : (m : ByDot) → m ≡ map.empty → map.entries m ≡ []
no_entries m is = same_entries dot_cmp dot_cmp_total dot_cmp_antisym (map.entries m) [] (map.entries_sorted m) tt
    (λ q. sym (map.get-entries m q) ∙ ap (λ (x : ByDot). map.get x q) is ∙ map.get-empty dot_cmp q)

pub none_long : (es : Entries) → length es ≡ 0 → es ≡ []
none_long [] e = refl
none_long (x ∷ es) e = absurd (omega arith)
