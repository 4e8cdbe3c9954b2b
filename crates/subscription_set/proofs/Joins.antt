-- What loops over entries and dots leave.
use Rattle.std.proofs.Common.{◌≡◌, ℕ, zero, suc, ◌≤◌, ◌+◌, ◌<◌, Bool, true, false, cond, not, ◌||◌, ◌&&◌, T, List, [], ◌∷◌, ◌++◌, length, get_or, take, is_some, Result, Ok, Err, OnErr, Bor, option_copied, Option, Some, None, refl, sym, ap, subst, ◌∙◌}
use Rattle.std.specs.List.{list_any}
use Rattle.std.specs.Ordering.{eq_by_cmp}
use Rattle.std.specs.Cmp.{Equal-is}
use Rattle.std.specs.FinMap as map
use Rattle.std.specs.FinSet as set
use Rattle.std.specs.FinMap.Entries.{where_key}
use Rattle.std.proofs.lemmas.List.{take_all}
use Rattle.std.proofs.lemmas.List.Folds.{list_any_more}
use Rattle.causal_context.specs.Dots.{Dots, Dot, dot_cmp, dot_cmp_total, dot_cmp_antisym}
use Rattle.causal_context.specs.declared.ranges.Range.{Range}
use Rattle.causal_context.specs.Ranges.{covers, covered, set_of}
use Rattle.causal_context.proofs.RangeSets.{contains-set_of}
use Rattle.subscription_set.specs.Entries.{Entry}
use Rattle.subscription_set.specs.Standing.{Entries, find_entry}
use Rattle.subscription_set.specs.Sorted.{Rises}
use Rattle.subscription_set.specs.Merging.{same_entry}
use Rattle.subscription_set.specs.Indexing.{ByDot}
use Rattle.subscription_set.specs.Joining.{leaves_with, leaving_in, leaves_from, AreLeaving, AreUnseen, IsBrought, IsCleared}
use Rattle.subscription_set.proofs.Places.{found_none, first_part, second_part}
use Rattle.subscription_set.proofs.Pairs.{any_push}
use Rattle.subscription_set.proofs.Latest.{any_filter}

tied : (d x : Dot) → eq_by_cmp dot_cmp d x ≡ true → d ≡ x
tied d x t = dot_cmp_antisym d x ((Equal-is (dot_cmp d x)).0 t)

-- ---- a loop that picks dots of entries

abbrev pub any_of : (Dot × Entry → Bool) → Dot → Entries → Bool
any_of t q es = list_any (λ y. eq_by_cmp dot_cmp q y.0 && t y) es

abbrev pub Moved : (Dot × Entry → Bool) → List Dot → Entries → List Dot → Entries → Type 0
Moved t out left first all = (q : Dot) → (list_any (eq_by_cmp dot_cmp q) out || any_of t q left) ≡ (list_any (eq_by_cmp dot_cmp q) first || any_of t q all)

shift : (a b c d : Bool) → d ≡ true → ((a || b) || c) ≡ (a || ((b && d) || c))
shift true b c d e = refl
shift false true c true e = refl
shift false true c false e = cc
shift false false c d e = refl

skip : (b c d : Bool) → d ≡ false → c ≡ ((b && d) || c)
skip true c true e = cc
skip true c false e = refl
skip false c d e = refl

module _ (t : Dot × Entry → Bool) (x : Dot × Entry) (out out' : List Dot) (left left' : Entries) (first : List Dot) (all : Entries) (one : left ≡ x ∷ left') where
  pub moved_yes : t x ≡ true → out' ≡ out ++ x.0 ∷ [] → Moved t out left first all → Moved t out' left' first all
  moved_yes passes pushed so q =
      ap (λ o. list_any (eq_by_cmp dot_cmp q) o || any_of t q left') pushed ∙ ap (λ b. b || any_of t q left') (any_push (eq_by_cmp dot_cmp q) out x.0)
      ∙ shift (list_any (eq_by_cmp dot_cmp q) out) (eq_by_cmp dot_cmp q x.0) (any_of t q left') (t x) passes ∙ ap (λ l. list_any (eq_by_cmp dot_cmp q) out || any_of t q l) (sym one) ∙ so q

  pub moved_no : t x ≡ false → out' ≡ out → Moved t out left first all → Moved t out' left' first all
  moved_no fails same so q =
      ap (λ o. list_any (eq_by_cmp dot_cmp q) o || any_of t q left') same ∙ ap (λ b. list_any (eq_by_cmp dot_cmp q) out || b) (skip (eq_by_cmp dot_cmp q x.0) (any_of t q left') (t x) fails)
      ∙ ap (λ l. list_any (eq_by_cmp dot_cmp q) out || any_of t q l) (sym one) ∙ so q

or_none : (b : Bool) → b ≡ (b || false)
or_none true = refl
or_none false = refl

pub moved_end : (t : Dot × Entry → Bool) (out : List Dot) (left : Entries) (first : List Dot) (all : Entries) → left ≡ [] → Moved t out left first all → (q : Dot) → list_any (eq_by_cmp dot_cmp q) out ≡ (list_any (eq_by_cmp dot_cmp q) first || any_of t q all)
moved_end t out left first all none so q = or_none (list_any (eq_by_cmp dot_cmp q) out) ∙ ap (λ l. list_any (eq_by_cmp dot_cmp q) out || any_of t q l) (sym none) ∙ so q

-- ---- at one dot

abbrev pub at_entry : (Dot × Entry → Bool) → Dot → Option Entry → Bool
at_entry t q None = false
at_entry t q (Some e) = t (q, e)

pub any_keyed : (t : Dot × Entry → Bool) (q : Dot) (es : Entries) → Rises dot_cmp es → any_of t q es ≡ at_entry t q (find_entry q es)
any_keyed t q [] h = refl
any_keyed t q (x ∷ es) h = ap (λ b. (eq_by_cmp dot_cmp q x.0 && t x) || b) (any_keyed t q es (second_part _ _ h)) ∙ by (eq_by_cmp dot_cmp q x.0) refl
  where
    by : (b : Bool) → eq_by_cmp dot_cmp q x.0 ≡ b → ((b && t x) || at_entry t q (find_entry q es)) ≡ at_entry t q (cond b (Some x.1) (find_entry q es))
    by true e =
        ap (λ g. t x || at_entry t q g) (found_none dot_cmp_total es q (subst (λ d. T (map.Entries.below_all dot_cmp d es)) (sym (tied q x.0 e)) (first_part _ _ h))) ∙ sym (or_none (t x))
        ∙ (λ i. t (sym (tied q x.0 e) i, x.1))
    by false e = refl

pub any_of_map : (t : Dot × Entry → Bool) (q : Dot) (m : ByDot) → any_of t q (map.entries m) ≡ at_entry t q (map.get m q)
any_of_map t q m = any_keyed t q (map.entries m) (map.entries_sorted m) ∙ ap (at_entry t q) (sym (map.get-entries m q))

pub unseen_at : (seen : Dots) (others : ByDot) (q : Dot) → any_of (λ y. not (set.contains seen y.0)) q (map.entries others) ≡ (is_some (map.get others q) && not (set.contains seen q))
unseen_at seen others q = any_of_map (λ y. not (set.contains seen y.0)) q others ∙ by (map.get others q)
  where
    by : (g : Option Entry) → at_entry (λ y. not (set.contains seen y.0)) q g ≡ (is_some g && not (set.contains seen q))
    by None = refl
    by (Some e) = refl

pub unseen_all : (seen : Dots) (others : ByDot) (out : List Dot) → ((q : Dot) → list_any (eq_by_cmp dot_cmp q) out ≡ any_of (λ y. not (set.contains seen y.0)) q (map.entries others)) → AreUnseen seen others out
unseen_all seen others out so q = so q ∙ unseen_at seen others q

-- ---- ranges

module _ (m : ByDot) (seen : Dots) (others : ByDot) where
  and_turn : (a b c : Bool) → ((a && b) && c) ≡ (a && (b && c))
  and_turn true b c = refl
  and_turn false b c = refl

  in_range : (r : Range) (q : Dot) (es : Entries) → list_any (leaving_in seen others q) (where_key dot_cmp (λ d. covers d r) es) ≡ any_of (λ y. leaves_with seen others y && covers y.0 r) q es
  in_range r q es = any_filter (leaving_in seen others q) (λ y. covers y.0 r) es ∙ same es
    where
      same : (xs : Entries) → list_any (λ y. leaving_in seen others q y && covers y.0 r) xs ≡ any_of (λ y. leaves_with seen others y && covers y.0 r) q xs
      same xs = ap (λ (p : Dot × Entry → Bool). list_any p xs) (λ i y. and_turn (eq_by_cmp dot_cmp q y.0) (leaves_with seen others y) (covers y.0 r) i)

  one_range : (r : Range) (q : Dot) → list_any (leaving_in seen others q) (where_key dot_cmp (λ d. covers d r) (map.entries m)) ≡ (covers q r && leaves_from m seen others q)
  one_range r q = in_range r q (map.entries m) ∙ any_of_map (λ y. leaves_with seen others y && covers y.0 r) q m ∙ by (map.get m q)
    where
      turn : (a b : Bool) → (a && b) ≡ (b && a)
      turn true true = refl
      turn true false = refl
      turn false true = refl
      turn false false = refl

      by : (g : Option Entry) → at_entry (λ y. leaves_with seen others y && covers y.0 r) q g ≡ (covers q r && (is_some g && (set.contains seen q && not (same_entry g (map.get others q)))))
      by None = none (covers q r)
        where
          none : (b : Bool) → false ≡ (b && false)
          none true = refl
          none false = refl
      by (Some e) = turn (leaves_with seen others (q, e)) (covers q r)

  abbrev pub LeavingIn : List Range → List Dot → Type 0
  LeavingIn rs out = (q : Dot) → list_any (eq_by_cmp dot_cmp q) out ≡ (covered q rs && leaves_from m seen others q)

  both : (a b l : Bool) → ((a && l) || (b && l)) ≡ ((a || b) && l)
  both true b true = refl
  both true true false = refl
  both true false false = refl
  both false b l = refl

  pub leaving_more : (rs : List Range) (i : ℕ) (r : Range) → i < length rs → r ≡ get_or rs i r → (out out' : List Dot) → LeavingIn (take i rs) out
      → ((q : Dot) → list_any (eq_by_cmp dot_cmp q) out' ≡ (list_any (eq_by_cmp dot_cmp q) out || list_any (leaving_in seen others q) (where_key dot_cmp (λ d. covers d r) (map.entries m)))) → LeavingIn (take (i + 1) rs) out'
  leaving_more rs i r lt is out out' so more q =
      more q ∙ (λ j. so q j || one_range r q j) ∙ both (covered q (take i rs)) (covers q r) (leaves_from m seen others q)
      ∙ ap (λ b. b && leaves_from m seen others q) (ap (λ y. covered q (take i rs) || covers q y) is ∙ sym (list_any_more (covers q) rs i r lt))

  and_none : (b : Bool) → (b && false) ≡ false
  and_none true = refl
  and_none false = refl

  pub leaving_nowhere : AreLeaving m seen others [] → (rs : List Range) (i : ℕ) (r : Range) (out : List Dot) → LeavingIn (take i rs) out
      → (q : Dot) → (list_any (eq_by_cmp dot_cmp q) out || list_any (leaving_in seen others q) (where_key dot_cmp (λ d. covers d r) (map.entries m))) ≡ false
  leaving_nowhere none rs i r out so q =
      (λ j. so q j || one_range r q j) ∙ both (covered q (take i rs)) (covers q r) (leaves_from m seen others q)
      ∙ ap (λ b. (covered q (take i rs) || covers q r) && b) (sym (none q)) ∙ and_none (covered q (take i rs) || covers q r)

  pub leaving_all : (rs : List Range) (i : ℕ) → length rs ≤ i → set_of rs ≡ seen → (out : List Dot) → LeavingIn (take i rs) out → AreLeaving m seen others out
  leaving_all rs i le is out so q =
      so q ∙ ap (λ b. b && leaves_from m seen others q) (ap (covered q) (take_all i rs le) ∙ sym (contains-set_of rs q) ∙ ap (λ s. set.contains s q) is) ∙ by (set.contains seen q) (is_some (map.get m q)) (not (same_entry (map.get m q) (map.get others q)))
    where
      by : (a b c : Bool) → (a && (b && (a && c))) ≡ (b && (a && c))
      by true b c = refl
      by false true c = refl
      by false false c = refl

pub leaving_none : (m : ByDot) (seen : Dots) (others : ByDot) (rs : List Range) (out : List Dot) → out ≡ [] → LeavingIn m seen others (take 0 rs) out
leaving_none m seen others rs out none q = ap (list_any (eq_by_cmp dot_cmp q)) none ∙ ap (λ b. b && leaves_from m seen others q) (sym (zero_covered q rs))
  where
    zero_covered : (q : Dot) (xs : List Range) → covered q (take 0 xs) ≡ false
    zero_covered q [] = refl
    zero_covered q (r ∷ xs) = refl

-- ---- bringing and clearing

any_one_more : (q : Dot) (dots : List Dot) (i : ℕ) (d : Dot) → i < length dots → d ≡ get_or dots i d → list_any (eq_by_cmp dot_cmp q) (take (i + 1) dots) ≡ (list_any (eq_by_cmp dot_cmp q) (take i dots) || eq_by_cmp dot_cmp q d)
any_one_more q dots i d lt is = list_any_more (eq_by_cmp dot_cmp q) dots i d lt ∙ ap (λ y. list_any (eq_by_cmp dot_cmp q) (take i dots) || eq_by_cmp dot_cmp q y) (sym is)

pub brought_one : (m : ByDot) (others : ByDot) (d : Dot) (e : Entry) → map.get m d ≡ None → map.get others d ≡ Some e → (q : Dot)
    → map.get (map.insert m d e) q ≡ cond (is_some (map.get m q)) (map.get m q) (cond (eq_by_cmp dot_cmp q d) (map.get others q) None)
brought_one m others d e none is q = map.get-insert dot_cmp_total m d e q ∙ by (eq_by_cmp dot_cmp q d) refl
  where
    by : (b : Bool) → eq_by_cmp dot_cmp q d ≡ b → cond b (Some e) (map.get m q) ≡ cond (is_some (map.get m q)) (map.get m q) (cond b (map.get others q) None)
    by true t = (let a = ap (map.get m) (tied q d t) ∙ none in let b = ap (map.get others) (tied q d t) ∙ is in sym b ∙ ap (λ g. cond (is_some g) g (map.get others q)) (sym a))
    by false t = at (map.get m q)
      where
        at : (g : Option Entry) → g ≡ cond (is_some g) g None
        at None = refl
        at (Some x) = refl

pub brought_none : (m others : ByDot) (d : Dot) → map.get others d ≡ None → (q : Dot) → map.get m q ≡ cond (is_some (map.get m q)) (map.get m q) (cond (eq_by_cmp dot_cmp q d) (map.get others q) None)
brought_none m others d none q = by (eq_by_cmp dot_cmp q d) refl (map.get m q)
  where
    by : (b : Bool) → eq_by_cmp dot_cmp q d ≡ b → (g : Option Entry) → g ≡ cond (is_some g) g (cond b (map.get others q) None)
    by b t (Some x) = refl
    by true t None = sym (ap (map.get others) (tied q d t) ∙ none)
    by false t None = refl

pub brought_there : (m others : ByDot) (d : Dot) → is_some (map.get m d) ≡ true → (q : Dot) → map.get m q ≡ cond (is_some (map.get m q)) (map.get m q) (cond (eq_by_cmp dot_cmp q d) (map.get others q) None)
brought_there m others d there q = by (eq_by_cmp dot_cmp q d) refl (map.get m q) refl
  where
    by : (b : Bool) → eq_by_cmp dot_cmp q d ≡ b → (g : Option Entry) → map.get m q ≡ g → g ≡ cond (is_some g) g (cond b (map.get others q) None)
    by b t (Some x) is = refl
    by true t None is = (let no = ap (λ y. is_some (map.get m y)) (sym (tied q d t)) ∙ ap (λ (g : Option Entry). is_some g) is in cc)
    by false t None is = refl

none_any : (q : Dot) (dots : List Dot) → list_any (eq_by_cmp dot_cmp q) (take 0 dots) ≡ false
none_any q [] = refl
none_any q (d ∷ dots) = refl

pub brought_start : (m others : ByDot) (dots : List Dot) → IsBrought m others (take 0 dots) m
brought_start m others dots q = at (map.get m q) ∙ ap (λ b. cond (is_some (map.get m q)) (map.get m q) (cond b (map.get others q) None)) (sym (none_any q dots))
  where
    at : (g : Option Entry) → g ≡ cond (is_some g) g None
    at None = refl
    at (Some x) = refl

pub brought_more : (m others n n' : ByDot) (dots : List Dot) (i : ℕ) (d : Dot) → i < length dots → d ≡ get_or dots i d → IsBrought m others (take i dots) n
    → ((q : Dot) → map.get n' q ≡ cond (is_some (map.get n q)) (map.get n q) (cond (eq_by_cmp dot_cmp q d) (map.get others q) None)) → IsBrought m others (take (i + 1) dots) n'
brought_more m others n n' dots i d lt is so more q =
    more q ∙ ap (λ g. cond (is_some g) g (cond (eq_by_cmp dot_cmp q d) (map.get others q) None)) (so q) ∙ by (map.get m q) (list_any (eq_by_cmp dot_cmp q) (take i dots)) (eq_by_cmp dot_cmp q d) (map.get others q)
    ∙ ap (λ b. cond (is_some (map.get m q)) (map.get m q) (cond b (map.get others q) None)) (sym (any_one_more q dots i d lt is))
  where
    by : (g : Option Entry) (a b : Bool) (f : Option Entry) → cond (is_some (cond (is_some g) g (cond a f None))) (cond (is_some g) g (cond a f None)) (cond b f None) ≡ cond (is_some g) g (cond (a || b) f None)
    by (Some x) a b f = refl
    by None true b None = none b
      where
        none : (c : Bool) → cond {A = Option Entry} c None None ≡ None
        none true = refl
        none false = refl
    by None true b (Some y) = refl
    by None false b f = refl

pub brought_others : (m others n : ByDot) (dots : List Dot) → IsBrought m others dots n → (q : Dot) → list_any (eq_by_cmp dot_cmp q) dots ≡ false → map.get n q ≡ map.get m q
brought_others m others n dots so q e = so q ∙ ap (λ b. cond (is_some (map.get m q)) (map.get m q) (cond b (map.get others q) None)) e ∙ at (map.get m q)
  where
    at : (g : Option Entry) → cond (is_some g) g None ≡ g
    at None = refl
    at (Some x) = refl

pub front_none : (q : Dot) (dots : List Dot) (i : ℕ) → list_any (eq_by_cmp dot_cmp q) dots ≡ false → list_any (eq_by_cmp dot_cmp q) (take i dots) ≡ false
front_none q [] zero e = refl
front_none q [] (suc i) e = refl
front_none q (d ∷ dots) zero e = refl
front_none q (d ∷ dots) (suc i) e = by (eq_by_cmp dot_cmp q d) (front_none q dots i) e
  where
    by : (b : Bool) → (list_any (eq_by_cmp dot_cmp q) dots ≡ false → list_any (eq_by_cmp dot_cmp q) (take i dots) ≡ false) → (b || list_any (eq_by_cmp dot_cmp q) dots) ≡ false → (b || list_any (eq_by_cmp dot_cmp q) (take i dots)) ≡ false
    by true rest e = cc
    by false rest e = rest e

pub cleared_start : (m : ByDot) (dots : List Dot) → IsCleared m (take 0 dots) m
cleared_start m dots q = ap (λ b. cond b None (map.get m q)) (sym (none_any q dots))

pub cleared_more : (m n : ByDot) (dots : List Dot) (i : ℕ) (d : Dot) → i < length dots → d ≡ get_or dots i d → IsCleared m (take i dots) n → IsCleared m (take (i + 1) dots) (map.remove n d)
cleared_more m n dots i d lt is so q =
    map.get-remove dot_cmp_total n d q ∙ ap (cond (eq_by_cmp dot_cmp q d) None) (so q) ∙ by (eq_by_cmp dot_cmp q d) (list_any (eq_by_cmp dot_cmp q) (take i dots)) ∙ ap (λ b. cond b None (map.get m q)) (sym (any_one_more q dots i d lt is))
  where
    by : (a b : Bool) → cond a None (cond b None (map.get m q)) ≡ cond (b || a) None (map.get m q)
    by true true = refl
    by true false = refl
    by false true = refl
    by false false = refl

pub cleared_back : (m n k : ByDot) (dots : List Dot) → ((q : Dot) → list_any (eq_by_cmp dot_cmp q) dots ≡ true → map.get m q ≡ None) → ((q : Dot) → list_any (eq_by_cmp dot_cmp q) dots ≡ false → map.get n q ≡ map.get m q) → IsCleared n dots k → k ≡ m
cleared_back m n k dots none others so = map.same_map dot_cmp_total dot_cmp_antisym _ _ (λ q. so q ∙ by q (list_any (eq_by_cmp dot_cmp q) dots) refl)
  where
    by : (q : Dot) (b : Bool) → list_any (eq_by_cmp dot_cmp q) dots ≡ b → cond b None (map.get n q) ≡ map.get m q
    by q true e = sym (none q e)
    by q false e = others q e

pub no_entry : (r : Option (Bor Entry)) (g : Option Entry) → option_copied r ≡ g → false ≡ is_some r → g ≡ None
no_entry None g e n = sym e
no_entry (Some x) g e n = cc

pub on_err : {A E : Type 0} {P : Type 0} (r : Result A E) → P → OnErr r P
on_err (Ok a) p = tt
on_err (Err e) p = p
