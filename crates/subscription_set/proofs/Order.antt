-- When one set is below another.
use Rattle.std.proofs.Common.{is_some, ◌≡◌, ℕ, ◌+◌, ◌<◌, Bool, true, false, cond, ◌||◌, ◌∷◌, ◌++◌, [], Option, Some, None, refl, sym, ap, subst, ◌∙◌, length, get_or, take}
use Rattle.std.specs.FinSet as set
use Rattle.std.specs.FinMap as map
use Rattle.std.specs.Ordering.{eq_by_cmp}
use Rattle.std.proofs.lemmas.List.{take_more}
use Rattle.causal_context.specs.Dots.{Dots, Dot, dot_cmp, dot_cmp_total}
use Rattle.causal_context.specs.MapLattice.{OptionBelow}
use Rattle.causal_context.specs.SetLattice.{IsSubset}
use Rattle.subscription_set.specs.declared.entry.Entry.{Entry}
use Rattle.subscription_set.specs.Entries.{entry_eq-decides}
use Rattle.subscription_set.specs.Statuses.{Status, StatusBelow, StatusesBelow}
use Rattle.subscription_set.specs.Sorted.{first_of, has_key, Rises}
use Rattle.subscription_set.specs.Standing.{AreSeen, Entries, find_entry, statuses}
use Rattle.subscription_set.proofs.Seen.{get-statuses}
use Rattle.subscription_set.specs.Merging.{IsSet, same_entry}
use Rattle.subscription_set.proofs.JoinFormula.{HaveSame}
use Rattle.subscription_set.proofs.Places.{found_here}
use Rattle.subscription_set.proofs.Pairs.{find_both, key_found, one_key}
use Rattle.subscription_set.proofs.Plans.{tied_dot}

same_is : (x : Option Entry) (e : Entry) → same_entry x (Some e) ≡ true → x ≡ Some e
same_is None e h = cc
same_is (Some a) e h = ap Some ((entry_eq-decides a e).0 h)

is_same : (x : Option Entry) (e : Entry) → x ≡ Some e → same_entry x (Some e) ≡ true
is_same x e h = ap (λ y. same_entry y (Some e)) h ∙ (entry_eq-decides e e).1 refl

pub none_so_far : (c : Dots) (es : Entries) → HaveSame c es []
none_so_far c es q e h k = cc

module _ (c : Dots) (es fs : Entries) (i : ℕ) (x : Dot × Entry) (lt : i < length fs) (is : x ≡ get_or fs i x) where
  -- one more entry, whose dot was not seen or which is here too
  pub same_more : (set.contains c x.0 ≡ true → find_entry x.0 es ≡ Some x.1) → HaveSame c es (take i fs) → HaveSame c es (take (i + 1) fs)
  same_more here so q e h k = at (find_entry q (take i fs)) (eq_by_cmp dot_cmp q x.0) refl refl (sym found ∙ h)
    where
      found : find_entry q (take (i + 1) fs) ≡ first_of (find_entry q (take i fs)) (cond (eq_by_cmp dot_cmp q x.0) (Some x.1) None)
      found = ap (find_entry q) (take_more fs i x lt ∙ ap (λ y. take i fs ++ y ∷ []) (sym is)) ∙ find_both dot_cmp q (take i fs) (x ∷ [])

      at : (y : Option Entry) (b : Bool) → find_entry q (take i fs) ≡ y → eq_by_cmp dot_cmp q x.0 ≡ b → first_of y (cond b (Some x.1) None) ≡ Some e → find_entry q es ≡ Some e
      at (Some f) b a t w = so q e (a ∙ w) k
      at None true a t w = ap (λ d. find_entry d es) (tied_dot q x.0 t) ∙ here (ap (set.contains c) (sym (tied_dot q x.0 t)) ∙ k) ∙ w
      at None false a t w = cc

  -- an entry whose dot was seen and which is not here
  pub not_same : Rises dot_cmp fs → set.contains c x.0 ≡ true → same_entry (find_entry x.0 es) (Some x.1) ≡ false → HaveSame c es fs → ⊥
  not_same rises seen differs h =
      (let e = is_same _ x.1 (h x.0 x.1 (found_here dot_cmp_total fs i x rises lt is) seen) in cc)

pub here_by_test : (x : Option Entry) (e : Entry) (b : Bool) → b ≡ same_entry x (Some e) → b ≡ true → x ≡ Some e
here_by_test x e b is t = same_is x e (sym is ∙ t)

module _ (c k : Dots) (es fs : Entries) (p : IsSet c es) (r : IsSet k fs) where
  abbrev at : Bool → Option Entry → Option Status
  at b x = cond b (Some x) None

  pub below_from : IsSubset c k → HaveSame c es fs → StatusesBelow (statuses c es) (statuses k fs)
  below_from sub same q = subst (λ y. OptionBelow StatusBelow y (map.get (statuses k fs) q)) (sym (get-statuses c es q))
      (subst (OptionBelow StatusBelow (at (set.contains c q) (find_entry q es))) (sym (get-statuses k fs q)) (one (set.contains c q) (set.contains k q) (find_entry q es) (find_entry q fs) (sub q) (λ e h. same q e h)))
    where
      one : (a b : Bool) (x y : Option Entry) → (a ≡ true → b ≡ true) → ((e : Entry) → y ≡ Some e → a ≡ true → x ≡ Some e) → OptionBelow StatusBelow (at a x) (at b y)
      one false b x y s h = tt
      one true false x y s h = (let no = s refl in cc)
      one true true x None s h = tt
      one true true None (Some e) s h = (let no = h e refl refl in cc)
      one true true (Some a) (Some e) s h = (let same_e = h e refl refl in cc)

  pub subset_from : StatusesBelow (statuses c es) (statuses k fs) → IsSubset c k
  subset_from h q a = one (set.contains k q) refl
    where
      below : OptionBelow StatusBelow (at (set.contains c q) (find_entry q es)) (at (set.contains k q) (find_entry q fs))
      below = subst (λ y. OptionBelow StatusBelow y (at (set.contains k q) (find_entry q fs))) (get-statuses c es q) (subst (OptionBelow StatusBelow (map.get (statuses c es) q)) (get-statuses k fs q) (h q))

      one : (b : Bool) → set.contains k q ≡ b → set.contains k q ≡ true
      one true e = e
      one false e = absurd (subst (λ y. OptionBelow StatusBelow (at y (find_entry q es)) None) a (subst (λ y. OptionBelow StatusBelow (at (set.contains c q) (find_entry q es)) (at y (find_entry q fs))) e below))

  pub same_from : StatusesBelow (statuses c es) (statuses k fs) → HaveSame c es fs
  same_from h q e f a = one (find_entry q es) (subst (λ y. OptionBelow StatusBelow (at true (find_entry q es)) (Some y)) f (subst (λ y. OptionBelow StatusBelow (at true (find_entry q es)) (at y (find_entry q fs))) (subset_from h q a) (subst (λ y. OptionBelow StatusBelow (at y (find_entry q es)) (at (set.contains k q) (find_entry q fs))) a below)))
    where
      below : OptionBelow StatusBelow (at (set.contains c q) (find_entry q es)) (at (set.contains k q) (find_entry q fs))
      below = subst (λ y. OptionBelow StatusBelow y (at (set.contains k q) (find_entry q fs))) (get-statuses c es q) (subst (OptionBelow StatusBelow (map.get (statuses c es) q)) (get-statuses k fs q) (h q))

      one : (x : Option Entry) → OptionBelow StatusBelow (Some x) (Some (Some e)) → x ≡ Some e
      one None b = absurd b
      one (Some g) b = ap Some b

module _ (c : Dots) (es : Entries) (i : ℕ) (x : Dot × Entry) (lt : i < length es) (is : x ≡ get_or es i x) where
  -- one more entry whose dot was seen
  pub seen_more : set.contains c x.0 ≡ true → AreSeen c (take i es) → AreSeen c (take (i + 1) es)
  seen_more here so q h = by (has_key dot_cmp q (take i es)) (eq_by_cmp dot_cmp q x.0) refl refl (one_key dot_cmp es i x q lt is ∙ key_found dot_cmp q (take (i + 1) es) ∙ h)
    where
      by : (a b : Bool) → has_key dot_cmp q (take i es) ≡ a → eq_by_cmp dot_cmp q x.0 ≡ b → (has_key dot_cmp q (take i es) || eq_by_cmp dot_cmp q x.0) ≡ true → set.contains c q ≡ true
      by true b a_is b_is e = so q (sym (key_found dot_cmp q (take i es)) ∙ a_is)
      by false true a_is b_is e = ap (set.contains c) (tied_dot q x.0 b_is) ∙ here
      by false false a_is b_is e = (let none = sym (λ j. a_is j || b_is j) ∙ e in cc)

  -- an entry whose dot was not seen
  pub not_seen : Rises dot_cmp es → set.contains c x.0 ≡ false → AreSeen c es → ⊥
  not_seen rises unseen h = (let seen = h x.0 (ap is_some (found_here dot_cmp_total es i x rises lt is)) in cc)

pub none_to_see : (c : Dots) → AreSeen c []
none_to_see c q h = cc
