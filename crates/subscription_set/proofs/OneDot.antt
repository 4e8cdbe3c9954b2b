-- Sets of one dot.
use Rattle.std.proofs.Common.{◌≡◌, Bool, true, false, not, ◌||◌, ◌&&◌, List, [], ◌∷◌, length, refl, sym, ap, subst, ◌∙◌, arith}
use Rattle.std.specs.List.{list_any}
use Rattle.std.specs.List.Sorted.{IsStrictlySortedBy}
use Rattle.std.specs.Ordering.{eq_by_cmp, is_eq}
use Rattle.std.specs.Cmp.{Equal-is, tied_itself}
use Rattle.std.specs.FinSet as set
use Rattle.causal_context.specs.Dots.{Dot, Dots, dot_cmp, dot_cmp_total, dot_cmp_antisym}
use Rattle.subscription_set.specs.Filing.{IsEmptiness}

tied : (d x : Dot) → eq_by_cmp dot_cmp d x ≡ true → d ≡ x
tied d x t = dot_cmp_antisym d x ((Equal-is (dot_cmp d x)).0 t)

in_one : (d q : Dot) → set.contains (set.from_list {R = dot_cmp} (d ∷ [])) q ≡ (eq_by_cmp dot_cmp q d || false)
in_one d q = set.contains-from_list dot_cmp_total (d ∷ []) q

again : (a : Bool) → (a || false) ≡ (a || (a || false))
again true = refl
again false = refl

pub put_again : (x d : Dot) → eq_by_cmp dot_cmp x d ≡ true → set.from_list {R = dot_cmp} (x ∷ []) ≡ set.insert (set.from_list (x ∷ [])) d
put_again x d same = subst (λ y. set.from_list {R = dot_cmp} (x ∷ []) ≡ set.insert (set.from_list (x ∷ [])) y) (tied x d same) (set.same_set dot_cmp_total dot_cmp_antisym _ _ (λ q.
    in_one x q ∙ again (eq_by_cmp dot_cmp q x) ∙ ap (λ b. eq_by_cmp dot_cmp q x || b) (sym (in_one x q)) ∙ sym (set.contains-insert dot_cmp_total (set.from_list (x ∷ [])) x q)))

gone : (a : Bool) → false ≡ (not a && (a || false))
gone true = refl
gone false = refl

pub take_last : (x d : Dot) → eq_by_cmp dot_cmp x d ≡ true → set.from_list {R = dot_cmp} [] ≡ set.remove (set.from_list (x ∷ [])) d
take_last x d same = subst (λ y. set.from_list {R = dot_cmp} [] ≡ set.remove (set.from_list (x ∷ [])) y) (tied x d same) (set.same_set dot_cmp_total dot_cmp_antisym _ _ (λ q.
    set.contains-from_list dot_cmp_total [] q ∙ gone (eq_by_cmp dot_cmp q x) ∙ ap (λ b. not (eq_by_cmp dot_cmp q x) && b) (sym (in_one x q)) ∙ sym (set.contains-remove dot_cmp_total (set.from_list (x ∷ [])) x q)))

apart : (a b : Bool) → (a ≡ true → b ≡ false) → (a || false) ≡ (not b && (a || false))
apart true true h = (let no = h refl in cc)
apart true false h = refl
apart false true h = refl
apart false false h = refl

pub take_other : (x d : Dot) → eq_by_cmp dot_cmp x d ≡ false → set.from_list {R = dot_cmp} (x ∷ []) ≡ set.remove (set.from_list (x ∷ [])) d
take_other x d other = set.same_set dot_cmp_total dot_cmp_antisym _ _ (λ q.
    in_one x q ∙ apart (eq_by_cmp dot_cmp q x) (eq_by_cmp dot_cmp q d) (λ t. ap (λ y. eq_by_cmp dot_cmp y d) (tied q x t) ∙ other)
    ∙ ap (λ b. not (eq_by_cmp dot_cmp q d) && b) (sym (in_one x q)) ∙ sym (set.contains-remove dot_cmp_total (set.from_list (x ∷ [])) d q))

pub has_one : (d : Dot) → set.contains (set.from_list {R = dot_cmp} (d ∷ [])) d ≡ true
has_one d = in_one d d ∙ ap (λ r. is_eq r || false) (tied_itself dot_cmp_total d)

-- a dot is in no empty set, and another one isn't in the set of this one
pub not_empty : (d : Dot) (ks : List Dot) → set.from_list {R = dot_cmp} (d ∷ ks) ≡ set.empty → ⊥
not_empty d ks none = (let no = sym (set.contains-from_list dot_cmp_total (d ∷ ks) d ∙ ap (λ r. is_eq r || list_any (eq_by_cmp dot_cmp d) ks) (tied_itself dot_cmp_total d)) ∙ ap (λ s. set.contains s d) none ∙ set.contains-empty dot_cmp d in cc)

pub none_of_keys : (ks : List Dot) → set.from_list {R = dot_cmp} ks ≡ set.empty → length ks ≡ 0
none_of_keys [] none = refl
none_of_keys (k ∷ ks) none = absurd (not_empty k ks none)

pub not_other : (x d : Dot) → eq_by_cmp dot_cmp x d ≡ false → set.contains (set.from_list {R = dot_cmp} (x ∷ [])) d ≡ true → ⊥
not_other x d other there = by (eq_by_cmp dot_cmp d x) refl (sym (in_one x d) ∙ there)
  where
    by : (b : Bool) → eq_by_cmp dot_cmp d x ≡ b → (b || false) ≡ true → ⊥
    by true t e = (let no = sym other ∙ ap (eq_by_cmp dot_cmp x) (tied d x t) ∙ ap is_eq (tied_itself dot_cmp_total x) in cc)
    by false t e = cc

pub has_none : (ks : List Dot) (s : Dots) (b : Bool) → set.from_list ks ≡ s → (b ≡ true → length ks ≡ 0) → (length ks ≡ 0 → b ≡ true) → IsEmptiness s b
has_none [] s true is t f = λ q. ap (λ v. set.contains v q) (sym is) ∙ set.contains-from_list dot_cmp_total [] q
has_none (k ∷ ks) s true is t f = absurd (let z = t refl in omega (arith, z))
has_none [] s false is t f = (let z = f refl in cc)
has_none (k ∷ ks) s false is t f = (k, ap (λ v. set.contains v k) (sym is) ∙ set.contains-from_list dot_cmp_total (k ∷ ks) k ∙ ap (λ r. is_eq r || list_any (eq_by_cmp dot_cmp k) ks) (tied_itself dot_cmp_total k))

pub one_rises : (d : Dot) (ks : List Dot) → ks ≡ d ∷ [] → IsStrictlySortedBy dot_cmp ks
unfolding IsStrictlySortedBy
one_rises d ks is = subst (IsStrictlySortedBy dot_cmp) (sym is) (tt, tt)
