-- Lists of pairs: what is found after pairs were taken out and put in.
use Rattle.std.proofs.Common.{◌≡◌, ℕ, ◌+◌, ◌<◌, Bool, true, false, cond, not, ◌||◌, List, [], ◌∷◌, ◌++◌, length, get_or, take, is_some, Option, Some, None, refl, sym, ap, ◌∙◌}
use Rattle.std.specs.List.{list_any}
use Rattle.std.specs.Ordering.{eq_by_cmp}
use Rattle.std.specs.declared.cmp.Ordering.{Ordering}
use Rattle.std.specs.declared.cmp.Ordering.TheVariants.{Equal}
use Rattle.std.specs.Cmp.{IsTotalOrder}
use Rattle.std.specs.FinMap.Entries.{find, find-where_key}
use Rattle.std.proofs.lemmas.List.Folds.{list_any_more}
use Rattle.subscription_set.specs.Sorted.{without_keys, has_key, first_of}

not_cond : {X : Type 0} (b : Bool) (x : Option X) → cond (not b) x None ≡ cond b None x
not_cond true x = refl
not_cond false x = refl

pub find_both : {K X : Type 0} (R : K → K → Ordering) (q : K) (xs ys : List (K × X)) → find R q (xs ++ ys) ≡ first_of (find R q xs) (find R q ys)
find_both R q [] ys = refl
find_both R q (x ∷ xs) ys = elim (eq_by_cmp R q x.0) as (λ b. cond b (Some x.1) (find R q (xs ++ ys)) ≡ first_of (cond b (Some x.1) (find R q xs)) (find R q ys)) [ true ↦ refl | false ↦ find_both R q xs ys ]

pub key_found : {K X : Type 0} (R : K → K → Ordering) (q : K) (es : List (K × X)) → has_key R q es ≡ is_some (find R q es)
key_found R q [] = refl
key_found R q (e ∷ es) = elim (eq_by_cmp R q e.0) as (λ b. (b || has_key R q es) ≡ is_some (cond b (Some e.1) (find R q es))) [ true ↦ refl | false ↦ key_found R q es ]

pub any_push : {X : Type 0} (p : X → Bool) (xs : List X) (x : X) → list_any p (xs ++ x ∷ []) ≡ (list_any p xs || p x)
any_push p [] x = last (p x)
  where
    last : (b : Bool) → (b || false) ≡ b
    last true = refl
    last false = refl
any_push p (y ∷ ys) x = elim (p y) as (λ b. (b || list_any p (ys ++ x ∷ [])) ≡ ((b || list_any p ys) || p x)) [ true ↦ refl | false ↦ any_push p ys x ]

-- one more key
pub one_key : {K X : Type 0} (R : K → K → Ordering) (xs : List (K × X)) (i : ℕ) (x : K × X) (q : K) → i < length xs → x ≡ get_or xs i x → (has_key R q (take i xs) || eq_by_cmp R q x.0) ≡ has_key R q (take (i + 1) xs)
one_key {K = K} {X = X} R xs i x q lt is = ap (λ (y : K × X). has_key R q (take i xs) || eq_by_cmp R q y.0) is ∙ sym (list_any_more (λ e. eq_by_cmp R q e.0) xs i x lt)

module _ {K X : Type 0} {R : K → K → Ordering} (o : IsTotalOrder R) where
  pub find_without : ((x y : K) → R x y ≡ Equal → x ≡ y) → (q : K) (keys : List K) (es : List (K × X)) → find R q (without_keys R keys es) ≡ cond (list_any (eq_by_cmp R q) keys) None (find R q es)
  find_without same q keys es =
      find-where_key R (λ x. not (list_any (eq_by_cmp R x) keys)) q (λ x e. ap (λ y. not (list_any (eq_by_cmp R y) keys)) (sym (same q x e))) es
      ∙ not_cond (list_any (eq_by_cmp R q) keys) (find R q es)
