-- Entries that pass tests.
use Rattle.std.proofs.Common.{◌≡◌, Bool, true, false, cond, ◌&&◌, ◌||◌, List, [], ◌∷◌, map, refl, ap, ◌∙◌}
use Rattle.std.specs.List.{filter, list_any}
use Rattle.std.specs.Ordering.{eq_by_cmp}
use Rattle.std.specs.FinSet as set
use Rattle.causal_context.specs.Dots.{Dot, dot_cmp, dot_cmp_total}
use Rattle.subscription_set.specs.declared.entry.Entry.{Entry}
use Rattle.subscription_set.specs.Standing.{Entries, dots_in}

pub filter-filter : {X : Type 0} (p q : X → Bool) (xs : List X) → filter p (filter q xs) ≡ filter (λ x. p x && q x) xs
filter-filter p q [] = refl
filter-filter p q (x ∷ xs) = elim (q x) as (λ b. filter p (cond b (x ∷ filter q xs) (filter q xs)) ≡ cond (p x && b) (x ∷ filter (λ y. p y && q y) xs) (filter (λ y. p y && q y) xs)) [
  | true ↦ elim (p x) as (λ a. cond a (x ∷ filter p (filter q xs)) (filter p (filter q xs)) ≡ cond (a && true) (x ∷ filter (λ y. p y && q y) xs) (filter (λ y. p y && q y) xs)) [ true ↦ ap (λ l. x ∷ l) (filter-filter p q xs) | false ↦ filter-filter p q xs ]
  | false ↦ elim (p x) as (λ a. filter p (filter q xs) ≡ cond (a && false) (x ∷ filter (λ y. p y && q y) xs) (filter (λ y. p y && q y) xs)) [ true ↦ filter-filter p q xs | false ↦ filter-filter p q xs ]
]

pub any-dots : (p : Entry → Bool) (q : Dot) (es : Entries) → list_any (eq_by_cmp dot_cmp q) (map (λ x. x.0) (filter (λ x. p x.1) es)) ≡ list_any (λ x. p x.1 && eq_by_cmp dot_cmp q x.0) es
any-dots p q [] = refl
any-dots p q (x ∷ es) = elim (p x.1) as (λ b. list_any (eq_by_cmp dot_cmp q) (map (λ x. x.0) (cond b (x ∷ filter (λ x. p x.1) es) (filter (λ x. p x.1) es))) ≡ ((b && eq_by_cmp dot_cmp q x.0) || list_any (λ x. p x.1 && eq_by_cmp dot_cmp q x.0) es)) [
  | true ↦ ap (λ b. eq_by_cmp dot_cmp q x.0 || b) (any-dots p q es)
  | false ↦ any-dots p q es
]

pub contains-dots_in : (p : Entry → Bool) (es : Entries) (q : Dot) → set.contains (dots_in p es) q ≡ list_any (λ x. p x.1 && eq_by_cmp dot_cmp q x.0) es
unfolding dots_in
contains-dots_in p es q = set.contains-from_list dot_cmp_total _ q ∙ any-dots p q es
