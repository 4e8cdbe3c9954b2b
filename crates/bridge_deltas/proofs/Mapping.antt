-- A list whose elements are changed one after the other.
use Rattle.std.proofs.Common.{◌≡◌, ℕ, zero, suc, ◌+◌, ◌<◌, List, [], ◌∷◌, ◌++◌, length, take, drop, get_or, add-one, refl, sym, ap, ◌∙◌, arith}
use Rattle.std.specs.Prelude.{map}
use Rattle.std.proofs.Math.ListN.{set}

at_front : {A : Type 0} (f : A → A) (old : List A) (i : ℕ) (d : A) → i < length old → get_or (map f (take i old) ++ drop i old) i d ≡ get_or old i d
at_front f [] i d inside = absurd (omega (arith, inside))
at_front f (x ∷ xs) zero d inside = refl
at_front f (x ∷ xs) (suc i) d inside = at_front f xs i d (omega (arith, inside))

one_set : {A : Type 0} (f : A → A) (old : List A) (i : ℕ) (d : A) → i < length old → set (map f (take i old) ++ drop i old) i (f (get_or old i d)) ≡ map f (take (suc i) old) ++ drop (suc i) old
one_set f [] i d inside = absurd (omega (arith, inside))
one_set f (x ∷ xs) zero d inside = refl
one_set f (x ∷ xs) (suc i) d inside = ap (λ ys. f x ∷ ys) (one_set f xs i d (omega (arith, inside)))

pub one_changed : {A : Type 0} (f : A → A) (old now : List A) (i : ℕ) (here new : A) → i < length old → now ≡ map f (take i old) ++ drop i old → here ≡ get_or now i here → new ≡ f here
    → set now i new ≡ map f (take (i + 1) old) ++ drop (i + 1) old
one_changed f old now i here new inside so is changed =
    let found : new ≡ f (get_or old i here) = changed ∙ ap f (is ∙ ap (λ xs. get_or xs i here) so ∙ at_front f old i here inside) in
    ap (λ xs. set xs i new) so ∙ ap (set (map f (take i old) ++ drop i old) i) found ∙ one_set f old i here inside
    ∙ ap (λ k. map f (take k old) ++ drop k old) (sym (add-one i))
