-- An element of a list, and two that stand side by side.
use Rattle.std.proofs.Common.{◌≡◌, ℕ, zero, suc, ◌+◌, ◌-◌, ◌<◌, ◌≤◌, length, List, [], ◌∷◌, get_or, arith, refl, sym, ap, subst, subst₂, ◌∙◌}
use Rattle.std.specs.List.{All}

pub any_default : {X : Type 0} (xs : List X) (i : ℕ) (d e : X) → i < length xs → get_or xs i d ≡ get_or xs i e
any_default [] i d e low = absurd (omega (arith, low))
any_default (x ∷ xs) zero d e low = refl
any_default (x ∷ xs) (suc i) d e low = any_default xs i d e (omega (arith, low))

pub here : {X : Type 0} (P : X → Type 0) (xs : List X) (i : ℕ) (x : X) → i < length xs → x ≡ get_or xs i x → All P xs → P x
here P xs i x low is all = subst P (sym is) (all i x low)

later : (j : ℕ) → suc j ≡ j + 1
later j = omega arith

before : (j : ℕ) → suc j - 1 ≡ j
before j = omega arith

pub side_by_side : {X : Type 0} (R : X → X → Type 0) (xs : List X) (i : ℕ) (low high : X) → 1 ≤ i → i < length xs → low ≡ get_or xs (i - 1) low → high ≡ get_or xs i high
    → ((k : ℕ) (d : X) → k + 1 < length xs → R (get_or xs k d) (get_or xs (k + 1) d)) → R low high
side_by_side R xs zero low high one inside is at up = absurd (omega (arith, one))
side_by_side R xs (suc j) low high one inside is at up =
    subst₂ R (sym (is ∙ ap (λ n. get_or xs n low) (before j))) (sym (at ∙ any_default xs (suc j) high low inside ∙ ap (λ n. get_or xs n low) (later j))) (up j low (omega (arith, inside)))
