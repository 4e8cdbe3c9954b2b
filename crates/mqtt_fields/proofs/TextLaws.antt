-- Which bytes are a text.
use Rattle.std.proofs.Common.{◌≡◌, ℕ, suc, inl, inr, true, false, eqb, List, [], ◌∷◌, get_or, not, refl, arith}
use Rattle.std.specs.Prelude.{IsUtf8, ◌==◌, Contains}
use Rattle.std.specs.List.{list_all}
use Rattle.std.proofs.lemmas.Str.{is_utf8-from_IsUtf8, IsUtf8-from_is_utf8}
use Rattle.std.proofs.lemmas.List.Folds.{list_all_at}
use Rattle.std.proofs.lemmas.Bool.{both_ways, and_cases, eqb-true, not-false, and_from, and_left, and_right, false_from_ne_true}
use Rattle.mqtt_fields.specs.Numbers.{is_text}

pub is_text_from : (bs : List ℕ) → IsUtf8 bs → list_all (λ b. not (b == 0)) bs ≡ true → is_text bs ≡ true
is_text_from bs u z = and_from _ _ (is_utf8-from_IsUtf8 bs u) z

pub no_text_bytes : (bs : List ℕ) → (IsUtf8 bs → ⊥) → is_text bs ≡ false
no_text_bytes bs u = and_left _ _ (false_from_ne_true _ (λ e. u (IsUtf8-from_is_utf8 bs e)))

pub no_text_zero : (bs : List ℕ) → list_all (λ b. not (b == 0)) bs ≡ false → is_text bs ≡ false
no_text_zero bs z = and_right _ _ z

pub no_zero : (bs : List ℕ) → list_all (λ b. not (b == 0)) bs ≡ true → Contains bs 0 → ⊥
no_zero bs z h =
    let zero_there : not (eqb (get_or bs h.0 0) 0) ≡ false = rw h.2 refl in
    both_ways (list_all (λ b. not (b == 0)) bs) (list_all_at (λ b. not (b == 0)) bs h.0 0 h.1 zero_there) z

pub some_zero : (bs : List ℕ) → list_all (λ b. not (b == 0)) bs ≡ false → Contains bs 0
some_zero [] z = absurd cc
some_zero (b ∷ bs) z =
    elim (and_cases (not (eqb b 0)) (list_all (λ b. not (b == 0)) bs) z) [
      | inl here ↦ (0, omega arith, eqb-true b 0 (not-false (eqb b 0) here))
      | inr later ↦ let h = some_zero bs later in (suc h.0, omega (arith, h.1), h.2)
    ]

pub ruleset texts = (is_text_from, no_text_bytes, no_text_zero)
