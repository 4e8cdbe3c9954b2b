-- Numbers among others.
use Rattle.std.proofs.Common.{◌≡◌, ℕ, List, [], ◌∷◌, ◌++◌, Bool, true, false, refl, sym, ◌∙◌, ap, inl, inr, eqb, eqb-true, ◌||◌, ◌&&◌}
use Rattle.std.proofs.lemmas.Bool.Decides.{eqb_tells}
use Rattle.std.specs.List.{dedup}
use Rattle.std.proofs.lemmas.Cmp.{nat_eq_equiv}
use Rattle.std.proofs.lemmas.List.Folds.{list_any-append}
use Rattle.std.proofs.lemmas.List.Kept.{Contains-dedup_nat, Contains-from_dedup}
use Rattle.std.proofs.lemmas.Map.Views.{Contains-from_any, list_any-from_Contains}
use Rattle.broker_turns.specs.Numbers.{is_among}
use Rattle.broker_turns.proofs.Stepping.{noted}

refl-and : (b : Bool) → b ≡ (b && true)
refl-and true = refl
refl-and false = refl

and-false : (b : Bool) → false ≡ (b && false)
and-false true = refl
and-false false = refl

-- two tests are the same where each tells what the other does
pub same-test : (a b : Bool) → (a ≡ true → b ≡ true) → (b ≡ true → a ≡ true) → a ≡ b
same-test true b there back = sym (there refl)
same-test false true there back = back refl
same-test false false there back = refl

pub among-append : (xs ys : List ℕ) (number : ℕ) → is_among (xs ++ ys) number ≡ (is_among xs number || is_among ys number)
among-append xs ys number = list_any-append (eqb number) xs ys

noted-apart : (b : Bool) (key number : ℕ) → eqb number key ≡ false → is_among (noted b key) number ≡ false
noted-apart true key number apart = ap (λ e. e || false) apart
noted-apart false key number apart = refl

noted-test : (test : ℕ → Bool) (key number : ℕ) → is_among (noted (test key) key) number ≡ is_among (noted (test number) key) number
noted-test test key number = elim (eqb_tells number key) [
  | inl same ↦ ap (λ k. is_among (noted (test k) key) number) (sym same.1)
  | inr apart ↦ noted-apart (test key) key number apart.0 ∙ sym (noted-apart (test number) key number apart.0)
]

noted-if : (before test : Bool) (key number : ℕ) → ((before && test) || is_among (noted test key) number) ≡ ((before || is_among (key ∷ []) number) && test)
noted-if true true key number = refl
noted-if true false key number = refl
noted-if false true key number = refl-and (is_among (key ∷ []) number)
noted-if false false key number = and-false (is_among (key ∷ []) number)

-- one more number, which is noted where it passes a test
pub noted-among : (due keys : List ℕ) (test : ℕ → Bool) (key number : ℕ) → is_among due number ≡ (is_among keys number && test number)
    → is_among (due ++ noted (test key) key) number ≡ (is_among (keys ++ key ∷ []) number && test number)
noted-among due keys test key number before =
    among-append due (noted (test key) key) number
    ∙ ap (λ b. b || is_among (noted (test key) key) number) before
    ∙ ap (λ b. (is_among keys number && test number) || b) (noted-test test key number)
    ∙ noted-if (is_among keys number) (test number) key number
    ∙ sym (ap (λ b. b && test number) (among-append keys (key ∷ []) number))

-- a sort and a removal of what stands twice leave the same numbers
pub among-dedup : (xs : List ℕ) (number : ℕ) → is_among (dedup eqb xs) number ≡ is_among xs number
among-dedup xs number = same-test (is_among (dedup eqb xs) number) (is_among xs number)
    (λ there. list_any-from_Contains nat_eq_equiv number xs (Contains-from_dedup eqb xs number (Contains-from_any eqb-true number (dedup eqb xs) there)))
    (λ there. list_any-from_Contains nat_eq_equiv number (dedup eqb xs) (Contains-dedup_nat xs number (Contains-from_any eqb-true number xs there)))
