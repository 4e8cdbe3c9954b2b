-- Texts that stand twice.
use Rattle.std.proofs.Common.{◌≡◌, ℕ, ◌+◌, ◌<◌, Bool, true, false, ◌||◌, List, [], ◌∷◌, ◌++◌, map, take, drop, length, get_or, refl, sym, ap, ◌∙◌, inl, inr}
use Rattle.std.specs.List.{list_any}
use Rattle.std.specs.Str.{bytes_eq}
use Rattle.std.proofs.lemmas.Bool.{or_cases}
use Rattle.std.proofs.lemmas.List.{take_more, map_push, map-append, take-append-drop}
use Rattle.std.proofs.lemmas.List.Folds.{list_any-append}
use Rattle.home_table.specs.Table.{stands_twice}

regrouped : (a b c d : Bool) → ((a || (b || false)) || (c || d)) ≡ ((a || c) || (b || d))
regrouped true b c d = refl
regrouped false true true d = refl
regrouped false true false d = refl
regrouped false false c d = refl

right_true : (a b : Bool) → b ≡ true → (a || b) ≡ true
right_true true b h = refl
right_true false b h = h

left_true : (a b : Bool) → a ≡ true → (a || b) ≡ true
left_true true b h = refl
left_true false b h = absurd (cc)

-- one more text at the end
pub stands_twice-push : (xs : List (List ℕ)) (x : List ℕ) → stands_twice (xs ++ x ∷ []) ≡ (stands_twice xs || list_any (λ y. bytes_eq y x) xs)
stands_twice-push [] x = refl
stands_twice-push (y ∷ xs) x =
    rw (list_any-append (bytes_eq y) xs (x ∷ []), stands_twice-push xs x)
    (regrouped (list_any (bytes_eq y) xs) (bytes_eq y x) (stands_twice xs) (list_any (λ z. bytes_eq z x) xs))

-- more texts at the end
pub stands_twice-front : (xs ys : List (List ℕ)) → stands_twice xs ≡ true → stands_twice (xs ++ ys) ≡ true
stands_twice-front [] ys h = absurd (cc)
stands_twice-front (x ∷ xs) ys h =
    elim (or_cases (list_any (bytes_eq x) xs) (stands_twice xs) h) [
      | inl here ↦ left_true _ _ (list_any-append (bytes_eq x) xs ys ∙ left_true _ _ here)
      | inr later ↦ right_true _ _ (stands_twice-front xs ys later)
    ]

module _ {A : Type 0} (text : A → List ℕ) where
  pub list_any-map : (p : List ℕ → Bool) (xs : List A) → list_any p (map text xs) ≡ list_any (λ x. p (text x)) xs
  list_any-map p [] = refl
  list_any-map p (x ∷ xs) = ap (λ b. p (text x) || b) (list_any-map p xs)

  -- the texts before a place, and the one there
  pub twice_more : (xs : List A) (i : ℕ) (d : A) → i < length xs → stands_twice (map text (take (i + 1) xs)) ≡ (stands_twice (map text (take i xs)) || list_any (λ y. bytes_eq (text y) (text (get_or xs i d))) (take i xs))
  twice_more xs i d inside =
      ap (λ ys. stands_twice (map text ys)) (take_more xs i d inside)
      ∙ ap stands_twice (map_push text (take i xs) (get_or xs i d))
      ∙ stands_twice-push (map text (take i xs)) (text (get_or xs i d))
      ∙ ap (λ b. stands_twice (map text (take i xs)) || b) (list_any-map (λ y. bytes_eq y (text (get_or xs i d))) (take i xs))

  -- what stands twice before a place stands twice
  pub twice_in_front : (xs : List A) (i : ℕ) → stands_twice (map text (take i xs)) ≡ true → stands_twice (map text xs) ≡ true
  twice_in_front xs i h =
      ap (λ ys. stands_twice (map text ys)) (sym (take-append-drop i xs)) ∙ ap stands_twice (map-append text (take i xs) (drop i xs))
      ∙ stands_twice-front (map text (take i xs)) (map text (drop i xs)) h
