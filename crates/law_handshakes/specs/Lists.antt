-- Words on lists.
use Rattle.std.specs.Prelude.{◌≡◌, ℕ, ◌==◌, ◌⊎◌, Bool, true, false, cond, List, [], ◌∷◌}

-- ys is xs, in order, without some elements, of which P holds
abbrev pub Without : {A : Type 0} → (A → Type 0) → List A → List A → Type 0
Without P [] ys = ys ≡ []
Without {A = A} P (x ∷ xs) ys = (P x × Without P xs ys) ⊎ ((zs : List A) × (ys ≡ x ∷ zs) × Without P xs zs)

-- without the first that is the identifier
abbrev pub without : ℕ → List ℕ → List ℕ
without id [] = []
without id (k ∷ ks) = cond (k == id) ks (k ∷ without id ks)
