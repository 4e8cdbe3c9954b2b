-- What a test leaves of a list.
use Rattle.std.specs.Prelude.{◌≡◌, ◌⊎◌, List, [], ◌∷◌}

-- those elements that have a property, in their order
abbrev pub IsSelected : {A : Type 0} → (A → Type 0) → List A → List A → Type 0
IsSelected P [] out = out ≡ []
IsSelected {A} P (x ∷ xs) out = (P x × ((rest : List A) × (out ≡ x ∷ rest) × IsSelected P xs rest)) ⊎ (¬ (P x) × IsSelected P xs out)
