-- Whether acts alter a row.
use Rattle.std.proofs.Common.{◌≡◌, ◌≢◌, inl, inr, ℕ, List, [], ◌∷◌, Option, Some, None, refl, sym, ap, ◌∙◌, true≢false}
use Rattle.std.specs.Prelude.{◌⊎◌}
use Rattle.std.specs.Str.{bytes_eq}
use Rattle.std.proofs.lemmas.Bool.{cases_Bool}
use Rattle.std.proofs.lemmas.Slice.Eq.{bytes_eq-Decides}
use Rattle.node_work.specs.Acts.{Act, next}
use Rattle.node_work.specs.Lasting.{Alter, held_row}
use Rattle.node_work.specs.View.{HeldView}
use Rattle.row_store.specs.Rows.{Key}

-- two rows are the same, or they aren't
pub same_rows : (a b : Option (List ℕ)) → (a ≡ b) ⊎ (a ≢ b)
same_rows None None = inl refl
same_rows None (Some w) = inr (λ e. (let z : None ≡ Some w = e in cc))
same_rows (Some v) None = inr (λ e. (let z : Some v ≡ None = e in cc))
same_rows (Some v) (Some w) = elim (cases_Bool (bytes_eq v w)) [
  | inl t ↦ inl (ap (λ x. Some x) ((bytes_eq-Decides v w).0 t))
  | inr f ↦ inr (λ e. (let s : Some v ≡ Some w = e in let same : v ≡ w = cc in true≢false (sym ((bytes_eq-Decides v w).1 same) ∙ f)))
]

-- acts alter a row, or they don't
pub alter_cases : (id : ℕ) (acts : List Act) (h : HeldView) (key : Key) → Alter id h acts key ⊎ (Alter id h acts key → ⊥)
alter_cases id [] h key = inr (λ a. a)
alter_cases id (a ∷ rest) h key = elim (same_rows (held_row id (next h a) key) (held_row id h key)) [
  | inr other ↦ inl (inl other)
  | inl same ↦ elim (alter_cases id rest (next h a) key) [
    | inl more ↦ inl (inr more)
    | inr none ↦ inr (λ alter. elim alter [ inl other ↦ other same | inr more ↦ none more ])
  ]
]
