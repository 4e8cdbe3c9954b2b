-- What acts leave, by what each of them leaves.
use Rattle.std.proofs.Common.{◌≡◌, ℕ, List, [], ◌∷◌, ◌++◌, refl, sym, ap, ◌∙◌, subst}
use Rattle.node_work.specs.Acts.{Act, Allowed, Runs, next}
use Rattle.node_work.specs.View.{Place, HeldView}
use Rattle.node_clients.proofs.Determined.{runs_determined}
use Rattle.law_runs.proofs.Keeping.{Property}
use Rattle.law_runs.proofs.Splits.{runs_split}
use Rattle.law_steps.proofs.Joining.{Closed}

-- it holds of what a node holds and itself, and of the ends of two that it holds of
pub record Order (R : HeldView → HeldView → Type 0) : Type 0 where
  pub same : (h : HeldView) → R h h
  pub after : (h mid h' : HeldView) → R h mid → R mid h' → R h h'

module _ (R : HeldView → HeldView → Type 0) (o : Order R) where
  abbrev pub Leaves : Property
  Leaves p h acts = (h' : HeldView) → Runs p h acts h' → R h h'

  pub leaves_nothing : (p : Place) (h : HeldView) → Leaves p h []
  leaves_nothing p h h' runs = subst (R h) (sym runs) (o.same h)

  pub leaves_one : (p : Place) (h : HeldView) (a : Act) → (Allowed p h a → R h (next h a)) → Leaves p h (a ∷ [])
  leaves_one p h a f h' runs = subst (R h) (sym (runs.2 ∙ runs.1.1)) (f runs.1.0)

  leaves_both : (p : Place) (h mid : HeldView) (xs ys : List Act) → Runs p h xs mid → Leaves p h xs → Leaves p mid ys → Leaves p h (xs ++ ys)
  leaves_both p h mid xs ys ran f g h' runs =
      let parts = runs_split p xs ys h h' runs in
      let same : parts.0 ≡ mid = runs_determined p xs h parts.0 mid parts.1 ran in
      o.after h mid h' (f mid ran) (g h' (subst (λ v. Runs p v ys h') same parts.2))

  pub leaves_closed : Closed Leaves
  leaves_closed = record { none = leaves_nothing; both = leaves_both }
