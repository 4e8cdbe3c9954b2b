-- Where a narrower test selects the same.
use Rattle.std.proofs.Common.{◌≡◌, ◌↔◌, ℕ, List, [], ◌∷◌, ◌++◌, inl, inr, refl, sym, subst}
use Rattle.std.specs.List.{AllByRecursion}
use Rattle.filter_trie.specs.Selected.{IsSelected}
use Rattle.filter_trie.specs.Search.Branching.{Holds}

pub selects_same : {A : Type 0} → (P Q : A → Type 0) → (es out : List A) → AllByRecursion (λ e. P e ↔ Q e) es → IsSelected P es out → IsSelected Q es out
selects_same P Q [] out h s = s
selects_same P Q (e ∷ es) out h (inl has) = inl (h.0.0 has.0, (has.1.0, has.1.1, selects_same P Q es has.1.0 h.1 has.1.2))
selects_same P Q (e ∷ es) out h (inr lacks) = inr ((λ q. lacks.0 (h.0.1 q)), selects_same P Q es out h.1 lacks.1)

module _ {X : Type 0} (P Filed : List ℕ → Type 0) where
  each : (es : List (List ℕ × X)) → ((t : List ℕ) → Holds es t → Filed t) → AllByRecursion (λ e. P e.0 ↔ (P e.0 × Filed e.0)) es
  each [] f = tt
  each (e ∷ es) f = (((λ m. (m, f e.0 (inl refl))), (λ q. q.0)), each es (λ t h. f t (inr h)))

  each_back : (es : List (List ℕ × X)) → ((t : List ℕ) → Holds es t → Filed t) → AllByRecursion (λ e. (P e.0 × Filed e.0) ↔ P e.0) es
  each_back [] f = tt
  each_back (e ∷ es) f = (((λ q. q.0), (λ m. (m, f e.0 (inl refl)))), each_back es (λ t h. f t (inr h)))

  pub narrowed : (es out : List (List ℕ × X)) → ((t : List ℕ) → Holds es t → Filed t) → IsSelected (λ e. P e.0) es out → IsSelected (λ e. P e.0 × Filed e.0) es out
  narrowed es out f s = selects_same (λ e. P e.0) (λ e. P e.0 × Filed e.0) es out (each es f) s

  pub widened : (es out : List (List ℕ × X)) → ((t : List ℕ) → Holds es t → Filed t) → IsSelected (λ e. P e.0 × Filed e.0) es out → IsSelected (λ e. P e.0) es out
  widened es out f s = selects_same (λ e. P e.0 × Filed e.0) (λ e. P e.0) es out (each_back es f) s

pub holds_in : {X : Type 0} (front : List (List ℕ × X)) (e : List ℕ × X) (es all : List (List ℕ × X)) → all ≡ front ++ e ∷ es → Holds all e.0
holds_in {X} front e es all is = let H : List (List ℕ × X) → Type 0 = λ l. Holds l e.0 in subst H (sym is) (by front)
  where
    by : (front : List (List ℕ × X)) → Holds (front ++ e ∷ es) e.0
    by [] = inl refl
    by (x ∷ front) = inr (by front)
