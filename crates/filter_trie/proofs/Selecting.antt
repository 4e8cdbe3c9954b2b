-- What a test leaves of a list, from the front.
use Rattle.std.proofs.Common.{◌≡◌, List, [], ◌∷◌, ◌++◌, map, inl, inr, refl, sym, ap, subst, ◌∙◌}
use Rattle.std.proofs.lemmas.List.{append_assoc, append-nil, map-append}
use Rattle.filter_trie.specs.Selected.{IsSelected}

-- what is selected of the rest follows what is selected so far
abbrev pub Follows : {A : Type 0} → (A → Type 0) → List A → List A → List A → Type 0
Follows {A} P all done left = (rest : List A) → IsSelected P left rest → IsSelected P all (done ++ rest)

module _ {A : Type 0} (P : A → Type 0) (all : List A) (x : A) (left : List A) where
  -- the next one has the property
  pub follows_with : (done : List A) → Follows P all done (x ∷ left) → P x → Follows P all (done ++ x ∷ []) left
  follows_with done so has rest h =
      let Q : List A → Type 0 = IsSelected P all in
      subst Q (sym (append_assoc done (x ∷ []) rest)) (so (x ∷ rest) (inl (has, (rest, refl, h))))

  -- it hasn't
  pub follows_without : (done : List A) → Follows P all done (x ∷ left) → ¬ (P x) → Follows P all done left
  follows_without done so lacks rest h = so rest (inr (lacks, h))

  -- where nothing is selected, the next one isn't, and nothing after it is
  pub none_here : IsSelected P (x ∷ left) [] → ¬ (P x)
  none_here (inl (has, more)) = absurd (let e = more.1 in cc)
  none_here (inr (lacks, h)) = lacks

  pub none_later : IsSelected P (x ∷ left) [] → IsSelected P left []
  none_later (inl (has, more)) = absurd (let e = more.1 in cc)
  none_later (inr (lacks, h)) = h

module _ {A : Type 0} (P : A → Type 0) where
  -- at the front nothing is selected yet
  pub begins : (all left done : List A) → all ≡ left → done ≡ [] → Follows P all done left
  begins all left done same none rest h =
      let F : List A → Type 0 = λ es. IsSelected P es (done ++ rest) in
      let D : List A → Type 0 = λ d. IsSelected P left (d ++ rest) in
      subst F (sym same) (subst D (sym none) h)

  -- one step of a walk over the list: the next one is selected
  pub goes_with : {B : Type 0} (f : B → A) (all s t : List A) (x : A) (r : B) (out new : List B) → s ≡ x ∷ t → f r ≡ x → new ≡ out ++ r ∷ [] → P x
      → Follows P all (map f out) s → Follows P all (map f new) t
  goes_with f all s t x r out new step shown added has so =
      let L : List A → Type 0 = λ left. Follows P all (map f out) left in
      let D : List A → Type 0 = λ done. Follows P all done t in
      let grown : map f new ≡ map f out ++ x ∷ [] = ap (map f) added ∙ map-append f out (r ∷ []) ∙ ap (λ y. map f out ++ y ∷ []) shown in
      subst D (sym grown) (follows_with P all x t (map f out) (subst L step so) has)

  -- it isn't
  pub goes_without : (all s t done : List A) (x : A) → s ≡ x ∷ t → ¬ (P x) → Follows P all done s → Follows P all done t
  goes_without all s t done x step lacks so =
      let L : List A → Type 0 = λ left. Follows P all done left in
      follows_without P all x t done (subst L step so) lacks

  pub silent_here : (s t : List A) (x : A) → s ≡ x ∷ t → IsSelected P s [] → ¬ (P x)
  silent_here s t x step h = let L : List A → Type 0 = λ left. IsSelected P left [] in none_here P [] x t (subst L step h)

  pub silent_later : (s t : List A) (x : A) → s ≡ x ∷ t → IsSelected P s [] → IsSelected P t []
  silent_later s t x step h = let L : List A → Type 0 = λ left. IsSelected P left [] in none_later P [] x t (subst L step h)

  -- at the end all is selected
  pub ends : (all s done : List A) → s ≡ [] → Follows P all done s → IsSelected P all done
  ends all s done over so =
      let L : List A → Type 0 = λ left. IsSelected P left [] in
      let D : List A → Type 0 = IsSelected P all in
      subst D (append-nil done) (so [] (subst L (sym over) refl))
