-- What a step passes over.
use Rattle.std.proofs.Common.{◌≡◌, ◌<◌, ◌⊎◌, ℕ, List, [], ◌∷◌, ◌++◌, inl, inr, sym, ap, subst, ◌∙◌, arith, append_assoc, Option, Some}
use Rattle.std.proofs.lemmas.List.{append-nil}
use Rattle.filter_trie.specs.Search.Seeking.{IsBefore, IsFrom, IsLevel, IsAt, IsWild, ShareLevel}
use Rattle.mqtt_topics.specs.Levels.{levels}
use Rattle.mqtt_topics.specs.Matching.{LevelsMatch}
use Rattle.filter_trie.proofs.LevelLaws.{cut, levels_alone, levels_first, levels_some}
use Rattle.filter_trie.proofs.Order.{without_front, between, transitive, either_side}

nothing_below : (t : List ℕ) → IsBefore t [] → ⊥
nothing_below [] h = h
nothing_below (b ∷ t) h = h

same_byte : (b : ℕ) (u : List ℕ) → IsBefore (b ∷ u) (b ∷ []) → ⊥
same_byte b u (inl l) = omega arith
same_byte b u (inr r) = nothing_below u r.1

greater_byte : (a b : ℕ) (t u : List ℕ) → b < a → IsBefore (a ∷ t) (b ∷ u) → ⊥
greater_byte a b t u g (inl l) = omega arith
greater_byte a b t u g (inr r) = let e = r.0 in omega arith

module _ (level rest t : List ℕ) where
  -- the bound is the level
  pub level_alone : IsAt level t → IsBefore t (level ++ []) → ⊥
  level_alone (inl e) h = let B : List ℕ → Type 0 = λ x. IsBefore x (level ++ []) in nothing_below [] (without_front level [] [] (subst B (e ∙ sym (append-nil level)) h))
  level_alone (inr (u, e)) h = let B : List ℕ → Type 0 = λ x. IsBefore x (level ++ []) in nothing_below (47 ∷ u) (without_front level (47 ∷ u) [] (subst B e h))

  -- the level stands before the rest, and the bound is the level with its separator
  pub level_longer : IsAt level t → IsBefore rest t → (IsBefore rest (level ++ []) → ⊥) → IsBefore t (level ++ 47 ∷ []) → ⊥
  level_longer (inl e) after low h = let B : List ℕ → Type 0 = IsBefore rest in low (subst B (e ∙ sym (append-nil level)) after)
  level_longer (inr (u, e)) after low h =
      let B : List ℕ → Type 0 = λ x. IsBefore x (level ++ 47 ∷ []) in
      same_byte 47 u (without_front level (47 ∷ u) (47 ∷ []) (subst B e h))

  -- both stand before it
  pub level_shared : IsLevel level → IsAt level t → IsBefore rest t → (IsBefore rest (level ++ []) → ⊥) → (IsBefore rest (level ++ 47 ∷ []) → ⊥) → ShareLevel t rest
  level_shared fine (inl e) after low high = let B : List ℕ → Type 0 = IsBefore rest in absurd (low (subst B (e ∙ sym (append-nil level)) after))
  level_shared fine (inr (u, e)) after low high =
      let B : List ℕ → Type 0 = IsBefore rest in
      let r = between (level ++ 47 ∷ []) rest u high (subst B (e ∙ sym (append_assoc level (47 ∷ []) u)) after) in
      (level, u, r.0, fine, e, r.1 ∙ append_assoc level (47 ∷ []) r.0)

module _ (rest t : List ℕ) where
  -- the same of `#` and `+`
  pub wild_multi : IsWild t → IsBefore t (35 ∷ []) → ⊥
  wild_multi (inl e) h = let B : List ℕ → Type 0 = λ x. IsBefore x (35 ∷ []) in same_byte 35 [] (subst B e h)
  wild_multi (inr (inl e)) h = let B : List ℕ → Type 0 = λ x. IsBefore x (35 ∷ []) in greater_byte 43 35 [] [] (omega arith) (subst B e h)
  wild_multi (inr (inr (u, e))) h = let B : List ℕ → Type 0 = λ x. IsBefore x (35 ∷ []) in greater_byte 43 35 (47 ∷ u) [] (omega arith) (subst B e h)

  pub wild_single : IsWild t → IsBefore rest t → (IsBefore rest (35 ∷ []) → ⊥) → IsBefore t (43 ∷ []) → ⊥
  wild_single (inl e) after low h = let B : List ℕ → Type 0 = IsBefore rest in low (subst B e after)
  wild_single (inr at) after low h = level_alone (43 ∷ []) rest t at h

  pub wild_longer : IsWild t → IsBefore rest t → (IsBefore rest (35 ∷ []) → ⊥) → (IsBefore rest (43 ∷ []) → ⊥) → IsBefore t (43 ∷ 47 ∷ []) → ⊥
  wild_longer (inl e) after low lower h = let B : List ℕ → Type 0 = IsBefore rest in low (subst B e after)
  wild_longer (inr at) after low lower h = level_longer (43 ∷ []) rest t at after lower h

  pub wild_shared : IsWild t → IsBefore rest t → (IsBefore rest (35 ∷ []) → ⊥) → (IsBefore rest (43 ∷ []) → ⊥) → (IsBefore rest (43 ∷ 47 ∷ []) → ⊥) → ShareLevel t rest
  wild_shared (inl e) after low lower high = let B : List ℕ → Type 0 = IsBefore rest in absurd (low (subst B e after))
  wild_shared (inr at) after low lower high = level_shared (43 ∷ []) rest t ((λ e. omega arith), tt) at after lower high

-- which texts begin in a way that the level of a name allows
pub begins_allowed : (t own : List ℕ) (later : List (List ℕ)) → LevelsMatch (levels t) (own ∷ later) → IsWild t ⊎ IsAt own t
begins_allowed t own later m = by (cut t)
  where
    by : IsLevel t ⊎ ((c : List ℕ) × (u : List ℕ) × (t ≡ c ++ 47 ∷ u) × IsLevel c) → IsWild t ⊎ IsAt own t
    by (inl fine) = let L : List (List ℕ) → Type 0 = λ ls. LevelsMatch ls (own ∷ later) in alone (subst L (levels_alone t fine) m)
      where
        alone : LevelsMatch (t ∷ []) (own ∷ later) → IsWild t ⊎ IsAt own t
        alone (inl h) = inl (inl h.0)
        alone (inr (inl e, h)) = inl (inr (inl e))
        alone (inr (inr e, h)) = inr (inl e)
    by (inr (c, u, e, fine)) =
        let L : List (List ℕ) → Type 0 = λ ls. LevelsMatch ls (own ∷ later) in
        longer (subst L (ap levels e ∙ levels_first c u fine) m)
      where
        longer : LevelsMatch (c ∷ levels u) (own ∷ later) → IsWild t ⊎ IsAt own t
        longer (inl h) = absurd (levels_some u h.1)
        longer (inr (inl f, h)) = inl (inr (inr (u, e ∙ ap (λ d. d ++ 47 ∷ u) f)))
        longer (inr (inr f, h)) = inr (inr (u, e ∙ ap (λ d. d ++ 47 ∷ u) f))

-- which texts match where the name has ended
pub begins_ended : (t : List ℕ) → LevelsMatch (levels t) [] → t ≡ 35 ∷ []
begins_ended t m = by (cut t)
  where
    by : IsLevel t ⊎ ((c : List ℕ) × (u : List ℕ) × (t ≡ c ++ 47 ∷ u) × IsLevel c) → t ≡ 35 ∷ []
    by (inl fine) = let L : List (List ℕ) → Type 0 = λ ls. LevelsMatch ls [] in let h : LevelsMatch (t ∷ []) [] = subst L (levels_alone t fine) m in h.0
    by (inr (c, u, e, fine)) =
        let L : List (List ℕ) → Type 0 = λ ls. LevelsMatch ls [] in
        let h : LevelsMatch (c ∷ levels u) [] = subst L (ap levels e ∙ levels_first c u fine) m in
        absurd (levels_some u h.1)

-- the lesser of two bounds
pub keep_own : (own wild : Option (List ℕ)) (s w : List ℕ) → own ≡ Some s → wild ≡ Some w → (IsBefore w s → ⊥) → (t : List ℕ) → IsFrom own t ⊎ IsFrom wild t → IsBefore t s → ⊥
keep_own own wild s w is_own is_wild high t (inl from) h = let F : Option (List ℕ) → Type 0 = λ o. IsFrom o t in subst F is_own from h
keep_own own wild s w is_own is_wild high t (inr from) h =
    let F : Option (List ℕ) → Type 0 = λ o. IsFrom o t in
    elim (either_side t w s h) [ inl l ↦ subst F is_wild from l | inr l ↦ high l ]

pub take_wild : (own wild : Option (List ℕ)) (s w : List ℕ) → own ≡ Some s → wild ≡ Some w → IsBefore w s → (t : List ℕ) → IsFrom own t ⊎ IsFrom wild t → IsBefore t (w ++ []) → ⊥
take_wild own wild s w is_own is_wild low t (inl from) h =
    let F : Option (List ℕ) → Type 0 = λ o. IsFrom o t in
    subst F is_own from (transitive t w s (let B : List ℕ → Type 0 = IsBefore t in subst B (append-nil w) h) low)
take_wild own wild s w is_own is_wild low t (inr from) h =
    let F : Option (List ℕ) → Type 0 = λ o. IsFrom o t in
    subst F is_wild from (let B : List ℕ → Type 0 = IsBefore t in subst B (append-nil w) h)
