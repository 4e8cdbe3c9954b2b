-- The walk down a name beside a filter.
use Rattle.std.proofs.Common.{◌≡◌, ◌≢◌, ◌⊎◌, ℕ, List, [], ◌∷◌, ◌++◌, inl, inr, refl, sym, ap, subst, ◌∙◌, arith, append_assoc, Option, Some, None, Bor}
use Rattle.mqtt_topics.specs.Levels.{levels, multi_level, single_level}
use Rattle.mqtt_topics.specs.Matching.{LevelsMatch}
use Rattle.filter_trie.specs.Search.Seeking.{IsBefore, IsFrom, IsPast, IsNext, IsLevel, IsCut, IsAt, ShareLevel, deeper}
use Rattle.filter_trie.proofs.Order.{after_front, above, begins, next_byte}
use Rattle.filter_trie.proofs.LevelLaws.{cut, levels_alone, levels_first, levels_some, not_longer}
use Rattle.filter_trie.proofs.Walking.{Walk, walk_ends, walk_goes_on}
use Rattle.filter_trie.proofs.FilterWalk.{shared_level}

-- the names whose levels these match
abbrev pub Matched : List (List ℕ) → List ℕ → Type 0
Matched filters t = LevelsMatch filters (levels t)

some_levels : (ls : List (List ℕ)) → (ls ≡ [] → ⊥) → LevelsMatch [] ls → ⊥
some_levels [] none m = none refl
some_levels (l ∷ ls) none m = m

pub matched_down : (level u own : List ℕ) (filters : List (List ℕ)) → own ≢ multi_level → IsLevel level → Matched (own ∷ filters) (level ++ 47 ∷ u)
    → ((own ≡ single_level) ⊎ (own ≡ level)) × Matched filters u
matched_down level u own filters not_multi fine m =
    let L : List (List ℕ) → Type 0 = λ ls. LevelsMatch (own ∷ filters) ls in
    by (subst L (levels_first level u fine) m)
  where
    by : LevelsMatch (own ∷ filters) (level ∷ levels u) → ((own ≡ single_level) ⊎ (own ≡ level)) × Matched filters u
    by (inl h) = absurd (not_multi h.0)
    by (inr h) = h

-- a level of the filter that is no wildcard
matched_at : (t own : List ℕ) (filters : List (List ℕ)) → own ≢ multi_level → own ≢ single_level → Matched (own ∷ filters) t → IsAt own t
matched_at t own filters not_multi not_single m = by (cut t)
  where
    by : IsLevel t ⊎ ((c : List ℕ) × (u : List ℕ) × (t ≡ c ++ 47 ∷ u) × IsLevel c) → IsAt own t
    by (inl fine) = let L : List (List ℕ) → Type 0 = λ ls. LevelsMatch (own ∷ filters) ls in alone (subst L (levels_alone t fine) m)
      where
        alone : LevelsMatch (own ∷ filters) (t ∷ []) → IsAt own t
        alone (inl h) = absurd (not_multi h.0)
        alone (inr (inl e, h)) = absurd (not_single e)
        alone (inr (inr e, h)) = inl (sym e)
    by (inr (c, u, e, fine)) =
        let M : List ℕ → Type 0 = Matched (own ∷ filters) in
        longer (matched_down c u own filters not_multi fine (subst M e m))
      where
        longer : ((own ≡ single_level) ⊎ (own ≡ c)) × Matched filters u → IsAt own t
        longer (inl f, h) = absurd (not_single f)
        longer (inr f, h) = inr (u, e ∙ ap (λ d. d ++ 47 ∷ u) (sym f))

module _ (rest level : List ℕ) (later : Bor (List ℕ)) (cut : IsCut rest level (Some later)) where
  -- past all that stands under the level
  pub past_level : IsBefore rest (level ++ 48 ∷ [])
  past_level = let B : List ℕ → Type 0 = λ x. IsBefore x (level ++ 48 ∷ []) in subst B (sym cut.0) (after_front level (47 ∷ later.now) (48 ∷ []) (inl (omega arith)))

  pub covers_level : (t : List ℕ) → IsBefore rest t → (IsBefore t (level ++ 48 ∷ []) → ⊥) ⊎ ((u : List ℕ) × (t ≡ level ++ 47 ∷ u))
  covers_level t after =
      let p : List ℕ = level ++ 47 ∷ [] in
      let joined : (u : List ℕ) → p ++ u ≡ level ++ 47 ∷ u = λ u. append_assoc level (47 ∷ []) u in
      let B : List ℕ → Type 0 = λ x. IsBefore x t in
      elim (begins p t) [
        | inl b ↦ inr (b.0, b.1 ∙ joined b.0)
        | inr none ↦ inl (λ h. next_byte level t 47 (λ u. subst B (joined u) (above p later.now t (subst B (cut.0 ∙ sym (joined later.now)) after) none u)) h)
      ]

  -- a level of the filter that is no wildcard
  pub covers_own : (own : List ℕ) (filters : List (List ℕ)) (local : Option (List ℕ)) → own ≢ multi_level → own ≢ single_level
      → ((t : List ℕ) → IsAt own t → IsBefore rest t → IsFrom local t ⊎ ShareLevel t rest)
      → (t : List ℕ) → Matched (own ∷ filters) t → IsBefore rest t → IsFrom local t ⊎ ((u : List ℕ) × (t ≡ level ++ 47 ∷ u))
  covers_own own filters local not_multi not_single covers t m after =
      elim (covers t (matched_at t own filters not_multi not_single m) after) [ inl from ↦ inl from | inr s ↦ inr (shared_level t rest level later.now s cut.0 cut.1) ]

module _ (P : List ℕ → Type 0) (key rest own : List ℕ) (filters : List (List ℕ)) (best local : Option (List ℕ)) (past : IsPast rest local) (not_multi : own ≢ multi_level) where
  -- the key has no more levels, and the filter has no wildcard here
  pub name_ends : (level : List ℕ) → Walk P (Matched (own ∷ filters)) key rest best → IsCut rest level None → own ≢ single_level
      → ((t : List ℕ) → IsAt own t → IsBefore rest t → IsFrom local t ⊎ ShareLevel t rest) → IsNext P key (deeper key rest local best)
  name_ends level w cut not_single covers = walk_ends P (Matched (own ∷ filters)) key rest best local w past
      (λ t m h. elim (covers t (matched_at t own filters not_multi not_single m) h) [
        | inl from ↦ from
        | inr s ↦ absurd (let (c, a, b, fine, e, f) = s in not_longer level c b cut.1 (sym cut.0 ∙ f))
      ])

  module _ (level : List ℕ) (later : Bor (List ℕ)) (w : Walk P (Matched (own ∷ filters)) key rest best) (cut : IsCut rest level (Some later))
      (covers : (t : List ℕ) → Matched (own ∷ filters) t → IsBefore rest t → IsFrom local t ⊎ ((u : List ℕ) × (t ≡ level ++ 47 ∷ u))) where
    -- no name that matches stands under the level of the key
    under_none : ((u : List ℕ) → Matched (own ∷ filters) (level ++ 47 ∷ u) → ⊥) → IsNext P key (deeper key rest local best)
    under_none none = walk_ends P (Matched (own ∷ filters)) key rest best local w past
        (λ t m h. elim (covers t m h) [
          | inl from ↦ from
          | inr (u, e) ↦ let M : List ℕ → Type 0 = Matched (own ∷ filters) in absurd (none u (subst M e m))
        ])

    pub other_level : own ≢ single_level → own ≢ level → IsNext P key (deeper key rest local best)
    other_level not_single not_level =
        under_none (λ u m. elim (matched_down level u own filters not_multi cut.1 m).0 [ inl e ↦ not_single e | inr e ↦ not_level e ])

    pub filter_ends : filters ≡ [] → IsNext P key (deeper key rest local best)
    filter_ends over =
        under_none (λ u m.
        let L : List (List ℕ) → Type 0 = λ ls. LevelsMatch ls (levels u) in
        some_levels (levels u) (levels_some u) (subst L over (matched_down level u own filters not_multi cut.1 m).1))

    pub name_goes_on : Walk P (Matched filters) key later.now (deeper key rest local best)
    name_goes_on = walk_goes_on P (Matched (own ∷ filters)) key rest best local (Matched filters) level later.now w cut.0 past covers
        (λ u m. (matched_down level u own filters not_multi cut.1 m).1)
