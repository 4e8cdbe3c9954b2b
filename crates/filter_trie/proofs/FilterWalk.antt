-- The walk down a filter beside a name.
use Rattle.std.proofs.Common.{◌≡◌, ◌≢◌, ◌⊎◌, ℕ, List, [], ◌∷◌, ◌++◌, inl, inr, refl, sym, ap, subst, ◌∙◌, Option, Some, None, Bor}
use Rattle.mqtt_topics.specs.Levels.{levels, rest_levels, single_level}
use Rattle.mqtt_topics.specs.Matching.{LevelsMatch}
use Rattle.filter_trie.specs.Search.Seeking.{IsBefore, IsFrom, IsPast, IsNext, IsLevel, IsCut, ShareLevel, deeper}
use Rattle.filter_trie.proofs.LevelLaws.{levels_alone, levels_first, levels_some, one_first, not_longer}
use Rattle.filter_trie.proofs.Walking.{Walk, walk_ends, walk_goes_on}

pub levels_cut : (text level : List ℕ) (rest : Option (Bor (List ℕ))) → IsCut text level rest → levels text ≡ level ∷ rest_levels rest
levels_cut text level None cut = ap levels cut.0 ∙ levels_alone level cut.1
levels_cut text level (Some rest) cut = ap levels cut.0 ∙ levels_first level rest.now cut.1

-- the filters whose levels match these
abbrev pub Matching : List (List ℕ) → List ℕ → Type 0
Matching names t = LevelsMatch (levels t) names

-- two texts with the same first level
pub shared_level : (t rest level later : List ℕ) → ShareLevel t rest → rest ≡ level ++ 47 ∷ later → IsLevel level → (u : List ℕ) × (t ≡ level ++ 47 ∷ u)
shared_level t rest level later (c, a, b, fine, e, f) step own =
    let same = one_first c level b later fine own (sym f ∙ step) in
    (a, e ∙ ap (λ d. d ++ 47 ∷ a) same.0)

down : (level u own : List ℕ) (names : List (List ℕ)) → IsLevel level → Matching (own ∷ names) (level ++ 47 ∷ u) → ((level ≡ single_level) ⊎ (level ≡ own)) × Matching names u
down level u own names fine m =
    let L : List (List ℕ) → Type 0 = λ ls. LevelsMatch ls (own ∷ names) in
    by (subst L (levels_first level u fine) m)
  where
    by : LevelsMatch (level ∷ levels u) (own ∷ names) → ((level ≡ single_level) ⊎ (level ≡ own)) × Matching names u
    by (inl h) = absurd (levels_some u h.1)
    by (inr h) = h

module _ (P : List ℕ → Type 0) (key : List ℕ) where
  pub walk_starts : Walk P P key key None
  walk_starts = record { front = []; parts = refl; past = tt; reaches = λ text p h. inl (text, refl, p, h) }

module _ (P : List ℕ → Type 0) (key rest own : List ℕ) (names : List (List ℕ)) (best local : Option (List ℕ)) (past : IsPast rest local)
    (covers : (later : List (List ℕ)) (t : List ℕ) → LevelsMatch (levels t) (own ∷ later) → IsBefore rest t → IsFrom local t ⊎ ShareLevel t rest) where
  -- the key has no more levels
  pub key_ends : (level : List ℕ) → Walk P (Matching (own ∷ names)) key rest best → IsCut rest level None → IsNext P key (deeper key rest local best)
  key_ends level w cut = walk_ends P (Matching (own ∷ names)) key rest best local w past
      (λ t m h. elim (covers names t m h) [ inl from ↦ from | inr s ↦ absurd (let (c, a, b, fine, e, f) = s in not_longer level c b cut.1 (sym cut.0 ∙ f)) ])

  -- the level of the key is one that no filter for the name has
  pub level_ends : (level : List ℕ) (later : Bor (List ℕ)) → Walk P (Matching (own ∷ names)) key rest best → IsCut rest level (Some later) → level ≢ single_level → level ≢ own
      → IsNext P key (deeper key rest local best)
  level_ends level later w cut not_single not_own = walk_ends P (Matching (own ∷ names)) key rest best local w past
      (λ t m h. elim (covers names t m h) [
        | inl from ↦ from
        | inr s ↦
            let r = shared_level t rest level later.now s cut.0 cut.1 in
            let M : List ℕ → Type 0 = Matching (own ∷ names) in
            let d = down level r.0 own names cut.1 (subst M r.1 m) in
            absurd (elim d.0 [ inl e ↦ not_single e | inr e ↦ not_own e ])
      ])

  -- to the next level
  pub level_goes_on : (level : List ℕ) (later : Bor (List ℕ)) → Walk P (Matching (own ∷ names)) key rest best → IsCut rest level (Some later)
      → Walk P (Matching names) key later.now (deeper key rest local best)
  level_goes_on level later w cut = walk_goes_on P (Matching (own ∷ names)) key rest best local (Matching names) level later.now w cut.0 past
      (λ t m h. elim (covers names t m h) [ inl from ↦ inl from | inr s ↦ inr (shared_level t rest level later.now s cut.0 cut.1) ])
      (λ u m. (down level u own names cut.1 m).1)
