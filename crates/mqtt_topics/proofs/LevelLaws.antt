-- Facts on the levels of a text and the place of wildcards.
use Rattle.std.proofs.Common.{◌≡◌, ◌≢◌, ◌⊎◌, ◌↔◌, ℕ, false, List, [], ◌∷◌, get_or, Option, Some, None, MatchOption, Bor, inl, inr, refl, subst, sym, lit<, arith}
use Rattle.std.proofs.lemmas.Bool.Decides.{nat_tests}
use Rattle.std.proofs.lemmas.Str.Pattern.{IsSplitOnceResult, split_once_first, split_parts}
use Rattle.std.proofs.lemmas.List.Elements.{All-from_get_or}
use Rattle.std.proofs.lemmas.List.Splits.{slice_split_first, slice_split_none}
use Rattle.mqtt_topics.specs.Levels.{is_separator, levels, multi_level, single_level, HasWildcard, IsPlaced, ArePlaced}

no_separator : (b : ℕ) → b ≢ 47 → is_separator b ≡ false
no_separator b other = grind (arith, nat_tests)

-- what `split_once` at `/` says of the levels
pub levels_split : (text : List ℕ) (r : Option (Bor (List ℕ) × Bor (List ℕ))) → IsSplitOnceResult 47 text r → MatchOption r (levels text ≡ text ∷ []) (λ x. levels text ≡ x.0.now ∷ levels x.1.now)
levels_split text None cut =
    slice_split_none is_separator text (All-from_get_or (λ b. is_separator b ≡ false) text 0 (λ i inside. no_separator (get_or text i 0) (split_parts 47 text None cut (lit< tt) i inside)))
levels_split text (Some x) cut =
    let parts = split_once_first 47 text (Some x) cut (lit< tt) in
    rw (parts.1, parts.2) (slice_split_first is_separator text 0 parts.0)

-- the levels after `#`
pub IsPlaced-multi_level : (level : List ℕ) (later : List (List ℕ)) → level ≡ multi_level → IsPlaced level later → later ≡ []
IsPlaced-multi_level level later is_multi (inl none) = absurd (none (let P : List ℕ → Type 0 = HasWildcard in subst P (sym is_multi) refl))
IsPlaced-multi_level level later is_multi (inr (inl is_single)) = cc
IsPlaced-multi_level level later is_multi (inr (inr last)) = last.1

-- `#` ends the levels
pub ArePlaced-multi_level : (level : List ℕ) (later : List (List ℕ)) → level ≡ multi_level → ArePlaced (level ∷ later) ↔ (later ≡ [])
ArePlaced-multi_level level later is_multi = (
  λ placed. IsPlaced-multi_level level later is_multi placed.0,
  λ last. (inr (inr (is_multi, last)), subst ArePlaced (sym last) tt),
)

-- a level that is `+` or has no wildcard leaves it to the later levels
pub ArePlaced-later : (level : List ℕ) (later : List (List ℕ)) → (level ≡ single_level) ⊎ (HasWildcard level → ⊥) → ArePlaced (level ∷ later) ↔ ArePlaced later
ArePlaced-later level later (inl is_single) = (λ placed. placed.1, λ rest. (inr (inl is_single), rest))
ArePlaced-later level later (inr none) = (λ placed. placed.1, λ rest. (inl none, rest))

-- another level has no wildcard
pub ArePlaced-wildcard : (level : List ℕ) (later : List (List ℕ)) → level ≢ multi_level → level ≢ single_level → HasWildcard level → ArePlaced (level ∷ later) → ⊥
ArePlaced-wildcard level later not_multi not_single has placed =
    elim placed.0 [ inl none ↦ none has | inr (inl is_single) ↦ not_single is_single | inr (inr last) ↦ not_multi last.0 ]
