-- The codes of filters, one after another.
use Rattle.std.proofs.Common.{◌≡◌, ℕ, List, [], ◌∷◌, ◌++◌, Option, Some, None, refl, sym, ap, ◌∙◌, append_assoc}
use Rattle.mqtt_bounds.specs.Bounded.{merged}

-- a code that is there
pub merged_some : (c : ℕ) (codes : List (Option ℕ)) (asked all : List ℕ) → all ++ merged (Some c ∷ codes) asked ≡ (all ++ c ∷ []) ++ merged codes asked
merged_some c codes asked all = sym (append_assoc all (c ∷ []) (merged codes asked))

-- one of a filter that was asked for
pub merged_none : (x : ℕ) (codes : List (Option ℕ)) (asked all : List ℕ) → all ++ merged (None ∷ codes) (x ∷ asked) ≡ (all ++ x ∷ []) ++ merged codes asked
merged_none x codes asked all = sym (append_assoc all (x ∷ []) (merged codes asked))
