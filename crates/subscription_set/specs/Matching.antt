-- Dots under filters, and what matches a name.
use Rattle.std.specs.Prelude.{◌≡◌, ◌↔◌, ℕ, true, List}
use Rattle.std.specs.FinSet as set
use Rattle.causal_context.specs.Dots.{Dot, Dots}
use Rattle.mqtt_topics.specs.Matching.{Matches}
use Rattle.mqtt_topics.specs.Topics.{IsShared}
use Rattle.subscription_set.specs.Filing.{Filed}
use Rattle.subscription_set.specs.declared.by_filter.Matched.{Matched}
use Rattle.subscription_set.specs.declared.by_filter.Matched.TheVariants.{One, Many}

-- a dot is under a filter that matches the name
abbrev pub MatchesAt : Filed → List ℕ → Dot → Type 0
MatchesAt v name d = (f : List ℕ) × (set.contains v (f, d) ≡ true) × Matches f name

-- there is one
abbrev pub HasMatch : Filed → List ℕ → Type 0
HasMatch v name = (d : Dot) × MatchesAt v name d

-- s has just the dots under filters that match the name
abbrev pub IsMatched : Filed → List ℕ → Dots → Type 0
IsMatched v name s = (d : Dot) → (set.contains s d ≡ true) ↔ MatchesAt v name d

-- a plain filter that matches the name
abbrev pub IsPlainMatch : List ℕ → List ℕ → Type 0
IsPlainMatch name f = (IsShared f → ⊥) × Matches f name

-- s has just the dots under plain filters that match the name
abbrev pub IsPlainMatched : Filed → List ℕ → Dots → Type 0
IsPlainMatched v name s = (d : Dot) → (set.contains s d ≡ true) ↔ ((f : List ℕ) × (set.contains v (f, d) ≡ true) × IsPlainMatch name f)

-- the filter of dots is a plain one
abbrev pub HasPlainFilter : List ℕ × Dots → Type 0
HasPlainFilter e = IsShared e.0 → ⊥

-- the dots that were found, where they lie or in a set of their own
abbrev pub dots_of : Matched → Dots
dots_of (One dots) = dots.now
dots_of (Many dots) = dots
