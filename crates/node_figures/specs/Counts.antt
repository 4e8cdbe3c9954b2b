-- How many dots a set has that another one lacks.
use Rattle.std.specs.Prelude.{◌≡◌, ◌↔◌, ℕ, ◌-◌, ◌^◌, min}
use Rattle.std.specs.FinSet as set
use Rattle.causal_context.specs.Dots.{Dots}
use Rattle.causal_context.specs.SetLattice.{IsSubset}

-- up to the greatest number that there is
abbrev pub lacking : Dots → Dots → ℕ
lacking taken known = min (set.len (set.difference taken known)) (2 ^ 64 - 1)

-- no dot lacks exactly where each is known
abbrev pub NoneLacksWhereAllAreKnown : Type 0
NoneLacksWhereAllAreKnown = (taken known : Dots) → (lacking taken known ≡ 0) ↔ IsSubset taken known
