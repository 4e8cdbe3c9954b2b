-- What a prepared merge of two sets of dots comes to.
use Rattle.std.specs.Prelude.{ℕ, ◌+◌, ◌<◌, ◌≤◌, ◌^◌, Bool, true, false, List}
use Rattle.std.specs.FinSet as set
use Rattle.causal_context.specs.Dots.{Dots}
use Rattle.causal_context.specs.declared.ranges.Range.{Range}
use Rattle.causal_context.specs.Ranges.{set_of}

-- in place the second ranges are to be put in among the first; else they are those of the merge
abbrev pub after : Bool → List Range → List Range → Dots
after true own more = set.union (set_of own) (set_of more)
after false own more = set_of more

-- in place there is room for all of them, and the bytes can count them
abbrev pub HasRoom : Bool → ℕ → ℕ → ℕ → Type 0
HasRoom true own more capacity = (own + more ≤ capacity) × (own + more < 2 ^ 32)
HasRoom false own more capacity = Unit {0}
