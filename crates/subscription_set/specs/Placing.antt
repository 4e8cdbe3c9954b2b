-- How a set of dots lies in memory.
use Rattle.std.specs.Prelude.{List, [], ◌∷◌, Some, None}
use Rattle.causal_context.specs.Dots.{Dot}
use Rattle.subscription_set.specs.declared.dots.Placed.{Placed}
use Rattle.subscription_set.specs.declared.dots.Placed.TheVariants.{One, Many}
use Rattle.subscription_set.specs.declared.dot_iter.Left.{Left}
use Rattle.subscription_set.specs.declared.dot_iter.Left.TheVariants.{Single, Tree}

-- the dots that lie there
abbrev pub dots_placed : Placed → List Dot
dots_placed (One d) = d ∷ []
dots_placed (Many t) = t.keys

-- the dots that are left
abbrev pub dots_left : Left → List Dot
dots_left (Single None) = []
dots_left (Single (Some d)) = d.now ∷ []
dots_left (Tree ds) = ds
