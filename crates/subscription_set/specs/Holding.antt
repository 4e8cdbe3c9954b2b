-- Entries as a map holds them.
use Rattle.std.specs.FinMap as map
use Rattle.subscription_set.specs.Indexing.{ByDot, alone}
use Rattle.subscription_set.specs.declared.entry_map.Held.{Held}
use Rattle.subscription_set.specs.declared.entry_map.Held.TheVariants.{Nothing, One, Many}

-- no entry, one, or many with an index
abbrev pub held : Held → ByDot
held Nothing = map.empty
held (One x) = alone x
held (Many m) = m
