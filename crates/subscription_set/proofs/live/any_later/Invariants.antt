use Rattle.std.proofs.Common.{◌≡◌}
use Rattle.std.specs.List.{list_any}
use Rattle.std.specs.FinMap as map
use Rattle.subscription_set.specs.Indexing.{later_at}
use Rattle.subscription_set.proofs.live.any_later.Given as goal

abbrev pub invariant-loop-other : goal.invariant-loop-other
invariant-loop-other l = list_any (λ d. later_at (l.dot, l.entry) d (map.get l.entries d)) l.other-iterator ≡ list_any (λ d. later_at (l.dot, l.entry) d (map.get l.entries d)) l.initial.other-iterator
