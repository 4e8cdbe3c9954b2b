use Rattle.std.proofs.Common.{◌≡◌}
use Rattle.std.specs.List.{list_any}
use Rattle.std.specs.FinMap as map
use Rattle.subscription_set.specs.Indexing.{below_at}
use Rattle.subscription_set.proofs.live.any_below.Given as goal

abbrev pub invariant-loop-dot : goal.invariant-loop-dot
invariant-loop-dot l = list_any (λ d. below_at l.version (map.get l.entries d)) l.dot-iterator ≡ list_any (λ d. below_at l.version (map.get l.entries d)) l.initial.dot-iterator
