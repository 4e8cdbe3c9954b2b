use Rattle.std.proofs.Common.{◌≡◌, take}
use Rattle.std.specs.List.{list_any}
use Rattle.std.specs.FinSet as set
use Rattle.causal_context.specs.Dots.{Dot}
use Rattle.subscription_set.proofs.by_filter.united.Given as goal

abbrev pub invariant-loop-dots : goal.invariant-loop-dots
invariant-loop-dots l = (d : Dot) → set.contains l.out d ≡ list_any (λ r. set.contains r.1.now d) (take l.dots-index l.found)
