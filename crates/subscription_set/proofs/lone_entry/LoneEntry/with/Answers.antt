use Rattle.std.proofs.Common.{ap, ◌∙◌}
use Rattle.std.specs.FinMap as map
use Rattle.subscription_set.specs.Indexing.{ByDot}
use Rattle.subscription_set.proofs.Alone.{none_at}
use Rattle.subscription_set.proofs.lone_entry.LoneEntry.with.Goals as goal

pub add-requires : goal.add-requires
add-requires c = ap (λ (m : ByDot). map.get m c.self.inside.dot) c.new-all.ensures ∙ none_at c.self.inside.dot
