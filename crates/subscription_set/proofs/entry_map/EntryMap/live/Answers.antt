use Rattle.std.proofs.Common.{length, sym, ap, ◌∙◌}
use Rattle.std.specs.FinMap as map
use Rattle.subscription_set.specs.Standing.{latest}
use Rattle.subscription_set.specs.Indexing.{ByDot}
use Rattle.subscription_set.specs.Holding.{held}
use Rattle.subscription_set.proofs.Alone.{none_live, alone_live}
use Rattle.subscription_set.proofs.entry_map.EntryMap.live.Goals as goal

pub returns-in-Nothing : goal.returns-in-Nothing
returns-in-Nothing c = sym none_live ∙ ap (λ (m : ByDot). length (latest (map.entries m))) (sym (ap held c.in-Nothing.is) ∙ c.self.view_is)

pub returns-in-One : goal.returns-in-One
returns-in-One c = sym (alone_live c.in-One.field-0) ∙ ap (λ (m : ByDot). length (latest (map.entries m))) (sym (ap held c.in-One.is) ∙ c.self.view_is)
