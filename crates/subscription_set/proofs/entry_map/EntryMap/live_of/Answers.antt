use Rattle.std.proofs.Common.{length, sym, ap, ◌∙◌}
use Rattle.std.specs.List.{filter}
use Rattle.std.specs.FinMap as map
use Rattle.subscription_set.specs.Entries.{same_text}
use Rattle.subscription_set.specs.Standing.{latest}
use Rattle.subscription_set.specs.Indexing.{ByDot}
use Rattle.subscription_set.specs.Holding.{held}
use Rattle.subscription_set.proofs.Alone.{none_live_of}
use Rattle.subscription_set.proofs.entry_map.EntryMap.live_of.Goals as goal

pub returns-in-Nothing : goal.returns-in-Nothing
returns-in-Nothing c = sym (none_live_of c.args.client.now)
    ∙ ap (λ (m : ByDot). length (filter (λ y. same_text c.args.client.now y.1.client) (latest (map.entries m)))) (sym (ap held c.in-Nothing.is) ∙ c.self.view_is)
