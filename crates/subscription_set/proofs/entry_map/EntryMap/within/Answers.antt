use Rattle.std.proofs.Common.{sym, ap, ◌∙◌}
use Rattle.std.specs.FinMap as map
use Rattle.std.specs.FinMap.Entries.{where_key}
use Rattle.causal_context.specs.Dots.{dot_cmp}
use Rattle.causal_context.specs.Ranges.{covers}
use Rattle.subscription_set.specs.Indexing.{ByDot}
use Rattle.subscription_set.specs.Holding.{held}
use Rattle.subscription_set.proofs.Alone.{none_within}
use Rattle.subscription_set.proofs.entry_map.EntryMap.within.Goals as goal

pub returns-in-Nothing : goal.returns-in-Nothing
returns-in-Nothing c = c.none.ensures ∙ sym (none_within (λ d. covers d c.args.range))
    ∙ ap (λ (m : ByDot). where_key dot_cmp (λ d. covers d c.args.range) (map.entries m)) (sym (ap held c.in-Nothing.is) ∙ c.self.view_is)
