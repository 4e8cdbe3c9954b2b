use Rattle.std.proofs.Common.{sym, ap, ◌∙◌}
use Rattle.std.specs.FinMap as map
use Rattle.causal_context.specs.Dots.{dot_cmp}
use Rattle.subscription_set.specs.Entries.{Entry}
use Rattle.subscription_set.specs.Holding.{held}
use Rattle.subscription_set.proofs.Alone.{alone_len}
use Rattle.subscription_set.proofs.entry_map.EntryMap.len.Goals as goal

pub returns-in-Nothing : goal.returns-in-Nothing
returns-in-Nothing c = sym (map.len-empty dot_cmp Entry) ∙ ap map.len (sym (ap held c.in-Nothing.is) ∙ c.self.view_is)

pub returns-in-One : goal.returns-in-One
returns-in-One c = sym (alone_len c.in-One.field-0) ∙ ap map.len (sym (ap held c.in-One.is) ∙ c.self.view_is)
