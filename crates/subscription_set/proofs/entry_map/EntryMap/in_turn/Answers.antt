use Rattle.std.proofs.Common.{None, option_copied, sym, ap, subst, ◌∙◌}
use Rattle.subscription_set.specs.Indexing.{ByDot}
use Rattle.subscription_set.specs.Holding.{held}
use Rattle.subscription_set.specs.Members.{IsInTurn}
use Rattle.subscription_set.proofs.Membership.{nobody_at_all}
use Rattle.subscription_set.proofs.entry_map.EntryMap.in_turn.Goals as goal

pub returns-in-Nothing : goal.returns-in-Nothing
returns-in-Nothing c = subst (λ (m : ByDot). IsInTurn m c.args.filter.now c.args.turn None) (sym (ap held c.in-Nothing.is) ∙ c.self.view_is) (nobody_at_all c.args.filter.now c.args.turn)

pub returns-in-One : goal.returns-in-One
returns-in-One c = subst (λ (m : ByDot). IsInTurn m c.args.filter.now c.args.turn (option_copied c.in_turn.result)) (sym (ap held c.in-One.is) ∙ c.self.view_is) (c.in_turn.ensures c.args.turn)
